use Rattle.std.proofs.Common.{◌≡◌, length, All}
use Rattle.std.specs.List.{flat_map}
use Rattle.hierfile.specs.Spelling.{link_bytes}
use Rattle.hierfile.specs.Fault.{link_fault_at}
use Rattle.hierfile.specs.Bytes.{NoneBelow, IsWritable}
use Rattle.hierfile.proofs.PartAfterPart.{Takes}
use Rattle.hierfile.proofs.links.read_links.Given as goal

abbrev pub invariant-links : goal.invariant-links
invariant-links g l =
    let links = l.links.items in
    record {
      count : length links ≡ l.counter;
      faultless : NoneBelow l.counter (link_fault_at l.version l.ranks l.bound links);
      writable : All (IsWritable l.version) links;
      taken : Takes g.R.StepRead.step g.R.Read.remaining l.fn.input l.input l.fn.reader l.reader (flat_map (link_bytes l.version) links);
    }
