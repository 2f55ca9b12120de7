use Rattle.std.proofs.Common.{ℕ, List, take, drop, sym, ap, ◌∙◌, arith}
use Rattle.std.proofs.lemmas.List.{drop-drop}
use Rattle.std.proofs.lemmas.Grind.{common_steps}
use Rattle.hierfile.specs.Bytes.{Buffered}
use Rattle.hierfile.proofs.PartAfterPart.{between, parted}
use Rattle.hierfile.proofs.byte_reader.ByteReader.waiting_long.Goals as goal

pub returns : goal.returns
returns c =
    let input = c.self.inside in
    let waiting : List ℕ = drop input.at (take input.end input.buffer.items) in
    record {
      taken = parted waiting _ _ _ 8 (ap (λ (b : Buffered). b.waiting) c.self.view_is)
          (sym c.first_long-number.ensures ∙ ap (take 8) (between _ input.at input.end c.self.invariant.0 ∙ ap (λ l. drop input.at (take input.end l)) c.deref.ensures.value))
          (sym (drop-drop 8 input.at (take input.end input.buffer.items)));
      left = ap (λ (b : Buffered). b.left) c.self.view_is;
    }

pub first_long-number-requires : goal.first_long-number-requires
first_long-number-requires c = grind (arith, common_steps) steps 200000

pub invariant_of-self : goal.invariant_of-self
invariant_of-self c = grind (arith, common_steps) steps 200000
