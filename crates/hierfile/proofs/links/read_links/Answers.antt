use Rattle.std.proofs.Common.{◌≡◌, ◌+◌, ◌-◌, ◌*◌, ◌++◌, ◌∷◌, [], ◌<◌, length, sym, ◌∙◌, ap, subst, arith, length-append, None, Some, Option, List, All, inl, rules}
use Rattle.std.specs.List.{flat_map, slice_get}
use Rattle.std.proofs.lemmas.List.{flat_map_more}
use Rattle.std.proofs.lemmas.List.Elements.{All-push}
use Rattle.ch_graph.specs.declared.link.Link.{Link}
use Rattle.hierfile.specs.Spelling.{link_bytes, link_size}
use Rattle.hierfile.specs.Fault.{cut, link_fault, link_fault_at, links_fault}
use Rattle.hierfile.specs.Bytes.{IsCutOrWhole, NoneBelow, IsWritable}
use Rattle.hierfile.proofs.FaultsOfParts.{of_bytes}
use Rattle.hierfile.proofs.PartAfterPart.{Takes, fault_found, hands_back, no_memory, refused_behind, runs_out, takes_none, takes_then}
use Rattle.hierfile.proofs.LinkFaults.{link_no_memory, links_cut, links_so_far, links_stop, none-push}
use Rattle.hierfile.specs.declared.error.HierError.{HierError}
use Rattle.hierfile.specs.declared.error.HierError.TheVariants.{OutOfMemory}
use Rattle.std.proofs.lemmas.List.Elements.{All-nil}
use Rattle.std.proofs.lemmas.Grind.{common_steps}
use Rattle.hierfile.proofs.links.read_links.Goals as goal

pub returns-in_err-link-clause-reads : goal.returns-in_err-link-clause-reads
returns-in_err-link-clause-reads g c =
    let v = c.args.version in
    let ranks = c.args.ranks.now in
    let bound = c.args.bound in
    let links = c.links.links.items in
    let before : NoneBelow (length links) (link_fault_at v ranks bound links) = subst (λ m. NoneBelow m (link_fault_at v ranks bound links)) (sym c.links.invariant.count) c.links.invariant.faultless in
    let less : length links < c.args.count = omega arith in
    hands_back c.from_residual.result _ _ _ c.from_residual.ensures.1
    (refused_behind g.R.StepRead.step g.R.Read.remaining (cut (link_size v)) (links_fault v ranks bound c.args.count) c.links.invariant.taken (λ d rest is. links_cut v ranks bound c.args.count links rest _ c.links.invariant.writable less before is)
    (λ came is. links_cut v ranks bound c.args.count links came _ c.links.invariant.writable less before is) (λ came is. inl (links_cut v ranks bound c.args.count links came _ c.links.invariant.writable less before is)) c.in_err-link.ensures.reads)

pub returns-in_err-test_link-clause-reads : goal.returns-in_err-test_link-clause-reads
returns-in_err-test_link-clause-reads g c =
    let v = c.args.version in
    let ranks = c.args.ranks.now in
    let bound = c.args.bound in
    let links = c.links.links.items in
    let link = c.in_ok-link.link in
    let before : NoneBelow (length links) (link_fault_at v ranks bound links) = subst (λ m. NoneBelow m (link_fault_at v ranks bound links)) (sym c.links.invariant.count) c.links.invariant.faultless in
    let less : length links < c.args.count = omega arith in
    let earlier : c.copied-earlier.result ≡ slice_get links (length links - 1) = c.copied-earlier.ensures ∙ c.last.ensures.value ∙ ap (λ (s : List Link). slice_get s (length s - 1)) c.deref.ensures.value in
    let so_far = takes_then g.R.StepRead.step g.R.Read.remaining c.links.invariant.taken c.in_ok-link.ensures.reads in
    let is = subst (λ (o : Option Link). link_fault v ranks bound o link ≡ Some c.in_err-test_link.field-0.0) earlier c.in_err-test_link.ensures.told.0 in
    hands_back c.from_residual-in_err-test_link.result _ _ _ c.from_residual-in_err-test_link.ensures.1
    (fault_found g.R.StepRead.step g.R.Read.remaining (links_fault v ranks bound c.args.count) so_far
    (λ is rest. ap (λ l. links_fault v ranks bound c.args.count (l ++ rest)) (flat_map_more (link_bytes v) [] links link)
    ∙ links_stop v ranks bound c.args.count link links rest _ c.links.invariant.writable c.in_ok-link.ensures.writable less before is)
    (of_bytes _ is) c.in_err-test_link.ensures.told.1
    (λ memory. absurd (link_no_memory v ranks bound (slice_get links (length links - 1)) link (subst (λ (e : HierError). link_fault v ranks bound (slice_get links (length links - 1)) link ≡ Some e) memory is))))

pub links-preserved : goal.links-preserved
links-preserved g c =
    let v = c.args.version in
    let ranks = c.args.ranks.now in
    let bound = c.args.bound in
    let links = c.links.links.items in
    let link = c.in_ok-link.link in
    let new = c.push.new.self.items in
    let earlier : c.copied-earlier.result ≡ slice_get links (length links - 1) = c.copied-earlier.ensures ∙ c.last.ensures.value ∙ ap (λ (s : List Link). slice_get s (length s - 1)) c.deref.ensures.value in
    let is = subst (λ (o : Option Link). link_fault v ranks bound o link ≡ None) earlier c.in_ok-test_link.ensures.told in
    let pushed : new ≡ links ++ link ∷ [] = c.in_ok-push.ensures.items in
    let so_far = takes_then g.R.StepRead.step g.R.Read.remaining c.links.invariant.taken c.in_ok-link.ensures.reads in
    let spelled : flat_map (link_bytes v) links ++ link_bytes v link ≡ flat_map (link_bytes v) new =
    flat_map_more (link_bytes v) [] links link ∙ ap (flat_map (link_bytes v)) (sym pushed) in
    record {
      count = omega (arith, c.links.invariant.count, ap length pushed, length-append links (link ∷ []));
      faultless = subst (λ l. NoneBelow (c.links.counter + 1) (link_fault_at v ranks bound l)) (sym pushed) (none-push v ranks bound link c.links.counter links c.links.invariant.count c.links.invariant.faultless is);
      writable = subst (All (IsWritable v)) (sym pushed) (All-push (IsWritable v) links link c.links.invariant.writable c.in_ok-link.ensures.writable);
      taken = subst (Takes g.R.StepRead.step g.R.Read.remaining c.args.input.now c.read_link.new.input c.args.reader.now c.read_link.new.reader) spelled so_far;
    }

pub links-init : goal.links-init
links-init g c =
    let v = c.args.version in
    let none = c.new-links.ensures.items in
    let step = g.R.StepRead.step in
    let remaining = g.R.Read.remaining in
    let input = c.args.input.now in
    let reader = c.args.reader.now in
    record {
      count = ap length none;
      faultless = λ k less. absurd (omega (arith, less));
      writable = subst (All (IsWritable v)) (sym none) (All-nil (IsWritable v));
      taken = subst (λ (l : List Link). Takes step remaining input input reader reader (flat_map (link_bytes v) l)) (sym none) (takes_none step remaining input reader);
    }

-- this link was tested too
pub returns-in_err-push-clause-reads : goal.returns-in_err-push-clause-reads
returns-in_err-push-clause-reads g c =
    let step = g.R.StepRead.step in
    let remaining = g.R.Read.remaining in
    let v = c.args.version in
    let ranks = c.args.ranks.now in
    let bound = c.args.bound in
    let links = c.links.links.items in
    let link = c.in_ok-link.link in
    let longer : List Link = links ++ link ∷ [] in
    let fault = links_fault v ranks bound c.args.count in
    let earlier : c.copied-earlier.result ≡ slice_get links (length links - 1) = c.copied-earlier.ensures ∙ c.last.ensures.value ∙ ap (λ (s : List Link). slice_get s (length s - 1)) c.deref.ensures.value in
    let told : link_fault v ranks bound c.copied-earlier.result link ≡ None = search rules in
    let is = subst (λ (o : Option Link). link_fault v ranks bound o link ≡ None) earlier told in
    let none = none-push v ranks bound link c.links.counter links c.links.invariant.count c.links.invariant.faultless is in
    let count : length longer ≡ c.links.counter + 1 =
    omega (arith, c.links.invariant.count, length-append links (link ∷ [])) in
    let writable = All-push (IsWritable v) links link c.links.invariant.writable c.in_ok-link.ensures.writable in
    let so_far = takes_then step remaining c.links.invariant.taken c.in_ok-link.ensures.reads in
    let whole = links_so_far v ranks bound c.args.count (c.links.counter + 1) longer writable count (omega arith) none in
    let tested : IsCutOrWhole (link_size v * c.args.count) fault (flat_map (link_bytes v) links ++ link_bytes v link) =
    subst (IsCutOrWhole (link_size v * c.args.count) fault) (sym (flat_map_more (link_bytes v) [] links link)) whole in
    hands_back c.from_residual-in_err-push.result _ _ OutOfMemory c.from_residual-in_err-push.ensures.1
    (no_memory step remaining fault so_far.calls (runs_out step remaining (IsCutOrWhole (link_size v * c.args.count) fault) so_far tested))

pub links-smaller : goal.links-smaller
links-smaller c = grind (arith, common_steps) steps 200000

pub returns-clause-count : goal.returns-clause-count
returns-clause-count c = grind (arith, common_steps) steps 200000
