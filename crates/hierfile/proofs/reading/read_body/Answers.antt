use Rattle.std.proofs.Common.{ℕ, ◌*◌, ◌^◌, ◌<◌, List, length, refl, sym, ◌∙◌, ap, subst, arith, inl, inr, AllPairs}
use Rattle.ch_cost.specs.declared.cost.Cost.{Cost}
use Rattle.ch_cost.specs.Cost.{length_of}
use Rattle.ch_cost.specs.Cost.Numbers.{length_of-of_walk}
use Rattle.ch_graph.specs.declared.link.Link.{Link}
use Rattle.ch_graph.specs.Hierarchy.{ComesBefore, bound_arcs}
use Rattle.ch_graph.specs.LinkIndex.{IsIndexOf}
use Rattle.ch_graph.specs.LinkHalves.{AreHalvesOf}
use Rattle.hierfile.specs.Spelling.{bound_in, link_size}
use Rattle.hierfile.specs.Fault.{link_fault_at, links_fault, ranks_fault, half_fault, first_along, end_fault, body_fault}
use Rattle.hierfile.specs.Bytes.{HasNoneButHalves, IsCutOrWhole, NoneBelow}
use Rattle.hierfile.proofs.FaultsOfParts.{earlier, later, neither}
use Rattle.hierfile.proofs.PartAfterPart.{all_taken, fault_found, fault_so_far, hands_back, no_memory, refused_behind, runs_out, takes_none, takes_then}
use Rattle.hierfile.proofs.BodyFaults.{body_ranks, body_links, body_after_links, body_so_far, body_tested}
use Rattle.hierfile.proofs.FaultlessIsWellMade.{links_sorted, few_nodes, well_made_of}
use Rattle.counted_io.specs.Limits.Laws.{read_then}
use Rattle.hierfile.specs.declared.error.HierError.TheVariants.{OutOfMemory}
use Rattle.hierfile.proofs.reading.read_body.Goals as goal

pub returns-in_err-ranks-clause-reads : goal.returns-in_err-ranks-clause-reads
returns-in_err-ranks-clause-reads g c =
    let step = g.R.StepRead.step in
    let remaining = g.R.Read.remaining in
    let head = c.args.head in
    hands_back c.from_residual.result _ _ _ c.from_residual.ensures.1
    (fault_so_far step remaining (ranks_fault head.nodes) (body_fault c.args.version head.nodes head.links head.bound) (takes_none step remaining c.args.input.now c.args.reader.now) (λ d rest is. body_ranks c.args.version head.nodes head.links head.bound rest is)
    (λ came is. inl (inl (body_ranks c.args.version head.nodes head.links head.bound came is))) c.in_err-ranks.ensures.reads)

pub returns-in_err-links-clause-reads : goal.returns-in_err-links-clause-reads
returns-in_err-links-clause-reads g c =
    let step = g.R.StepRead.step in
    let remaining = g.R.Read.remaining in
    let head = c.args.head in
    let ranks = c.in_ok-ranks.ranks.items in
    let small : head.nodes < 2 ^ 32 = omega (arith, few_nodes head.nodes head.links head.bound c.requires) in
    hands_back c.from_residual-in_err-links.result _ _ _ c.from_residual-in_err-links.ensures.1
    (fault_so_far step remaining (links_fault c.args.version c.as_slice.result.now c.bound_of-bound.result head.links) (body_fault c.args.version head.nodes head.links head.bound) c.in_ok-ranks.ensures.reads
    (λ d rest is. body_links c.args.version head.nodes head.links head.bound ranks rest small c.in_ok-ranks.ensures.count c.in_ok-ranks.ensures.faultless
    (ap (λ (r : List ℕ). links_fault c.args.version r (bound_in c.args.version head.nodes head.bound) head.links rest) (sym c.as_slice.ensures.value) ∙ ap (λ (b : Cost). links_fault c.args.version c.as_slice.result.now b head.links rest) (sym c.bound_of-bound.ensures) ∙ is))
    (λ came is. body_tested c.args.version head.nodes head.links head.bound ranks came small c.in_ok-ranks.ensures.count c.in_ok-ranks.ensures.faultless
    (subst (λ (r : List ℕ). IsCutOrWhole (link_size c.args.version * head.links) (links_fault c.args.version r (bound_in c.args.version head.nodes head.bound) head.links) came) c.as_slice.ensures.value
    (subst (λ (b : Cost). IsCutOrWhole (link_size c.args.version * head.links) (links_fault c.args.version c.as_slice.result.now b head.links) came) c.bound_of-bound.ensures is)))
    c.in_err-links.ensures.reads)

-- the links are in order, and the index is theirs
pub new-requires : goal.new-requires
new-requires g c =
    let links = c.in_ok-links.links.items in
    let none : NoneBelow (length links) (link_fault_at c.args.version c.as_slice.result.now c.bound_of-bound.result links) = subst
    (λ m. NoneBelow m (link_fault_at c.args.version c.as_slice.result.now c.bound_of-bound.result links))
    (sym c.in_ok-links.ensures.count) c.in_ok-links.ensures.faultless in
    subst (AllPairs ComesBefore) (sym c.as_slice-all.ensures.value) (links_sorted c.args.version c.as_slice.result.now c.bound_of-bound.result links none)

pub find_halves-requires : goal.find_halves-requires
find_halves-requires g c =
    let links = c.in_ok-links.links.items in
    let none : NoneBelow (length links) (link_fault_at c.args.version c.as_slice.result.now c.bound_of-bound.result links) = subst
    (λ m. NoneBelow m (link_fault_at c.args.version c.as_slice.result.now c.bound_of-bound.result links))
    (sym c.in_ok-links.ensures.count) c.in_ok-links.ensures.faultless in
    record {
      sorted = subst (AllPairs ComesBefore) (sym c.as_slice-all.ensures.value) (links_sorted c.args.version c.as_slice.result.now c.bound_of-bound.result links none);
      index = c.in_ok-index.ensures.index;
    }

pub returns-in_err-halves-clause-reads : goal.returns-in_err-halves-clause-reads
returns-in_err-halves-clause-reads g c =
    let step = g.R.StepRead.step in
    let remaining = g.R.Read.remaining in
    let head = c.args.head in
    let ranks = c.in_ok-ranks.ranks.items in
    let links = c.in_ok-links.links.items in
    let small : head.nodes < 2 ^ 32 = omega (arith, few_nodes head.nodes head.links head.bound c.requires) in
    let so_far = takes_then step remaining c.in_ok-ranks.ensures.reads c.in_ok-links.ensures.reads in
    let links_ok : NoneBelow head.links (link_fault_at c.args.version ranks (bound_in c.args.version head.nodes head.bound) links) = λ i less. ap
    (λ (r : List ℕ). link_fault_at c.args.version r (bound_in c.args.version head.nodes head.bound) links i) (sym c.as_slice.ensures.value)
    ∙ ap (λ (b : Cost). link_fault_at c.args.version c.as_slice.result.now b links i) (sym c.bound_of-bound.ensures)
    ∙ c.in_ok-links.ensures.faultless i less in
    hands_back c.from_residual-in_err-halves.result _ _ _ c.from_residual-in_err-halves.ensures.1
    (fault_found step remaining (body_fault c.args.version head.nodes head.links head.bound) so_far
    (λ is rest. body_after_links c.args.version head.nodes head.links head.bound ranks links rest small c.in_ok-ranks.ensures.count c.in_ok-ranks.ensures.faultless c.in_ok-links.ensures.count c.in_ok-links.ensures.writable links_ok
    ∙ earlier _ (ap (λ (l : List Link). first_along (half_fault l) l) (sym c.as_slice-all.ensures.value) ∙ is))
    c.in_err-halves.ensures.err c.in_err-halves.ensures.no_read
    (λ _. runs_out step remaining (HasNoneButHalves (body_fault c.args.version head.nodes head.links head.bound)) so_far
    (body_so_far c.args.version head.nodes head.links head.bound ranks links small c.in_ok-ranks.ensures.count c.in_ok-ranks.ensures.faultless c.in_ok-links.ensures.count c.in_ok-links.ensures.writable links_ok)))

pub returns-in_err-read_end-clause-reads : goal.returns-in_err-read_end-clause-reads
returns-in_err-read_end-clause-reads g c =
    let step = g.R.StepRead.step in
    let remaining = g.R.Read.remaining in
    let head = c.args.head in
    let ranks = c.in_ok-ranks.ranks.items in
    let links = c.in_ok-links.links.items in
    let small : head.nodes < 2 ^ 32 = omega (arith, few_nodes head.nodes head.links head.bound c.requires) in
    let so_far = takes_then step remaining c.in_ok-ranks.ensures.reads c.in_ok-links.ensures.reads in
    let links_ok : NoneBelow head.links (link_fault_at c.args.version ranks (bound_in c.args.version head.nodes head.bound) links) = λ i less. ap
    (λ (r : List ℕ). link_fault_at c.args.version r (bound_in c.args.version head.nodes head.bound) links i) (sym c.as_slice.ensures.value)
    ∙ ap (λ (b : Cost). link_fault_at c.args.version c.as_slice.result.now b links i) (sym c.bound_of-bound.ensures)
    ∙ c.in_ok-links.ensures.faultless i less in
    let halves_ok = ap (λ (l : List Link). first_along (half_fault l) l) (sym c.as_slice-all.ensures.value) ∙ c.in_ok-halves.ensures.faultless in
    let after = λ (rest : List ℕ). body_after_links c.args.version head.nodes head.links head.bound ranks links rest small c.in_ok-ranks.ensures.count c.in_ok-ranks.ensures.faultless c.in_ok-links.ensures.count c.in_ok-links.ensures.writable links_ok in
    hands_back c.from_residual-in_err-read_end.result _ _ _ c.from_residual-in_err-read_end.ensures.1
    (refused_behind step remaining end_fault (body_fault c.args.version head.nodes head.links head.bound) so_far
    (λ d rest is. after rest ∙ later halves_ok is)
    (λ came none. inr (after came ∙ neither halves_ok none))
    (λ came none. inl (inr (after came ∙ neither halves_ok none)))
    c.in_err-read_end.ensures.reads)

pub with_index-requires : goal.with_index-requires
with_index-requires g c = record {
  made = well_made_of c.args.version c.args.head.nodes c.args.head.links c.args.head.bound c.in_ok-ranks.ranks.items c.as_slice.result.now c.in_ok-links.links.items c.as_slice-all.result.now
      c.bound_of-bound.result c.requires c.in_ok-ranks.ensures.count c.in_ok-ranks.ensures.faultless c.in_ok-links.ensures.count c.in_ok-links.ensures.faultless c.in_ok-halves.ensures.faultless c.as_slice.ensures.value c.as_slice-all.ensures.value c.bound_of-bound.ensures;
  index = subst (λ (ls : List Link). IsIndexOf ls c.in_ok-index.index) c.as_slice-all.ensures.value c.in_ok-index.ensures.index;
  halves = subst (λ (ls : List Link). AreHalvesOf ls c.in_ok-halves.halves) c.as_slice-all.ensures.value c.in_ok-halves.ensures.halves;
}

pub returns-clause-sizes : goal.returns-clause-sizes
returns-clause-sizes g c =
    rw c.with_index.ensures (record { version = refl; ranks = c.in_ok-ranks.ensures.count; links = c.in_ok-links.ensures.count; bound = ap length_of c.bound_of-bound.ensures ∙ length_of-of_walk c.args.head.bound (bound_arcs c.args.version c.args.head.nodes) })

pub returns-in_err-index-clause-reads : goal.returns-in_err-index-clause-reads
returns-in_err-index-clause-reads g c =
    let step = g.R.StepRead.step in
    let remaining = g.R.Read.remaining in
    let head = c.args.head in
    let ranks = c.in_ok-ranks.ranks.items in
    let links = c.in_ok-links.links.items in
    let small : head.nodes < 2 ^ 32 = omega (arith, few_nodes head.nodes head.links head.bound c.requires) in
    let so_far = takes_then step remaining c.in_ok-ranks.ensures.reads c.in_ok-links.ensures.reads in
    let body = body_fault c.args.version head.nodes head.links head.bound in
    let links_ok : NoneBelow head.links (link_fault_at c.args.version ranks (bound_in c.args.version head.nodes head.bound) links) = λ i less. ap
    (λ (r : List ℕ). link_fault_at c.args.version r (bound_in c.args.version head.nodes head.bound) links i) (sym c.as_slice.ensures.value)
    ∙ ap (λ (b : Cost). link_fault_at c.args.version c.as_slice.result.now b links i) (sym c.bound_of-bound.ensures)
    ∙ c.in_ok-links.ensures.faultless i less in
    hands_back c.from_residual-in_err-index.result _ _ OutOfMemory c.from_residual-in_err-index.ensures.1
    (no_memory step remaining body so_far.calls (runs_out step remaining (HasNoneButHalves body) so_far
    (body_so_far c.args.version head.nodes head.links head.bound ranks links small c.in_ok-ranks.ensures.count c.in_ok-ranks.ensures.faultless c.in_ok-links.ensures.count c.in_ok-links.ensures.writable links_ok)))

pub returns-clause-reads : goal.returns-clause-reads
returns-clause-reads g c =
    let step = g.R.StepRead.step in
    let so_far = takes_then step g.R.Read.remaining c.in_ok-ranks.ensures.reads c.in_ok-links.ensures.reads in
    record { bytes = rw c.with_index.ensures (all_taken _ _ _ so_far.bytes c.in_ok-read_end.ensures.reads.bytes); calls = read_then step so_far.calls c.in_ok-read_end.ensures.reads.calls; fits = λ fits. c.in_ok-read_end.ensures.reads.fits (so_far.fits fits) }
