use Rattle.std.proofs.Common.{◌≡◌, Bool, get_or, not, ap, sym, ◌∙◌}
use Rattle.std.proofs.lemmas.List.{get_or_default}
use Rattle.ch_cost.specs.declared.cost.Cost.{Cost}
use Rattle.ch_cost.specs.Cost.{◌⊕◌, same}
use Rattle.ch_graph.specs.declared.link.Link.{Link}
use Rattle.hierfile.specs.declared.error.HierError.TheVariants.{HalfSum}
use Rattle.hierfile.specs.Fault.{fault_if}
use Rattle.hierfile.proofs.FaultsOfParts.{missing_is_no_read, sum_is_no_read}
use Rattle.hierfile.proofs.FaultlessIsWellMade.{no_first, no_second, both_found}
use Rattle.hierfile.proofs.links.parts_of.Goals as goal

-- a test of three costs, each of which is a link's
sum_of : (is : Bool) (whole first second : Cost) (l a b : Link) → is ≡ same whole (first ⊕ second) → whole ≡ l.cost → first ≡ a.cost → second ≡ b.cost → is ≡ same l.cost (a.cost ⊕ b.cost)
sum_of is whole first second l a b tested at_whole at_first at_second =
    tested
    ∙ ap (λ (k : Cost). same k (first ⊕ second)) at_whole
    ∙ ap (λ (k : Cost). same l.cost (k ⊕ second)) at_first
    ∙ ap (λ (k : Cost). same l.cost (a.cost ⊕ k)) at_second

pub returns-in_default-find_by-clause-told : goal.returns-in_default-find_by-clause-told
returns-in_default-find_by-clause-told c = (no_first c.args.links.now c.args.link.now c.in-Some.middle (sym c.node.ensures ∙ c.in-Some.is) c.in_default-find_by.ensures.none, missing_is_no_read)

pub returns-in_default-find-clause-told : goal.returns-in_default-find-clause-told
returns-in_default-find-clause-told c = (no_second c.args.links.now c.args.link.now c.in-Some.middle (sym c.node.ensures ∙ c.in-Some.is) c.in_default-find.ensures.none, missing_is_no_read)

pub returns-then-is_sum-clause-told : goal.returns-then-is_sum-clause-told
returns-then-is_sum-clause-told c =
    let links = c.args.links.now in
    let link : Link = c.args.link.now in
    let first = c.in-Some-find_by.ensures.found in
    let second = c.in-Some-find.ensures.found in
    let one : c.index-links-first.result ≡ get_or links c.in-Some-find_by.first.0 link =
    c.index-links-first.is ∙ get_or_default links c.in-Some-find_by.first.0 c.index-links-first.result link first.within in
    let two : c.index-links-second.result ≡ get_or links c.in-Some-find.second.0 link =
    c.index-links-second.is ∙ get_or_default links c.in-Some-find.second.0 c.index-links-second.result link second.within in
    let sum = sum_of c.is_sum.result c.cost.result c.cost-2.result c.cost-3.result link (get_or links c.in-Some-find_by.first.0 link) (get_or links c.in-Some-find.second.0 link) c.is_sum.ensures c.cost.ensures (c.cost-2.ensures ∙ ap (λ (l : Link). l.cost) one) (c.cost-3.ensures ∙ ap (λ (l : Link). l.cost) two) in
    both_found links link c.in-Some.middle (sym c.node.ensures ∙ c.in-Some.is) c.requires.sorted c.in-Some-find_by.first.0 c.in-Some-find.second.0 link c.is_sum.result first second sum
    ∙ ap (λ (e : Bool). fault_if (not e) HalfSum) c.if-is_sum.true

pub returns-else-is_sum-clause-told : goal.returns-else-is_sum-clause-told
returns-else-is_sum-clause-told c =
    let links = c.args.links.now in
    let link : Link = c.args.link.now in
    let first = c.in-Some-find_by.ensures.found in
    let second = c.in-Some-find.ensures.found in
    let one : c.index-links-first.result ≡ get_or links c.in-Some-find_by.first.0 link =
    c.index-links-first.is ∙ get_or_default links c.in-Some-find_by.first.0 c.index-links-first.result link first.within in
    let two : c.index-links-second.result ≡ get_or links c.in-Some-find.second.0 link =
    c.index-links-second.is ∙ get_or_default links c.in-Some-find.second.0 c.index-links-second.result link second.within in
    let sum = sum_of c.is_sum.result c.cost.result c.cost-2.result c.cost-3.result link (get_or links c.in-Some-find_by.first.0 link) (get_or links c.in-Some-find.second.0 link) c.is_sum.ensures c.cost.ensures (c.cost-2.ensures ∙ ap (λ (l : Link). l.cost) one) (c.cost-3.ensures ∙ ap (λ (l : Link). l.cost) two) in (
      both_found links link c.in-Some.middle (sym c.node.ensures ∙ c.in-Some.is) c.requires.sorted c.in-Some-find_by.first.0 c.in-Some-find.second.0 link c.is_sum.result first second sum
          ∙ ap (λ (e : Bool). fault_if (not e) HalfSum) c.if-is_sum.false,
      sum_is_no_read,
    )
