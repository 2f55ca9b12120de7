use Rattle.std.proofs.Common.{◌≡◌, ◌∙◌, List, replicate, length, ap, sym, arith}
use Rattle.std.proofs.lemmas.List.{length-set}
use Rattle.ch_graph.specs.declared.mark.Mark.{Mark}
use Rattle.ch_graph.specs.declared.mark.Mark.TheVariants.{Unseen}
use Rattle.ch_query.specs.declared.label.Label.{Label}
use Rattle.ch_query.proofs.SeenNodes.{as_many, unseen, placed-popped, popped-within}
use Rattle.ch_query.proofs.mark_list.MarkList.clear.Goals as goal

pub index_mut-requires : goal.index_mut-requires
index_mut-requires c = omega (arith, popped-within c.seen.invariant.placed c.pop.new.self.items c.in-Some.seen c.in-Some.ensures.items, c.seen.self-inside.places.ok)

pub seen-preserved : goal.seen-preserved
seen-preserved c = record {
  placed = placed-popped c.seen.invariant.placed c.pop.new.self.items c.in-Some.seen c.in-Some.ensures.items;
  count = length-set c.seen.self-inside.places.items c.in-Some.seen.rank 0 ∙ c.seen.invariant.count;
}

pub returns : goal.returns
returns c =
    let none_left : length c.pop.new.self.items ≡ 0 = omega (arith, c.in_default.ensures.cases, c.in_default.ensures.len, c.seen.self-inside.seen.ok, c.pop.new.self.ok) in
    unseen c.pop.new.self.items c.seen.self-inside.places.items none_left
    ∙ ap (λ n. replicate {A = Mark Label} n Unseen) (c.seen.invariant.count ∙ sym (as_many c.self.inside.seen.items c.self.inside.places.items) ∙ ap (λ (ms : List (Mark Label)). length ms) c.self.view_is)
