use Rattle.std.proofs.Common.{Bool, true, false, ◌≡◌, inr, refl, sym, subst}
use Rattle.ch_graph.specs.Hierarchy.{rank_of}
use Rattle.ch_graph.specs.Marks.{mark, Improves}
use Rattle.ch_graph.specs.Marks.Laws.{not_improves-at_most}
use Rattle.ch_query.specs.Marks.{label_cost}
use Rattle.ch_query.proofs.half.Half.open_seed.Goals as goal

true_false : {b : Bool} → b ≡ true → b ≡ false → ⊥
true_false first second = cc

pub returns-then-not-is_improved_by-clause-seeded : goal.returns-then-not-is_improved_by-clause-seeded
returns-then-not-is_improved_by-clause-seeded c =
    let r = rank_of c.args.self.now.hierarchy.now c.args.seed.node in
    let marks = c.args.marks.now in
    let never : Improves label_cost c.args.seed.cost (mark marks r) → ⊥ = λ improves. true_false (c.is_improved_by.ensures.1 (subst (λ q. Improves label_cost c.args.seed.cost (mark marks q)) (sym c.rank-rank.ensures) improves)) c.if-not-is_improved_by.true in
    inr (λ short. not_improves-at_most label_cost (mark marks r) c.args.seed.cost never (λ e closed. absurd (c.requires.none r e closed)), refl)
