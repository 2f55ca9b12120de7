use Rattle.std.proofs.Common.{ℕ, ◌≡◌, ◌≤◌, List, length, refl, subst, sym, arith}
use Rattle.ch_graph.specs.Hierarchy.{Hierarchy}
use Rattle.domethyme_c.specs.Sets.{IsSet}
use Rattle.domethyme_c.specs.Sums.{IsReachSumsAnswer}
use Rattle.domethyme_c.specs.Sums.IsReachSumsAnswer.{bad_set}
use Rattle.domethyme_c.specs.declared.code.TheConstants.{BAD_SET}
use Rattle.domethyme_c.specs.declared.sums.SumInfo.{SumInfo}
use Rattle.domethyme_c.proofs.Starts.{not_both}
use Rattle.domethyme_c.proofs.reach_sums.answer_reach_sums.Goals as goal
use Rattle.domethyme_c.proofs.reach_sums.answer_reach_sums.Goals.{then-is_set, else-is_set}

pub returns-clause-answer : goal.returns-clause-answer
returns-clause-answer c =
    let h = c.args.engine.now in
    let set = c.args.set.now in
    let Is : Hierarchy → ℕ → List SumInfo → Type 0 = λ k code cells. IsReachSumsAnswer k c.args.set.now c.args.starts.now c.args.added.now c.args.limit code c.args.cells.now cells in
    elim c.if-is_set.branch [
      | then-is_set w ↦
          subst (λ code. Is c.args.engine.now code c.if-is_set.cells) (sym w.code-is)
          (subst (λ (cells : List SumInfo). Is c.args.engine.now w.fill_reach_sums-code.result cells) (sym w.cells-is)
          (subst (λ (k : Hierarchy). Is k w.fill_reach_sums-code.result w.fill_reach_sums-code.new.cells) c.take_summing.ensures.kept w.fill_reach_sums-code.ensures.answer))
      | else-is_set w ↦
          let room : length c.args.engine.now.ranks ≤ length c.args.cells.now = omega (arith, c.if-cells-nodes.false, c.nodes.ensures) in
          let count : length c.args.added.now ≡ length c.args.starts.now = omega (arith, c.if-added-starts.false) in
          subst (λ code. Is c.args.engine.now code c.if-is_set.cells) (sym w.code-is)
          (subst (λ (cells : List SumInfo). Is c.args.engine.now BAD_SET cells) (sym w.cells-is)
          (bad_set refl c.in-Some.ensures.some.allowed room count
          (λ is. not_both c.is_set.result (c.is_set.ensures.1 (subst (λ (k : Hierarchy). IsSet k c.args.set.now) (sym c.in-Ok.ensures.summing.of) is)) w.if-is_set.false) refl))
    ]
