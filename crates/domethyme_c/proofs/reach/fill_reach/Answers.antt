use Rattle.std.proofs.Common.{◌≡◌, ◌^◌, ◌∙◌, length, ap, subst, arith}
use Rattle.std.proofs.lemmas.Result.{IfOk-weaker}
use Rattle.ch_graph.specs.Hierarchy.{Hierarchy}
use Rattle.ch_route.specs.Between.{IsRowLengthFrom, IsRowLengthWithin}
use Rattle.ch_table.specs.Lengths.{IsRow}
use Rattle.ch_table.specs.Selection.{Selection}
use Rattle.domethyme_c.specs.Answers.{AreWritten}
use Rattle.domethyme_c.proofs.Tables.{count_of_all, written-all}
use Rattle.domethyme_c.proofs.reach.fill_reach.Goals as goal

pub lengths_from-requires-clause-room : goal.lengths_from-requires-clause-room
lengths_from-requires-clause-room c =
    let are = ap (λ (s : Selection). s.targets) c.deref.ensures ∙ c.in_ok-selection.ensures.targets in
    let room = c.requires.room in
    omega (arith, room, count_of_all (length c.args.engine.now.ranks) c.deref.result.now.targets are)

pub returns-clause-within : goal.returns-clause-within
returns-clause-within c =
    let are = ap (λ (s : Selection). s.targets) c.deref.ensures ∙ c.in_ok-selection.ensures.targets in
    let targets = c.deref.result.now.targets in
    IfOk-weaker c.lengths_from.result (λ done. IsRow (IsRowLengthWithin c.selection_of_all.new.engine c.args.starts.now c.args.most) targets 0 c.args.lengths.now c.lengths_from.new.row)
    (λ done. AreWritten (length c.args.engine.now.ranks) (IsRowLengthWithin c.args.engine.now c.args.starts.now c.args.most) c.args.lengths.now c.lengths_from.new.row)
    (λ done row. subst (λ (h : Hierarchy). AreWritten (length c.args.engine.now.ranks) (IsRowLengthWithin h c.args.starts.now c.args.most) c.args.lengths.now c.lengths_from.new.row) c.in_ok-selection.ensures.kept
    (written-all (length c.args.engine.now.ranks) targets are (IsRowLengthWithin c.selection_of_all.new.engine c.args.starts.now c.args.most) c.args.lengths.now c.lengths_from.new.row row)) c.lengths_from.ensures.within

pub returns-clause-all : goal.returns-clause-all
returns-clause-all c =
    let are = ap (λ (s : Selection). s.targets) c.deref.ensures ∙ c.in_ok-selection.ensures.targets in
    let targets = c.deref.result.now.targets in
    IfOk-weaker c.lengths_from.result (λ done. c.args.most ≡ 2 ^ 62 → IsRow (IsRowLengthFrom c.selection_of_all.new.engine c.args.starts.now) targets 0 c.args.lengths.now c.lengths_from.new.row)
    (λ done. c.args.most ≡ 2 ^ 62 → AreWritten (length c.args.engine.now.ranks) (IsRowLengthFrom c.args.engine.now c.args.starts.now) c.args.lengths.now c.lengths_from.new.row)
    (λ done row whole. subst (λ (h : Hierarchy). AreWritten (length c.args.engine.now.ranks) (IsRowLengthFrom h c.args.starts.now) c.args.lengths.now c.lengths_from.new.row) c.in_ok-selection.ensures.kept
    (written-all (length c.args.engine.now.ranks) targets are (IsRowLengthFrom c.selection_of_all.new.engine c.args.starts.now) c.args.lengths.now c.lengths_from.new.row (row whole))) c.lengths_from.ensures.row
