use Rattle.std.proofs.Common.{ℕ, ◌≡◌, ◌≤◌, ◌∙◌, List, length, map, ap, refl, subst, arith}
use Rattle.std.specs.List.{range_with_len}
use Rattle.ch_graph.specs.Hierarchy.{Hierarchy}
use Rattle.ch_query.specs.declared.seed.Seed.{Seed}
use Rattle.domethyme_c.specs.Answers.{IsSeedRefusal, seed_of}
use Rattle.domethyme_c.specs.Starting.{AreSumsOfStarts}
use Rattle.domethyme_c.specs.Summing.{ArePut}
use Rattle.domethyme_c.specs.Sums.IsReachSumsAnswer.{found, no_start}
use Rattle.domethyme_c.proofs.Starts.{reach-refused, reached-cells, reached-ok}
use Rattle.domethyme_c.proofs.reach_sums.fill_reach_sums.Goals as goal

pub returns-then-code-ne-OK-clause-answer : goal.returns-then-code-ne-OK-clause-answer
returns-then-code-ne-OK-clause-answer c =
    let fits : length c.args.engine.now.ranks ≤ length c.as_mut_slice-lengths.result.now = omega (arith, ap (λ (xs : List ℕ). length xs) c.as_mut_slice-lengths.ensures.value, c.in-Ok.ensures.len, c.in-Ok.room.ok, c.nodes-count.ensures) in
    reach-refused c.args.engine.now c.args.set.now c.args.starts.now c.args.added.now c.args.limit c.answer_reach-code.result c.as_mut_slice-lengths.result.now c.answer_reach-code.new.lengths c.args.cells.now c.if-code-ne-OK.true fits c.requires.limit c.requires.room c.requires.added c.requires.set c.answer_reach-code.ensures.answer

pub returns-in-Err-clause-answer : goal.returns-in-Err-clause-answer
returns-in-Err-clause-answer c = no_start (subst (λ (h : Hierarchy). IsSeedRefusal h c.args.starts.now c.in-Err.code) c.answer_reach-code.ensures.kept c.in-Err.ensures.err) c.requires.limit c.requires.room c.requires.added c.requires.set refl

pub returns-in-Ok-sums_of-clause-answer : goal.returns-in-Ok-sums_of-clause-answer
returns-in-Ok-sums_of-clause-answer c =
    let h = c.args.engine.now in
    let set = c.args.set.now in
    let added = c.args.added.now in
    let lengths = c.answer_reach-code.new.lengths in
    let sums = c.in-Ok-sums_of.sums.items in
    let ok : c.answer_reach-code.result ≡ 0 = omega (arith, c.if-code-ne-OK.false) in
    let made : c.deref.result.now ≡ map seed_of c.args.starts.now = c.deref.ensures.value ∙ c.in-Ok-seeds_of.ensures.ok.0 in
    let here : AreSumsOfStarts h set c.deref.result.now added (length c.deref.result.now) (range_with_len 0 (length h.ranks)) lengths sums =
    subst (λ (k : Hierarchy). AreSumsOfStarts k set c.deref.result.now added (length c.deref.result.now) (range_with_len 0 (length k.ranks)) lengths sums) c.answer_reach-code.ensures.kept c.in-Ok-sums_of.ensures.sums in
    let are : AreSumsOfStarts h set (map seed_of c.args.starts.now) added (length (map seed_of c.args.starts.now)) (range_with_len 0 (length h.ranks)) lengths sums =
    subst (λ (ss : List Seed). AreSumsOfStarts h set ss added (length ss) (range_with_len 0 (length h.ranks)) lengths sums) made here in
    let put : ArePut lengths sums (length h.ranks) 0 c.args.cells.now c.put_cells.new.cells =
    subst (λ n. ArePut lengths sums n 0 c.args.cells.now c.put_cells.new.cells) c.nodes-count.ensures
    (subst (λ (ss : List ℕ). ArePut lengths ss c.nodes-count.result 0 c.args.cells.now c.put_cells.new.cells) c.deref-in-Ok-sums_of.ensures.value c.put_cells.ensures) in
    found refl c.requires.set
    (reached-cells h set (map seed_of c.args.starts.now) added c.args.limit c.as_mut_slice-lengths.result.now lengths sums c.args.cells.now c.put_cells.new.cells c.requires.limit
    (reached-ok h c.args.starts.now c.args.limit c.answer_reach-code.result c.as_mut_slice-lengths.result.now lengths ok c.answer_reach-code.ensures.answer) are put)
