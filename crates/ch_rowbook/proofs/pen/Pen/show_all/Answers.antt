use Rattle.std.specs.Prelude.{ℕ, List, ◌∷◌, ◌<◌, ◌+◌, length, map}
use Rattle.std.proofs.Common.{sym, subst, ◌∙◌, ap, arith, drop, set, rules}
use Rattle.std.proofs.lemmas.Bool.Decides.{nat_tests}
use Rattle.std.proofs.lemmas.List.{length-set}
use Rattle.ch_laws.specs.Rows.{Row}
use Rattle.ch_overlay.specs.Change.{puts}
use Rattle.ch_overlay.specs.Records.{recorded_row}
use Rattle.ch_rowbook.specs.Showing.{IsShowable, of_node}
use Rattle.ch_rowbook.proofs.RisingVersions.{dropped, show_above, show_laid, show_rest}
use Rattle.ch_rowbook.proofs.pen.Pen.show_all.Goals as goal

-- what is left begins with the record at hand
pub show_one-requires-clause-above : goal.show_one-requires-clause-above
show_one-requires-clause-above g c =
    let x = c.index-laid-at.result in
    let pen = c.loop-at.self in
    let less : c.loop-at.at < length c.args.laid.now = grind (arith, nat_tests, c.loop-at-test.true) in
    let left = dropped c.args.laid.now c.loop-at.at x less c.index-laid-at.is in
    let showable : IsShowable pen.versions pen.next (x.token.index ∷ map (λ y. y.token.index) (drop (c.loop-at.at + 1) c.args.laid.now)) = subst (λ l. IsShowable pen.versions pen.next (map (λ y. y.token.index) l)) left c.loop-at.invariant.showable in
    show_above pen.versions pen.next x.node x.token.index _ showable (subst (λ (n : ℕ). x.node < n) (sym c.loop-at.invariant.count) x.within)

pub show_one-requires-clause-laid : goal.show_one-requires-clause-laid
show_one-requires-clause-laid g c =
    let x = c.index-laid-at.result in
    let pen = c.loop-at.self in
    let less : c.loop-at.at < length c.args.laid.now = grind (arith, nat_tests, c.loop-at-test.true) in
    let left = dropped c.args.laid.now c.loop-at.at x less c.index-laid-at.is in
    let showable : IsShowable pen.versions pen.next (x.token.index ∷ map (λ y. y.token.index) (drop (c.loop-at.at + 1) c.args.laid.now)) = subst (λ l. IsShowable pen.versions pen.next (map (λ y. y.token.index) l)) left c.loop-at.invariant.showable in
    show_laid pen.versions pen.next x.token.index _ showable

pub loop-at-preserved : goal.loop-at-preserved
loop-at-preserved g c =
    let x = c.index-laid-at.result in
    let pen = c.loop-at.self in
    let laid = c.args.laid.now in
    let at : ℕ = c.loop-at.at in
    let rest = drop (at + 1) laid in
    let new = c.show_one.new.self in
    let less : at < length laid = grind (arith, nat_tests, c.loop-at-test.true) in
    let left = dropped laid at x less c.index-laid-at.is in
    let showable : IsShowable pen.versions pen.next (x.token.index ∷ map (λ y. y.token.index) rest) = subst (λ l. IsShowable pen.versions pen.next (map (λ y. y.token.index) l)) left c.loop-at.invariant.showable in
    let stored : IsShowable (set pen.versions x.node x.token.index) pen.next (map (λ y. y.token.index) rest) = show_rest pen.versions pen.next x.node x.token.index _ showable in
    record {
      versions = ap (λ (vs : List ℕ). puts vs (map (λ y. (y.node, y.token.index)) rest)) c.show_one.ensures.versions ∙ ap (λ l. puts pen.versions (map (λ y. (y.node, y.token.index)) l)) (sym left) ∙ c.loop-at.invariant.versions;
      rows = ap (λ (rs : List Row). puts rs (map (λ y. of_node y.node (recorded_row y.token.value)) rest)) c.show_one.ensures.rows ∙ ap (λ l. puts pen.rows (map (λ y. of_node y.node (recorded_row y.token.value)) l)) (sym left) ∙ c.loop-at.invariant.rows;
      count = ap length c.show_one.ensures.versions ∙ length-set pen.versions x.node x.token.index ∙ c.loop-at.invariant.count;
      next = c.show_one.ensures.next ∙ c.loop-at.invariant.next;
      showable = subst (λ (n : ℕ). IsShowable new.versions n (map (λ y. y.token.index) rest)) (sym c.show_one.ensures.next) (subst (λ (vs : List ℕ). IsShowable vs pen.next (map (λ y. y.token.index) rest)) (sym c.show_one.ensures.versions) stored);
    }

pub loop-at-init : goal.loop-at-init
loop-at-init g c = search rules
