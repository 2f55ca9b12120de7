use Rattle.std.proofs.lemmas.Grind.{common_steps}
use Rattle.std.specs.Prelude.{ℕ, List, [], ◌∷◌, ◌++◌, ◌≡◌, ◌<◌, ◌≤◌, ◌+◌, length, map, slice_index_or}
use Rattle.std.proofs.lemmas.Result.{err_from_is_err_and}
use Rattle.std.proofs.Common.{sym, subst, ◌∙◌, ap, arith, take, inr}
use Rattle.std.specs.Arc.{arc_value}
use Rattle.std.proofs.lemmas.Bool.Decides.{nat_tests}
use Rattle.std.proofs.lemmas.List.{get_or_default, get_or-map, length-append, map-append, map_more}
use Rattle.std.specs.declared.sync.Arc.{Arc}
use Rattle.std.proofs.Common.{Global}
use Rattle.ch_overlay.specs.declared.row.Row as shared
use Rattle.boxcar.specs.Table.{Where}
use Rattle.ch_laws.specs.Rows.{Row, no_arcs}
use Rattle.ch_overlay.specs.declared.record.Record.{Record}
use Rattle.ch_rowbook.specs.Books.{PenView, versions_of}
use Rattle.ch_overlay.specs.Records.{recorded_row}
use Rattle.ch_rowbook.specs.Showing.{HasNoVersion, IsNextOf, IsRecordOf, IsRising, laid_row, next_behind, of_node}
use Rattle.ch_rowbook.proofs.RisingVersions.{laid_more, next_laid, rising_more}
use Rattle.ch_rowbook.proofs.pen.Pen.lay_all.Goals as goal

-- the record is the last one's, at the greatest version
pub loop-at-preserved : goal.loop-at-preserved
loop-at-preserved g c =
    let rows = c.args.rows.now in
    let at : ℕ = c.loop-at.at in
    let all = c.loop-at.all.items in
    let x = c.in_ok-laid.laid in
    let less : at < length rows = grind (arith, nat_tests, c.loop-at-test.true) in
    let items = c.in_ok-push.ensures.items in
    let pen = c.in_ok-laid.ensures.next in
    let low : ℕ = c.args.self.now.next in
    let later : c.loop-at.self.next ≤ x.token.index = c.in_ok-laid.ensures.later in
    let rising : IsRising low (map (λ y. y.token.index) all ++ x.token.index ∷ []) (x.token.index + 1) = rising_more low (map (λ y. y.token.index) all) c.loop-at.self.next x.token.index c.loop-at.invariant.rising later in
    let d = c.index-rows-at.result in
    let e = c.index-rows-at-in-loop-at.result in
    let node : x.node ≡ (slice_index_or rows at d).0 = c.in_ok-laid.ensures.node ∙ ap (λ (p : ℕ × Arc shared.Row Global). p.0) (get_or_default rows at e d less) in
    let row : recorded_row x.token.value ≡ arc_value (slice_index_or rows at d).1 = c.in_ok-laid.ensures.row ∙ c.in_ok-row.ensures in
    let is : of_node x.node (recorded_row x.token.value) ≡ of_node (slice_index_or rows at d).0 (arc_value (slice_index_or rows at d).1) =
    ap (λ (n : ℕ). of_node n (recorded_row x.token.value)) node ∙ ap (λ (r : Row). of_node (slice_index_or rows at d).0 r) row in
    let f : ℕ × Arc shared.Row Global → ℕ × Row = λ a. of_node a.0 (arc_value a.1) in
    let t : Where Record = x.token in
    let tokens : map (λ y. y.token) c.push.new.self.items ≡ map (λ y. y.token) all ++ t ∷ [] = ap (λ l. map (λ y. y.token) l) items ∙ map-append (λ y. y.token) all (x ∷ []) in
    let here : laid_row (map f rows) at ≡ f (slice_index_or rows at d) = get_or-map f rows at d (of_node 0 no_arcs) less in
    let of : IsRecordOf g.B.Book.book.list (laid_row (map f rows) at) t = record { shown = x.shown; is = ap (λ (n : ℕ). of_node n (recorded_row t.value)) x.node_is ∙ is ∙ sym here } in
    record {
      count = ap length tokens ∙ length-append (map (λ y. y.token) all) (t ∷ []) ∙ ap (λ (n : ℕ). n + 1) c.loop-at.invariant.count;
      earlier = subst (λ (ts : List (Where Record)). (j : ℕ) (e : Where Record) → j < at + 1 → IsRecordOf g.B.Book.book.list (laid_row (map f rows) j) (slice_index_or ts j e)) (sym tokens)
          (laid_more g.B.Book.book.list (laid_row (map f rows)) at (map (λ y. y.token) all) t c.loop-at.invariant.count c.loop-at.invariant.earlier of);
      behind = ap (λ (v : PenView). v.next) pen ∙ sym (next_laid low (map (λ y. y.token) all) t) ∙ ap (λ (ts : List (Where Record)). next_behind low (versions_of ts)) (sym tokens);
      versions = ap (λ (v : PenView). v.versions) pen ∙ c.loop-at.invariant.versions;
      rows = ap (λ (v : PenView). v.rows) pen ∙ c.loop-at.invariant.rows;
      below = c.loop-at.invariant.below;
      laid = ap (λ l. map (λ y. of_node y.node (recorded_row y.token.value)) l) items ∙ map-append (λ y. of_node y.node (recorded_row y.token.value)) all (x ∷ [])
          ∙ ap (λ (l : List (ℕ × Row)). l ++ of_node x.node (recorded_row x.token.value) ∷ []) c.loop-at.invariant.laid
          ∙ ap (λ (p : ℕ × Row). map (λ a. of_node a.0 (arc_value a.1)) (take at rows) ++ p ∷ []) is
          ∙ sym (map_more (λ (a : ℕ × Arc shared.Row Global). of_node a.0 (arc_value a.1)) rows at d less);
      later = omega (arith, c.loop-at.invariant.later, later, ap (λ (v : PenView). v.next) pen);
      next = inr (x.token, c.in_ok-laid.laid.shown, ap (λ (v : PenView). v.next) pen);
      rising = subst (λ (n : ℕ). IsRising low (map (λ y. y.token.index) c.push.new.self.items) n) (sym (ap (λ (v : PenView). v.next) pen))
          (subst (λ vs. IsRising low vs (x.token.index + 1)) (sym (ap (λ l. map (λ y. y.token.index) l) items ∙ map-append (λ y. y.token.index) all (x ∷ []))) rising);
    }

pub returns-clause-laid : goal.returns-clause-laid
returns-clause-laid g c = grind (arith, common_steps)

pub returns-in_err-laid-clause-laid : goal.returns-in_err-laid-clause-laid
returns-in_err-laid-clause-laid c = grind (arith, common_steps) steps 200000

pub returns-in_err-laid-clause-showable : goal.returns-in_err-laid-clause-showable
returns-in_err-laid-clause-showable c = grind (arith, common_steps) steps 200000

pub returns-in_err-laid-clause-next : goal.returns-in_err-laid-clause-next
returns-in_err-laid-clause-next g c =
    let list = g.B.Book.book.list in
    subst (λ (v : PenView). IsNextOf list c.args.self.now.next v.next) (sym c.in_err-laid.ensures.err) c.loop-at.invariant.next

-- the place of the record that was refused is no version behind those that were laid
pub returns-in_err-laid-clause-slot : goal.returns-in_err-laid-clause-slot
returns-in_err-laid-clause-slot g c h =
    let rows = c.args.rows.now in
    let at : ℕ = c.loop-at.at in
    let list = g.B.Book.book.list in
    let f : ℕ × Arc shared.Row Global → ℕ × Row = λ a. of_node a.0 (arc_value a.1) in
    let less : at < length rows = grind (arith, nat_tests, c.loop-at-test.true) in
    let d = c.index-rows-at.result in
    let e = c.index-rows-at-in-loop-at.result in
    let here : laid_row (map f rows) at ≡ f (slice_index_or rows at d) = get_or-map f rows at d (of_node 0 no_arcs) less in
    let own : ℕ = (slice_index_or rows at e).0 in
    let node : own ≡ (slice_index_or rows at d).0 = ap (λ (p : ℕ × Arc shared.Row Global). p.0) (get_or_default rows at e d less) in
    let row : arc_value c.in_ok-row.row ≡ arc_value (slice_index_or rows at d).1 = c.in_ok-row.ensures in
    let is : of_node own (arc_value c.in_ok-row.row) ≡ laid_row (map f rows) at =
    ap (λ (n : ℕ). of_node n (arc_value c.in_ok-row.row)) node ∙ ap (λ (r : Row). of_node (slice_index_or rows at d).0 r) row ∙ sym here in
    let exit = err_from_is_err_and c.from_residual-in_err-laid.result c.from_residual-in_err-laid.ensures.1 in
    let told = exit.1 in
    let same = exit.2 in
    let refused : HasNoVersion list c.loop-at.self.next (of_node own (arc_value c.in_ok-row.row)) = c.in_err-laid.ensures.slot (cc) in
    let behind : HasNoVersion list (next_behind c.args.self.now.next (versions_of (map (λ y. y.token) c.loop-at.all.items))) (of_node own (arc_value c.in_ok-row.row)) =
    subst (λ (n : ℕ). HasNoVersion list n (of_node own (arc_value c.in_ok-row.row))) c.loop-at.invariant.behind refused in (
      at,
      less,
      record {
        laid = map (λ y. y.token) c.loop-at.all.items;
        count = c.loop-at.invariant.count;
        earlier = c.loop-at.invariant.earlier;
        refused = subst (λ (r : ℕ × Row). HasNoVersion list (next_behind c.args.self.now.next (versions_of (map (λ y. y.token) c.loop-at.all.items))) r) is behind;
      },
    )
