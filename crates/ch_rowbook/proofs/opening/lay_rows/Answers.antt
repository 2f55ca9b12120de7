use Rattle.std.specs.Prelude.{ℕ, List, [], ◌∷◌, ◌++◌, ◌≡◌, ◌<◌, ◌≤◌, ◌+◌, length, map, slice_index_or}
use Rattle.std.proofs.Common.{sym, subst, ◌∙◌, ap, arith, take}
use Rattle.std.specs.Arc.{arc_value}
use Rattle.std.proofs.lemmas.Bool.Decides.{nat_tests}
use Rattle.std.proofs.lemmas.List.{get_or-map, length-append, map-append, map_more}
use Rattle.boxcar.specs.Table.{Shows, Where}
use Rattle.ch_laws.specs.Rows.{Row, no_arcs, row_at}
use Rattle.ch_overlay.specs.declared.record.Record.{Record}
use Rattle.ch_rowbook.specs.Books.{AreOf, IsOf, rows_of, versions_of}
use Rattle.ch_rowbook.specs.Showing.{IsRecordOf, next_behind, of_node}
use Rattle.ch_rowbook.proofs.RisingVersions.{laid_more, next_laid}
use Rattle.std.specs.declared.sync.Arc.{Arc}
use Rattle.std.proofs.Common.{Global}
use Rattle.ch_overlay.specs.declared.row.Row as shared
use Rattle.ch_overlay.specs.Records.{recorded_row}
use Rattle.ch_rowbook.proofs.PenKeeps.{sound_at, tokens_more}
use Rattle.ch_rowbook.proofs.opening.lay_rows.Goals as goal
use Rattle.ch_rowbook.proofs.opening.lay_rows.Given as given

pub append-requires : goal.append-requires
append-requires g c =
    let less : c.loop-node.node < length c.args.rows.now = grind (arith, nat_tests, c.loop-node-test.true) in
    sound_at arc_value g.B.Book.book.bound c.args.rows.now c.loop-node.node c.index-rows-node.result _ c.requires.sound less (c.in_ok-row.ensures ∙ ap arc_value c.index-rows-node.is)

-- the record is of the row that was laid
record_of : (g : given.Over) (rows : List (Arc shared.Row Global)) (node : ℕ) (t : Where Record) (d : Arc shared.Row Global) → node < length rows → Shows g.B.Book.book.list t → t.value.node ≡ node
    → recorded_row t.value ≡ arc_value (slice_index_or rows node d) → IsRecordOf g.B.Book.book.list (of_node node (row_at (map arc_value rows) node)) t
record_of g rows node t d less shown is row = record {
  shown = shown;
  is = ap (λ (n : ℕ). of_node n (recorded_row t.value)) is ∙ ap (λ (r : Row). of_node node r) (row ∙ sym (get_or-map arc_value rows node d no_arcs less));
}

-- the record is the last one's
pub loop-node-preserved : goal.loop-node-preserved
loop-node-preserved g c =
    let rows = c.args.rows.now in
    let node : ℕ = c.loop-node.node in
    let current = c.loop-node.current.items in
    let t = c.in_ok-token.token in
    let list = g.B.Book.book.list in
    let less : node < length rows = grind (arith, nat_tests, c.loop-node-test.true) in
    let count : length current ≡ node = c.loop-node.invariant.0 in
    let place = c.in_ok-token.ensures.place in
    let index : c.index.result ≡ t.index = c.index.ensures in
    let later : c.loop-node.next ≤ c.index.result + 1 = omega (arith, place, index) in
    let below : t.index < c.index.result + 1 = omega (arith, index) in
    let of : IsOf list (c.index.result + 1) node t = record { shown = c.in_ok-token.ensures.record.0; node = c.in_ok-token.ensures.record.1; below = below } in
    let items = c.in_ok-push.ensures.items in
    let row : recorded_row t.value ≡ arc_value (slice_index_or rows node c.index-rows-node.result) = c.in_ok-token.ensures.record.2 ∙ c.in_ok-row.ensures ∙ ap arc_value c.index-rows-node.is in
    let longer : length (current ++ t ∷ []) ≡ node + 1 = omega (arith, count, length-append current (t ∷ [])) in
    let tokens : AreOf list (c.index.result + 1) (node + 1) (current ++ t ∷ []) = tokens_more list c.loop-node.next (c.index.result + 1) node current t count c.loop-node.invariant.1 later of in
    let f : Where Record → Row = λ t. recorded_row t.value in (
      ap length items ∙ longer,
      subst (λ (ts : List (Where Record)). AreOf list (c.index.result + 1) (node + 1) ts) (sym items) tokens,
      ap rows_of items ∙ map-append f current (t ∷ []) ∙ ap (λ (l : List Row). l ++ recorded_row t.value ∷ []) c.loop-node.invariant.2 ∙ ap (λ (r : Row). map arc_value (take node rows) ++ r ∷ []) row
          ∙ sym (map_more arc_value rows node c.index-rows-node.result less),
      subst (λ (ts : List (Where Record)). (j : ℕ) (e : Where Record) → j < node + 1 → IsRecordOf list (of_node j (row_at (map arc_value rows) j)) (slice_index_or ts j e)) (sym items)
          (laid_more list (λ j. of_node j (row_at (map arc_value rows) j)) node current t count c.loop-node.invariant.3 (record_of g c.args.rows.now node t c.index-rows-node.result less c.in_ok-token.ensures.record.0 c.in_ok-token.ensures.record.1 row)),
      ap (λ (n : ℕ). n + 1) index ∙ sym (next_laid 0 current t) ∙ ap (λ (ts : List (Where Record)). next_behind 0 (versions_of ts)) (sym items),
    )
