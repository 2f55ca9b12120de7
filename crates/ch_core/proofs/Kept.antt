-- What holds of a world holds after each event.
use Rattle.std.proofs.Common.{ℕ, ◌≡◌, ◌<◌, List, ◌++◌, length, map, get_or, slice_index, All, Contains, Some, arith, ap, refl, sym, subst, ◌∙◌}
use Rattle.std.specs.List.{zip, range_with_len}
use Rattle.std.proofs.lemmas.List.{get_or_default}
use Rattle.std.proofs.lemmas.List.Elements.{All-append, All-map, All-weaker, All-contains, Contains-get_or}
use Rattle.ch_cost.specs.declared.cost.Cost.{Cost}
use Rattle.ch_graph.specs.Limits.{bound_of}
use Rattle.ch_laws.specs.declared.shortcut.Shortcut.{Shortcut}
use Rattle.ch_laws.specs.Rows.{Row}
use Rattle.ch_overlay.specs.Source.{IsBound}
use Rattle.ch_overlay.specs.Overlay.{Overlay, IsOverlay, IsSound, row_at}
use Rattle.ch_overlay.specs.Soundness.{sound_row}
use Rattle.ch_overlay.specs.Change.{Change, IsChange, puts, WritesItsRows, ChangesWriteTheirRows}
use Rattle.ch_contract.specs.Ledger.{Ledger, IsLedger}
use Rattle.ch_core.specs.World.{World, RowVersion, View, Standing, IsIn, has, version_of}
use Rattle.ch_core.specs.Keeping.{IsWorld, IsSoundVersion}
use Rattle.ch_core.proofs.Growing.{still_in, puts_in}

module _ (old : Overlay) (c : Change) (writes : WritesItsRows old c) (new : Overlay) (goes : IsOverlay new) (rows_are : new.rows ≡ puts old.rows c.rows) (bound_is : new.bound ≡ old.bound) where
  many : length new.rows ≡ length old.rows
  many = ap length rows_are ∙ writes.count

  -- each row of a change is its node's row afterwards, so it is sound
  new_sound : (a : ℕ × Row) → Contains c.rows a → IsSoundVersion new (version_of a)
  new_sound a among =
      let inside : a.0 < length old.rows = All-contains (λ (b : ℕ × Row). b.0 < length old.rows) c.rows a writes.in_range among in
      let here : row_at new.rows a.0 ≡ a.1 = ap (λ (rows : List Row). row_at rows a.0) rows_are ∙ writes.written a among in
      subst (λ (r : Row). IsSound (length new.rows) new.bound a.0 r) here (sound_row new goes a.0 (omega (arith, many, inside)))

  pub all_new_sound : All (IsSoundVersion new) (map version_of c.rows)
  all_new_sound = All-map (IsSoundVersion new) version_of c.rows (λ k d h. new_sound (get_or c.rows k d) (Contains-get_or c.rows k d h))

  -- and what was sound is
  pub still_sound : (v : RowVersion) → IsSoundVersion old v → IsSoundVersion new v
  still_sound v sound =
      subst (λ n. IsSound n new.bound v.node v.row) (sym many)
      (subst (λ (b : Cost). IsSound (length old.rows) b v.node v.row) (sym bound_is) sound)

-- the world after a contraction is one
pub world_after : ChangesWriteTheirRows → (w : World) → IsWorld w → (put : List Shortcut) (c : Change) → IsChange w.ledger.overlay put c → (new : Ledger) → IsLedger new → new.graph ≡ w.ledger.graph
    → new.overlay.rows ≡ puts w.ledger.overlay.rows c.rows
    → new.overlay.versions ≡ puts w.ledger.overlay.versions (zip (map (λ a. a.0) c.rows) (range_with_len (length w.book) (length c.rows)))
    → IsWorld (record { ledger = new; book = w.book ++ map version_of c.rows; views = w.views })
world_after changes_write w is put c change new goes graph rows_are versions_are =
    let o : Overlay = w.ledger.overlay in
    let bound_is : new.overlay.bound ≡ o.bound = goes.bound ∙ ap bound_of graph ∙ sym is.ledger.bound in
    let writes : WritesItsRows o c = changes_write o c is.ledger.overlay (put, change) in
    let book : List RowVersion = w.book ++ map version_of c.rows in
    let in_book = puts_in c.rows w.book o.rows o.versions (length w.book) is.ledger.overlay.versions refl is.current in
    record {
      ledger = goes;
      bound = subst (λ (b : Cost). IsBound b) (sym bound_is) is.bound;
      few_workers = is.few_workers;
      current = λ x inside.
          subst (λ (rows : List Row). IsIn book x (slice_index new.overlay.versions x) (row_at rows x)) (sym rows_are)
          (subst (λ (vs : List ℕ). IsIn book x (slice_index vs x) (row_at (puts o.rows c.rows) x)) (sym versions_are)
          (in_book x (subst (λ (rows : List Row). x < length rows) rows_are inside)));
      views = λ k x s there. still_in w.book (map version_of c.rows) x s.version s.row (is.views k x s there);
      sound = All-append (IsSoundVersion new.overlay) w.book (map version_of c.rows)
          (All-weaker (IsSoundVersion o) (IsSoundVersion new.overlay) (still_sound o c writes new.overlay goes.overlay rows_are bound_is) w.book is.sound)
          (all_new_sound o c writes new.overlay goes.overlay rows_are bound_is);
    }

-- the versions are places of the book
pub versions_below : (w : World) → IsWorld w → All (λ v. v < length w.book) w.ledger.overlay.versions
versions_below w is k d h =
    let many = is.ledger.overlay.versions in
    let same : slice_index w.ledger.overlay.versions k ≡ get_or w.ledger.overlay.versions k d = get_or_default w.ledger.overlay.versions k 0 d h in
    subst (λ v. v < length w.book) same (is.current k (omega (arith, h, many))).within

-- what a world keeps where the views change
pub world_with : (w : World) → IsWorld w → (views : List View) → length views ≡ length w.views
    → ((k x : ℕ) (s : Standing) → has (record { ledger = w.ledger; book = w.book; views = views }) k x ≡ Some s → IsIn w.book x s.version s.row)
    → IsWorld (record { ledger = w.ledger; book = w.book; views = views })
world_with w is views many kept = record {
  ledger = is.ledger;
  bound = is.bound;
  few_workers = omega (arith, is.few_workers, many);
  current = is.current;
  views = kept;
  sound = is.sound;
}
