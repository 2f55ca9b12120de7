-- Worlds where the view of a worker is another one.
use Rattle.std.proofs.Common.{ℕ, ◌≡◌, ◌≢◌, ◌<◌, [], length, set, Some, None, ap, sym, subst, ◌∙◌, inl, inr}
use Rattle.std.proofs.lemmas.Bool.{cases_eq}
use Rattle.std.proofs.lemmas.List.{length-set, get_or-set_same, get_or-set_other}
use Rattle.ch_core.specs.World.{World, View, Standing, IsIn, has, stands_at, view_of}
use Rattle.ch_core.specs.Keeping.{IsWorld}
use Rattle.ch_core.proofs.Kept.{world_with}

-- the world where the view of this worker is this one
abbrev pub with_view : World → ℕ → View → World
with_view w k v = record { ledger = w.ledger; book = w.book; views = set w.views k v }

module _ (w : World) (k : ℕ) (v : View) where
  has_here : k < length w.views → (x : ℕ) → has (with_view w k v) k x ≡ stands_at v x
  has_here inside x = ap (λ (view : View). stands_at view x) (get_or-set_same w.views k v [] inside)

  has_elsewhere : (j x : ℕ) → j ≢ k → has (with_view w k v) j x ≡ has w j x
  has_elsewhere j x apart = ap (λ (view : View). stands_at view x) (get_or-set_other w.views k j v [] apart)

  -- a world stays one where each row of the view is in the book
  kept : IsWorld w → k < length w.views → ((x : ℕ) (s : Standing) → stands_at v x ≡ Some s → IsIn w.book x s.version s.row) → IsWorld (with_view w k v)
  kept is inside listed = world_with w is (set w.views k v) (length-set w.views k v) each
    where
      each : (j x : ℕ) (s : Standing) → has (with_view w k v) j x ≡ Some s → IsIn w.book x s.version s.row
      each j x s there = elim (cases_eq j k) [
        | inl same ↦ listed x s (sym (ap (λ i. has (with_view w k v) i x) same ∙ has_here inside x) ∙ there)
        | inr apart ↦ is.views j x s (sym (has_elsewhere j x apart) ∙ there)
      ]

  module _ (inside : k < length w.views) (node : ℕ) (t : Standing) (listed : IsIn w.book node t.version t.row) (shown : stands_at v node ≡ Some t) (others : (x : ℕ) → x ≢ node → stands_at v x ≡ stands_at (view_of w k) x) where
    pub world_read : IsWorld w → IsWorld (with_view w k v)
    world_read is = kept is inside each
      where
        some_same : (s : Standing) → Some t ≡ Some s → t ≡ s
        some_same s e = cc

        each : (x : ℕ) (s : Standing) → stands_at v x ≡ Some s → IsIn w.book x s.version s.row
        each x s there = elim (cases_eq x node) [
          | inl same ↦
              let is_t : t ≡ s = some_same s (sym shown ∙ ap (λ y. stands_at v y) (sym same) ∙ there) in
              subst (λ (u : Standing). IsIn w.book x u.version u.row) is_t (subst (λ y. IsIn w.book y t.version t.row) (sym same) listed)
          | inr apart ↦ is.views k x s (sym (others x apart) ∙ there)
        ]

-- a worker without rows
module _ (w : World) (k : ℕ) (inside : k < length w.views) where
  pub world_forgets : IsWorld w → IsWorld (with_view w k [])
  world_forgets is = kept w k [] is inside (λ x s there. absurd (nothing s there))
    where
      nothing : (s : Standing) → None ≡ Some s → ⊥
      nothing s e = cc
