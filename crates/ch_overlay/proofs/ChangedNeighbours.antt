-- The changed rows of neighbours.
use Rattle.std.proofs.Common.{ℕ, ◌≡◌, ◌≢◌, ◌<◌, ◌⊎◌, ◌↔◌, not, nat_eq, true, List, map, Option, Some, Contains, arith, refl, sym, ◌∙◌, ap, subst, inl, inr}
use Rattle.std.specs.List.{filter}
use Rattle.std.proofs.lemmas.Bool.Decides.{nat_tests}
use Rattle.std.proofs.lemmas.List.Sorted.{Contains-permutation, IsPermutation-sym}
use Rattle.std.proofs.lemmas.List.Kept.{AllPairs-filter}
use Rattle.ch_cost.specs.declared.cost.Cost.{Cost}
use Rattle.ch_laws.specs.declared.entry.Entry.{Entry}
use Rattle.ch_laws.specs.declared.shortcut.Shortcut.{Shortcut}
use Rattle.ch_laws.specs.Contraction.{NoShortcut}
use Rattle.ch_laws.specs.Rows.{Row, Rises, IsChanged, IsOfShortcut}
use Rattle.ch_overlay.specs.declared.placed.Placed.{Placed}
use Rattle.ch_overlay.specs.Merging.{merged}
use Rattle.ch_overlay.specs.Placing.{ArePlaced, out_place, in_place}
use Rattle.ch_overlay.proofs.MergedEntries.{merged_is}
use Rattle.ch_laws.specs.Members.{contains-map, contains-mapped}
use Rattle.ch_overlay.proofs.KeptArcs.{kept_in, in_kept}

apart_test : (a b : ℕ) → not (nat_eq a b) ≡ true → a ≢ b
apart_test a b e same = grind (arith, nat_tests, e, same)

test_apart : (a b : ℕ) → a ≢ b → not (nat_eq a b) ≡ true
test_apart a b apart = grind (arith, nat_tests, apart)

-- one list of a changed row, in either direction
pub record IsList (v : ℕ) (Short : Entry → Type 0) (Without : ℕ → Type 0) (old es : List Entry) : Type 0 where
  pub rises : Rises es
  pub entries : (e : Entry) → Contains es e ↔ (Short e ⊎ (Without e.other × (e.other ≢ v) × Contains old e))

list_is : (v : ℕ) (Short : Entry → Type 0) (Without : ℕ → Type 0) (old group : List Entry) → Rises old → Rises group
    → ((e : Entry) → Contains group e ↔ Short e) → ((e : Entry) → Short e → e.other ≢ v)
    → ((y : ℕ) → ((e : Entry) → Short e → e.other ≢ y) → Without y) → ((e : Entry) → Short e → Without e.other → ⊥)
    → IsList v Short Without old (filter (λ e. not (nat_eq e.other v)) (merged old group))
list_is v Short Without old group olds groups short apart without clash =
    let m = merged_is old group olds groups in
    record {
      rises = AllPairs-filter (λ a b. a.other < b.other) (λ e. not (nat_eq e.other v)) (merged old group) m.rises;
      entries = λ e. (
        λ h.
            let kept = kept_in (λ (f : Entry). not (nat_eq f.other v)) (merged old group) e h in
            let other = apart_test e.other v kept.1 in
            elim (m.sound e kept.0) [
              | inl is ↦ inl ((short e).0 is)
              | inr is ↦ inr (without e.other (λ f h. is.1 f ((short f).1 h)), other, is.0)
            ],
        λ h. elim h [
          | inl is ↦ in_kept (λ (f : Entry). not (nat_eq f.other v)) (merged old group) e (m.has_new e ((short e).1 is)) (test_apart e.other v (apart e is))
          | inr is ↦ in_kept (λ (f : Entry). not (nat_eq f.other v)) (merged old group) e
              (m.has_old e is.2 (λ f among same. clash f ((short f).0 among) (subst Without (sym same) is.0))) (test_apart e.other v is.1)
        ],
      );
    }

abbrev made : ℕ → ℕ → Cost → Option ℕ → Placed
made n other cost middle = record { at = n; entry = record { other = other; cost = cost; middle = middle } }

module _ (v x : ℕ) (put : List Shortcut) (out inn : List Placed) (placed : ArePlaced v put out inn) where
  out_short : (e : Entry) → Contains out (record { at = x; entry = e }) ↔ IsOfShortcut put v x e.other e
  out_short e = (
    λ h.
        let found = contains-mapped (out_place (Some v)) put (record { at = x; entry = e }) (Contains-permutation out (map (out_place (Some v)) put) _ (IsPermutation-sym _ _ placed.outs) h) in
        let entry = ap (λ (p : Placed). p.entry) found.2 in
        record {
          shortcut = found.0;
          among = found.1;
          joins = (ap (λ (p : Placed). p.at) found.2, ap (λ (f : Entry). f.other) entry);
          cost = sym (ap (λ (f : Entry). f.cost) entry);
          middle = sym (ap (λ (f : Entry). f.middle) entry);
        },
    λ is. subst (λ (p : Placed). Contains out p) (place_is is) (Contains-permutation (map (out_place (Some v)) put) out _ placed.outs (contains-map (out_place (Some v)) put is.shortcut is.among)),
  )
    where
      place_is : (is : IsOfShortcut put v x e.other e) → out_place (Some v) is.shortcut ≡ record { at = x; entry = e }
      place_is is = ap (λ n. made n is.shortcut.to is.shortcut.cost (Some v)) is.joins.0 ∙ ap (λ n. made x n is.shortcut.cost (Some v)) is.joins.1
          ∙ ap (λ (c : Cost). made x e.other c (Some v)) (sym is.cost) ∙ ap (λ (m : Option ℕ). made x e.other e.cost m) (sym is.middle)

  in_short : (e : Entry) → Contains inn (record { at = x; entry = e }) ↔ IsOfShortcut put v e.other x e
  in_short e = (
    λ h.
        let found = contains-mapped (in_place (Some v)) put (record { at = x; entry = e }) (Contains-permutation inn (map (in_place (Some v)) put) _ (IsPermutation-sym _ _ placed.inns) h) in
        let entry = ap (λ (p : Placed). p.entry) found.2 in
        record {
          shortcut = found.0;
          among = found.1;
          joins = (ap (λ (f : Entry). f.other) entry, ap (λ (p : Placed). p.at) found.2);
          cost = sym (ap (λ (f : Entry). f.cost) entry);
          middle = sym (ap (λ (f : Entry). f.middle) entry);
        },
    λ is. subst (λ (p : Placed). Contains inn p) (place_is is) (Contains-permutation (map (in_place (Some v)) put) inn _ placed.inns (contains-map (in_place (Some v)) put is.shortcut is.among)),
  )
    where
      place_is : (is : IsOfShortcut put v e.other x e) → in_place (Some v) is.shortcut ≡ record { at = x; entry = e }
      place_is is = ap (λ n. made n is.shortcut.from is.shortcut.cost (Some v)) is.joins.1 ∙ ap (λ n. made x n is.shortcut.cost (Some v)) is.joins.0
          ∙ ap (λ (c : Cost). made x e.other c (Some v)) (sym is.cost) ∙ ap (λ (m : Option ℕ). made x e.other e.cost m) (sym is.middle)

  both_ways : {A B C : Type 0} → A ↔ B → B ↔ C → A ↔ C
  both_ways f g = (λ a. g.0 (f.0 a), λ c. f.1 (g.1 c))

  pub out_list : (old group : List Entry) → Rises old → Rises group → ((e : Entry) → Contains group e ↔ Contains out (record { at = x; entry = e }))
      → IsList v (λ e. IsOfShortcut put v x e.other e) (λ y. NoShortcut put x y) old (filter (λ e. not (nat_eq e.other v)) (merged old group))
  out_list old group olds groups all =
      list_is v (λ e. IsOfShortcut put v x e.other e) (λ y. NoShortcut put x y) old group olds groups (λ e. both_ways (all e) (out_short e))
      (λ e is same. (placed.apart is.shortcut is.among).1 (is.joins.1 ∙ same))
      (λ y none p among joins. none (record { other = p.to; cost = p.cost; middle = Some v }) (record { shortcut = p; among = among; joins = (joins.0, refl); cost = refl; middle = refl }) joins.1)
      (λ e is none. none is.shortcut is.among is.joins)

  pub in_list : (old group : List Entry) → Rises old → Rises group → ((e : Entry) → Contains group e ↔ Contains inn (record { at = x; entry = e }))
      → IsList v (λ e. IsOfShortcut put v e.other x e) (λ y. NoShortcut put y x) old (filter (λ e. not (nat_eq e.other v)) (merged old group))
  in_list old group olds groups all =
      list_is v (λ e. IsOfShortcut put v e.other x e) (λ y. NoShortcut put y x) old group olds groups (λ e. both_ways (all e) (in_short e))
      (λ e is same. (placed.apart is.shortcut is.among).0 (is.joins.0 ∙ same))
      (λ y none p among joins. none (record { other = p.from; cost = p.cost; middle = Some v }) (record { shortcut = p; among = among; joins = (refl, joins.1); cost = refl; middle = refl }) joins.0)
      (λ e is none. none is.shortcut is.among is.joins)

  pub changed_is : (row : Row) (outs inns : List Entry) → Rises row.out → Rises row.inn → Rises outs → Rises inns
      → ((e : Entry) → Contains outs e ↔ Contains out (record { at = x; entry = e })) → ((e : Entry) → Contains inns e ↔ Contains inn (record { at = x; entry = e }))
      → IsChanged put v x row (record row { out = filter (λ e. not (nat_eq e.other v)) (merged row.out outs); inn = filter (λ e. not (nat_eq e.other v)) (merged row.inn inns) })
  changed_is row outs inns out_rises inn_rises outs_rise inns_rise outs_all inns_all =
      let first = out_list row.out outs out_rises outs_rise outs_all in
      let second = in_list row.inn inns inn_rises inns_rise inns_all in
      record { rank = refl; out_rises = first.rises; inn_rises = second.rises; out = first.entries; inn = second.entries }
