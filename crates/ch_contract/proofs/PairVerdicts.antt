-- Pairs and their verdicts, one by one.
use Rattle.std.proofs.Common.{ℕ, ◌≡◌, ◌≢◌, ◌+◌, ◌<◌, List, [], ◌∷◌, ◌++◌, length, get_or, take, Option, Some, None, AllPairs, Contains, append_assoc, refl, ap, sym, subst, ◌∙◌, arith, inl, inr}
use Rattle.std.specs.List.{slice_get}
use Rattle.std.proofs.lemmas.List.{append-nil, get_or_default, take_more}
use Rattle.std.proofs.lemmas.List.Elements.{Contains-append_left, Contains-push, Contains-push_cases, Contains-get_or}
use Rattle.std.proofs.lemmas.List.Quantifiers.{all_pairs_push}
use Rattle.std.proofs.lemmas.Option.{slice_get-get_or, slice_get_within, get_or_from_slice_get}
use Rattle.ch_cost.specs.declared.cost.Cost.{Cost}
use Rattle.ch_cost.specs.Cost.{◌⊕◌, IsWithin}
use Rattle.ch_laws.specs.declared.entry.Entry.{Entry}
use Rattle.ch_laws.specs.declared.shortcut.Shortcut.{Shortcut}
use Rattle.ch_laws.specs.Members.{contains_none}
use Rattle.ch_laws.specs.Rows.{Rises}
use Rattle.ch_overlay.specs.Entries.{last_is_past}
use Rattle.ch_overlay.specs.Pairs.{IsPairOf, no_pair, over}
use Rattle.ch_overlay.specs.Ranges.{AllPairs-take}
use Rattle.ch_witness.specs.declared.way.Way.{Way}
use Rattle.ch_witness.specs.Ways.{IsFound, way_at}
use Rattle.ch_contract.proofs.SomeValues.{some-same}
use Rattle.ch_contract.specs.declared.draft.Draft.{Draft}
use Rattle.ch_contract.specs.Listed.{InParts, ends}
use Rattle.ch_contract.specs.Drafts.{AreJudged, ArePairs, IsJudgedBy, IsPairAdded, IsPairJudged, IsPairPart}
use Rattle.ch_contract.proofs.PartByPart.{parts_map, parts_push}

-- Pairs

pub pairs_none : (bound : Cost) (into : Entry) → ArePairs bound into [] []
pairs_none bound into = record {
  each = λ p among. absurd (contains_none p among);
  every = λ out among apart within. absurd (contains_none out among);
  sorted = λ i j d low high. absurd (omega (arith, high));
  parts = ends;
}

module _ (bound : Cost) (into : Entry) (outs : List Entry) (out : Entry) (rises : Rises (outs ++ out ∷ [])) where
  pub pairs_more : (pairs new : List Shortcut) → IsPairAdded bound into out pairs new → ArePairs bound into outs pairs → ArePairs bound into (outs ++ out ∷ []) new
  pairs_more pairs new added are = elim added [
    | inl h ↦ subst (ArePairs bound into (outs ++ out ∷ [])) (sym h.1) (record {
      each = λ p among. let was = are.each p among in (was.0, Contains-append_left outs (out ∷ []) was.0 was.1, was.2);
      every = λ o among apart within. elim (Contains-push_cases outs out o among) [
        | inl old ↦ are.every o old apart within
        | inr here ↦ absurd (no_pair bound into out h.0 (subst (λ (e : Entry). into.other ≢ e.other) (sym here) apart) (subst (λ (e : Entry). IsWithin (into.cost ⊕ e.cost) bound) (sym here) within))
      ];
      sorted = are.sorted;
      parts = subst (InParts (IsPairPart bound into) (outs ++ out ∷ [])) (append-nil pairs) (parts_push (IsPairPart bound into) out [] are.parts (inl (h.0, refl)));
    })
    | inr h ↦ subst (ArePairs bound into (outs ++ out ∷ [])) (sym h.2) (record {
      each = λ p among. elim (Contains-push_cases pairs h.0 p among) [
        | inl old ↦ let was = are.each p old in (was.0, Contains-append_left outs (out ∷ []) was.0 was.1, was.2)
        | inr here ↦ subst (λ (q : Shortcut). (o : Entry) × Contains (outs ++ out ∷ []) o × IsPairOf bound into o (Some q)) here (out, Contains-push outs out, h.1)
      ];
      every = λ o among apart within. elim (Contains-push_cases outs out o among) [
        | inl old ↦ Contains-append_left pairs (h.0 ∷ []) (over into o) (are.every o old apart within)
        | inr here ↦ subst (λ (q : Shortcut). Contains (pairs ++ h.0 ∷ []) q) (h.1.2 ∙ ap (λ (e : Entry). over into e) here) (Contains-push pairs h.0)
      ];
      sorted = all_pairs_push (λ p q. p.to < q.to) pairs h.0 are.sorted (λ k d inside. below (get_or pairs k d) (are.each (get_or pairs k d) (Contains-get_or pairs k d inside)) h.0 h.1);
      parts = parts_push (IsPairPart bound into) out (h.0 ∷ []) are.parts (inr (h.0, h.1, refl));
    })
  ] where
    below : (p : Shortcut) → (o : Entry) × Contains outs o × IsPairOf bound into o (Some p) → (q : Shortcut) → IsPairOf bound into out (Some q) → p.to < q.to
    below p has q is =
        let first : p.to ≡ has.0.other = ap (λ (s : Shortcut). s.to) has.2.2 in
        let second : q.to ≡ out.other = ap (λ (s : Shortcut). s.to) is.2 in
        omega (arith, last_is_past outs out rises has.0 has.1, first, second)

-- Verdicts

pub judged_none : (pairs : List Shortcut) (ways : List (Option Way)) (d : Draft) → AreJudged pairs ways 0 d d
judged_none pairs ways d = record {
  put = [];
  more = [];
  shortcuts = sym (append-nil d.shortcuts.items);
  listed = sym (append-nil d.listed.items);
  only = λ p among. absurd (contains_none p among);
  parts = ends;
  sorted = λ all i j d low high. absurd (omega (arith, high));
}

module _ (pairs : List Shortcut) (ways : List (Option Way)) (n : ℕ) (p : Shortcut) (here : slice_get pairs n ≡ Some p) (old mid new : Draft) (judged : AreJudged pairs ways n old mid) where
  one_more : take (n + 1) pairs ≡ take n pairs ++ p ∷ []
  one_more = take_more pairs n p (slice_get_within pairs n p here) ∙ ap (λ (q : Shortcut). take n pairs ++ q ∷ []) (get_or_from_slice_get pairs n p p here)

  in_order : AllPairs (λ a b. a.to < b.to) pairs → (q : Shortcut) → Contains judged.put q → q.to < p.to
  in_order all q among =
      let was = judged.only q among in
      let first : get_or pairs was.0 q ≡ q = get_or_from_slice_get pairs was.0 q q was.2 in
      let second : get_or pairs n q ≡ p = get_or_from_slice_get pairs n p q here in
      subst (λ (a : Shortcut). a.to < p.to) first (subst (λ (b : Shortcut). (get_or pairs was.0 q).to < b.to) second (all was.0 n q was.1 (slice_get_within pairs n p here)))

  pub judged_more : IsPairJudged p (way_at ways n) mid new → AreJudged pairs ways (n + 1) old new
  judged_more step = elim step [
    | inl h ↦ record {
      put = judged.put ++ p ∷ [];
      more = judged.more;
      shortcuts = h.2 ∙ ap (λ (ps : List Shortcut). ps ++ p ∷ []) judged.shortcuts ∙ append_assoc old.shortcuts.items judged.put (p ∷ []);
      listed = h.1 ∙ judged.listed;
      only = λ q among. elim (Contains-push_cases judged.put p q among) [
        | inl before ↦ let was = judged.only q before in (was.0, omega (arith, was.1), was.2, was.3)
        | inr is ↦ (n, omega arith, here ∙ ap (λ (a : Shortcut). Some a) is, subst (λ (a : Shortcut). IsFound ways n a.cost → ⊥) is h.0)
      ];
      parts = subst (λ (ps : List Shortcut). InParts (IsJudgedBy pairs ways (judged.put ++ p ∷ [])) ps judged.more) (sym one_more)
          (subst (InParts (IsJudgedBy pairs ways (judged.put ++ p ∷ [])) (take n pairs ++ p ∷ [])) (append-nil judged.more)
          (parts_push (IsJudgedBy pairs ways (judged.put ++ p ∷ [])) p []
          (parts_map (IsJudgedBy pairs ways judged.put) (IsJudgedBy pairs ways (judged.put ++ p ∷ [])) (take n pairs) still judged.parts)
          (n, here, inl (h.0, Contains-push judged.put p, refl))));
      sorted = λ all. all_pairs_push (λ a b. a.to < b.to) judged.put p (judged.sorted all) (λ k d inside. in_order all (get_or judged.put k d) (Contains-get_or judged.put k d inside));
    }
    | inr h ↦ record {
      put = judged.put;
      more = judged.more ++ h.4.0;
      shortcuts = h.3 ∙ judged.shortcuts;
      listed = h.4.1 ∙ ap (λ (ns : List ℕ). ns ++ h.4.0) judged.listed ∙ append_assoc old.listed.items judged.more h.4.0;
      only = λ q among. let was = judged.only q among in (was.0, omega (arith, was.1), was.2, was.3);
      parts = subst (λ (ps : List Shortcut). InParts (IsJudgedBy pairs ways judged.put) ps (judged.more ++ h.4.0)) (sym one_more)
          (parts_push (IsJudgedBy pairs ways judged.put) p h.4.0 judged.parts (n, here, inr (h.0, h.1, h.2, h.4.2)));
      sorted = judged.sorted;
    }
  ] where
    still : (q : Shortcut) (inner : List ℕ) → Contains (take n pairs) q → ((x : ℕ) → Contains inner x → Contains judged.more x) → IsJudgedBy pairs ways judged.put q inner → IsJudgedBy pairs ways (judged.put ++ p ∷ []) q inner
    still q inner among inside by = elim by.2 [
      | inl put ↦ (by.0, by.1, inl (put.0, Contains-append_left judged.put (p ∷ []) q put.1, put.2))
      | inr way ↦ (by.0, by.1, inr way)
    ]

-- one step of a loop over the arcs out, and over the pairs
pub next_pairs : (bound : Cost) (into : Entry) (outs : List Entry) (k : ℕ) (d : Entry) (pairs new : List Shortcut) → k < length outs → Rises outs → IsPairAdded bound into (get_or outs k d) pairs new → ArePairs bound into (take k outs) pairs → ArePairs bound into (take (k + 1) outs) new
next_pairs bound into outs k d pairs new inside rises added are =
    let more : take (k + 1) outs ≡ take k outs ++ get_or outs k d ∷ [] = take_more outs k d inside in
    subst (λ (es : List Entry). ArePairs bound into es new) (sym more) (pairs_more bound into (take k outs) (get_or outs k d) (subst Rises more (AllPairs-take (λ (a b : Entry). a.other < b.other) (k + 1) outs rises)) pairs new added are)

pub next_judged : (pairs : List Shortcut) (ways : List (Option Way)) (k : ℕ) (d : Shortcut) (way : Option Way) (old mid new : Draft)
    → k < length pairs → length ways ≡ length pairs → way ≡ get_or ways k way → AreJudged pairs ways k old mid
    → IsPairJudged (get_or pairs k d) way mid new → AreJudged pairs ways (k + 1) old new
next_judged pairs ways k d way old mid new inside many is judged step =
    let at : way ≡ way_at ways k = is ∙ get_or_default ways k way None (omega (arith, inside, many)) in
    judged_more pairs ways k (get_or pairs k d) (slice_get-get_or pairs k d inside) old mid new judged (subst (λ (o : Option Way). IsPairJudged (get_or pairs k d) o mid new) at step)
