-- Marks of receipts, one receipt or list after the other.
use Rattle.std.proofs.Common.{ℕ, All, zero, suc, take, drop, ◌≡◌, ◌≢◌, ◌<◌, ◌+◌, List, [], ◌∷◌, ◌++◌, Bool, true, false, length, get_or, set, AllPairs, Contains, Some, slice_get, arith, refl, sym, ap, subst, ◌∙◌, ⊎_elim, append_assoc, length-append}
use Rattle.std.proofs.lemmas.List.{append-nil, get_or-set_same, get_or-set_other, get_or_append_left, get_or_push, length_push, take_more, take-append-drop, take_all, drop_all}
use Rattle.std.proofs.lemmas.Grind.{flat_map-append}
use Rattle.std.proofs.Math.Numerals.{suc-eq-add-one}
use Rattle.std.proofs.lemmas.List.Elements.{Contains-push, Contains-push_cases, Contains-append_left, Contains-get_or}
use Rattle.std.proofs.lemmas.List.Quantifiers.{all_pairs_push}
use Rattle.std.proofs.lemmas.Option.{slice_get-get_or, get_or_from_slice_get, slice_get_within}
use Rattle.std.proofs.lemmas.Bool.{cases_eq}
use Rattle.ch_laws.specs.Contraction.{Contraction}
use Rattle.ch_contract.specs.declared.contraction.Receipt.{Receipt}
use Rattle.ch_contract.specs.Ledger.{IsLog, receipt_of}
use Rattle.ch_workers.specs.Account.{all_of, IsOfLog, AreApart, AreMarked, IsAccount, Rises}

-- what holds of all pairs of a list and what follows it holds of all pairs of the list
pub pairs_front : {X : Type 0} (R : X → X → Type 0) (xs ys : List X) → AllPairs R (xs ++ ys) → AllPairs R xs
pairs_front R xs ys h i j d less within =
    let long = length-append xs ys in
    let inside : i < length xs = omega arith in
    subst (λ x. R x (get_or xs j d)) (get_or_append_left xs ys d i inside)
    (subst (R (get_or (xs ++ ys) i d)) (get_or_append_left xs ys d j within) (h i j d less (omega arith)))

-- and of each of its elements with the next one
pub pairs_next : {X : Type 0} (R : X → X → Type 0) (xs : List X) (x y : X) → AllPairs R (xs ++ y ∷ []) → Contains xs x → R x y
pairs_next R xs x y h among =
    let long = length_push xs y in
    let inside : among.0 < length xs = among.1 in
    subst (λ z. R z y) (get_or_append_left xs (y ∷ []) x among.0 inside ∙ among.2)
    (subst (R (get_or (xs ++ y ∷ []) among.0 x)) (get_or_push xs y x (length xs) refl) (h among.0 (length xs) x inside (omega arith)))

-- receipts before others that are apart are apart
pub apart_front : {log : List Contraction} (xs ys : List Receipt) → AreApart log (xs ++ ys) → AreApart log xs
apart_front xs ys h = record {
  once = pairs_front (λ a b. a.rank ≢ b.rank) xs ys h.once;
  only = λ r among. h.only r (Contains-append_left xs ys r among);
}

-- the entry of a receipt is at its rank
pub entry_of : {log : List Contraction} → IsLog log → (r : Receipt) (of : IsOfLog log r) → slice_get log r.rank ≡ Some of.entry
entry_of {log} is r of =
    let k = of.within.0 in
    let inside : k < length log = of.within.1 in
    let here : slice_get log k ≡ Some of.entry = slice_get-get_or log k of.entry inside ∙ ap (λ e. Some e) of.within.2 in
    let ranked : of.entry.rank ≡ k = is.ranks k of.entry here in
    subst (λ n. slice_get log n ≡ Some of.entry) (sym (ap (λ (s : Receipt). s.rank) of.handed ∙ ranked)) here

-- so the rank is one of the log
pub within_log : {log : List Contraction} → IsLog log → (r : Receipt) → IsOfLog log r → r.rank < length log
within_log is r of = slice_get_within _ r.rank of.entry (entry_of is r of)

-- and the entry there has its node
pub node_of : {log : List Contraction} → IsLog log → (r : Receipt) → IsOfLog log r → (d : Contraction) → (get_or log r.rank d).node ≡ r.node
node_of {log} is r of d = ap (λ (e : Contraction). e.node) (get_or_from_slice_get log r.rank of.entry d (entry_of is r of)) ∙ sym (ap (λ (s : Receipt). s.node) of.handed)

-- a receipt of the node of the entry at its rank is of the log
pub from_place : {log : List Contraction} → IsLog log → (r : Receipt) (d : Contraction) → r.rank < length log → (get_or log r.rank d).node ≡ r.node → IsOfLog log r
from_place {log} is r d inside same =
    let e = get_or log r.rank d in
    let ranked : e.rank ≡ r.rank = is.ranks r.rank e (slice_get-get_or log r.rank d inside) in
    record {
      entry = e;
      within = Contains-get_or log r.rank d inside;
      handed = receipt_is r e.node e.rank same ranked;
    }
  where
    receipt_is : (r : Receipt) (node rank : ℕ) → node ≡ r.node → rank ≡ r.rank → r ≡ record { node = node; rank = rank }
    receipt_is r node rank n k = rw (n, k) refl

pub false_is_true : false ≡ true → ⊥
false_is_true e = cc

some_same : {X : Type 0} {x y : X} → Some x ≡ Some y → x ≡ y
some_same e = cc

-- the next receipt, of the log and not marked yet
pub marked_push : {log : List Contraction} (done : List Receipt) (marks : List Bool) (r : Receipt) → AreMarked log done marks → IsOfLog log r → r.rank < length marks → get_or marks r.rank false ≡ false → AreMarked log (done ++ r ∷ []) (set marks r.rank true)
marked_push {log} done marks r m of inside free = record {
  apart = record {
    once = all_pairs_push (λ a b. a.rank ≢ b.rank) done r m.apart.once (λ k d within. other (get_or done k d) (Contains-get_or done k d within));
    only = λ s among. ⊎_elim (m.apart.only s) (λ same. subst (IsOfLog log) same of) (Contains-push_cases done r s among);
  };
  set = λ s among. ⊎_elim
      (λ before. get_or-set_other marks r.rank s.rank true false (λ e. other s before e) ∙ m.set s before)
      (λ same. subst (λ n. get_or (set marks r.rank true) n false ≡ true) (ap (λ (x : Receipt). x.rank) same) (get_or-set_same marks r.rank true false inside))
      (Contains-push_cases done r s among);
  known = λ k is. ⊎_elim
      (λ same. (r, Contains-push done r, sym same))
      (λ apart. let old = m.known k (sym (get_or-set_other marks r.rank k true false apart) ∙ is) in (old.0, Contains-append_left done (r ∷ []) old.0 old.1, old.2))
      (cases_eq k r.rank);
}
  where
    other : (s : Receipt) → Contains done s → s.rank ≢ r.rank
    other s before e = false_is_true (sym free ∙ (subst (λ n. get_or marks n false ≡ true) e (m.set s before)))

-- a receipt whose rank is marked is not apart from those before it
pub marked_twice : {log : List Contraction} (done : List Receipt) (marks : List Bool) (r : Receipt) → AreMarked log done marks → get_or marks r.rank false ≡ true → AreApart log (done ++ r ∷ []) → ⊥
marked_twice done marks r m is h =
    let old = m.known r.rank is in
    pairs_next (λ a b. a.rank ≢ b.rank) done old.0 r h.once old.1 old.2

-- a list by its first elements and the rest
pub front_and_rest : (done xs : List Receipt) (n : ℕ) → (done ++ take n xs) ++ drop n xs ≡ done ++ xs
front_and_rest done xs n = append_assoc done (take n xs) (drop n xs) ∙ ap (λ l. done ++ l) (take-append-drop n xs)

-- one more element
pub one_more : (done xs : List Receipt) (n : ℕ) (d : Receipt) → n < length xs → (done ++ take n xs) ++ get_or xs n d ∷ [] ≡ done ++ take (n + 1) xs
one_more done xs n d inside = append_assoc done (take n xs) (get_or xs n d ∷ []) ∙ ap (λ l. done ++ l) (sym (take_more xs n d inside))

-- a list whose elements rise from each to the next rises
pub rises_by_steps : (xs : List Receipt) → ((k : ℕ) (d : Receipt) → k + 1 < length xs → (get_or xs k d).rank < (get_or xs (k + 1) d).rank) → Rises xs
rises_by_steps xs steps i zero d less within = absurd (omega arith)
rises_by_steps xs steps i (suc j) d less within =
    let before = rises_by_steps xs steps i j d in
    let inside : j + 1 < length xs = omega arith in
    let here : (get_or xs j d).rank < (get_or xs (suc j) d).rank = subst (λ n. (get_or xs j d).rank < (get_or xs n d).rank) (sym (suc-eq-add-one j)) (steps j d inside) in
    ⊎_elim
    (λ same. subst (λ n. (get_or xs n d).rank < (get_or xs (suc j) d).rank) (sym same) here)
    (λ apart. let low : i < j = omega arith in let mid : j < length xs = omega arith in let far = before low mid in omega arith)
    (cases_eq i j)

-- the receipts of the first lists and of the next one
pub all_more : (lists : List (List Receipt)) (n : ℕ) (d : List Receipt) → n < length lists → all_of (take n lists) ++ get_or lists n d ≡ all_of (take (n + 1) lists)
all_more lists n d inside =
    sym (ap (λ l. all_of (take n lists) ++ l) (append-nil (get_or lists n d)))
    ∙ sym (flat_map-append (λ receipts. receipts) (take n lists) (get_or lists n d ∷ []))
    ∙ ap all_of (sym (take_more lists n d inside))

-- and of the first lists and the rest
pub all_front_and_rest : (lists : List (List Receipt)) (n : ℕ) → all_of (take n lists) ++ all_of (drop n lists) ≡ all_of lists
all_front_and_rest lists n = sym (flat_map-append (λ receipts. receipts) (take n lists) (drop n lists)) ∙ ap all_of (take-append-drop n lists)

-- where all are apart, those of the first lists and the next one are
pub apart_lists : {log : List Contraction} (lists : List (List Receipt)) (n : ℕ) (d : List Receipt) → n < length lists → IsAccount log lists → AreApart log (all_of (take n lists) ++ get_or lists n d)
apart_lists {log} lists n d inside h =
    let whole : AreApart log (all_of lists) = record { once = h.once; only = h.only } in
    subst (AreApart log) (sym (all_more lists n d inside))
    (apart_front (all_of (take (n + 1) lists)) (all_of (drop (n + 1) lists)) (subst (AreApart log) (sym (all_front_and_rest lists (n + 1))) whole))

-- below the length of a log there is an entry
pub entry_at : (log : List Contraction) (k : ℕ) → k < length log → (e : Contraction) × (slice_get log k ≡ Some e)
entry_at [] k inside = absurd (omega (arith, inside))
entry_at (e ∷ rest) k inside = (get_or (e ∷ rest) k e, slice_get-get_or (e ∷ rest) k e inside)

-- where all marks are set, the lists account for the log
pub account_from_marks : {log : List Contraction} → IsLog log → (lists : List (List Receipt)) (marks : List Bool) → length marks ≡ length log → AreMarked log (all_of lists) marks → All Rises lists → ((k : ℕ) → k < length marks → get_or marks k false ≡ true) → IsAccount log lists
account_from_marks {log} is lists marks size m rising all_set = record {
  each = λ e within. each e within;
  once = m.apart.once;
  only = m.apart.only;
  rising = rising;
}
  where
    handed : (e : Contraction) (k : ℕ) → slice_get log k ≡ Some e → (r : Receipt) → r.rank ≡ k → IsOfLog log r → r ≡ receipt_of e
    handed e k here r ranked of =
        let there : slice_get log k ≡ Some of.entry = subst (λ n. slice_get log n ≡ Some of.entry) ranked (entry_of is r of) in
        let same : of.entry ≡ e = some_same (sym there ∙ here) in
        of.handed ∙ ap receipt_of same

    each : (e : Contraction) → Contains log e → Contains (all_of lists) (receipt_of e)
    each e within =
        let k = within.0 in
        let inside : k < length log = within.1 in
        let here : slice_get log k ≡ Some e = slice_get-get_or log k e inside ∙ ap (λ x. Some x) within.2 in
        let known = m.known k (all_set k (omega (arith, size, inside))) in
        subst (Contains (all_of lists)) (handed e k here known.0 known.2 (m.apart.only known.0 known.1)) known.1

-- and where they account for it, all marks are set
pub marks_from_account : {log : List Contraction} → IsLog log → (lists : List (List Receipt)) (marks : List Bool) → length marks ≡ length log → AreMarked log (all_of lists) marks → IsAccount log lists → (k : ℕ) → k < length marks → get_or marks k false ≡ true
marks_from_account {log} is lists marks size m h k inside =
    let at = entry_at log k (omega (arith, size, inside)) in
    let e = at.0 in
    subst (λ n. get_or marks n false ≡ true) (is.ranks k e at.1) (m.set (receipt_of e) (h.each e (k, omega (arith, size, inside), get_or_from_slice_get log k e e at.1)))

-- what a vector has after its elements were written
pub written : {X : Type 0} (n : ℕ) (new old : List X) → n ≡ length old → length new ≡ length old → take n (new ++ drop (length new) old) ≡ new
written n new old count same = ap (λ l. take n (new ++ l)) (drop_all (length new) old (omega (arith, same))) ∙ ap (take n) (append-nil new) ∙ take_all n new (omega (arith, count, same))
