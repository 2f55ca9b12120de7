-- The nodes of a rising list, and their notes, one more at each step.
use Rattle.std.proofs.Common.{◌≡◌, ℕ, ◌+◌, ◌<◌, ◌||◌, Bool, true, false, cond, List, nat_eq, length, take, get_or, AllPairs, refl, arith, ap, sym, ◌∙◌, length-take, get_or-take}
use Rattle.std.proofs.lemmas.List.Folds.{list_any_more, list_any_none}
use Rattle.std.proofs.lemmas.List.{get_or_default}
use Rattle.std.proofs.lemmas.Bool.Decides.{nat_tests}
use Rattle.ch_estimate.specs.Notes.{Note, is_among, raised}

-- numbers in order differ
below_differs : (a b : ℕ) → a < b → nat_eq b a ≡ false
below_differs a b h = grind (arith, nat_tests)

-- equal numbers pass the test
tested : (a b : ℕ) → nat_eq a b ≡ true → a ≡ b
tested a b h = grind (arith, nat_tests)

-- a node isn't among those before it
not_before : (xs : List ℕ) (i : ℕ) → AllPairs (λ a b. a < b) xs → i < length xs → is_among (take i xs) (get_or xs i 0) ≡ false
not_before xs i rising within =
    list_any_none (nat_eq (get_or xs i 0)) (take i xs) (λ (k : ℕ) (d : ℕ) (h : k < length (take i xs)).
    let before : k < i = omega (arith, h, within, length-take i xs) in
    let place : get_or (take i xs) k d ≡ get_or xs k d = get_or-take i xs k d before in
    let same : get_or xs k d ≡ get_or xs k 0 = get_or_default xs k d 0 (omega (arith, before, within)) in
    below_differs (get_or (take i xs) k d) (get_or xs i 0) (rw (place, same) (rising k i 0 before within)))

-- by whether a node is among the earlier ones, and whether it is the next
pick : (earlier next : Bool) (r : Note → Note) (old mid new : Note) → (next ≡ true → earlier ≡ false) → mid ≡ cond earlier (r old) old → new ≡ cond next (r mid) mid → new ≡ cond (earlier || next) (r old) old
pick true true r old mid new apart m n = absurd (cc (apart refl))
pick true false r old mid new apart m n = n ∙ m
pick false true r old mid new apart m n = n ∙ ap r m
pick false false r old mid new apart m n = n ∙ m

-- the note of a node after one more
pub one_more : (xs : List ℕ) (i x depth : ℕ) (old mid new : Note) → AllPairs (λ a b. a < b) xs → i < length xs
    → mid ≡ cond (is_among (take i xs) x) (raised depth old) old
    → new ≡ cond (nat_eq x (get_or xs i 0)) (raised depth mid) mid
    → new ≡ cond (is_among (take (i + 1) xs) x) (raised depth old) old
one_more xs i x depth old mid new rising within m n =
    let more : is_among (take (i + 1) xs) x ≡ (is_among (take i xs) x || nat_eq x (get_or xs i 0)) = list_any_more (nat_eq x) xs i 0 within in
    let apart : nat_eq x (get_or xs i 0) ≡ true → is_among (take i xs) x ≡ false =
    λ (e : nat_eq x (get_or xs i 0) ≡ true). ap (is_among (take i xs)) (tested x (get_or xs i 0) e) ∙ not_before xs i rising within in
    pick (is_among (take i xs) x) (nat_eq x (get_or xs i 0)) (raised depth) old mid new apart m n
    ∙ sym (ap (λ (b : Bool). cond b (raised depth old) old) more)

-- a note that is still as it was, since its node is the next
pub still : (xs : List ℕ) (i depth : ℕ) (old mid : Note) → AllPairs (λ a b. a < b) xs → i < length xs
    → mid ≡ cond (is_among (take i xs) (get_or xs i 0)) (raised depth old) old → mid ≡ old
still xs i depth old mid rising within m = m ∙ ap (λ (b : Bool). cond b (raised depth old) old) (not_before xs i rising within)
