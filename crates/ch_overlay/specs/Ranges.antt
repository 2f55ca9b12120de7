-- Numbers in a row, and what holds of each two elements of a list.
use Rattle.std.proofs.Common.{ℕ, zero, suc, ◌≡◌, ◌+◌, ◌<◌, List, [], ◌∷◌, ◌++◌, ◌≢◌, AllPairs, All, ◌≤◌, Contains, take, drop, map, length, get_or, length-append, arith, add-one, ap, sym, subst, refl, ◌∙◌}
use Rattle.std.specs.List.{range_with_len}
use Rattle.std.proofs.lemmas.List.{get_or_append_left, take-append-drop}
use Rattle.std.proofs.lemmas.List.Elements.{All-append, All-contains, All-head, All-map, All-tail, Contains-get_or}
use Rattle.std.proofs.lemmas.List.Kept.{AllPairs-cons}
use Rattle.std.proofs.lemmas.List.FromFn.{get_or-range_with_len, length-range_with_len}
use Rattle.std.proofs.lemmas.Bool.Decides.{Decides-eqb}
use Rattle.std.proofs.lemmas.Map.Made.{IsDistinct-from_AllPairs}
use Rattle.std.proofs.lemmas.Map.Steps.{length-le_from_distinct_below}
use Rattle.std.proofs.lemmas.Map.Views.{Contains-from_any}
use Rattle.ch_laws.specs.Members.{pairs_later}

pub range_with_len-suc : (a n : ℕ) → range_with_len a (suc n) ≡ range_with_len a n ++ (a + n) ∷ []
range_with_len-suc a zero =
    let here : a ≡ a + 0 = omega arith in
    ap (λ x. x ∷ []) here
range_with_len-suc a (suc n) =
    let moved : (a + 1) + n ≡ a + suc n = omega arith in
    ap (λ xs. a ∷ xs) (range_with_len-suc (a + 1) n ∙ ap (λ x. range_with_len (a + 1) n ++ x ∷ []) moved)

pub range_with_len-more : (a n : ℕ) → range_with_len a (n + 1) ≡ range_with_len a n ++ (a + n) ∷ []
range_with_len-more a n = rw add-one (range_with_len-suc a n)

-- the first of them and the others
pub range_with_len-append : (a m n : ℕ) → range_with_len a (m + n) ≡ range_with_len a m ++ range_with_len (a + m) n
range_with_len-append a zero n =
    let here : 0 + n ≡ n = omega arith in
    let from : a ≡ a + 0 = omega arith in
    ap (range_with_len a) here ∙ ap (λ x. range_with_len x n) from
range_with_len-append a (suc m) n =
    let next : suc m + n ≡ suc (m + n) = omega arith in
    let from : (a + 1) + m ≡ a + suc m = omega arith in
    ap (range_with_len a) next ∙ ap (λ xs. a ∷ xs) (range_with_len-append (a + 1) m n ∙ ap (λ x. range_with_len (a + 1) m ++ range_with_len x n) from)

-- they rise
pub range_with_len-rises : (a n : ℕ) → AllPairs (λ x y. x < y) (range_with_len a n)
range_with_len-rises a n i j d low high =
    let end : length (range_with_len a n) ≡ n = length-range_with_len a n in
    let early : i < n = omega arith in
    let late : j < n = omega arith in
    rw (get_or-range_with_len a n i d early, get_or-range_with_len a n j d late) (omega arith)

-- what holds of each element and each later one
pub AllPairs-head : {X : Type 0} (R : X → X → Type 0) (x : X) (xs : List X) → AllPairs R (x ∷ xs) → All (R x) xs
AllPairs-head R x xs pairs k d h = pairs 0 (suc k) d (omega arith) (omega (arith, h))

-- and of the elements of a first part alone
pub AllPairs-left : {X : Type 0} (R : X → X → Type 0) (xs ys : List X) → AllPairs R (xs ++ ys) → AllPairs R xs
AllPairs-left R xs ys pairs i j d low high =
    let first : get_or (xs ++ ys) i d ≡ get_or xs i d = get_or_append_left xs ys d i (omega arith) in
    let second : get_or (xs ++ ys) j d ≡ get_or xs j d = get_or_append_left xs ys d j high in
    subst (λ x. R x (get_or xs j d)) first (subst (λ y. R (get_or (xs ++ ys) i d) y) second (pairs i j d low (omega (arith, length-append xs ys))))

pub AllPairs-take : {X : Type 0} (R : X → X → Type 0) (n : ℕ) (xs : List X) → AllPairs R xs → AllPairs R (take n xs)
AllPairs-take R n xs pairs = AllPairs-left R (take n xs) (drop n xs) (subst (AllPairs R) (sym (take-append-drop n xs)) pairs)

-- two parts, where it holds of each element of the first and each of the second
pub AllPairs-append : {X : Type 0} (R : X → X → Type 0) (xs ys : List X) → AllPairs R xs → AllPairs R ys → ((x y : X) → Contains xs x → Contains ys y → R x y) → AllPairs R (xs ++ ys)
AllPairs-append R [] ys first second across = second
AllPairs-append R (x ∷ xs) ys first second across =
    AllPairs-cons R x (xs ++ ys)
    (All-append (R x) xs ys (AllPairs-head R x xs first) (λ k d h. across x (get_or ys k d) (0, omega arith, refl) (Contains-get_or ys k d h)))
    (AllPairs-append R xs ys (pairs_later R x xs first) second (λ y z among later. across y z (suc among.0, omega (arith, among.1), among.2) later))

-- a rising list of numbers from a on and below n has n - a of them at most
pub rising-short : (xs : List ℕ) (a n : ℕ) → a ≤ n → AllPairs (λ x y. x < y) xs → All (λ x. (a ≤ x) × (x < n)) xs → length xs + a ≤ n
rising-short [] a n few rises within = omega arith
rising-short (x ∷ xs) a n few rises within =
    let head : (a ≤ x) × (x < n) = All-head (λ y. (a ≤ y) × (y < n)) x xs within in
    let above : All (λ y. x < y) xs = AllPairs-head (λ y z. y < z) x xs rises in
    let rest : All (λ y. (a + 1 ≤ y) × (y < n)) xs = λ k d h. (omega (arith, above k d h, head.0), (All-tail (λ y. (a ≤ y) × (y < n)) x xs within k d h).1) in
    omega (arith, rising-short xs (a + 1) n (omega (arith, head)) (pairs_later (λ y z. y < z) x xs rises) rest)

-- numbers below n, each once, are at most n
pub distinct_below-few : (xs : List ℕ) (n : ℕ) → AllPairs (λ x y. x ≢ y) xs → All (λ x. x < n) xs → length xs ≤ n
distinct_below-few xs n once low =
    length-le_from_distinct_below xs n (IsDistinct-from_AllPairs Decides-eqb xs once)
    (λ q found. All-contains (λ x. x < n) xs q low (Contains-from_any (λ x y same. (Decides-eqb x y).0 same) q xs found))

-- of the images of elements it holds where it holds of the elements through the map
pub pairs-map : {X Y : Type 0} (R : Y → Y → Type 0) (f : X → Y) (xs : List X) → AllPairs (λ a b. R (f a) (f b)) xs → AllPairs R (map f xs)
pairs-map R f [] pairs = λ i j d low high. absurd (omega (arith, high))
pairs-map R f (x ∷ xs) pairs = AllPairs-cons R (f x) (map f xs) (All-map (R (f x)) f xs (AllPairs-head (λ a b. R (f a) (f b)) x xs pairs)) (pairs-map R f xs (pairs_later (λ a b. R (f a) (f b)) x xs pairs))

-- the numbers of a range are from its first on and below its end
pub range-within : (first count : ℕ) → All (λ v. (first ≤ v) × (v < first + count)) (range_with_len first count)
range-within first count k d h =
    let end : length (range_with_len first count) ≡ count = length-range_with_len first count in
    let low : k < count = omega arith in
    rw (get_or-range_with_len first count k d low) (omega arith, omega arith)

-- those of one from 0 are the numbers below its end
pub range-contains : (n x : ℕ) → Contains (range_with_len 0 n) x → x < n
range-contains n x among =
    let long : length (range_with_len 0 n) ≡ n = length-range_with_len 0 n in
    let low : among.0 < n = omega (arith, among.1) in
    let is : 0 + among.0 ≡ x = sym (get_or-range_with_len 0 n among.0 x low) ∙ among.2 in
    omega (arith, is, low)

pub contains-range : (n x : ℕ) → x < n → Contains (range_with_len 0 n) x
contains-range n x h =
    let long : length (range_with_len 0 n) ≡ n = length-range_with_len 0 n in
    let plain : 0 + x ≡ x = omega arith in
    (x, omega arith, get_or-range_with_len 0 n x x h ∙ plain)
