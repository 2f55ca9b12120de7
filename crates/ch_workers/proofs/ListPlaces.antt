-- What a place of a list holds.
use Rattle.std.proofs.Common.{◌≡◌, ℕ, ◌<◌, List, [], ◌∷◌, Some, length, slice_index_or, All, map, refl, sym, subst, ap, arith, zero, suc}
use Rattle.std.specs.List.{slice_get}

-- what is read at a place, whatever the default for what isn't there, is there
pub at_get : {X : Type 0} (xs : List X) (k : ℕ) (x : X) → k < length xs → x ≡ slice_index_or xs k x → slice_get xs k ≡ Some x
at_get [] k x within here = absurd (omega arith)
at_get (y ∷ ys) zero x within here = ap Some (sym here)
at_get (y ∷ ys) (suc k) x within here = at_get ys k x (omega arith) here

head_of : {X Y : Type 0} (f : X → Y) (x : X) (xs : List X) (y : Y) (ys : List Y) → map f (x ∷ xs) ≡ y ∷ ys → f x ≡ y
head_of f x xs y ys same = cc

tail_of : {X Y : Type 0} (f : X → Y) (x : X) (xs : List X) (y : Y) (ys : List Y) → map f (x ∷ xs) ≡ y ∷ ys → map f xs ≡ ys
tail_of f x xs y ys same = cc

-- what holds of all that a list is sent to, holds of its elements by what they are sent to
pub all_of_map : {X Y : Type 0} (f : X → Y) (P : Y → Type 0) (xs : List X) (ys : List Y) → map f xs ≡ ys → All P ys → All (λ x. P (f x)) xs
all_of_map f P [] ys same all k d within = absurd (omega arith)
all_of_map f P (x ∷ xs) [] same all k d within = absurd (cc)
all_of_map f P (x ∷ xs) (y ∷ ys) same all zero d within = subst P (sym (head_of f x xs y ys same)) (all zero y (omega arith))
all_of_map f P (x ∷ xs) (y ∷ ys) same all (suc k) d within = all_of_map f P xs ys (tail_of f x xs y ys same) (λ j e inside. all (suc j) e (omega arith)) k d (omega arith)

pub map_same : {X : Type 0} (xs : List X) → map (λ x. x) xs ≡ xs
map_same [] = refl
map_same (x ∷ xs) = ap (λ ys. x ∷ ys) (map_same xs)

-- the same of lists of lists, whose elements are read by p and by q
pub all_of_maps : {V W X Y : Type 0} (p : V → List X) (q : W → List Y) (f : X → Y) (P : Y → Type 0) (vs : List V) (ws : List W) → map (λ v. map f (p v)) vs ≡ map q ws → All (λ w. All P (q w)) ws → All (λ v. All (λ x. P (f x)) (p v)) vs
all_of_maps p q f P [] ws same all k d within = absurd (omega arith)
all_of_maps p q f P (v ∷ vs) [] same all k d within = absurd (cc)
all_of_maps p q f P (v ∷ vs) (w ∷ ws) same all zero d within = all_of_map f P (p v) (q w) (head_of (λ u. map f (p u)) v vs (q w) (map q ws) same) (all zero w (omega arith))
all_of_maps p q f P (v ∷ vs) (w ∷ ws) same all (suc k) d within = all_of_maps p q f P vs ws (tail_of (λ u. map f (p u)) v vs (q w) (map q ws) same) (λ j e inside. all (suc j) e (omega arith)) k d (omega arith)
