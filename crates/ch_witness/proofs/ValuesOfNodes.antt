-- Values at the places of their nodes.
use Rattle.std.proofs.Common.{ℕ, ◌≡◌, ◌≢◌, ◌<◌, List, [], ◌∷◌, ◌++◌, get_or, length, set, slice_index, Option, Some, None, zero, suc, true, false, Bool, cond, refl, ap, sym, subst, ◌∙◌, arith, nat_eq, get_or-set_same}
use Rattle.std.proofs.lemmas.Bool.Decides.{nat_tests}
use Rattle.std.specs.List.{slice_get}
use Rattle.std.proofs.lemmas.List.{length-set}
use Rattle.std.proofs.lemmas.Option.{slice_get-get_or}
use Rattle.ch_witness.specs.Places.{IsFirstAt, value_in}

same : (x y : ℕ) → x ≡ y → nat_eq x y ≡ true
same x y e = grind (arith, nat_tests, e)

unlike : (x y : ℕ) → x ≢ y → nat_eq x y ≡ false
unlike x y apart = grind (arith, nat_tests, apart)

module _ {X : Type 0} where
  when_true : {b : Bool} (x y : Option X) → b ≡ true → cond b x y ≡ x
  when_true x y e = subst (λ (t : Bool). cond t x y ≡ x) (sym e) refl

  when_false : {b : Bool} (x y : Option X) → b ≡ false → cond b x y ≡ y
  when_false x y e = subst (λ (t : Bool). cond t x y ≡ y) (sym e) refl

  -- a node that isn't there has no value
  pub value_absent : (nodes : List ℕ) (values : List X) (v : ℕ) → ((k : ℕ) → k < length nodes → slice_index nodes k ≢ v) → value_in nodes values v ≡ None
  value_absent [] values v absent = refl
  value_absent (n ∷ nodes) [] v absent = refl
  value_absent (n ∷ nodes) (x ∷ values) v absent =
      when_false (Some x) (value_in nodes values v) (unlike n v (absent 0 (omega arith)))
      ∙ value_absent nodes values v (λ k h. absent (suc k) (omega (arith, h)))

  -- the value of a node that is at a place
  found : (nodes : List ℕ) (values : List X) (v k : ℕ) (d : X) → length values ≡ length nodes → k < length nodes → slice_index nodes k ≡ v → ((j : ℕ) → j < k → slice_index nodes j ≢ v) → value_in nodes values v ≡ Some (get_or values k d)
  found [] values v k d as_many within here first = absurd (omega (arith, within))
  found (n ∷ nodes) [] v k d as_many within here first = absurd (omega (arith, as_many))
  found (n ∷ nodes) (x ∷ values) v zero d as_many within here first = when_true (Some x) (value_in nodes values v) (same n v here)
  found (n ∷ nodes) (x ∷ values) v (suc k) d as_many within here first =
      when_false (Some x) (value_in nodes values v) (unlike n v (first 0 (omega arith)))
      ∙ found nodes values v k d (omega (arith, as_many)) (omega (arith, within)) here (λ j h. first (suc j) (omega (arith, h)))

  pub value_found : {nodes : List ℕ} (values : List X) {v k : ℕ} (d : X) → length values ≡ length nodes → IsFirstAt nodes v k → value_in nodes values v ≡ Some (get_or values k d)
  value_found {nodes} values {v} {k} d as_many at = found nodes values v k d as_many at.within at.here at.first

  -- a value is written
  pub value_written : {nodes : List ℕ} (values : List X) {v k : ℕ} (y : X) → length values ≡ length nodes → IsFirstAt nodes v k → value_in nodes (set values k y) v ≡ Some y
  value_written {nodes} values {v} {k} y as_many at =
      value_found (set values k y) y (length-set values k y ∙ as_many) at
      ∙ ap (λ (z : X). Some z) (get_or-set_same values k y y (omega (arith, as_many, at.within)))

  -- it is at its place
  pub read_written : (values : List X) (k : ℕ) (y : X) → k < length values → slice_get (set values k y) k ≡ Some y
  read_written values k y within =
      slice_get-get_or (set values k y) k y (omega (arith, within, length-set values k y))
      ∙ ap (λ (z : X). Some z) (get_or-set_same values k y y within)

  -- those of the other nodes stay
  pub value_elsewhere : (nodes : List ℕ) (values : List X) (u k : ℕ) (y : X) → slice_index nodes k ≢ u → value_in nodes (set values k y) u ≡ value_in nodes values u
  value_elsewhere [] values u k y apart = refl
  value_elsewhere (n ∷ nodes) [] u k y apart = refl
  value_elsewhere (n ∷ nodes) (x ∷ values) u zero y apart = when_false (Some y) (value_in nodes values u) (unlike n u apart) ∙ sym (when_false (Some x) (value_in nodes values u) (unlike n u apart))
  value_elsewhere (n ∷ nodes) (x ∷ values) u (suc k) y apart = ap (λ (o : Option X). cond (nat_eq n u) (Some x) o) (value_elsewhere nodes values u k y apart)

  -- one more node comes with its value
  pub value_put : (nodes : List ℕ) (values : List X) (v : ℕ) (y : X) → length values ≡ length nodes → ((k : ℕ) → k < length nodes → slice_index nodes k ≢ v) → value_in (nodes ++ v ∷ []) (values ++ y ∷ []) v ≡ Some y
  value_put [] [] v y as_many absent = when_true (Some y) None (same v v refl)
  value_put [] (x ∷ values) v y as_many absent = absurd (omega (arith, as_many))
  value_put (n ∷ nodes) [] v y as_many absent = absurd (omega (arith, as_many))
  value_put (n ∷ nodes) (x ∷ values) v y as_many absent =
      when_false (Some x) (value_in (nodes ++ v ∷ []) (values ++ y ∷ []) v) (unlike n v (absent 0 (omega arith)))
      ∙ value_put nodes values v y (omega (arith, as_many)) (λ k h. absent (suc k) (omega (arith, h)))

  pub value_beside : (nodes : List ℕ) (values : List X) (v u : ℕ) (y : X) → length values ≡ length nodes → u ≢ v → value_in (nodes ++ v ∷ []) (values ++ y ∷ []) u ≡ value_in nodes values u
  value_beside [] [] v u y as_many apart = when_false (Some y) None (unlike v u (λ e. apart (sym e)))
  value_beside [] (x ∷ values) v u y as_many apart = absurd (omega (arith, as_many))
  value_beside (n ∷ nodes) [] v u y as_many apart = absurd (omega (arith, as_many))
  value_beside (n ∷ nodes) (x ∷ values) v u y as_many apart = ap (λ (o : Option X). cond (nat_eq n u) (Some x) o) (value_beside nodes values v u y (omega (arith, as_many)) apart)

  -- what is known of all nodes where one more comes with its value
  pub values_put : (nodes : List ℕ) {new_nodes : List ℕ} (values : List X) {new_values : List X} (v : ℕ) (y : X) → new_nodes ≡ nodes ++ v ∷ []
      → new_values ≡ values ++ y ∷ [] → length values ≡ length nodes → ((k : ℕ) → k < length nodes → slice_index nodes k ≢ v)
      → (value_in new_nodes new_values v ≡ Some y) × ((u : ℕ) → u ≢ v → value_in new_nodes new_values u ≡ value_in nodes values u)
  values_put nodes {new_nodes} values {new_values} v y nodes_are values_are as_many absent = (at v ∙ value_put nodes values v y as_many absent, λ u apart. at u ∙ value_beside nodes values v u y as_many apart) where
    at : (u : ℕ) → value_in new_nodes new_values u ≡ value_in (nodes ++ v ∷ []) (values ++ y ∷ []) u
    at u = ap (λ (ns : List ℕ). value_in ns new_values u) nodes_are ∙ ap (λ (xs : List X). value_in (nodes ++ v ∷ []) xs u) values_are
