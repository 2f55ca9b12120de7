-- The versions after a change.
use Rattle.std.proofs.Common.{ℕ, ◌≡◌, ◌≢◌, ◌<◌, List, length, get_or, All, AllPairs, Contains, slice_index, arith, ap, sym, subst, ◌∙◌}
use Rattle.std.specs.List.{zip}
use Rattle.std.proofs.lemmas.List.{get_or-map, length-map}
use Rattle.std.proofs.lemmas.Slice.Zip.{firsts-zip, get_or-zip}
use Rattle.ch_laws.specs.Members.{contains-map, contains_place, place_of}
use Rattle.ch_overlay.specs.Change.{puts, AreRenewed}
use Rattle.ch_overlay.proofs.SeveralWrites.{length-puts, puts-here, puts-other}

module _ (nodes versions old : List ℕ) (many : length versions ≡ length nodes) where
  -- what is put is put at one of the nodes
  of_node : (p : ℕ × ℕ) → Contains (zip nodes versions) p → Contains nodes p.0
  of_node p among = subst (λ (ns : List ℕ). Contains ns p.0) (firsts-zip nodes versions many) (contains-map (λ (q : ℕ × ℕ). q.0) (zip nodes versions) p among)

  once : AllPairs (λ a b. a ≢ b) nodes → AllPairs (λ (p q : ℕ × ℕ). p.0 ≢ q.0) (zip nodes versions)
  once apart i j d low high same =
      let firsts = firsts-zip nodes versions many in
      let long : length (zip nodes versions) ≡ length nodes = sym (length-map (zip nodes versions) (λ (q : ℕ × ℕ). q.0)) ∙ ap length firsts in
      let at = λ (k : ℕ) (h : k < length (zip nodes versions)). sym (get_or-map (λ (q : ℕ × ℕ). q.0) (zip nodes versions) k d d.0 h) ∙ ap (λ (ns : List ℕ). get_or ns k d.0) firsts in
      apart i j d.0 low (omega (arith, high, long)) (sym (at i (omega (arith, low, high))) ∙ same ∙ at j high)

  -- the new version of one of them
  new_at : AllPairs (λ a b. a ≢ b) nodes → All (λ x. x < length old) nodes → (k : ℕ) → k < length nodes → slice_index (puts old (zip nodes versions)) (get_or nodes k 0) ≡ get_or versions k 0
  new_at apart inside k low =
      let long : length (zip nodes versions) ≡ length nodes = sym (length-map (zip nodes versions) (λ (q : ℕ × ℕ). q.0)) ∙ ap length (firsts-zip nodes versions many) in
      let at = get_or-zip nodes versions k (0, 0) low (omega (arith, low, many)) in
      puts-here (zip nodes versions) old (get_or nodes k 0, get_or versions k 0) 0 (once apart) (contains_place (zip nodes versions) k (0, 0) _ (omega (arith, low, long)) at) (inside k 0 low)

  pub renewed : AllPairs (λ a b. a ≢ b) nodes → All (λ x. x < length old) nodes → All (λ a. All (λ b. a < b) versions) old → AreRenewed nodes old (puts old (zip nodes versions))
  renewed apart inside above = record {
    count = length-puts (zip nodes versions) old;
    others = λ x none. puts-other (zip nodes versions) old x 0 (λ p among same. none (subst (λ n. Contains nodes n) same (of_node p among)));
    risen = λ x among.
        let k = among.0 in
        let is : slice_index (puts old (zip nodes versions)) x ≡ get_or versions k 0 = ap (λ n. slice_index (puts old (zip nodes versions)) n) (sym (place_of nodes x among)) ∙ new_at apart inside k among.1 in
        λ i d h.
        let low = above i d h k 0 (omega (arith, among.1, many)) in
        omega (arith, low, is);
  }
