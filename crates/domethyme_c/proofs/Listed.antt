-- What is made of links one by one.
use Rattle.std.proofs.Common.{ℕ, ◌≡◌, ◌+◌, ◌^◌, ◌<◌, ◌≤◌, ◌∙◌, List, [], ◌∷◌, ◌++◌, All, drop, length, get_or, take, ap, refl, sym, subst, arith, suc}
use Rattle.std.proofs.Math.Seq.{take-suc}
use Rattle.std.proofs.lemmas.List.{append-nil, append_assoc, take_all}
use Rattle.ch_graph.specs.declared.link.Link.{Link}
use Rattle.ch_graph.specs.Hierarchy.{Hierarchy}
use Rattle.ch_sums.specs.Numbers.{AreNumbersOf}
use Rattle.domethyme_c.specs.Sets.{IsNumbersAnswer, IsNumbersAnswer.made, arc_at, arcs_of, digest_link, digest_links, digest_of}
use Rattle.domethyme_c.specs.declared.lengths.Pair.{Pair}

-- one link more
take-more : (links : List Link) (k : ℕ) (d : Link) → k < length links → take (k + 1) links ≡ take k links ++ get_or links k d ∷ []
take-more links k d low =
    let next : suc k ≡ k + 1 = omega arith in
    subst (λ n. take n links ≡ take k links ++ get_or links k d ∷ []) next (take-suc links k d low)

pub all_links : (links : List Link) (k : ℕ) → length links ≤ k → take k links ≡ links
all_links links k high = take_all k links high

digest-push : (digest : ℕ) (links : List Link) (l : Link) → digest_links digest (links ++ l ∷ []) ≡ digest_link (digest_links digest links) l
digest-push digest [] l = refl
digest-push digest (x ∷ links) l = digest-push (digest_link digest x) links l

pub digest_more : (links : List Link) (k : ℕ) (d : Link) → k < length links → digest_links 0 (take (k + 1) links) ≡ digest_link (digest_links 0 (take k links)) (get_or links k d)
digest_more links k d low = ap (digest_links 0) (take-more links k d low) ∙ digest-push 0 (take k links) (get_or links k d)

arcs-push : (links : List Link) (l : Link) → arcs_of (links ++ l ∷ []) ≡ arcs_of links ++ arc_at l l.middle
arcs-push [] l = append-nil (arc_at l l.middle)
arcs-push (x ∷ links) l = ap (λ (ps : List Pair). arc_at x x.middle ++ ps) (arcs-push links l) ∙ sym (append_assoc (arc_at x x.middle) (arcs_of links) (arc_at l l.middle))

pub arcs_more : (links : List Link) (k : ℕ) (d : Link) → k < length links → arcs_of (take (k + 1) links) ≡ arcs_of (take k links) ++ arc_at (get_or links k d) (get_or links k d).middle
arcs_more links k d low = ap arcs_of (take-more links k d low) ∙ arcs-push (take k links) (get_or links k d)

-- A digest and numbers are a set
pub set-made : (h : Hierarchy) (given numbers : List ℕ) (digest : ℕ) (old new : List ℕ) → digest ≡ digest_of h → All (λ n. n ≤ 2 ^ 36) numbers → AreNumbersOf h given numbers → new ≡ (digest ∷ numbers) ++ drop (length numbers + 1) old → IsNumbersAnswer h given 0 old new
set-made h given numbers digest old new is small are put =
    let one : length numbers + 1 ≡ length (digest ∷ numbers) = omega arith in
    made (digest ∷ numbers) refl (record {
      is = record { count = omega (arith, are.count); digest = is; small = small };
      numbers = are;
    }) (put ∙ ap (λ n. (digest ∷ numbers) ++ drop n old) one)
