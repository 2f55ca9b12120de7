use Rattle.std.proofs.Common.{ℕ, ◌≡◌, ◌<◌, ◌+◌, ◌^◌, ◌⊎◌, inl, inr, List, [], ◌∷◌, ◌++◌, Some, length, slice_get, AllPairs, sym, subst, ap, ◌∙◌, ⊎_elim, arith}
use Rattle.std.proofs.lemmas.List.{get_or_append_left, get_or_push, length_push}
use Rattle.std.proofs.lemmas.Option.{slice_get-get_or, slice_get_within, get_or_from_slice_get}
use Rattle.std.proofs.lemmas.Bool.{cases_eq}
use Rattle.ch_laws.specs.Contraction.{Contraction}
use Rattle.ch_contract.specs.Ledger.{IsLog}
use Rattle.test_workers.proofs.accounts.falling_log.Goals as goal

-- an entry of a longer log is one of the log, or the last
pushed : (log : List Contraction) (e : Contraction) (k : ℕ) (x : Contraction) → slice_get (log ++ e ∷ []) k ≡ Some x → (slice_get log k ≡ Some x) ⊎ ((length log ≡ k) × (e ≡ x))
pushed log e k x is =
    let inside = slice_get_within (log ++ e ∷ []) k x is in
    let long = length_push log e in
    let here = get_or_from_slice_get (log ++ e ∷ []) k x x is in
    ⊎_elim
    (λ last. inr (sym last, sym (get_or_push log e x k (sym last)) ∙ here))
    (λ apart. let low : k < length log = omega arith in inl (slice_get-get_or log k x low ∙ ap (λ y. Some y) (sym (get_or_append_left log (e ∷ []) x k low) ∙ here)))
    (cases_eq k (length log))

-- a log goes on with the entry of the next rank
log_push : (log : List Contraction) (e : Contraction) → IsLog log → length log < 2 ^ 25 → e.rank ≡ length log → AllPairs (λ x y. x < y) e.neighbours → e.node < 2 ^ 25 → IsLog (log ++ e ∷ [])
log_push log e is few rank rising node = record {
  few = let long = length_push log e in omega arith;
  ranks = λ k x here. ⊎_elim (is.ranks k x) (λ last. sym (ap (λ (y : Contraction). y.rank) last.1) ∙ rank ∙ last.0) (pushed log e k x here);
  rising = λ k x here. ⊎_elim (is.rising k x) (λ last. subst (λ (y : Contraction). AllPairs (λ a b. a < b) y.neighbours) last.1 rising) (pushed log e k x here);
  nodes = λ k x here. ⊎_elim (is.nodes k x) (λ last. subst (λ (y : Contraction). y.node < 2 ^ 25) last.1 node) (pushed log e k x here);
}

-- no pairs of nothing
none_rise : AllPairs (λ x y. x < y) []
none_rise i j d less within = absurd (omega arith)

pub ranks-preserved : goal.ranks-preserved
ranks-preserved c =
    let is = c.in_ok-push.ensures.items in
    let old = c.ranks.log.items in
    let few : length old < 2 ^ 25 = omega (arith, c.ranks.invariant.count, c.ranks-test.true, c.requires) in
    record {
      count = ap length is ∙ length_push old _ ∙ ap (λ n. n + 1) c.ranks.invariant.count;
      log = subst IsLog (sym is)
          (log_push old _ c.ranks.invariant.log few (sym c.ranks.invariant.count) (subst (λ l. AllPairs (λ x y. x < y) l) (sym c.new-neighbours.ensures.items) none_rise) (omega (arith, c.requires)));
    }
