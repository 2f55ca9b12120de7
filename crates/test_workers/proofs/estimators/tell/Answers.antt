use Rattle.std.proofs.Common.{◌≡◌, ℕ, ◌+◌, List, [], ◌∷◌, ◌++◌, take, get_or, ap, sym, ◌∙◌}
use Rattle.std.proofs.lemmas.List.{take_more}
use Rattle.ch_laws.specs.Contraction.{Contraction}
use Rattle.test_workers.proofs.estimators.tell.Goals as goal

-- the entries so far, and the next
one_told : (log before after : List Contraction) (i : ℕ) (e : Contraction) → take (i + 1) log ≡ take i log ++ get_or log i e ∷ [] → e ≡ get_or log i e
    → before ≡ take i log → after ≡ before ++ e ∷ [] → after ≡ take (i + 1) log
one_told log before after i e more is was told = told ∙ ap (λ (es : List Contraction). es ++ e ∷ []) was ∙ ap (λ (x : Contraction). take i log ++ x ∷ []) is ∙ sym more

pub entries-preserved : goal.entries-preserved
entries-preserved g c =
    let same = ap (λ v. (goal.Estimator-dyn g v).heard v.1) c.deref_box_mut-1.ensures.value.1 in
    one_told c.args.log.now _ _ c.entries.i c.index-log-i.result (take_more c.args.log.now c.entries.i c.index-log-i.result c.entries-test.true)
    c.index-log-i.is (same ∙ c.entries.invariant) c.in_ok-told.ensures.0
