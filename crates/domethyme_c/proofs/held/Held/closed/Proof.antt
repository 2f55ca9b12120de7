-- A closed handle is null, and owns nothing.
use Rattle.domethyme_c.proofs.Steps.{[], ◌∷◌, refl, proved, null_ptr, Ptr, suffices, ends_at, says, join, done, ‵, ◌⊛◌, ◌$◌}
use Rattle.domethyme_c.proofs.Steps.{◌∵◌, !, qed, keep, fjoin, feq_i, enter, lit, no_more, and_then, returns, agg}
use Rattle.domethyme_c.proofs.Steps.{alloc_all, pass_all, free_all, look_at, get, sets, yes, plain, types_at, nothing}
use Rattle.domethyme_c.proofs.Steps.{owned, Stays, stay_dropped, Goes-dropped, owns, ftrue, None, Is}
use lib.Dec.{lit<}
use denote.Struct.Laws.{makes, owes}
use Rattle.std_heap.specs.contracts.Global as Heap
use Rattle.std_heap.proofs.Global.TheLaws as heap
use Rattle.domethyme_c.specs.contracts.held.Held.TheFields as Fields
use Rattle.domethyme_c.proofs.held.Held.TheFields.TheLaws as fields
use Rattle.domethyme_c.specs.contracts.held.Held.closed as f
use Rattle.domethyme_c.proofs.held.Held.closed.Statement.{statement}
use Rattle.domethyme_c.proofs.held.Held.closed.Code as code

abbrev stayed : Stays f.ended.signature.params f.ended.kept
stayed = (stay_dropped _ yes, tt)

pub closed_spec : {M : Type 1} → statement M
closed_spec 𝓤 𝓛 𝓜 𝓡 wired =
    let c = f.clauses 𝓛 𝓜.mem 𝓡.returns in
    proved 𝓛 f.ended stayed c 𝓜 𝓡 (Goes-dropped 𝓛 0 (plain (λ _. Heap.the_row)) yes (λ κs x w. refl), tt)
    f.Key.name code.function (code.unfolded 𝓤 𝓛.H 𝓜 𝓡 wired)
    (λ κs. ((λ a. heap.lowered a ∷ []), tt)) (λ κs. (heap.lowers.val_is, tt)) (λ κs qs bounds a _ are.
    let vs = heap.lowered a.0 ∷ [] in
    let new : Fields.the_row.Denot = record { at = null_ptr; alloc = a.0 } in
    qed 𝓛 ((‵ ftrue ⊛ ‵ (owns (types_at f.ended.signature.params κs) a (vs, tt))) ∷ ‵ ftrue ∷ []) ∵ keep ! [] $
    enter ! _ _ _ _ _ $ alloc_all ! (λ l. pass_all ! refl ((tt, ((tt, tt), tt)), tt) $
    sets ! (agg ! (and_then ! (lit ! tt) (and_then ! (get ! refl) (no_more !)))) refl
    (tt, (record { fits = lit< tt }, (((tt, tt), tt), tt))) $
    returns ! (look_at ! 0 refl) $ free_all ! refl $
    feq_i ! Ptr null_ptr null_ptr refl $
    owned ! Fields.the_row (Is Fields.the_row) (makes Fields.the_type fields.the_plain 𝓛) new (fields.lowered new ∷ [])
    (owes Fields.the_type fields.the_laws new (refl, (are.0, tt))) $
    fjoin ! $
    suffices ! _ (ends_at 𝓛 f.ended stayed c ((κs, qs, bounds, a, (vs, tt)), tt) (fields.lowered new)
    (record { at = null_ptr; alloc = a.0; hierarchy = None }) (tt, tt) (tt, tt)) $ says ! refl $
    nothing ! $ nothing ! $ join ! $ nothing ! $ done !))
