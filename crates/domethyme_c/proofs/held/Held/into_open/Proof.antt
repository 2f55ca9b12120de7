-- An open handle gives its box back.
use Rattle.domethyme_c.proofs.Steps.{Some, [], ◌∷◌, refl, sym, List, Val, proved, id⊢, fact, ‵, raw, ◌⊛◌, some, later}
use Rattle.domethyme_c.proofs.Steps.{◌$◌, ◌∵◌, !, qed, done, move, keep, drop, use0, use1, split, join, fsplit, pick, await}
use Rattle.domethyme_c.proofs.Steps.{rewrite, suffices, enter, of_opd, no_more, and_then, returns, alloc_all, pass_all}
use Rattle.domethyme_c.proofs.Steps.{free_all, look_at, get, sets, yes, Is, ptr_val, plain, nothing, owned, heard}
use Rattle.domethyme_c.proofs.Steps.{triple_of, framed, Stays, walk_of, says, stay_dropped, Goes-blank, ends_at, tables}
use Rattle.domethyme_c.proofs.Steps.{ftrue}
use base.Fraction.{full_share}
use base.Fml.{flft, fsep}
use base.Logic.{emp}
use contract.BorrowLft.{◌⊑◌, ⊑_static}
use contract.Monad.{fact_i}
use mathlib.Core.Path.{ap, ◌∙◌, ◌≡◌}
use denote.RawPtr.{rawptr_Lawful}
use types.Kit.{feq_i}
use denote.Param.NoDrop.{glues}
use denote.Struct.Laws.{makes}
use Rattle.std_alloc.proofs.boxed.Box.TheLaws as box
use Rattle.std_alloc.specs.contracts.boxed.Box.from_raw as callee
use Rattle.std_alloc.proofs.boxed.Box.from_raw.Met.{met}
use Rattle.std_heap.specs.contracts.Global as Heap
use Rattle.std_heap.proofs.Global.TheLaws as heap
use Rattle.std_heap.specs.contracts.GlobalAllocator.TheImpl.{ghosts, dict}
use Rattle.std_heap.proofs.GlobalAllocator.TheImpl.Met.{passed}
use Rattle.domethyme_c.proofs.Handles.{R, R-laws, T, T-laws, A, A-laws, none_of, Boxed}
use Rattle.domethyme_c.specs.contracts.held.Held.TheFields as Fields
use Rattle.domethyme_c.proofs.held.Held.TheFields.TheLaws as fields
use Rattle.domethyme_c.specs.contracts.held.Held.into_open as f
use Rattle.domethyme_c.proofs.held.Held.into_open.Statement.{statement}
use Rattle.domethyme_c.proofs.held.Held.into_open.Code as code
use Rattle.domethyme_c.specs.contracts.held.Held as Held
use Rattle.domethyme_c.proofs.held.Held.TheLaws as held
use Rattle.ch_graph.specs.Hierarchy.{Hierarchy}
use Rattle.domethyme_c.specs.Handles.{holds}
use Rattle.std.specs.Prelude.{Option, None, IsSome}
use denote.Laws.{shows}
use denote.Struct.Laws.{owed}
use denote.Steps.{peeks}
use types.Run.{first, blocks, exec}
use types.Kit.{at_ret}
use types.ByLocal.{get_in, lands_last, env}
use types.Run.{fld, stop}
use types.Part.{sub, whole}
use denote.Triple.Call.{calls_at_last}
use Rattle.std.proofs.VecSteps.Shapes.{after}
use Rattle.domethyme_c.proofs.Destruct++none.drop.Code as none

some_of : (o : Option Hierarchy) → IsSome o → (x : Hierarchy) × (o ≡ Some x)
some_of (Some x) s = (x, refl)
some_of None s = absurd (cc)

abbrev stayed : Stays f.ended.signature.params f.ended.kept
stayed = (stay_dropped _ yes, tt)

pub into_open_spec : {M : Type 1} → statement M
unfolding none.code
into_open_spec {M = M} 𝓤 𝓛 𝓜 𝓡 wired =
    let c = f.clauses 𝓛 𝓜.mem 𝓡.returns in let 𝓣 = tables 𝓤 𝓛.H 𝓜 𝓡 𝓡.env in let W = walk_of 𝓛 f.ended stayed c in
    proved 𝓛 f.ended stayed c 𝓜 𝓡 (Goes-blank 𝓛 0 (plain (λ _. Held.the_row)) yes (λ κs x w. tt), tt)
    f.Key.name code.function (code.unfolded 𝓤 𝓛.H 𝓜 𝓡 wired)
    (λ κs. ((λ h. held.lowered h ∷ []), tt)) (λ κs. (held.lowers.val_is, tt)) (λ κs qs bounds a _ are.
    let h = a.0 in let us = held.lowered h ∷ [] in
    let here : Fields.the_row.Denot = record { at = h.at; alloc = h.alloc } in
    let Post = W.post ((κs, qs, bounds, a, (us, tt)), tt) in
    qed 𝓛 ((‵ ftrue ⊛ ‵ (Held.the_row.own_val h us) ⊛ ‵ ftrue) ∷ raw (fact 𝓤 (IsSome h.hierarchy)) ∷ []) ∵ move ! (1 ∷ []) $
    heard ! (IsSome h.hierarchy) (λ is_some. let found = some_of h.hierarchy is_some in
    split ! $ drop ! $ split ! $ keep ! (0 ∷ []) $ fsplit ! $
    peeks ! Fields.the_row _ (shows 𝓛 Fields.the_row) here us
    (λ fits. let heap_is = (owed Fields.the_type fields.the_laws here us fits).1.0 in drop ! $
    rewrite ! 0 (λ (o : Option Hierarchy). ‵ (holds h.alloc h.at o)) found.1 refl $
    -- [what the box owns]
    let ptr_ok = ((rawptr_Lawful 𝓛).typed h.at (ptr_val h.at ∷ []) refl).0 in
    let K = triple_of 𝓛 (callee.signature T A ghosts dict (none_of A))
    (callee.spec T A ghosts dict (none_of A) 𝓛 𝓜.mem 𝓡.returns) in
    let x : R.Denot = record { value = found.0 } in
    let y : K.Ghost = (
      (
        ([], ([], tt)),
        (full_share, (full_share, tt)),
        tt,
        (h.alloc, (h.at, tt)),
        (heap.lowered h.alloc ∷ [], (ptr_val h.at ∷ [], tt)),
      ),
      x,
    ) in
    enter ! _ _ _ _ _ $ alloc_all ! (λ l. pass_all ! refl ((held.the_field_loose.lawful 𝓛).typed h us are.0) $
    sets ! (of_opd ! (get_in ! (fld ! refl (stop !)) (sub ! 0 refl (whole !)))) refl ptr_ok $
    sets ! (of_opd ! (get_in ! (fld ! refl (stop !)) (sub ! 1 refl (whole !)))) refl (tt, ((tt, tt), tt)) $
    first ! $ blocks ! $ sets ! (of_opd ! (get ! refl)) refl ptr_ok $
    nothing ! $ feq_i ! (List Val) (ptr_val h.at ∷ []) _ refl $ join ! $
    owned ! Heap.the_row (Is Heap.the_row) (makes Heap.the_type heap.the_plain 𝓛) h.alloc (heap.lowered h.alloc ∷ [])
    heap_is $ join ! $
    nothing ! $ use0 𝓛 (‵ (flft [] full_share)) (𝓛.lfts.lft-nil full_share) $ join ! $
    use0 𝓛 (‵ (flft [] full_share)) (𝓛.lfts.lft-nil full_share) $ join ! $ join ! $
    move ! (1 ∷ 0 ∷ []) $ use0 𝓛 (raw (fact 𝓤 ([] ⊑ []))) (fact_i 𝓤 _ (emp 𝓤) (⊑_static [])) $ join ! $
    use0 𝓛 (raw (fact 𝓤 ([] ⊑ []))) (fact_i 𝓤 _ (emp 𝓤) (⊑_static [])) $ join ! $ move ! (1 ∷ 0 ∷ []) $ join ! $
    use1 𝓛 (raw (K.pre y)) (id⊢ 𝓤 _) $
    calls_at_last ! (framed 𝓤 𝓛.H 𝓜 𝓣) K
    (met 𝓤 𝓛 𝓜 𝓡 (code.calls-std_alloc::boxed::Box::from_raw 𝓡.env wired) T A T-laws A-laws ghosts dict (none_of A)
    (passed 𝓡.env (code.calls-std_heap::GlobalAllocator::allocate 𝓡.env wired)
    (code.calls-std_heap::GlobalAllocator::deallocate 𝓡.env wired)
    (code.calls-std_heap::GlobalAllocator::grow 𝓡.env wired) (code.calls-std_heap::GlobalAllocator::shrink 𝓡.env wired)
    M 𝓤 𝓛 𝓜 𝓡)
    (glues "domethyme_c::Destruct++none::drop" 𝓡.env (code.calls-domethyme_c::Destruct++none::drop 𝓡.env wired) A A-laws
    M 𝓤 𝓛 𝓜 𝓡)) y (and_then ! (get ! refl) (and_then ! (get ! refl) (no_more !))) (λ v.
    use1 𝓛 (later (some (λ (r : Boxed.Denot).
    ((‵ (flft [] full_share) ⊛ ‵ (flft [] full_share) ⊛ ‵ ftrue) ⊛ ‵ (Boxed.own_val r (v ∷ []))) ⊛
    some (λ (_ : Unit {0} × (Unit {0} × Unit {0})). ‵ (fsep ftrue (fsep ftrue ftrue))
    ⊛ (raw (fact 𝓤 (r.value ≡ x)) ⊛ raw (fact 𝓤 (r.alloc ≡ h.alloc))))))) (id⊢ 𝓤 _) $
    await ! tt $ pick ! (λ r. split ! $ split ! $ drop ! $ move ! (1 ∷ []) $
    pick ! (λ _. split ! $ drop ! $ split ! $ heard ! (r.value ≡ x) (λ value. drop ! $
    -- [the box; the locals]
    peeks ! Boxed _ (shows 𝓛 Boxed) r (v ∷ [])
    (λ is. let good = ((box.the_field_loose R Heap.the_row ghosts R-laws heap.the_row_laws).lawful 𝓛).typed r (v ∷ []) is in
    lands_last ! refl good.0 $ exec ! 𝓣.C 𝓣.Λ (env code.Mir.locals l) (after 3 code.function.body) (at_ret _ Post) $
    sets ! (of_opd ! (get ! refl)) refl good.0 $
    returns ! (look_at ! 0 refl) $ free_all ! refl $
    suffices ! _ (ends_at 𝓛 f.ended stayed c ((κs, qs, bounds, a, (us, tt)), tt) v r (tt, tt) (tt, tt)) $
    says ! (found.1 ∙ ap (λ (m : R.Denot). Some m.value) (sym value)) $
    nothing ! $ nothing ! $ join ! $ nothing ! $ done !)))))))))
