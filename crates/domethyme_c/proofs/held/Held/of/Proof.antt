-- A handle is made of a box: its pointer, with what the box owned.
use Rattle.domethyme_c.proofs.Steps.{Some, [], ◌∷◌, refl, sym, subst, List, Val, proved_at, ent, id⊢, WpFn, fact, ‵}
use Rattle.domethyme_c.proofs.Steps.{raw, ◌⊛◌, some, later, ◌$◌, ◌∵◌, !, qed, done, move, keep, drop, use0, use1, split}
use Rattle.domethyme_c.proofs.Steps.{join, fjoin, pick, await, suffices, enter, of_opd, no_more, and_then, returns, agg}
use Rattle.domethyme_c.proofs.Steps.{alloc_all, pass_all, free_all, look_at, get, sets, lands_as, yes, Is, bare, lone}
use Rattle.domethyme_c.proofs.Steps.{layout, one_value, Ptr, ptr_val, RawPtr, in_a_block, plain, nothing, owned, only}
use Rattle.domethyme_c.proofs.Steps.{calls_at, triple_of, framed, Stays, walk_of, says, stay_dropped, Goes-dropped}
use Rattle.domethyme_c.proofs.Steps.{Goes-blank, ends_at, tables, ftrue, feq_l}
use base.Fraction.{full_share}
use base.Fml.{flft, fsep}
use base.Logic.{emp, never, fst∗}
use contract.BorrowLft.{◌⊑◌, ⊑_static}
use contract.Monad.{fact_i}
use mathlib.Core.Path.{ap, ◌∙◌}
use denote.RawPtr.{block_ptr, null_ptr}
use types.Logic.{sem}
use denote.Param.NoDrop.{glues}
use denote.Struct.Laws.{makes, owes}
use Rattle.std_alloc.proofs.boxed.Box.TheLaws as box
use Rattle.std_alloc.specs.contracts.boxed.Box.into_raw as callee
use Rattle.std_alloc.proofs.boxed.Box.into_raw.Met.{met}
use Rattle.std_alloc.specs.Box.Ownership.{box_owns}
use Rattle.std_heap.specs.contracts.Global as Heap
use Rattle.std_heap.proofs.Global.TheLaws as heap
use Rattle.std_heap.specs.contracts.GlobalAllocator.TheImpl.{ghosts, dict}
use Rattle.std_heap.proofs.GlobalAllocator.TheImpl.Met.{passed}
use Rattle.domethyme_c.proofs.Handles.{R, R-laws, T, T-laws, A, A-laws, none_of, Boxed}
use Rattle.domethyme_c.specs.contracts.held.Held.TheFields as Fields
use Rattle.domethyme_c.proofs.held.Held.TheFields.TheLaws as fields
use Rattle.domethyme_c.specs.contracts.held.Held.of as f
use Rattle.domethyme_c.proofs.held.Held.of.Statement.{statement}
use Rattle.domethyme_c.proofs.held.Held.of.Code as code
use Rattle.domethyme_c.proofs.Destruct++none.drop.Code as none

abbrev stayed : Stays f.ended.signature.params f.ended.kept
stayed = (stay_dropped _ yes, (stay_dropped _ yes, tt))

pub of_spec : {M : Type 1} → statement M
unfolding none.code
of_spec {M = M} 𝓤 𝓛 𝓜 𝓡 wired =
    let c = f.clauses 𝓛 𝓜.mem 𝓡.returns in let 𝓣 = tables 𝓤 𝓛.H 𝓜 𝓡 𝓡.env in let W = walk_of 𝓛 f.ended stayed c in
    proved_at 𝓛 f.ended stayed c 𝓜 𝓡 (
      Goes-dropped 𝓛 0 (plain (λ _. Heap.the_row)) yes (λ κs x w. refl),
      (Goes-blank 𝓛 0 (plain (λ _. Boxed)) yes (λ κs x w. tt), tt),
    )
    f.Key.name code.function (code.unfolded 𝓤 𝓛.H 𝓜 𝓡 wired) (λ z are.
    let a = z.0.3.0 in let b = z.0.3.1.0 in
    let K = triple_of 𝓛 (callee.signature T A ghosts dict (none_of A) (none_of T))
    (callee.spec T A ghosts dict (none_of A) (none_of T) 𝓛 𝓜.mem 𝓡.returns) in
    let at : List Val → List Val → W.Ghost = λ vs us. ((z.0.0, z.0.1, z.0.2, z.0.3, (vs, (us, tt))), tt) in
    let Run : List Val → List Val → Type 1 = λ vs us. ent 𝓤 (W.pre (at vs us))
    (WpFn 𝓤 𝓛.H 𝓣.C 𝓣.Λ code.function (W.args (at vs us)) (W.post (at vs us))) in
    let ha = heap.lowered a in
    let heap_is : Is Heap.the_row a (ha ∷ []) = subst (Is Heap.the_row a) (heap.lowers.val_is a z.0.4.0 are.0) are.0 in
    let box_typed = (box.the_field_loose R Heap.the_row ghosts R-laws heap.the_row_laws).lawful 𝓛 in
    subst (λ (vs : List Val). Run vs z.0.4.1.0) (sym (heap.lowers.val_is a z.0.4.0 are.0))
    (one_value (layout Boxed) (Run (ha ∷ [])) z.0.4.1.0 (box_typed.typed b z.0.4.1.0 are.1.0) (λ v good.
    let y : K.Ghost = ((([], ([], tt)), (full_share, (full_share, tt)), tt, (b, tt), (v ∷ [], tt)), tt) in
    qed 𝓛 ((‵ ftrue ⊛ ‵ (Heap.the_row.own_val a (ha ∷ [])) ⊛ ‵ (Boxed.own_val b (v ∷ [])) ⊛ ‵ ftrue) ∷ ‵ ftrue ∷ []) ∵
    split ! $ drop ! $ split ! $ drop ! $ split ! $ keep ! (0 ∷ []) $
    enter ! _ _ _ _ _ $ alloc_all ! (λ l. pass_all ! refl ((tt, ((tt, tt), tt)), (good, tt)) $
    sets ! (of_opd ! (get ! refl)) refl good $
    -- [the box; the locals]
    nothing ! $ move ! (1 ∷ 0 ∷ []) $ join ! $ nothing ! $ use0 𝓛 (‵ (flft [] full_share)) (𝓛.lfts.lft-nil full_share) $
    join ! $ use0 𝓛 (‵ (flft [] full_share)) (𝓛.lfts.lft-nil full_share) $ join ! $ join ! $
    nothing ! $ use0 𝓛 (raw (fact 𝓤 ([] ⊑ []))) (fact_i 𝓤 _ (emp 𝓤) (⊑_static [])) $ join ! $
    use0 𝓛 (raw (fact 𝓤 ([] ⊑ []))) (fact_i 𝓤 _ (emp 𝓤) (⊑_static [])) $ join ! $ move ! (1 ∷ 0 ∷ []) $ join ! $
    use1 𝓛 (raw (K.pre y)) (id⊢ 𝓤 _) $
    calls_at ! (framed 𝓤 𝓛.H 𝓜 𝓣) K
    (met 𝓤 𝓛 𝓜 𝓡 (code.calls-std_alloc::boxed::Box::into_raw 𝓡.env wired) T A T-laws A-laws ghosts dict (none_of A)
    (none_of T)
    (passed 𝓡.env (code.calls-std_heap::GlobalAllocator::allocate 𝓡.env wired)
    (code.calls-std_heap::GlobalAllocator::deallocate 𝓡.env wired)
    (code.calls-std_heap::GlobalAllocator::grow 𝓡.env wired) (code.calls-std_heap::GlobalAllocator::shrink 𝓡.env wired)
    M 𝓤 𝓛 𝓜 𝓡)
    (glues "domethyme_c::Destruct++none::drop" 𝓡.env (code.calls-domethyme_c::Destruct++none::drop 𝓡.env wired) A A-laws
    M 𝓤 𝓛 𝓜 𝓡)
    (glues "domethyme_c::Destruct++none::drop" 𝓡.env (code.calls-domethyme_c::Destruct++none::drop 𝓡.env wired) T T-laws
    M 𝓤 𝓛 𝓜 𝓡)) y (and_then ! (get ! refl) (no_more !)) (λ w.
    use1 𝓛 (later (some (λ (p : Ptr).
    ((‵ (flft [] full_share) ⊛ ‵ (flft [] full_share) ⊛ ‵ ftrue) ⊛ ‵ (RawPtr.own_val p (w ∷ []))) ⊛
    some (λ (_ : (Unit {0} × (Unit {0} × Unit {0})) × Unit {0}). ‵ (fsep (fsep ftrue (fsep ftrue ftrue)) ftrue)
    ⊛ ‵ (box_owns (ghosts.dealloc_token b.alloc) T p b.value))))) (id⊢ 𝓤 _) $
    await ! tt $ pick ! (λ p. split ! $ move ! (1 ∷ []) $ pick ! (λ _. split ! $ drop ! $
    in_a_block ! p (λ q. box_owns (ghosts.dealloc_token b.alloc) T q b.value)
    (fst∗ 𝓤 (never 𝓤) (sem 𝓛 (ghosts.dealloc_token b.alloc (bare (lone T.mir)) null_ptr))) (λ block offset is.
    let new : Fields.the_row.Denot = record { at = block_ptr block offset; alloc = a } in
    move ! (1 ∷ []) $ split ! $ drop ! $ feq_l ! (λ lands.
    lands_as ! (ap only (lands ∙ ap (λ (q : Ptr). ptr_val q ∷ []) is)) refl (tt, tt) $
    sets ! (of_opd ! (get ! refl)) refl (tt, tt) $
    sets ! (agg ! (and_then ! (get ! refl) (and_then ! (get ! refl) (no_more !)))) refl (tt, (tt, (((tt, tt), tt), tt))) $
    returns ! (look_at ! 0 refl) $ free_all ! refl $
    owned ! Fields.the_row (Is Fields.the_row) (makes Fields.the_type fields.the_plain 𝓛) new (fields.lowered new ∷ [])
    (owes Fields.the_type fields.the_laws new (refl, (heap_is, tt))) $ fjoin ! $
    suffices ! _ (ends_at 𝓛 f.ended stayed c (at (ha ∷ []) (v ∷ [])) (fields.lowered new)
    (record { at = block_ptr block offset; alloc = a; hierarchy = Some b.value.value }) (tt, (tt, tt)) (tt, (tt, tt))) $
    says ! refl $
    nothing ! $ nothing ! $ join ! $ nothing ! $ join ! $ nothing ! $ done !)))))))))
