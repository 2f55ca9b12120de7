-- A handle is closed where its pointer is null, which may be tested: an open one's is the start of a block.
use Rattle.domethyme_c.proofs.Steps.{◌≡◌, [], ◌∷◌, refl, sym, subst, List, Val, ent, proved, fact, ‵, raw, ◌⊛◌, ◌$◌, ◌∵◌, ! }
use Rattle.domethyme_c.proofs.Steps.{qed, done, move, keep, drop, use0, use1, split, join, fsplit, fjoin, rewrite, suffices}
use Rattle.domethyme_c.proofs.Steps.{enter, of_opd, fld, stop, lit, returns, sub, whole, alloc_all, pass_all, free_all}
use Rattle.domethyme_c.proofs.Steps.{look_at, get, sets, bare, lone, Ptr, ptr_val, block_ptr, null_ptr, in_a_block, plain}
use Rattle.domethyme_c.proofs.Steps.{nothing, heard, feq_l, feq_i, Stays, walk_of, says, ends_at, Some, None, emp, ftrue}
use Rattle.domethyme_c.proofs.Steps.{sem, Ura, Logic}
use base.Fml.{flft, feq}
use base.Logic.{never, fst∗, guard_i}
use base.Fraction.{full_share}
use contract.Monad.{fact_i, fact_use}
use denote.Laws.{shows}
use denote.Memory.{cell_at}
use denote.RawPtr.{Testable, tests_null, rawptr_Lawful}
use denote.Ref.{MutRef, mut_vals, mut_Tells}
use denote.Steps.{opens, closes, peeks}
use denote.Triple.Walked.{stay_ref, Goes-ref}
use lib.Dec.{lit<}
use mathlib.Core.Bool.{Bool, true, false}
use mir.Syntax.{named, ptr_eq}
use mir.Val.{vbool, vnull, op2_val}
use types.Kit.{fsplit3, frame, group, given, learn}
use types.Part.{look_in}
use types.Run.{load, bin}
use types.ByLocal.{through, is}
use Rattle.core.specs.Bool.{MatchBool}
use Rattle.std.specs.Prelude.{Option, IsSome}
use Rattle.std.proofs.GlobalToken.{dealloc_token-Testable}
use Rattle.std_heap.specs.declared.Global.{Global}
use Rattle.std_heap.specs.contracts.GlobalAllocator.TheImpl.{ghosts}
use Rattle.core.specs.contracts.mem.manually_drop.ManuallyDrop as Kept
use Rattle.domethyme_c.specs.Handles.{holds}
use Rattle.ch_graph.specs.Hierarchy.{Hierarchy}
use Rattle.domethyme_c.specs.contracts.engine.Engine as Engine
use Rattle.domethyme_c.specs.contracts.held.Held as Held
use Rattle.domethyme_c.proofs.held.Held.TheLaws as held
use Rattle.domethyme_c.specs.contracts.held.Held.is_closed as f
use Rattle.domethyme_c.proofs.held.Held.is_closed.Statement.{statement}
use Rattle.domethyme_c.proofs.held.Held.is_closed.Code as code

-- the answer of the comparison with null
abbrev is_null : Ptr → Bool
is_null (block_ptr b o) = false
is_null null_ptr = true

compares : (p : Ptr) → op2_val ptr_eq (ptr_val p) vnull ≡ vbool (is_null p)
compares (block_ptr b o) = refl
compares null_ptr = refl

-- what a handle's memory says of its pointer
record Told (p : Ptr) (o : Option Hierarchy) : Type 0 where
  may : Testable p
  answer : MatchBool (is_null p) (o ≡ None) (IsSome o)

module _ {M : Type 1} {𝓤 : Ura M} (𝓛 : Logic 𝓤) (alloc : Global) where
  tells : (p : Ptr) (o : Option Hierarchy) → ent 𝓤 (sem 𝓛 (holds alloc p o)) (fact 𝓤 (Told p o))
  tells p None =
      qed 𝓛 (‵ (feq Ptr p null_ptr) ∷ []) ∵ feq_l ! (λ null.
      use0 𝓛 (raw (fact 𝓤 (Told p None)))
      (fact_i 𝓤 _ (emp 𝓤) (subst (λ (q : Ptr). Told q None) (sym null) (record { may = lit< tt; answer = refl }))) $ done !)
  tells p (Some x) =
      qed 𝓛 (‵ (holds alloc p (Some x)) ∷ []) ∵
      in_a_block ! p (λ q. holds alloc q (Some x))
      (fst∗ 𝓤 (never 𝓤) (sem 𝓛 (ghosts.dealloc_token alloc (bare (lone (Kept.the_row Engine.the_row).mir)) null_ptr)))
      (λ b o lies.
      fsplit ! $ drop ! $ use1 𝓛 (raw (fact 𝓤 (Testable (block_ptr b o))))
      (dealloc_token-Testable 𝓛 alloc _ (block_ptr b o)) $ heard ! _ (λ may.
      use0 𝓛 (raw (fact 𝓤 (Told p (Some x))))
      (fact_i 𝓤 _ (emp 𝓤) (subst (λ (q : Ptr). Told q (Some x)) (sym lies) (record { may = may; answer = refl }))) $
      done !))

abbrev stayed : Stays f.ended.signature.params f.ended.kept
stayed = (stay_ref (0 ∷ []) tt (plain (λ _. Held.the_row)), tt)

pub is_closed_spec : {M : Type 1} → statement M
is_closed_spec 𝓤 𝓛 𝓜 𝓡 wired =
    let c = f.clauses 𝓛 𝓜.mem 𝓡.returns in let W = walk_of 𝓛 f.ended stayed c in
    proved 𝓛 f.ended stayed c 𝓜 𝓡 (Goes-ref 𝓛 1 0 tt (plain (λ _. Held.the_row)), tt)
    f.Key.name code.function (code.unfolded 𝓤 𝓛.H 𝓜 𝓡 wired)
    (λ κs. (mut_vals, tt)) (λ κs. (mut_Tells (named 0) κs.0 Held.the_row, tt)) (λ κs qs bounds a _ are.
    let b = a.0.ref_ptr.0 in let o = a.0.ref_ptr.1 in let h = a.0.now in let vs = mut_vals a.0 in
    let y : W.Ghost = ((κs, qs, bounds, a, (vs, tt)), tt) in
    qed 𝓛 (((‵ (flft κs.0 qs.0) ⊛ ‵ ftrue) ⊛ ‵ ((MutRef (named 0) κs.0 Held.the_row).own_val a.0 vs) ⊛ ‵ ftrue) ∷ ‵ ftrue
    ∷ []) ∵
    split ! $ split ! $ move ! (2 ∷ []) $ split ! $ keep ! (0 ∷ 2 ∷ []) $
    enter ! _ _ _ _ _ $ alloc_all ! (λ l. pass_all ! refl ((tt, tt), tt) $
    fsplit3 ! $ move ! (1 ∷ 2 ∷ 3 ∷ []) $ opens ! tt Held.the_row b o (λ us.
    move ! (1 ∷ []) $ peeks ! Held.the_row _ (shows 𝓛 Held.the_row) h us (λ fits. fsplit ! $ move ! (1 ∷ []) $
    use1 𝓛 (given (Told h.at h.hierarchy) (‵ (holds h.alloc h.at h.hierarchy)))
    (fact_use 𝓤 _ (tells 𝓛 h.alloc h.at h.hierarchy) (λ told. guard_i 𝓤 _ _ told)) $ learn ! (λ told.
    let Cell = λ (ws : List Val). ‵ (cell_at full_share Held.the_row.mir ws b o) in
    rewrite ! 2 Cell (held.lowers.val_is h us fits) refl $
    -- [what the handle holds; its fields; their cell; the open borrow, in three entries]
    sets ! (of_opd ! (load ! (through ! refl (fld ! refl (stop !))) (look_in ! 2 (sub ! 0 refl (whole !))))) refl
    ((rawptr_Lawful 𝓛).typed h.at (ptr_val h.at ∷ []) refl).0 $
    sets ! (is ! (bin ! (get ! refl) (lit ! tt) (tests_null h.at told.may)) (compares h.at)) refl (tt, tt) $
    rewrite ! 2 Cell (sym (held.lowers.val_is h us fits)) refl $ move ! (1 ∷ []) $ fjoin ! $ move ! (1 ∷ []) $
    closes ! tt Held.the_row h us b o $
    -- [two parts of the reference; the token; its first part]
    returns ! (look_at ! 0 refl) $ free_all ! refl $ move ! (3 ∷ []) $
    suffices ! _ (ends_at 𝓛 f.ended stayed c y (vbool (is_null h.at)) (is_null h.at) (h, tt) (tt, tt)) $
    says ! (told.answer, refl) $
    group ! 3 $ nothing ! $ move ! (1 ∷ 0 ∷ []) $ join ! $ nothing ! $ move ! (2 ∷ 0 ∷ []) $ join ! $ frame ! $ frame ! $
    feq_i ! _ (vbool (is_null h.at) ∷ []) _ refl $ done !)))))
