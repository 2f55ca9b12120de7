-- What the proofs by hand of a handle cite.
pub use Rattle.std.proofs.Common.{◌≡◌, ℕ, List, [], ◌∷◌, ◌++◌, refl, sym, ap, ◌∙◌, subst}
pub use Rattle.std.specs.Prelude.{Some, None}
pub use Rattle.std.proofs.raw_atomic.Walks.{proved, proved_at, leaves}
pub use seplogic.Ra.Ura.{Ura}
pub use base.Logic.{SProp, ent, emp, id⊢}
pub use base.Fml.{ftrue, fsep, feq}
pub use mir.Syntax.{impl, tnil, tcons, dnil, dcons}
pub use mir.Raw.{raw as bare}
pub use mir.Val.{Val, vint, vptr, vstruct, vnil, vcons, has_ty, WT}
pub use prog.Wp.{WpFn}
pub use types.Logic.{Logic, sem}
pub use contract.Monad.{fact}
pub use contract.Running.{tables}
pub use types.Kit.{‵, raw, ◌⊛◌, some, later, prop, Sq, ◌$◌, ◌∵◌, !, qed, by, done, move, keep, drop, use0, use1, use2, split, join, fsplit, fjoin, feq_i, feq_l, pick, await, rewrite, suffices}
pub use types.Run.{enter, of_opd, lit, stop, fld, no_more, and_then, returns}
pub use types.Part.{agg, sub, whole}
pub use types.ByLocal.{alloc_all, pass_all, free_all, look_at, get, get_in, sets, lands_as}
pub use denote.Exit.{yes, no}
pub use denote.Laws.{Is}
pub use denote.Memory.{lone}
pub use denote.Param.{arg, layout}
pub use denote.Param.Laws.{arg_laws}
pub use denote.Param.Steps.{one_value}
pub use denote.RattleType.{RattleType, owns}
pub use denote.RawPtr.{Ptr, RawPtr, block_ptr, null_ptr, ptr_val, in_a_block}
pub use denote.Signature.{plain, types_at}
pub use denote.Steps.{nothing, owned, heard, only}
pub use denote.Triple.Call.{calls_at}
pub use denote.Triple.Spec.{triple_of}
pub use denote.Triple.Table.{framed}
pub use denote.Triple.Walked.{Stays, walk_of, says, stay_dropped, Goes-dropped, ends_at}
pub use Rattle.core.proofs.alloc.Calls.{Goes-blank}
