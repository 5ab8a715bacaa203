-- The names that most proofs of this crate cite, passed on from one place. Declares nothing.
pub use Rattle.std.proofs.Common.{◌≡◌, [], ℕ, List, Some, Ok, inl, inr, subst, Option, None, refl, sym, ap, ◌∙◌, ◌∷◌, ◌++◌, arith, length, lit<}
pub use Rattle.std.proofs.alloc.Calls.{Al, handle_tells, Goes-blank}
pub use Rattle.std.proofs.cell.Inside.{Good}
pub use Rattle.std.proofs.raw_atomic.Walks.{proved_at, leaves}
pub use Rattle.std.specs.Box.Ownership.{box_owns}
pub use Rattle.std.specs.contracts.impls.GlobalAllocator.TheImpl.{ghosts}
pub use Rattle.bounds.specs.Bounds.{Bounded, IsVerified}
pub use Rattle.isa_model.specs.declared.frames.FrameHead.{FrameHead}
pub use Rattle.machine.specs.Running.{Running, ReturnsOutcome}
pub use base.Fml.{Fml, ftrue, flft, fsep}
pub use base.Logic.{never, id⊢, via, fst∗, snd∗, guard_i, SProp, ent, emp}
pub use contract.Monad.{fact_use, fact, fact_i}
pub use contract.Running.{tables}
pub use denote.Exit.{no, yes}
pub use denote.Param.{layout, param, bounded}
pub use denote.Param.Laws.{Laws, param_laws}
pub use denote.RattleType.{RattleType, Valss, owns}
pub use denote.RawPtr.{Ptr, Testable, block_ptr, null_ptr, ptr_val, in_a_block, tests_null}
pub use denote.Signature.{types_at, plain, type_at}
pub use denote.Steps.{nothing, only, heard}
pub use denote.Triple.Walked.{Stays, stay_dropped, walk_of, Goes-dropped}
pub use mir.Syntax.{impl, tnil, dnil, a_type, dcons}
pub use mir.Val.{Val, vptr, vstruct, vcons, vnil, of_list, has_ty, WT}
pub use prog.Wp.{WpFn}
pub use types.ByLocal.{alloc_all, pass_all, free_all, look_at, get, get_in, sets, lands_last, env, lands_as, sets_last}
pub use types.Kit.{Item, Goal, Seq, Step, step, ‵, ◌$◌, move, drop, fsplit, fjoin, fpick, fpack, feq_i, feq_l, use1, given, learn, raw, ◌⊛◌, some, later, at_ret, ◌∵◌, !, qed, by, keep, split, split3, join, pick, suffices, await, rewrite, use0}
pub use types.Part.{sub, whole, agg}
pub use types.Run.{stop, fld, of_opd, no_more, and_then, first, blocks, exec, returns, enter, lit, bin, branches}
