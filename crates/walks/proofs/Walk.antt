-- The names that a walk uses, from where they stand, so that a proof brings them in by one `use` line.
-- Assumes nothing.
pub use mathlib.Core.Path.{◌≡◌, refl, sym, ap, ◌∙◌}
pub use mathlib.Core.Bool.{Bool, true, false, not, ◌&&◌}
pub use mathlib.Core.List.{List, [], ◌∷◌}
pub use Prim.Native.Nat.{ℕ, zero, suc, ◌+◌, ◌*◌, ◌^◌, ◌<◌, ◌≤◌}
pub use native.Mathlib.Omega.{arith}
pub use lib.Dec.{T, ltb, ltb→lt, nltb→le, lit<}
pub use lib.ListN.{length, get_or, set, take, length-set}
pub use borrow.Author.Tests.{lt-ltb, le-ltb}
pub use seplogic.Ra.Ura.{Ura}
pub use base.Fraction.{full_share}
pub use mir.Syntax.{named, imm, mut, w8, w16, w32, w64, Ty, ty_ptr, ty_int, ty_bool, ty_ref}
pub use mir.Syntax.{Fn, Callee, Body, ty_array, erased, local, value_local, memory_slot, place, field, deref, copy, int, rv_opd, op2, lt, mul, add, offset, unsigned, addr_of, aggregate, seq, assign, block, loop, skip, exit, cond, call, return}
pub use mir.Val.{Val, vunit, vint, vptr, vbool}
pub use base.Logic.{SProp, ent, sep, emp, id⊢, via, fst∗}
pub use base.Fml.{Lft, GName, Share, Fml, ftrue, fat, froom, fdies, flft}
pub use prog.Memory.{Memory}
pub use prog.Routine.{Routine}
pub use prog.Wp.{Heap, Env, WpFn, Wp, Tables, after_block, after_seq, at_return}
unfoldable pub use prog.Wp.{after_turn}
pub use types.Logic.{Logic, sem}
pub use contract.Monad.{Fun, fact}
pub use contract.Running.{tables}
unfoldable pub use contract.Running.{tables_of}
pub use types.Kit.{Item, Sq, runs, any_q, at_ret, ‵, raw, ◌⊛◌, ⋆, ◌$◌, ◌∵◌, !, qed, by, use0, use1, use2, move, keep, drop, group, split, join, rewrite, fsplit, fjoin, feq_l, feq_i, suffices, frame, done}
pub use types.Part.{agg, whole, sub, look_in}
pub use types.Run.{look, look_raw, store, store_raw, init, forget, stop, hop, fld, from, load, lit, true_lit, unit_lit, addr, of_opd, bin, and_then, no_more, assigns, assigns_last, first, branches, blocks, loops, again, Below, exec, land, returns, enter}
pub use types.ByLocal.{env, alloc_all, pass_all, free_all, look_at, look_in_at, set_at, get, get_in, through, sets, sets_last, lands_as, holding, forget_but}
pub use sound.WpLaws.{fm_of}
pub use denote.RattleType.{RattleType, owns}
pub use denote.Laws.{Is}
pub use denote.Memory.{pointee, mem}
pub use denote.Plain.{uint_vals, uint_Tells, uint_Makes, bool_vals, bool_Tells, bool_Makes}
pub use denote.Builtin.{u8, u16, u32, u64, usize, bool}
pub use denote.Slice.{slice_val, slice_ty, MutSlice, ShrSlice, Room, shr_slice_vals, mut_slice_vals, mut_slice_Tells, shr_slice_Tells, shr_slice_copy, finally}
pub use denote.Index.{place_is}
pub use denote.Signature.{plain, shr_slice_of, mut_slice_of}
pub use denote.Steps.{nothing, owned, heard}
pub use denote.Triple.Entry.{on_entry}
pub use denote.Triple.Clauses.{Clauses, Ended, closing, Lasts, lasts}
pub use denote.Triple.Spec.{triple_of, Meets}
pub use denote.Triple.Statement.{Contract, Triple}
pub use denote.Triple.Table.{entered, cited}
pub use denote.Triple.Walked.{says, needs, Stays, stay_none, stay_dropped, stay_slice, stay_none_slice, gave_slice, walk_of, Goes-none, Goes-dropped, Goes-slice, Goes-none_slice, Goes-gave_slice, ends_at}
pub use denote.Exit.{yes}
