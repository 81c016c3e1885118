-- The words that a walk is written in, gathered from the logic, so that each walk takes them from one place.
pub use seplogic.Ra.Ura.{Ura}
pub use seplogic.Ra.TreeShare.{full_share}
pub use mir.Syntax.{named, w64, erased, Ty, loop, imm, w8, ty_int, ty_bool, ty_ptr, ty_ref, ty_array, w32}
pub use mir.Val.{Val, WT, has_ty, vint, Fits, vbool, vptr}
pub use base.Logic.{SProp, ent, emp, via, fst∗, sep, ex, guard, ex_i, ex_e, guard_i, guard_e}
pub use base.Fml.{Lft, Share, Fml, ftrue, flft, GName, fat, froom, fdies}
pub use prog.Memory.{Memory}
pub use prog.Routine.{Routine}
pub use prog.Wp.{Heap, Calls, Loops, WpFn, Out, Env, after_seq, after_block, Wp, at_return, Tables}
unfoldable pub use prog.Wp.{after_turn}
pub use ghost.Atoms.{Atoms}
pub use types.Logic.{sem}
pub use contract.Monad.{Fun}
pub use contract.Running.{tables}
unfoldable pub use contract.Running.{tables_of}
pub use contract.Lifetimes.{Lfts}
pub use types.Kit.{‵, raw, ◌⊛◌, ◌$◌, ◌∵◌, !, qed, by, move, use1, split, fsplit, fjoin, suffices, frame, given, ⋆, drop, use2, learn, done, join, Item, any_q, at_ret, keep, rewrite, feq_l}
pub use types.Part.{agg, whole, sub, look_in, rep}
pub use types.Run.{look, init, forget, stop, from, load, lit, and_then, no_more, assigns, returns, enter, alloc1, alloc0, params1, pass1, pass0, free1, free0, fld, of_opd, land, look_raw, store, hop, bin, assigns_last, stays, leaves_loop, exec, addr}
pub use sound.WpLaws.{FmC, fm_of}
pub use sound.Loop.{loop_rule}
pub use denote.RattleType.{owns, RattleType}
pub use denote.Laws.{Is, shows}
pub use denote.Plain.{uint_Makes, uint_vals, uint_Tells, uint_copy, uint_Lawful}
pub use denote.Builtin.{u8, usize, u32}
pub use denote.Ref.{Bor, MutBor, NamedLft}
pub use denote.Signature.{plain, named_lft}
pub use denote.Slice.{slice_val, ShrSlice, shr_slice_vals, mut_slice_vals, shr_slice_Tells, shr_slice_Lawful, shr_slice_copy, slice_ty, Room, MutSlice, finally, mut_slice_Tells}
pub use denote.Steps.{nothing, owned, peeks}
pub use denote.Struct.Rest.{own_shut, all_own, field_own, rest, own_open, own_out}
pub use denote.Triple.Entry.{on_entry, Vals}
pub use denote.Triple.Walked.{says, Stays, stay_none_slice, walk_of, Goes-none_slice, ends_at, needs, stay_none, Goes-none, gave_slice, Goes-gave_slice}
pub use denote.Exit.{yes}
pub use denote.Struct.Declared.{Declared}
pub use denote.Struct.Values.{Values}
pub use denote.Triple.Statement.{Contract, Triple}
pub use denote.Triple.Call.{calls_at}
pub use denote.Triple.Spec.{triple_of}
pub use denote.Triple.Table.{cited}
pub use denote.Triple.Clauses.{lasts}
pub use denote.Memory.{pointee}
pub use denote.Array.{Array, array_val, Array-repeat, Array-Lawful}
pub use denote.Index.{place_is, elem_out, elem_back, looks_slice, shuts_slice}
