-- The names that most proofs of this crate cite, passed on from one place. Declares nothing.
pub use Rattle.std.proofs.Common.{◌≡◌, take}
pub use Prim.Native.Nat.{ℕ, ◌+◌, ◌-◌, ◌≤◌, ◌<◌, ◌^◌}
pub use base.Fml.{Fml, Share, ftrue, fat, feq, Lft, GName, flft}
pub use base.Logic.{ent, sep, SProp}
pub use borrow.Table.Elements.{at, at_byte, length-take-le, length_app}
pub use denote.Array.{Array, array_val, array_vals, Array-Tells, Array-Lawful, array_copy}
pub use denote.Builtin.{u8, usize}
pub use denote.Index.{row, opens_slice, closes_slice, looks_slice, shuts_slice}
pub use denote.Plain.{uint_vals, uint_Tells, uint_Lawful, uint_copy}
pub use denote.Steps.{nothing}
pub use mir.Syntax.{ty_array, ty_int, w8, Args, Body, Fn, named, w64, a_number, seq, assign, place, rv_opd, opd_unit, return, copy}
pub use mir.Val.{Val, vint, vunit}
pub use seplogic.Ra.Ura.{Ura}
pub use types.Kit.{‵, ◌⊛◌, ◌$◌, ◌∵◌, !, qed, by, move, drop, use1, use2, split, fsplit, fjoin, feq_i, rewrite, done, raw, given, at_ret, keep, group, split3, join, learn, suffices, frame}
pub use types.Logic.{Logic, sem}
pub use Rattle.flatmem.specs.Bytes.{with_bytes}
