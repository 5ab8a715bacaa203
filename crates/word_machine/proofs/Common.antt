-- The names that most proofs of this crate cite, passed on from one place. Declares nothing.
pub use Rattle.std.proofs.Common.{◌≡◌, ℕ, ◌+◌, ◌<◌, List, length, take, drop, refl, ap, subst, ◌∙◌, arith, length-set, All, slice_set, slice_index, ap₂, sym, ℤ, pos, negsuc, ◌≢◌, ◌≤◌, suc, ◌-◌, ◌*◌, ◌/◌, true, false, nat_le, ◌==◌, ◌≤ℤ◌, ◌<ℤ◌, Option, Some, None, zero, add-one, vec_capacity, [], ◌∷◌, ◌++◌, inl, inr, slice_get, slice_index_or, get_or-set_same, get_or-set_other, rules, if◌then◌else◌, zero-add}
pub use Rattle.std.proofs.lemmas.List.{take_at, get_or-drop, get_or_append_left, length-append, length-take-le}
pub use Rattle.flatmem.specs.Bytes.{with_bytes, bytes_at}
pub use Rattle.isa_model.specs.Code.Helpers.{helper_numbered}
pub use Rattle.isa_model.specs.Code.Instructions.{Program, fetch, writes, is_frame_pointer}
pub use Rattle.isa_model.specs.Code.Limits.{max_call_frames, stack_size, max_steps, max_slots}
pub use Rattle.isa_model.specs.Code.Numbers.{bytes_of, unsigned, low, result_of, compares, number_from, atomic_alu}
unfoldable pub use Rattle.isa_model.specs.Code.Numbers.{alu, holds}
pub use Rattle.isa_model.specs.Code.Registers.{reg_number}
pub use Rattle.isa_model.specs.Code.Sizes.{width_size, size_bytes}
pub use Rattle.isa_model.specs.declared.instructions.AluOp.TheVariants.{Add}
pub use Rattle.isa_model.specs.declared.instructions.Insn.{Insn}
pub use Rattle.isa_model.specs.declared.instructions.Insn.TheVariants.{Exit, CallHelper, Alu, Neg, MovSx, ByteSwap, LoadNumber, LoadMap, LoadMapValue, Load, LoadSx, StoreConstant, Store, Atomic, Exchange, CompareExchange, Jump, JumpLong, JumpIf, CallLocal}
pub use Rattle.isa_model.specs.declared.registers.Reg.TheVariants.{R2, R3, R4, R0, R10}
pub use Rattle.isa_model.specs.declared.sizes.Size.{Size}
pub use Rattle.isa_model.specs.declared.sizes.Width.TheVariants.{Full64, Low32}
pub use Rattle.maps.specs.Maps.{MapState, IsMap, map_at, Updated, Deleted}
pub use Rattle.word_machine.specs.Effects.{WordStep, Acts, ExitsTo, AccessesFit}
pub use Rattle.word_machine.specs.Frames.{HasTop, IsOwn, own_index}
pub use Rattle.word_machine.specs.Helping.{map_named, named, key_named, value_named, UpdatesMap, DeletesFromMap, CallFits, NamesKey, Calls, asks}
pub use Rattle.word_machine.specs.Machine.{seen, words_of, KeepsRest, WritesBytes}
pub use Rattle.word_machine.specs.Ops.{place_of, constant_of, insn_of, op_at, jump_slot, HasConstant, ConstantFits, PlaceFits, IsOp, AreOps, IsStraight, coded, source_place}
pub use Rattle.word_machine.specs.Words.{Words, Spot, InPacket, InFrames, InBlock, Nowhere, get, spot_of, word_at, address_of, number_at, IsInside, CanLoad, word_from, in_context, at_slot, kept_words, saved_at, word_enter, word_leave, fetched_regs}
pub use Rattle.word_machine.specs.declared.memory.Memory.{Memory}
pub use Rattle.word_machine.specs.declared.ops.Op.{Op}
