-- The names that most proofs of this crate cite, passed on from one place. Declares nothing.
pub use Rattle.std.proofs.Common.{◌≡◌, ℕ, ◌+◌, ◌<◌, ◌≤◌, Bool, List, [], ◌∷◌, ◌++◌, length, get_or, set, Option, Some, None, sym, ap, ◌∙◌, subst, arith, inl, inr, ◌↔◌, ◌⊎◌, true, false, not, nat_lt, replicate, ◌≢◌, IsTrue, ℤ, refl, if◌then◌else◌, IsSome, nat_eq, zero, suc, slice_get, ◌||◌, Result, IfOk, Contains, ◌-◌, ◌*◌, ◌/◌, ◌^◌, ◌%◌, bit_or, bit_and, bit_xor, w16, w64, max, min, eqb, eq-eqb, ◌&&◌, cond, count_by, sum_by, pos, ◌-ℤ◌, slice_index_or, take, drop, rules, nat_le}
pub use Rattle.std.proofs.Math.ListN.{get_or-append, drop_of_length-le}
pub use Rattle.std.proofs.Math.Seq.{get_or-append_seam}
pub use Rattle.std.proofs.lemmas.Bool.{cases_lt, cases_eq, cases_order, not-true, not_from_false, ltb-true, lt-ltb, eqb-false, ne_eqb, iff_false, false_from_ne_true, cases_Bool, both_ways, leb-true, le-leb}
pub use Rattle.std.proofs.lemmas.List.{get_or-set_same, get_or-set_other, length-set, length-append, length-replicate, get_or_append_left, get_or_past, get_or-replicate, append-nil, take_all}
pub use Rattle.std.proofs.lemmas.List.Elements.{Contains-append_left, Contains-append_right, Contains-append_cases}
pub use Rattle.std.proofs.lemmas.List.Sums.{sum_by-set, sum_by-cons}
pub use Rattle.std.proofs.lemmas.Nat.{shr-shr, and_le_r, le_or_l, and_le_l}
pub use Rattle.std.proofs.lemmas.Option.{same_Some, slice_get_past, cond_some, slice_get_within, slice_get_cases, get_or_from_slice_get, slice_get_read, none-some, slice_get-get_or}
pub use Rattle.std.proofs.lemmas.Result.{IfOk-weaker, err_from_is_err_and}
pub use Rattle.std.specs.Option.{option_map, option_and_then, option_flatten, option_to_list}
pub use Rattle.isa_model.proofs.InstructionLaws.{is_frame_pointer-other, slots_filled-some, slots_filled-cases, IsOneOf-option}
pub use Rattle.isa_model.specs.Code.Instructions.{Program, fetch, writes, is_frame_pointer, slots_filled, reads}
pub use Rattle.isa_model.specs.Code.Registers.{reg_number, reg_numbered}
pub use Rattle.isa_model.specs.Machine.Successors.{jump_distance, falls_through, Follows}
pub use Rattle.isa_model.specs.MustAccept.Paths.{IsPlainForm, IsOneOf}
pub use Rattle.isa_model.specs.declared.instructions.Insn.{Insn}
pub use Rattle.isa_model.specs.declared.instructions.Insn.TheVariants.{Load, LoadSx, Store, Atomic, Exchange, CompareExchange, CallHelper, CallLocal, Exit, StoreConstant, Jump, JumpLong, JumpIf}
pub use Rattle.isa_model.specs.declared.instructions.Place.{Place}
pub use Rattle.isa_model.specs.declared.registers.Reg.{Reg}
pub use Rattle.isa_model.specs.declared.registers.Reg.TheVariants.{R10, R0, R1, R2, R3, R4, R5, R6, R7, R8, R9}
pub use Rattle.control_flow.specs.Accesses.{read_registers, written_registers}
pub use Rattle.control_flow.specs.Flows.{IsMarked, IsFlow, HasTarget, Fails, IsFirst, AreLiveMasks, MarksEndings, AreTestedMasks, KeepsTested, MarksJoins, test_rank, IsRefusal}
pub use Rattle.control_flow.specs.Functions.{SameFunction, EndsFunction, BeginsFunction, IsFunctionOf, MarksFunctions}
pub use Rattle.control_flow.specs.Graph.{call_distance, BeginsInsn, slot_behind, HasEdge, Falls, Jumps, Calls, ReachedIn, Reached, IsSecondHalf}
unfoldable pub use Rattle.control_flow.specs.Graph.{fall_to, jump_to, call_to}
pub use Rattle.control_flow.specs.Liveness.{GoesTo, Home, InRegister, InSlot, IsReadBy, IsWrittenBy, IsLive, IsSlotLive, IsHomeLive, WritesHome, IsReadAfter}
pub use Rattle.control_flow.specs.Masks.{HasRegister, HasSlot, HasHome, no_slots, no_homes, mask_at, AreWithin, no_registers, all_slots}
pub use Rattle.control_flow.specs.Nodes.{fall_from, jump_from, ComesFrom, FallsNear, HasEdges, IsBlankNode, ShowsReads, ShowsTests, AreNodes, IsWanted, HasBehind, IsWantedBehind, IsWantedBefore, AreSound, room_in, AddsAt, PassesOn, IsWantedAfter, AreWantedMasks, HasWantedBefore, room_left}
pub use Rattle.control_flow.specs.Searches.{Extends, HasAll}
pub use Rattle.control_flow.specs.StackUse.{FrameAddressIsTaken, ReadsSlot, WritesSlot, IsByte, IsWithinSlot, IsWholeSlot, TakesFrameAddress, TakesFrameAddressAt}
pub use Rattle.control_flow.specs.TestedNumbers.{TestsNumbers, TestsHome, MayBeInSlot, MayRead, MayWrite, TakesInputAt, HasInput, MayForgetNumbers, IsNumberTested, PassesAt, IsTestedAfter}
pub use Rattle.control_flow.specs.declared.errors.FlowError.{FlowError}
pub use Rattle.control_flow.specs.declared.errors.FlowError.TheVariants.{TargetOutside, SecondHalf, OtherFunction, FallsOff, Unreachable, Memory}
pub use Rattle.control_flow.specs.declared.homes.HomeMask.{HomeMask}
pub use Rattle.control_flow.specs.declared.masks.RegisterMask.{RegisterMask}
pub use Rattle.control_flow.specs.declared.nodes.Node.{Node}
