-- The names that most proofs of this crate cite, passed on from one place. Declares nothing.
pub use Rattle.std.proofs.Common.{◌≡◌, ◌≤◌, ◌+◌, ◌∷◌, [], ℕ, zero, suc, Some, None, Option, Bool, true, false, List, arith, refl, sym, subst, inl, inr, ◌⊎◌, ◌≢◌, ◌↔◌, ℤ, if◌then◌else◌, ◌<◌, Ok, length, ap, ◌∙◌, ◌^◌, ◌*◌, set, map, get_or, Err, replicate, ◌++◌, ◌-◌, count_by, slice_get, cond, pos, drop, ◌==◌, ◌+ℤ◌, FitsSigned, unsigned_abs, max, slice_index_or, ◌/◌, slice_set, rules}
pub use Rattle.std.proofs.lemmas.Bool.{cases_lt, cases_eq, cases_order, ne_eqb, eq-eqb, iff_false}
pub use Rattle.std.proofs.lemmas.Int.{ints, to_z-of_z}
pub use Rattle.std.proofs.lemmas.List.{length-replicate, get_or_past, get_or-replicate, length-set, get_or-set_same, get_or-set_other, length-map, length-append, append-nil, length-drop, drop-append-le, drop-drop, get_or_default, map-append}
pub use Rattle.std.specs.Int.{bit_at, w32, w64}
pub use Rattle.std.specs.Option.{option_map, option_and_then, option_flatten, option_to_list}
pub use Rattle.branch_refine.specs.Refining.{IsNumberKind, IsJust, IsJustOperand, NamesRegister, IsNumberOperand, AreCompared, Refines, LearnsOf}
pub use Rattle.control_flow.proofs.FlowLaws.{HasEdge-Follows, IsFlow-Fails, BeginsInsn-inside, fetch-BeginsInsn}
pub use Rattle.control_flow.proofs.LivenessLaws.{IsLive-read, IsLive-back, IsSlotLive-read, IsSlotLive-back}
pub use Rattle.control_flow.proofs.RegisterLaws.{numbered, number_of}
pub use Rattle.control_flow.specs.Flows.{IsFlow, IsJoin}
pub use Rattle.control_flow.specs.Graph.{slot_behind, call_distance, BeginsInsn, ReachedIn}
unfoldable pub use Rattle.control_flow.specs.Graph.{jump_to, call_to, fall_to}
pub use Rattle.control_flow.specs.Liveness.{IsHomeLive, IsLive, IsSlotLive, Home, InRegister, InSlot}
pub use Rattle.control_flow.specs.Masks.{HasSlot, HasRegister, no_registers}
pub use Rattle.control_flow.specs.StackUse.{IsWholeSlot, WritesSlot, ReadsSlot}
pub use Rattle.control_flow.specs.TestedNumbers.{HasInput, TakesInput, MayForgetNumbers, IsNumberTested}
pub use Rattle.control_flow.specs.declared.slot_masks.SlotMask.{SlotMask}
pub use Rattle.isa_model.proofs.EndsLaws.{Reaches-then, Ends-Runs, After-weaker}
pub use Rattle.isa_model.proofs.InstructionLaws.{is_frame_pointer-other, slots_filled-some, IsOneOf-option}
pub use Rattle.isa_model.proofs.RegisterLaws.{same_number, reg_number-below}
pub use Rattle.isa_model.proofs.RunSteps.{no_trap, is_set, step_unset, step_finishes, Runs-before, Runs-one, below_steps, step_acts}
pub use Rattle.isa_model.proofs.StackSlotLaws.{HasKnownStackSlots-store, HasKnownStackSlots-keep, store_acts, store_constant_acts, HasKnownStackSlots, HasKnownStackSlots-start, load_acts}
unfoldable pub use Rattle.isa_model.proofs.StackSlotLaws.{stored}
pub use Rattle.isa_model.specs.Code.Instructions.{Program, fetch, slots_filled, reads, writes, operand_reads, alu_reads, is_frame_pointer}
pub use Rattle.isa_model.specs.Code.Numbers.{unsigned, low, negated, signed}
unfoldable pub use Rattle.isa_model.specs.Code.Numbers.{holds, alu, sign_extended, reordered}
pub use Rattle.isa_model.specs.Code.Registers.{reg_number, reg_numbered}
pub use Rattle.isa_model.specs.Code.Sizes.{size_bytes, unsigned_size}
pub use Rattle.isa_model.specs.Machine.MachineStates.{IsProgram, IsClock}
pub use Rattle.isa_model.specs.Machine.States.{reg, value_at, set_reg}
unfoldable pub use Rattle.isa_model.specs.Machine.States.{new_call_frame}
pub use Rattle.isa_model.specs.Machine.Steps.{destination, Next, branches, tested, test_of, Trapped, is_unset, operand_value, sets, StepResult, Finished, is_answer, finishes, exits}
unfoldable pub use Rattle.isa_model.specs.Machine.Steps.{act, step}
pub use Rattle.isa_model.specs.Machine.Successors.{falls_through, jump_distance, FallsTo, Follows, JumpsTo}
pub use Rattle.isa_model.specs.MustAccept.Determined.{stack_slot_offset, stack_slot_place, IsStackSlotPlace, IsDeterminedForm, IsDetermined, operands, WritesIn}
pub use Rattle.isa_model.specs.MustAccept.Guarded.{IsFree, IsBodyForm, IsGuarded, IsFreeOperand, IsLoadBefore}
pub use Rattle.isa_model.specs.MustAccept.Paths.{IsPlainForm, Each, IsOneOf, needs, IsWhole, is_conditional, IsForward, written_too}
unfoldable pub use Rattle.isa_model.specs.MustAccept.Paths.{PathTo}
pub use Rattle.isa_model.specs.Running.Runs.{start_regs, count_map_values, Reaches, Runs}
unfoldable pub use Rattle.isa_model.specs.Running.Runs.{start_state}
pub use Rattle.isa_model.specs.declared.instructions.AluOp.{AluOp}
pub use Rattle.isa_model.specs.declared.instructions.AluOp.TheVariants.{Mov, Add}
pub use Rattle.isa_model.specs.declared.instructions.Cond.{Cond}
pub use Rattle.isa_model.specs.declared.instructions.Insn.{Insn}
pub use Rattle.isa_model.specs.declared.instructions.Insn.TheVariants.{CallLocal, Exit, Alu, Neg, MovSx, ByteSwap, LoadNumber, Load, StoreConstant, Store, Jump, JumpLong, JumpIf, CallHelper, Atomic, Exchange, CompareExchange, LoadSx}
pub use Rattle.isa_model.specs.declared.instructions.Operand.{Operand}
pub use Rattle.isa_model.specs.declared.instructions.Operand.TheVariants.{Constant, Register}
pub use Rattle.isa_model.specs.declared.instructions.Place.{Place}
pub use Rattle.isa_model.specs.declared.map_defs.MapDef.{MapDef}
pub use Rattle.isa_model.specs.declared.registers.Reg.{Reg}
pub use Rattle.isa_model.specs.declared.registers.Reg.TheVariants.{R10, R1, R0, R2, R3, R4}
pub use Rattle.isa_model.specs.declared.sizes.Size.TheVariants.{U64, U32}
pub use Rattle.isa_model.specs.declared.sizes.Width.TheVariants.{Full64, Low32}
pub use Rattle.isa_model.specs.declared.values.Value.{Value}
pub use Rattle.isa_model.specs.declared.values.Value.TheVariants.{Num}
pub use Rattle.reg_state.specs.declared.kinds.Kind.{Kind}
pub use Rattle.reg_state.specs.declared.kinds.Kind.TheVariants.{Number, Unset}
pub use Rattle.reg_state.specs.declared.scalars.Scalar.{Scalar}
pub use Rattle.stack_state.proofs.MeaningLaws.{abstract_frame_at-innermost, length-frames_of, FrameKeeps, MeansBy-change, abstract_frame_at-caller}
pub use Rattle.stack_state.proofs.PlaceLaws.{kind_of-registers, kind_of-with_other, same_or_other, kind_of-with_same}
pub use Rattle.stack_state.specs.Meaning.{depth, registers_of, frames_of, abstract_frame_at, kind_at, no_frame, stack_slots_of}
unfoldable pub use Rattle.stack_state.specs.Meaning.{Means, Covers}
pub use Rattle.stack_state.specs.Places.{kind_of, go_to, with_register}
pub use Rattle.stack_state.specs.Slots.{kind_in, frame_slots, slot_at, AreKnownFrom, IsAnyNumber, IsSpill, IsFill}
unfoldable pub use Rattle.stack_state.specs.Starts.{start}
pub use Rattle.stack_state.specs.declared.slots.StackSlot.{StackSlot}
pub use Rattle.stack_state.specs.declared.slots.StackSlot.TheVariants.{Written, Spilled}
pub use Rattle.stack_state.specs.declared.states.AbstractFrame.{AbstractFrame}
pub use Rattle.stack_state.specs.declared.states.State.{State}
pub use Rattle.transfer.specs.Exact.{SetsRegister, Sides, Branches, StepsForm, StepsToWays, GoesOnWith, StoresAt, OperandKind, ResultKind, ExitsFrom, Tested, RefusesStep}
pub use Rattle.transfer.specs.Following.{returns_of, GoesOnTo}
pub use Rattle.transfer.specs.Leading.{InSome, EachWay}
unfoldable pub use Rattle.transfer.specs.Leading.{LeadsTo}
pub use Rattle.transfer.specs.Refusing.{register_refusal, reads_unset}
pub use Rattle.transfer.specs.Results.{OfNumber, NumberAnd, Combined, Copied, Arithmetic, packet_pointer}
pub use Rattle.transfer.specs.declared.Ways.{Ways}
pub use Rattle.transfer.specs.declared.refusals.Refusal.{Refusal}
pub use Rattle.transfer.specs.declared.refusals.Refusal.TheVariants.{NoAction, UnsetRegister, ReadOnlyRegister, StackPlace, StackBytes}
pub use Rattle.walks.specs.Accepting.{IsOutOfMemory, AcceptsAll, BoundsAll, IsUnanswered}
pub use Rattle.walks.specs.Counts.{HasNumber, AreForgotten, StepsInto, LeadsNowhere, LeadsToOne, LeadsToTwo, IsCoveredBy, Takes, Nothing, ItsOwn, OneMore, BothMore}
pub use Rattle.walks.specs.Forgetting.{Exact, Coarse, DeadForgotten, Forgets, IsKept, IsSlotDeadAt, IsSlotKept, IsCallerSlotKept, slots_in, IsForgotten, AreKept, IsSlotLeft, AreSlotsLeft, AreSlotsKept, IsCallerKept, AreCallersKept, CallersForgotten, IsDeadAt, Precision, NumbersForgotten, KnowsNumbersOf, KeepsNumbersOf, ForgetsNumbersBeside, ForgetsNumbersIn, MayForgetAll, MayForgetNumber, AreNumbersKept, AreSpilledNumbersKept, KnowsTestedNumbers, KnowsNoNumber, ForgetsNumber, ForgetsSpilled, ForgetsUnless, ForgetsIf, IsNumberKept, IsSpilledNumberKept, MayForgetIn, MayBeLost, IsNoFiner}
pub use Rattle.walks.specs.Refused.{StartTakes, IsRefused}
pub use Rattle.walks.specs.Walks.{IsStuck, ComesBack, IsAmong, StepsTo, WalksTo}
unfoldable pub use Rattle.walks.specs.Walks.{HasSteps}
pub use Rattle.walks.specs.declared.refusals.Refusal.TheVariants.{Flow, Step, Repeats, TooLong, Memory}
