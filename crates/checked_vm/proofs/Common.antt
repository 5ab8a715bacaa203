-- The names that most proofs of this crate cite, passed on from one place. Declares nothing.
pub use Rattle.std.proofs.Common.{◌≡◌, ◌<◌, ℕ, false, List, length, Some, None, Result, Ok, Err, refl, ap, ◌∙◌, inl, inr, arith, unwrap_or, slice_index_or, ℤ, true, map, take, drop, Option, ◌+◌, ◌-◌, ◌≤◌, leb, slice_set, sym, suc, ◌==◌, Bool, if◌then◌else◌, [], ◌∷◌, pos, drop-cons, zero, ◌++◌, add-one, add-suc, add-zero, append_assoc, append-nil, slice_index, subst, IfOk, FitsSigned, w32, rules, w64, ◌^◌}
pub use Rattle.std.proofs.lemmas.Bool.{cases_lt, le-leb, ltb-true}
pub use Rattle.std.proofs.lemmas.Int.{to_z-of_z}
pub use Rattle.std.proofs.lemmas.List.{get_or_past, length-map, drop-drop, length-take-le, get_or_default}
pub use Rattle.std.specs.Option.{option_flatten, option_map}
pub use Rattle.isa_model.specs.Code.Instructions.{Program, fetch, reads, writes, is_frame_pointer}
pub use Rattle.isa_model.specs.Code.Limits.{max_call_frames, max_key_size, max_value_size}
pub use Rattle.isa_model.specs.Machine.HelperCalls.{bytes_in, bytes_at, MapArgument, map_argument, BytesArgument, bytes_argument, number_argument, lookup_call, update_call, delete_call, answered}
pub use Rattle.isa_model.specs.Machine.MapContents.{update_answer, delete_answer, at_key}
pub use Rattle.isa_model.specs.Machine.Memory.{and_then, region_cells, index_of_serial, put_value, place_in, number_in, value_in, index_at, read, write, key_value_at, is_piece, byte_in}
pub use Rattle.isa_model.specs.Machine.States.{State, reg, content_of, Stored, value_at, Content, KeyValues, go_to}
pub use Rattle.isa_model.specs.Machine.Steps.{Next, Trapped, target, calls, exits, is_unset, performed, performed_at, Finished, StepResult}
unfoldable pub use Rattle.isa_model.specs.Machine.Steps.{act, step}
pub use Rattle.isa_model.specs.Running.Runs.{Progress, GoesOn, Ended, after_step, advanced, left, turn_of}
unfoldable pub use Rattle.isa_model.specs.Running.Runs.{progress}
pub use Rattle.isa_model.specs.declared.ends.TrapReason.{TrapReason}
pub use Rattle.isa_model.specs.declared.values.Cell.TheVariants.{Byte}
pub use Rattle.live_maps.specs.Live.{value_bytes, Live, content_at, with_bytes, without}
pub use Rattle.maps.proofs.KeySizes.{KeyFits-most}
pub use Rattle.checked_vm.specs.Machine.{KeepsFrames, IsRunning, StaysRunning, Performs, PerformsApart, PerformsIn, state_of, helped_on}
pub use Rattle.checked_vm.specs.StepResults.{IsStep, after_time, ClockAnswers}
pub use Rattle.checked_vm.specs.declared.core_state.Core.{Core}
