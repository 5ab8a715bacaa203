-- The names that most proofs of this crate cite, passed on from one place. Declares nothing.
pub use Rattle.std.proofs.Common.{◌≡◌, ℕ, suc, ◌+◌, ◌≤◌, ◌==◌, nat_le, ◌||◌, not, Bool, true, false, if◌then◌else◌, List, [], ◌∷◌, length, map, max, slice_get, Some, inl, inr, ap, subst, arith, ◌<◌, Contains, IsTrue, Option, None, IsSome, Ok, Err, rules, sym, ◌∙◌, zero, ℤ, slice_set, Result, length-set, ◌⊎◌, ◌-◌, ◌++◌, take, IfSome, refl}
pub use Rattle.std.proofs.lemmas.Bool.{cases_eq, cases_lt}
pub use Rattle.std.proofs.lemmas.Option.{slice_get-map, slice_get_within, slice_get-get_or, IfSome_then}
pub use Rattle.isa_model.proofs.EndsLaws.{After-weaker}
pub use Rattle.isa_model.specs.Code.Instructions.{Program, fetch, writes, is_frame_pointer}
pub use Rattle.isa_model.specs.Machine.Steps.{destination}
unfoldable pub use Rattle.isa_model.specs.Machine.Steps.{step}
pub use Rattle.reg_state.specs.declared.kinds.Kind.{Kind}
pub use Rattle.reg_state.specs.declared.kinds.Kind.TheVariants.{Packet, MapValue, MapValueOrNull, Number, Stack, Map, Unset}
pub use Rattle.stack_state.specs.Effects.{with_spilled, with_kinds, proved_kind, tested_value, tested_kind, forgotten_register, forgotten_frame, with_slots, with_frame_slots, map_frames, map_kinds}
pub use Rattle.stack_state.specs.Meaning.{abstract_frame_at, frames_of, depth, kind_at}
unfoldable pub use Rattle.stack_state.specs.Meaning.{Means, Covers, Within}
pub use Rattle.stack_state.specs.declared.slots.StackSlot.{StackSlot}
pub use Rattle.stack_state.specs.declared.states.AbstractFrame.{AbstractFrame}
pub use Rattle.stack_state.specs.declared.states.State.{State}
pub use Rattle.table_entries.proofs.GrowingLaws.{entry_at-before, entry_at-stays, Grows-then, MayGrow-more, Grows-same, Grows-count, AllThere-more, AllThere-begun, no_entry_past, whole_read, entry_at-whole}
pub use Rattle.table_entries.specs.Entries.{Entry, entry_of, list_of}
pub use Rattle.table_entries.specs.Tables.{entry_at, count_of, TableView, KeepsEntries, table_read}
pub use Rattle.table_entries.specs.declared.entries.EntryHead.{EntryHead}
pub use Rattle.transfer.specs.declared.refusals.Refusal.{Refusal}
pub use Rattle.rechecking.specs.Changes.{is_kind_kept, is_slot_kept, FirstHave, AreSlotsUnchanged, IsFrameUnchanged, LeavesParts}
pub use Rattle.rechecking.specs.Checking.{Covering, CoversClearly, Enters, EntersClearly, FollowsBy, StartsClearly, HasStart, IsRefusedAt, AllFineBefore, IsFirstRefused}
pub use Rattle.rechecking.specs.KnownEntries.{HasEntry, IsKnownEntry, IsKnownSpelled}
pub use Rattle.rechecking.specs.Tables.{EntryAt, EntersSmaller, IsClosedEntry, MeansStarts, IsClosed}
pub use Rattle.rechecking.specs.declared.changes.KindChange.TheVariants.{Proves, Tests, Forgets}
