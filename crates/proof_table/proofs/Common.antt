-- The names that most proofs of this crate cite, passed on from one place. Declares nothing.
pub use Rattle.std.proofs.Common.{◌≡◌, ℕ, suc, ◌-◌, ◌^◌, ◌<◌, ◌≤◌, nat_lt, ◌==◌, ◌||◌, true, false, List, [], ◌∷◌, ◌++◌, length, drop, All, Some, Ok, ap, ◌∙◌, append_assoc, length-append, arith, ◌↔◌, IsTrue, Bool, map, get_or, sym, subst, zero, ◌+◌, ℤ, pos, ◌≤ℤ◌, FitsSigned, ◌&&◌, not, if◌then◌else◌, Option, None, Result, append-nil, min, take, replicate, slice_get, refl, below_more, rules, take_all, OnOk, OnErr}
pub use Rattle.std.proofs.lemmas.Bool.{le-ltb}
pub use Rattle.std.proofs.lemmas.List.{length-map, get_or-map, drop_at, get_or_read_under}
pub use Rattle.std.proofs.lemmas.List.Elements.{All-map, All-head, All-tail, All-nil, All-cons, All-append, All-push, All-replicate, All-from_recursion, All-from_get_or, All-more}
pub use Rattle.std.specs.Io.KnownBytes.{Appends}
pub use Rattle.std.specs.List.{flat_map}
pub use Rattle.byteorder.specs.Endian.{little_bytes, little_number}
pub use Rattle.byteorder.specs.Numbers.{little_number-reads_back}
pub use Rattle.exact_io.specs.Transfers.{AppendsBeginning}
pub use Rattle.image.proofs.Writing.{on_err}
pub use Rattle.image.specs.Images.{IsImage}
pub use Rattle.isa_model.specs.Code.Instructions.{Program}
pub use Rattle.stack_state.specs.Slots.{frame_slots}
pub use Rattle.stack_state.specs.Starts.{first_registers}
unfoldable pub use Rattle.stack_state.specs.Starts.{start}
pub use Rattle.stack_state.specs.declared.slots.StackSlot.{StackSlot}
pub use Rattle.stack_state.specs.declared.slots.StackSlot.TheVariants.{Written, Spilled}
pub use Rattle.stack_state.specs.declared.states.AbstractFrame.{AbstractFrame}
pub use Rattle.table_entries.specs.Entries.{Entry, head_allowed, rest_in}
unfoldable pub use Rattle.table_entries.specs.Entries.{named_in, entry_in}
pub use Rattle.table_entries.specs.Reading.{Read, then_read, joined, sized}
unfoldable pub use Rattle.table_entries.specs.Reading.{many}
pub use Rattle.walks.specs.Counts.{HasNumber}
pub use Rattle.proof_table.specs.Fitting.{EntryFits, KindFits, StackSlotFits, FrameFits, stack_slot_said, frame_said, entry_said, WideFits, LowFits, ScalarFits, StackFits, PacketFits, MapFits, ValueFits, NullFits}
pub use Rattle.proof_table.specs.Listed.{OfStart}
pub use Rattle.proof_table.specs.Spelling.{named_bytes, signed_4, signed_8, scalar_bytes, head_bytes, table_bytes}
unfoldable pub use Rattle.proof_table.specs.Spelling.{frame_bytes, entry_bytes, kind_bytes, stack_slot_bytes, bits_bytes, wide_bytes, low_bytes, stack_bytes, packet_bytes, value_bytes, null_bytes}
pub use Rattle.proof_table.specs.Writing.{IsForTable, IsTableSize, GainsTable, GainsTableOf, BeginsTable, GainsEntries, BeginsEntries, SpellsEntry, IsNumberedAs, OfFirst, entry_for, entries_for, table_length}
