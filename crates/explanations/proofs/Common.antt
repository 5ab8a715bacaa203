-- The names that most proofs of this crate cite, passed on from one place. Declares nothing.
pub use Rattle.std.proofs.Common.{◌≡◌, ◌<◌, ◌≤◌, ℕ, suc, List, [], ◌∷◌, Option, Some, None, String, Result, Ok, length, refl, subst, sym, ap, ap₂, ◌∙◌, arith, inl, inr, IfOk, IfSome, slice_get, ◌+◌, ◌++◌, map, get_or, set, take, drop, Bool, false, IsTrue, max, codes, decimal, ◌-◌, rules}
pub use Rattle.std.specs.String.{string_bytes}
pub use Rattle.stack_state.specs.Meaning.{abstract_frame_at, depth, frames_of, kind_at, kinds_of, no_frame, stack_slots_of}
pub use Rattle.stack_state.specs.Slots.{AreKnownFrom, slot_at, frame_slots, marks_of}
pub use Rattle.stack_state.specs.declared.states.State.{State}
pub use Rattle.table_entries.specs.Entries.{Entry, list_of, entry_of}
pub use Rattle.table_entries.specs.Tables.{TableView, KeepsEntries, entry_at, table_read}
pub use Rattle.explanations.specs.Flows.{first_leading, function_at}
pub use Rattle.explanations.specs.Fronts.{AreFirstSlots, FrontCovers, FrontEncloses, FrontIsOpen, IsFront, IsFrontOf, count_in}
pub use Rattle.explanations.specs.Mismatches.{Differs, IsInBoth, IsThere, IsMismatch, difference_lines, returns_words, up_words, stack_difference, stack_words}
pub use Rattle.explanations.specs.Slots.{first_open, written_words, offset_of}
pub use Rattle.explanations.specs.Turns.{place_turns, turn_line}
