-- The names that most proofs of this crate cite, passed on from one place. Declares nothing.
pub use Rattle.std.proofs.Common.{◌≡◌, ◌∙◌, ℕ, zero, suc, ◌+◌, List, [], ◌∷◌, ◌++◌, take, drop, reverse, get_or, set, add-one, length, refl, sym, ap, ap₂, arith, ℤ, ◌≤◌, ◌≤ℤ◌, max, Some, ◌<◌, option_to_list, drop-cons, append_assoc, subst, Bool, true, false, ◌==◌, map, if◌then◌else◌, replicate, ◌-◌, Option, rules, IfOk, None, length-append}
pub use Rattle.std.proofs.lemmas.Int.{ints, clamps, to_z-of_z}
pub use Rattle.std.proofs.lemmas.List.{drop_all, take_all, reverse-append, set-set, set-get_or, append-nil, get_or_default, length-reverse, take_more}
pub use Rattle.std.specs.Int.{bit_at, w32, w64, int_max}
pub use Rattle.std.specs.List.{All}
pub use Rattle.known_bits.specs.declared.bits.Bits.{Bits}
pub use Rattle.ranges.proofs.SameLimits.{same_wide, same_low}
pub use Rattle.ranges.specs.declared.low.Low.{Low}
pub use Rattle.ranges.specs.declared.range.Range.{Range}
pub use Rattle.ranges.specs.declared.wide.Wide.{Wide}
pub use Rattle.reg_state.specs.declared.kinds.Kind.{Kind}
pub use Rattle.reg_state.specs.declared.kinds.Kind.TheVariants.{Packet, Unset, Number}
pub use Rattle.reg_state.specs.declared.scalars.Scalar.{Scalar}
pub use Rattle.stack_state.specs.Effects.{proved_kind, with_spilled, with_kinds, map_kinds}
pub use Rattle.stack_state.specs.declared.slots.StackSlot.{StackSlot}
pub use Rattle.stack_state.specs.declared.slots.StackSlot.TheVariants.{Written, Spilled}
pub use Rattle.stack_state.specs.declared.states.AbstractFrame.{AbstractFrame}
pub use Rattle.stack_state.specs.declared.states.State.{State}
pub use Rattle.state_index.proofs.PartLaws.{all_written-append, part_at, all_written-more, all_written-all, all_written-parts_of}
pub use Rattle.state_index.specs.Parts.{with_part, register_part, slot_part, register_parts, slot_parts, IsPartOf}
unfoldable pub use Rattle.state_index.specs.Parts.{all_written, parts_of, unset_frame}
pub use Rattle.state_index.specs.declared.parts.Part.{Part}
pub use Rattle.state_index.specs.declared.parts.Part.TheVariants.{InRegister, InSlot}
pub use Rattle.kept_states.specs.Changes.{IsChanged, changes_of}
unfoldable pub use Rattle.kept_states.specs.Changes.{earlier_parts}
pub use Rattle.kept_states.specs.EarlierNumbers.{NumberStacks, earlier_bits, bits_left}
unfoldable pub use Rattle.kept_states.specs.EarlierNumbers.{earlier_number, numbers_left}
pub use Rattle.kept_states.specs.Groups.{whole, constant_of, others_of, few_of, groups_of}
pub use Rattle.kept_states.specs.HeldPlaces.{held_part}
unfoldable pub use Rattle.kept_states.specs.HeldPlaces.{held_registers, held_slots, seen}
pub use Rattle.kept_states.specs.Pending.{changed_state, states_below, pending_states, States}
unfoldable pub use Rattle.kept_states.specs.Pending.{states_from}
pub use Rattle.kept_states.specs.ProvedBytes.{with_proved}
pub use Rattle.kept_states.specs.declared.proved_bytes.ProvedBytes.{ProvedBytes}
