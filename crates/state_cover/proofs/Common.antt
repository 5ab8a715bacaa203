-- The names that most proofs of this crate cite, passed on from one place. Declares nothing.
pub use Rattle.std.proofs.Common.{◌≡◌, ◌∙◌, ℕ, zero, suc, ◌<◌, List, [], ◌∷◌, length, map, get_or, refl, sym, ap, subst, arith, ◌≤◌, ◌++◌, inl, inr, ◌^◌, bit_and, min, IsTrue, ◌↔◌, nat_eq, ◌+◌, append_assoc, Bool, Option, Some, None, drop, drop-cons, add-one, true, false, cond, ◌⊎◌, IfSome, IsSome, if◌then◌else◌}
pub use Rattle.std.proofs.lemmas.List.Folds.{find-append}
pub use Rattle.std.specs.List.{find, zip}
pub use Rattle.reg_state.specs.KindCover.{KindEncloses, KindCovers, packet_identity_of, null_identity_of}
pub use Rattle.reg_state.specs.declared.kinds.Kind.{Kind}
pub use Rattle.reg_state.specs.declared.kinds.Kind.TheVariants.{Unset, Number, Context, Stack, Packet, PacketEnd, Map, MapValue, MapValueOrNull}
pub use Rattle.stack_state.specs.Meaning.{frames_of, no_frame, abstract_frame_at, kind_at, kinds_of, stack_slots_of}
unfoldable pub use Rattle.stack_state.specs.Meaning.{Covers, Means}
pub use Rattle.stack_state.specs.Slots.{slot_at, kind_in}
pub use Rattle.stack_state.specs.declared.slots.StackSlot.{StackSlot}
pub use Rattle.stack_state.specs.declared.slots.StackSlot.TheVariants.{Written, Spilled}
pub use Rattle.stack_state.specs.declared.states.AbstractFrame.{AbstractFrame}
pub use Rattle.stack_state.specs.declared.states.State.{State}
pub use Rattle.state_cover.specs.FrameCover.{SlotEncloses, KindsEnclose, SlotsEnclose, StateEncloses, FrameCovers, KindsCover, SlotCovers, AreAmong}
pub use Rattle.state_cover.specs.Names.{packet_name, null_name, frame_places, places, identity_of, is_identity, is_named, spilled_kinds, first_named, name_at}
unfoldable pub use Rattle.state_cover.specs.Names.{name_of}
