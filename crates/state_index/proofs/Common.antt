-- The names that most proofs of this crate cite, passed on from one place. Declares nothing.
pub use Rattle.std.proofs.Common.{◌≡◌, ℕ, zero, suc, ◌+◌, ◌-◌, ◌<◌, ◌≤◌, List, [], ◌∷◌, ◌++◌, length, get_or, set, drop, drop-cons, add-one, replicate, append_assoc, length-append, true, false, Option, Some, None, refl, sym, ap, ◌∙◌, subst, inl, inr, arith, option_to_list, if◌then◌else◌, ◌==◌, ◌*◌}
pub use Rattle.state_index.specs.Parts.{register_part, slot_part, register_parts, slot_parts, IsPartOf, with_part}
unfoldable pub use Rattle.state_index.specs.Parts.{parts_of, unset_frame, all_written}
