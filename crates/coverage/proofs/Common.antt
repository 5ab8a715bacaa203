-- The names that most proofs of this crate cite, passed on from one place. Declares nothing.
pub use Rattle.std.proofs.Common.{◌≡◌, ℕ, ◌+◌, ◌<◌, ◌≤◌, ◌%◌, ◌^◌, if◌then◌else◌, cond, Bool, true, false, List, [], ◌∷◌, ◌++◌, length, slice_index, get_or, replicate, count_by, sym, ap, ◌∙◌, subst, refl, arith, mod-eq_of_lt, Option, Result, length-append, inl, ◌*◌, ◌==◌, map, append-nil, mul-le-mul_right, mul-le-mul_left, lit<, nat_lt, nat_le, All, zero, suc, append_assoc, ◌-◌, ◌/◌, rules, not}
pub use Rattle.std.proofs.lemmas.List.{get_or-replicate, length-replicate, nil_from_length, length-map}
pub use Rattle.std.proofs.lemmas.List.Sums.{sum_by_push, count_by-le-length, sum_by-cons}
pub use Rattle.checked_vm.specs.Watching.{begun_on, beginning}
unfoldable pub use Rattle.checked_vm.specs.Watching.{begun_in}
pub use Rattle.frames.proofs.InputsLaws.{HasBegun, HasBegun-opens, HasBegun-found, HasBegun-open, HasBegun-stopped, HasFound-begins}
pub use Rattle.isa_model.specs.Code.Instructions.{Program}
pub use Rattle.isa_model.specs.Machine.States.{KeyValues, State}
pub use Rattle.isa_model.specs.Reporting.Reports.{checked_rule, contents_after, contents_left, turn_on, Rule}
pub use Rattle.isa_model.specs.Reporting.Streams.{PacketFrame, max_frames, stream_with}
pub use Rattle.isa_model.specs.declared.ends.End.{End}
pub use Rattle.isa_model.specs.declared.versions.Version.{Version}
pub use Rattle.coverage.specs.Counted.{CountsExactly, CountsModulo}
pub use Rattle.coverage.specs.Hits.{is_at, jumps_at, falls_at, takes, ends_by, has_reason, HasCounted, HasCountedFrames, CountsFrames}
pub use Rattle.coverage.specs.Ranks.{is_number, HasRank}
pub use Rattle.coverage.specs.Runs.{states_of, states_in, ends_of, ends_in, steps_by, steps_in}
