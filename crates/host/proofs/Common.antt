-- The names that most proofs of this crate cite, passed on from one place. Declares nothing.
pub use Rattle.std.proofs.Common.{◌≡◌, ℕ, ◌≤◌, List, Result, Ok, Err, IfOk, refl, sym, ap, ◌∙◌, subst, ◌⊎◌, inl, inr, zero, suc, ◌+◌, ◌-◌, ◌<◌, [], ◌∷◌, ◌++◌, map, length, take, Option, arith, append_assoc, length-append, zero-add, append-nil, add-zero, ◌==◌, if◌then◌else◌, Bool, true, false, Some, None, ◌^◌, min, slice_get, nat_lt, drop, get_or, set, rules}
pub use Rattle.std.proofs.KnownBytes.{Appends-nil, Appends-kept, Appends-trans}
pub use Rattle.std.proofs.lemmas.Bool.{cases_lt, eq-eqb, ne_eqb, lt-ltb, le-ltb}
pub use Rattle.std.proofs.lemmas.List.{take-append-le, length-set}
pub use Rattle.std.specs.Io.KnownBytes.{Appends, Keeps}
pub use Rattle.bounds.specs.Bounds.{Bounded, IsVerified}
pub use Rattle.exact_io.specs.Transfers.{AppendsBeginning}
pub use Rattle.frames.proofs.InputsLaws.{HasBegun, HasBegun-opens, HasBegun-open, HasBegun-found, HasBegun-stopped, HasFound-begins, AreReadFrom-in_memory}
pub use Rattle.frames.specs.Sources.{Origin, in_memory}
pub use Rattle.image.proofs.Programs.{IsProgram-IsImage}
pub use Rattle.isa_model.specs.Code.Instructions.{Program}
pub use Rattle.isa_model.specs.Code.Versions.{stream_magic, version_number}
pub use Rattle.isa_model.specs.Machine.MachineStates.{FitRows, IsProgram}
pub use Rattle.isa_model.specs.Machine.States.{KeyValues}
pub use Rattle.isa_model.specs.Reporting.Reports.{OutputPiece, contents_after, checked_report, checked_report_from, starting_contents, report_form_of, IsReportFrom, ToReport, ToFrames, report_bytes, frames_out, map_pieces, maps_pieces, in_report_order, Rule, ReportForm, turns_pieces, turn_on, turn_pieces, contents_left, checked_rule, turn_by, ReportsFrame, ReportsFrames, record_pieces, is_sent, end_reason, IsReport}
unfoldable pub use Rattle.isa_model.specs.Reporting.Reports.{map_line, frame_line, frame_pieces, skip_pieces, last_line, skip_line}
pub use Rattle.isa_model.specs.Reporting.Streams.{Stream, stream_with, AreOpen, PacketFrame, max_frames, record_bytes}
pub use Rattle.isa_model.specs.Running.Outcomes.{AllExit, ExitsOn}
unfoldable pub use Rattle.isa_model.specs.Running.Outcomes.{StartsEnd}
pub use Rattle.isa_model.specs.Running.Runs.{Turn, Outcome}
unfoldable pub use Rattle.isa_model.specs.Running.Runs.{turn}
pub use Rattle.isa_model.specs.declared.map_defs.MapDef.{MapDef}
pub use Rattle.isa_model.specs.declared.streams.Finish.{Finish}
pub use Rattle.isa_model.specs.declared.versions.Version.{Version}
pub use Rattle.machine.specs.Running.{Running, ReturnsOutcome}
pub use Rattle.maps.proofs.MapLaws.{rows_of-starting, contents_of-starting, FitRows-IsMap}
pub use Rattle.maps.specs.Maps.{MapState, rows_of, contents_of}
pub use Rattle.host.specs.Accepted.{ReportsRun, ReportsRunFrom, RunsWholeFrom, RunsFrontFrom, ShowsLast, ShowsTallied, RunsWhole}
pub use Rattle.host.specs.Counts.{end_of, Totals, no_totals, with_end, totals_after, is_met, one_more_of, with_reason, ShowsTracedCounted, totals_of, ShowsCounted}
pub use Rattle.host.specs.EndCounts.{one_more}
pub use Rattle.host.specs.OnMachines.{Leaves, bounded_of}
pub use Rattle.host.specs.Places.{place_of}
pub use Rattle.host.specs.Stops.{ShowsTraced, ShowsTracedFrom, Noting, noted_after, is_invalid, Noted, noted_of, noted_on, checked_notes, AreMaps, nothing_noted, no_notes}
pub use Rattle.host.specs.Tallies.{tallied, tally_of}
pub use Rattle.host.specs.Turns.{rule_of, RunnerState, TakesWhole, TakesFront, form_on, front_in, HasTaken}
pub use Rattle.host.specs.Writing.{Outputs, WroteBefore, WritesEach, Wrote}
pub use Rattle.host.specs.declared.endings.StreamEnded.{StreamEnded}
pub use Rattle.host.specs.declared.errors.HostError.{HostError}
