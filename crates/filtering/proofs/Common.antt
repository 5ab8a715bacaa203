-- The names that most proofs of this crate cite, passed on from one place. Declares nothing.
pub use Rattle.std.proofs.Common.{◌≡◌, ◌∙◌, ℕ, List, [], ◌∷◌, Option, Some, None, Result, Ok, Err, refl, sym, ap, subst, inl, inr, IfOk, OnOk, option_map, ◌++◌, String, MatchResult, OnErr, codes, map, ap₂, take, append-nil}
pub use Rattle.std.specs.declared.io.ErrorKind.{ErrorKind}
pub use Rattle.commands.specs.Saying.{AppendsPart, LacksMemory, Says}
pub use Rattle.commands.specs.declared.outcomes.TaskOutcome.{TaskOutcome}
pub use Rattle.exact_io.specs.Waiting.{behind, waiting, held}
pub use Rattle.frames.specs.Sources.{Origin}
pub use Rattle.host.specs.Writing.{Outputs}
pub use Rattle.isa_model.specs.{Program}
pub use Rattle.isa_model.specs.Machine.States.{KeyValues}
pub use Rattle.messages.specs.declared.forms.FileForm.{FileForm}
pub use Rattle.words.specs.FilterRequests.{FilterRequest, Verified, Shown, Checked, filter_request_of}
pub use Rattle.filtering.specs.Executing.{usage, converted_lines, other_form}
pub use Rattle.filtering.specs.Files.{RunsWanted, EndsRun, FiltersBy, FiltersOn, FiltersSome}
