-- The names that most proofs of this crate cite, passed on from one place. Declares nothing.
pub use Rattle.std.proofs.Common.{◌≡◌, [], ◌∷◌, Some, None, codes, refl, ℕ, true, false, List, find, option_map, ap, ap₂, ◌∙◌, ◌⊎◌, Option, sym, subst, inl, inr, Result, Ok, Err, IfErr, ◌==◌, ◌++◌, Bool, not, nat_lt, fold, append_assoc, append-nil, ◌<◌, ◌≤◌, length, take, get_or, ◌+◌, map, arith, cond, ◌^◌, lt-ltb, le-ltb, ◌&&◌, option_and_then, slice_get, nat_le, IfOk, IsOkAnd}
pub use Rattle.std.proofs.lemmas.Result.{IfOk-weaker}
pub use Rattle.clap.specs.Faults.{built_fault, check_fault, level_fault, settle_fault, fault_of, is_simple_and_free, positional_fault, stray_fault, turn_fault}
unfoldable pub use Rattle.clap.specs.Faults.{defaults_fault, walk_fault}
pub use Rattle.clap.specs.Kinds.{or_else, HasKind, IsAmong, Kinds}
pub use Rattle.clap.specs.Simple.{Shape, argument_words, built, built_leaf, entered, label_of, names_of, is_simple, matches_of, subcommand_of, app_of_fields, on_top}
pub use Rattle.clap.specs.Words.{App, HasMatchesOf, found_of, kind_of, rows_of, Row, subcommand_name_of, subcommand_rows_of, AddsSubcommand, app_of, first_of, first_value, with_rule, new_app}
pub use Rattle.clap.specs.declared.parser.matches.ArgMatches.{ArgMatches}
pub use Rattle.isa_model.specs.Code.Limits.{max_steps}
pub use Rattle.words.specs.Asked.{limit_of, request_by, request_met, unless_wrong, AsksFor, TellsOf}
unfoldable pub use Rattle.words.specs.Asked.{asked}
pub use Rattle.words.specs.CommandLine.{with_wanted, with_command, optional}
unfoldable pub use Rattle.words.specs.CommandLine.{program, asm, dis, verify, run, trace, prove, recheck, explain}
pub use Rattle.words.specs.FilterLine.{app_by, flag, with_option}
unfoldable pub use Rattle.words.specs.FilterLine.{convert_program, filter_program, show_program}
pub use Rattle.words.specs.Requests.{Trace, Run, Verify, Prove, Recheck, Assemble, Disassemble, Explain, TaskRequest}
