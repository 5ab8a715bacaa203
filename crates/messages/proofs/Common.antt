-- The names that most proofs of this crate cite, passed on from one place. Declares nothing.
pub use Rattle.std.proofs.Common.{ℕ, List, Option, Some, None, ◌≡◌, String, Result, Ok, Err, IfOk, IfSome, ◌<◌, [], ◌∷◌, ◌++◌, length, drop, sym, ap, ap₂, ◌∙◌, subst, arith, slice_index, OnOk, OnErr, codes, refl, decimal, rules, ◌-◌, ◌*◌, ◌^◌, ◌≤◌, take, sum_by, inr, T, is_none}
pub use Rattle.std.specs.Io.KnownBytes.{Appends}
pub use Rattle.std.specs.String.{string_bytes}
pub use Rattle.exact_io.proofs.TransferLaws.{AppendsBeginning-first, AppendsBeginning-second}
pub use Rattle.exact_io.specs.Transfers.{AppendsBeginning}
pub use Rattle.image.proofs.Writing.{on_err}
pub use Rattle.messages.specs.Causes.{conflict_text, unwritten_text, cause_line}
pub use Rattle.messages.specs.Messages.{entry_position, insn_position, step_position, sentence_of, position_of, anew, entry_anew, text_position, hint_line}
pub use Rattle.messages.specs.Names.{shown_byte, shown_from, shown_name, dash_line}
pub use Rattle.messages.specs.Stopped.{no_action_line, others_words, first_lines, told_at}
