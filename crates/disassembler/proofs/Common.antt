-- The names that most proofs of this crate cite, passed on from one place. Declares nothing.
pub use Rattle.std.proofs.Common.{◌≡◌, List, [], ◌∷◌, ◌++◌, Option, Some, None, refl, ap, ℕ, suc, ◌<◌, take, drop, length, get_or, sym, ◌∙◌, subst, drop-cons}
pub use Rattle.std.specs.Io.KnownBytes.{Appends}
pub use Rattle.std.specs.List.{flat_map}
pub use Rattle.exact_io.proofs.TransferLaws.{AppendsBeginning-first, AppendsBeginning-second}
pub use Rattle.image.proofs.Writing.{on_err}
pub use Rattle.isa_model.specs.Text.CanonicalText.{instructions, code_text, version_line, rows_text}
unfoldable pub use Rattle.isa_model.specs.Text.CanonicalText.{line_of, canonical_text, row_line}
pub use Rattle.disassembler.specs.SlotText.{slot_text, unversioned_text}
