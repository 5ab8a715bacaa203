-- The names that most proofs of this crate cite, passed on from one place. Declares nothing.
pub use Rattle.std.proofs.Common.{◌≡◌, ◌⊎◌, ◌∙◌, ap, ℕ, Option, None, Some, inl, inr, subst, sym}
unfoldable pub use Rattle.stack_state.specs.Starts.{start}
pub use Rattle.survey_rows.specs.declared.rows.Counts.{Counts}
