-- The names that most proofs of this crate cite, passed on from one place. Declares nothing.
pub use Rattle.std.proofs.Common.{◌≡◌, ℕ, ◌+◌, List, ◌++◌, length, take, drop, Option, Result, Ok, Err, OnOk, OnErr, refl, sym, ap, ◌∙◌, subst, length-append, arith, ◌-◌, ◌≤◌, rules, slice_range, le_refl}
pub use Rattle.std.proofs.KnownBytes.{Appends-trans, Consumes-trans}
pub use Rattle.std.proofs.lemmas.List.{take_at, drop_at, take-append-le, length-take-le, take-take}
pub use Rattle.std.specs.Io.KnownBytes.{Appends, Consumes}
pub use lib.Seq.{take-add}
