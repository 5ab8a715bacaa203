-- The names that most proofs of this crate cite, passed on from one place. Declares nothing.
pub use Rattle.std.proofs.Common.{◌≡◌, ◌∙◌, ℕ, ◌+◌, ◌-◌, ◌≤◌, List, [], ◌∷◌, ◌++◌, Option, Some, None, arith, refl, sym, ap, subst, length, append_assoc, length-append, slice_get, option_to_list, IsSome, Result, Err, IfErr, IfSome, ◌≢◌, zero, suc, ◌<◌, rules}
pub use Rattle.explorer.specs.Listening.{ComesTo, IsToStop, IsOutsideSearch, EndsIn, EndsAsPrecise, HasRetraced, IfRefused}
pub use Rattle.image.proofs.Programs.{IsProgram-IsImage}
pub use Rattle.isa_model.specs.Code.Instructions.{Program}
pub use Rattle.stack_state.specs.declared.states.State.{State}
pub use Rattle.walks.proofs.AcceptingLaws.{AcceptsAll-refused, BoundsAll-number}
pub use Rattle.walks.specs.Accepting.{AcceptsAll}
pub use Rattle.walks.specs.Explained.{IsLed, IsTurnBefore, ComesThrough, Explains}
pub use Rattle.walks.specs.Forgetting.{Precision, Exact, Coarse}
pub use Rattle.walks.specs.Refused.{StopsAt, StopsIn, IsRefused, precision_of}
pub use Rattle.walks.specs.declared.refusals.Refusal.{Refusal}
pub use Rattle.listeners.specs.Followed.{HasFollowed, IsWalk, slots_along}
