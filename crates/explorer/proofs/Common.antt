-- The names that most proofs of this crate cite, passed on from one place. Declares nothing.
pub use Rattle.std.proofs.Common.{◌≡◌, ◌+◌, ◌∷◌, ◌++◌, [], ℕ, Some, None, Option, List, arith, refl, sym, subst, ◌≤◌, length, max, add-one, inl, inr, ◌⊎◌, length-append, ap, ◌∙◌, IsSome, Result, Ok, Err, IfErr, ◌<◌, zero, suc, get_or, set, slice_get, reverse, take, Bool, true, false, is_some, option_to_list, map, rules, IfOk, ◌≢◌, IsTrue, IfSome, ◌-◌, not}
pub use Rattle.std.proofs.lemmas.Bool.{iff_false, ltb-true}
pub use Rattle.std.proofs.lemmas.List.{reverse-append, set_split, set-get_or, drop_all, take_all, take_more, map-append, map-set, length-map, append-nil}
pub use Rattle.std.proofs.lemmas.List.Elements.{All-push, All-pop, All-nil, All-cons, All-set, All-weaker}
pub use Rattle.std.proofs.lemmas.Option.{slice_get_within, slice_get_read, get_or_from_slice_get, slice_get-map}
pub use Rattle.std.proofs.lemmas.Result.{IfErr-weaker, IfOk-weaker, err_from_is_err_and}
pub use Rattle.control_flow.specs.Flows.{IsFlow, IsJoin}
pub use Rattle.image.specs.Images.{IsImage}
pub use Rattle.isa_model.specs.Code.Instructions.{Program, fetch}
pub use Rattle.isa_model.specs.declared.instructions.Insn.{Insn}
unfoldable pub use Rattle.stack_state.specs.Meaning.{Means, Within, Covers}
unfoldable pub use Rattle.stack_state.specs.Starts.{start}
pub use Rattle.stack_state.specs.declared.states.State.{State}
pub use Rattle.transfer.specs.Beside.{beside}
pub use Rattle.transfer.specs.Exact.{StepsToWays, RefusesStep}
pub use Rattle.walks.proofs.Forgotten.{LeadsTo-forgets, GoesOnTo-forgets, Forgets-slot, Forgets-returns, Forgets-covers, Forgets-further, Forgets-forgotten}
pub use Rattle.walks.proofs.PrecisionLaws.{Forgets-as, StepsTo-as, WalksTo-as, NumbersForgotten-as, no_finer_than_exact, IsNoFiner-trans}
pub use Rattle.walks.specs.Counts.{StepsInto, Takes, Nothing, OneMore, BothMore, HasNumber, LeadsToOne, LeadsToTwo, LeadsNowhere, IsCoveredBy, AreForgotten, ItsOwn}
pub use Rattle.walks.specs.Forgetting.{IsNoFiner, Precision, Coarse, Forgets, Exact}
pub use Rattle.walks.specs.Refused.{StopsAt, IsRefused}
pub use Rattle.walks.specs.Walks.{WalksTo, StepsTo, IsAmong}
unfoldable pub use Rattle.walks.specs.Walks.{HasSteps}
pub use Rattle.walks.specs.declared.refusals.Refusal.{Refusal}
pub use Rattle.walks.specs.declared.refusals.Refusal.TheVariants.{Flow, Step, Repeats, TooLong, Memory}
pub use Rattle.explorer.specs.Listening.{IfRefused, IfStopped, IsForNumbers, IsSearchedAgain, IsOutsideSearch, EndsIn, EndsAsPrecise, BeginsPath, AddsVisit, ShowsStep, GoesAside, ShowsReturn, ComesBackAt, BeginFails, StepFails, ReturnFails, AreVisited, HeardPath, FollowsTo, IsToArrive, IsToTell, HearsMove, IsToRefuse, FollowsNext, IfReturns}
pub use Rattle.explorer.specs.Search.{TakesBoth, HasSpent, precision_in, IsNext, MeantBy, NumberFollowsBoth, Waiting, IfStepsTo, Settles, Arrives, IsAtInsns, IfReady, HasEnded, Explores, Comes, AfterMove, InEach, stored_too, IsSettled, IsArrival, zeros_from, unfinished, with_first, with_last, indexes_of, RefusesArrival, IsNew, IsTooLong, AfterMoveOrEnd}
unfoldable pub use Rattle.explorer.specs.Search.{Spends, CountsTo, StepsAwaited, NumberFollows, Path, AllSettled, OnPath}
pub use Rattle.explorer.specs.StoredStates.{StoredAt, GetsNumber, IsStored, IsCovered, IsRepeated}
pub use Rattle.explorer.specs.Trail.{Visits, pending_of, states_left, one_if, waiting_count, TakesLastPending}
unfoldable pub use Rattle.explorer.specs.Trail.{visits_of}
pub use Rattle.explorer.specs.declared.moves.Move.{Move}
pub use Rattle.explorer.specs.declared.moves.Move.TheVariants.{New, Covered, Finished}
pub use Rattle.explorer.specs.declared.search.Search.{Search}
pub use Rattle.explorer.specs.declared.stored_states.StoredState.{StoredState}
pub use Rattle.explorer.specs.declared.trail.KeptVisit.{KeptVisit}
pub use Rattle.explorer.specs.declared.trail.Visit.{Visit}
