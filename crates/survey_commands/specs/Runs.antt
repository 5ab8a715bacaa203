-- What is run of an image on a frame stream, and what is said of the image before.
use Rattle.std.specs.Prelude.{◌≡◌, ◌⊎◌, ℕ, List}
use Rattle.isa_model.specs.Code.Instructions.{Program}
use Rattle.isa_model.specs.Machine.States.{KeyValues}
use Rattle.isa_model.specs.Running.Outcomes.{StartsEnd}
use Rattle.walks.specs.Refused.{IsRefused}
use Rattle.walks.specs.declared.refusals.Refusal.{Refusal}
use Rattle.frames.specs.Sources.{Origin}
use Rattle.coverage.specs.declared.verdicts.BoundVerdict.{BoundVerdict}
use Rattle.coverage.specs.declared.verdicts.BoundVerdict.TheVariants.{Bound, Refused, Unknown}
use Rattle.coverage.specs.Found.{CountsStream}
use Rattle.coverage.specs.Steps.{FindsFrame, HasNoFrame}
use Rattle.survey_commands.specs.declared.hits.Counted.{Counted}
use Rattle.survey_commands.specs.declared.steps.Found.{Found}

-- every start exits within the bound, or the program is refused
abbrev pub SaysOf : Program → BoundVerdict → Type 0
SaysOf p (Bound bound) = StartsEnd p bound
SaysOf p (Refused line) = (refusal : Refusal) × (slot : ℕ) × IsRefused p refusal slot
SaysOf p Unknown = Unit {0}

-- The counts are those of the image's program on the stream of a source, from maps with these
-- contents on, and what is said beside them is said of that program.
pub record CountsOf (limit : ℕ) (counted : Counted) : Type 0 where
  pub contents : List KeyValues
  pub source : Origin
  pub counts : CountsStream counted.image limit contents source counted.hits
  pub says : SaysOf counted.image counted.verdict

-- what was found at that number in the stream of a source is that of a program of this version,
-- from maps with these contents on
pub record FindsOf (limit number : ℕ) (found : Found) : Type 0 where
  pub p : Program
  pub contents : List KeyValues
  pub source : Origin
  pub finds : FindsFrame p limit contents source number found.frame
      ⊎ HasNoFrame source number found.frame
  pub version : found.program ≡ p.version
