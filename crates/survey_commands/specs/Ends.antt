-- The statuses with which the commands end, unless they fail.
use Rattle.std.specs.Prelude.{◌≡◌, ◌⊎◌, ℕ}
use Rattle.isa_model.specs.declared.streams.Finish.{Finish}
use Rattle.isa_model.specs.declared.streams.Finish.TheVariants.{End, Fault}
use Rattle.words.specs.declared.survey_asked.SurveyAsked.{SurveyAsked}
use Rattle.words.specs.declared.survey_asked.SurveyAsked.TheVariants as asked
use Rattle.survey_rows.specs.declared.summaries.Summary.{Summary}
use Rattle.survey_rows.specs.Summaries.{status_of}
use Rattle.coverage.specs.declared.frame_steps.FrameFound.{FrameFound}
use Rattle.coverage.specs.declared.frame_steps.FrameFound.TheVariants.{Ran, Skipped, Missing}

-- all frames were run, up to the end or the fault
abbrev pub finish_status : Finish → ℕ
finish_status End = 0
finish_status (Fault fault at) = 3

-- the stream has no frame of a number that was asked for
abbrev pub missing_status : Finish → ℕ
missing_status End = 1
missing_status (Fault fault at) = 3

-- what was found at that number
abbrev pub found_status : FrameFound → ℕ
found_status (Ran steps) = 0
found_status (Skipped len reason) = 0
found_status (Missing count finish) = missing_status finish

-- a look at one image: it is shown, or refused
abbrev pub IsLookStatus : ℕ → Type 0
IsLookStatus status = (status ≡ 0) ⊎ (status ≡ 2)

-- counts over a stream: the image or the text of its maps is refused, or the frames were run
abbrev pub IsHitsStatus : ℕ → Type 0
IsHitsStatus status = (status ≡ 2) ⊎ ((finish : Finish) × (status ≡ finish_status finish))

-- one frame's steps: the image or the text of its maps is refused, or the frame was looked for
abbrev pub IsStepsStatus : ℕ → Type 0
IsStepsStatus status = (status ≡ 2) ⊎ ((found : FrameFound) × (status ≡ found_status found))

-- a survey: the status of some counts of verdicts
abbrev pub IsSurveyStatus : ℕ → Type 0
IsSurveyStatus status = (summary : Summary) × (status ≡ status_of summary)

-- by what is asked for
abbrev pub IsStatusOf : SurveyAsked → ℕ → Type 0
IsStatusOf (asked.Survey wanted) status = IsSurveyStatus status
IsStatusOf (asked.Log path part) status = IsLookStatus status
IsStatusOf (asked.Page path) status = IsLookStatus status
IsStatusOf (asked.Listing path) status = IsLookStatus status
IsStatusOf (asked.Graph path) status = IsLookStatus status
IsStatusOf (asked.Hits run format) status = IsHitsStatus status
IsStatusOf (asked.Steps run frame is_json) status = IsStepsStatus status
