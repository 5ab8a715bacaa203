-- The parts of a request of xdpvm_filter, and the request that a task makes.
use Rattle.std.specs.Prelude.{ℕ, Bool, List, Option, option_map}
use Rattle.words.specs.declared.filter_tasks.ConvertTask.{ConvertTask}
use Rattle.words.specs.declared.filter_tasks.FramesKind.{FramesKind}
use Rattle.words.specs.declared.filter_tasks.OperatorTask.{OperatorTask}
use Rattle.words.specs.declared.filter_tasks.OperatorTask.TheVariants as operator
use Rattle.words.specs.Requests.{RunFiles, files_of}
use Rattle.words.specs.declared.filter_tasks.FilterTask.{FilterTask}
use Rattle.words.specs.declared.filter_tasks.Judging.{Judging}
use Rattle.words.specs.declared.filter_tasks.Judging.TheVariants as judging

-- what is done with a program before it runs: it is verified, or the proof table at the path is
-- tested; or nothing, and every access is tested while it runs, with this limit of steps
pub data JudgingRequest : Type 0 where
  Verified : JudgingRequest
  Shown : List ℕ → JudgingRequest
  Checked : ℕ → JudgingRequest

-- the files, by their paths; `maps` fills the maps before the first frame, `maps_out` gets what
-- they hold after the last, and `report` gets the report
pub record FilterRequest : Type 0 where
  pub files : RunFiles
  pub judging : JudgingRequest
  pub maps : Option (List ℕ)
  pub maps_out : Option (List ℕ)
  pub report : Option (List ℕ)

-- frames that are written again, by the paths of their file and of the output; `kind` is what they
-- become, if the name of the output is not asked; a frame stream that they become may have reasons;
-- all of them may get an interface and a queue
pub record ConvertRequest : Type 0 where
  pub frames : List ℕ
  pub out : List ℕ
  pub kind : Option FramesKind
  pub has_reasons : Bool
  pub interface : Option ℕ
  pub queue : Option ℕ

-- what is asked for: a run, or frames that are written again
pub data OperatorRequest : Type 0 where
  Filter : FilterRequest → OperatorRequest
  Convert : ConvertRequest → OperatorRequest

-- ---- the request of a task

abbrev pub judging_of : Judging → JudgingRequest
judging_of judging.Verified = Verified
judging_of (judging.Shown table) = Shown table.now
judging_of (judging.Checked limit) = Checked limit.steps

abbrev pub filter_request_of : FilterTask → FilterRequest
filter_request_of task =
    record {
      files = files_of task.paths;
      judging = judging_of task.judging;
      maps = option_map (λ path. path.now) task.maps;
      maps_out = option_map (λ path. path.now) task.maps_out;
      report = option_map (λ path. path.now) task.report;
    }

abbrev pub convert_request_of : ConvertTask → ConvertRequest
convert_request_of task =
    record {
      frames = task.frames.now;
      out = task.out.now;
      kind = task.kind;
      has_reasons = task.has_reasons;
      interface = task.interface;
      queue = task.queue;
    }

abbrev pub operator_request_of : OperatorTask → OperatorRequest
operator_request_of (operator.Filter task) = Filter (filter_request_of task)
operator_request_of (operator.Convert task) = Convert (convert_request_of task)
