-- The parts of a request, and the request that a task makes.
use Rattle.std.specs.Prelude.{ℕ, List, Option, option_map}
use Rattle.words.specs.declared.tasks.RunPaths.{RunPaths}
use Rattle.words.specs.declared.tasks.TablePaths.{TablePaths}
use Rattle.words.specs.declared.tasks.Task.{Task}
use Rattle.words.specs.declared.tasks.Task.TheVariants as task

-- the files of `run` and `trace`, by their paths
pub record RunFiles : Type 0 where
  pub image : List ℕ
  pub frames : List ℕ
  pub out : List ℕ

-- the files of `prove` and `recheck`, by their paths
pub record TableFiles : Type 0 where
  pub image : List ℕ
  pub table : List ℕ

-- what is asked for, on files by their paths
pub data TaskRequest : Type 0 where
  Trace : RunFiles → ℕ → TaskRequest
  -- if a proof table is given, it is tested in place of verifying the program
  Run : RunFiles → Option (List ℕ) → TaskRequest
  Verify : List ℕ → TaskRequest
  Prove : TableFiles → TaskRequest
  Recheck : TableFiles → TaskRequest
  -- the text, and the image that is made of it
  Assemble : List ℕ → List ℕ → TaskRequest
  Disassemble : List ℕ → TaskRequest
  -- what a code of a refusal means
  Explain : List ℕ → TaskRequest

-- ---- the request of a task

abbrev pub files_of : RunPaths → RunFiles
files_of paths = record { image = paths.image.now; frames = paths.frames.now; out = paths.out.now }

abbrev pub table_files_of : TablePaths → TableFiles
table_files_of paths = record { image = paths.image.now; table = paths.table.now }

abbrev pub request_of : Task → TaskRequest
request_of (task.Trace paths limit) = Trace (files_of paths) limit.steps
request_of (task.Run paths table) = Run (files_of paths) (option_map (λ path. path.now) table)
request_of (task.Verify path) = Verify path.now
request_of (task.Prove paths) = Prove (table_files_of paths)
request_of (task.Recheck paths) = Recheck (table_files_of paths)
request_of (task.Assemble paths) = Assemble paths.text.now paths.image.now
request_of (task.Disassemble path) = Disassemble path.now
request_of (task.Explain code) = Explain code.now
