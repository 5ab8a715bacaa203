-- How a task ends after standard output was flushed.
use Rattle.std.specs.Prelude.{◌≡◌, ℕ, true, false, List, [], Option, Some, None, ◌⊎◌}
use Rattle.std.specs.Io.KnownBytes.{Keeps}
use Rattle.std.specs.declared.io.ErrorKind.{ErrorKind}
use Rattle.exact_io.specs.declared.buffering.PromptWriter.{PromptWriter}
use Rattle.exact_io.specs.Waiting.{failure_of, held, waiting}
use Rattle.commands.specs.declared.endings.Ending.{Ending}
use Rattle.commands.specs.Statuses.{IsOutputFailureBy, is_silent}

-- no byte waits in the buffer, and the output has not failed
pub record IsFlushed {W : Type 0} (out : PromptWriter W) : Type 0 where
  pub all : waiting out ≡ []
  pub sound : failure_of out ≡ None

-- the output has failed, and the message says the cause that it keeps, and nothing else
pub record TellsFailure {W : Type 0} (out : PromptWriter W) (result : Ending) : Type 0 where
  pub kind : ErrorKind
  pub failed : failure_of out ≡ Some kind
  pub told : IsOutputFailureBy kind result.outcome
  pub plain : result.why ≡ None

-- A task ended, and then standard output was flushed. Its buffer was written in full, and the
-- task's outcome stays; or standard output failed, now or before, and that failure is the outcome.
-- If the task wrote nothing to it, standard output is left unchanged.
pub record Flushes {W : Type 0} (contents : W → Option (List ℕ)) (given out : PromptWriter W)
    (ended result : Ending) : Type 0 where
  pub kept : Keeps (held contents given) (held contents out)
  pub silent : is_silent ended.outcome ≡ true → (out ≡ given) × (result ≡ ended)
  pub ends : ((is_silent ended.outcome ≡ false → IsFlushed out) × (result ≡ ended))
      ⊎ TellsFailure out result
