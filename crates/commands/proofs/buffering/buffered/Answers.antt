use Rattle.std.proofs.Common.{rules}
use Rattle.commands.proofs.buffering.buffered.Goals as goal

pub returns-then-is_unwatched-clause-prompt : goal.returns-then-is_unwatched-clause-prompt
returns-then-is_unwatched-clause-prompt g c = search rules
