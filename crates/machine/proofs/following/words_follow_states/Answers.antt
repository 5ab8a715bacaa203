use Rattle.machine.proofs.TrackingLaws.{related_Ends, related_Reaches, related_Exits}
use Rattle.machine.proofs.ReturningLaws.{start_ends, start_returns}
use Rattle.machine.proofs.following.words_follow_states.Goals as goal

pub returns-clause-ends : goal.returns-clause-ends
returns-clause-ends c = related_Ends

pub returns-clause-moves : goal.returns-clause-moves
returns-clause-moves c = related_Reaches

pub returns-clause-exits : goal.returns-clause-exits
returns-clause-exits c = related_Exits

pub returns-clause-starts : goal.returns-clause-starts
returns-clause-starts c = start_ends

pub returns-clause-outcomes : goal.returns-clause-outcomes
returns-clause-outcomes c = start_returns
