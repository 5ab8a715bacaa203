use Rattle.std.proofs.Common.{rules}
use Rattle.maps.proofs.calls.call.Goals as goal

pub returns-in-KtimeGetNs-clause-answer : goal.returns-in-KtimeGetNs-clause-answer
returns-in-KtimeGetNs-clause-answer g c = search rules

pub returns-in-KtimeGetNs-clause-clock : goal.returns-in-KtimeGetNs-clause-clock
returns-in-KtimeGetNs-clause-clock g c = search rules
