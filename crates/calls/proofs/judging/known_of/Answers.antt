use Rattle.calls.proofs.judging.known_of.Goals as goal

pub returns-then-asked-clause-known : goal.returns-then-asked-clause-known
returns-then-asked-clause-known c = c.reason.ensures
