use Rattle.commands.proofs.TextsLaws.{IsReadAs}
use Rattle.commands.proofs.reading.read_accepted.Given as goal

abbrev pub invariant-loop-part : goal.invariant-loop-part
invariant-loop-part g l =
    IsReadAs (g.S.Read.remaining l.initial.source) (g.S.Read.remaining l.source) l.text
