use Rattle.commands.proofs.Common.{◌-◌, ◌^◌, length, Consumes}
use Rattle.commands.proofs.reading.read_settled.Given as goal

abbrev pub invariant-parts : goal.invariant-parts
invariant-parts g l =
    Consumes (g.S.Read.remaining l.initial.source) (g.S.Read.remaining l.source) l.bytes.items

abbrev pub decreases-parts : goal.decreases-parts
decreases-parts g l = 2 ^ 64 - length l.bytes.items
