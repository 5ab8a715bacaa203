use Rattle.captures.proofs.Common.{Appends, interface_blocks}
use Rattle.captures.proofs.taking.write_interfaces.Given as goal

abbrev pub invariant-loop : goal.invariant-loop
invariant-loop g l =
    Appends (g.W.Write.contents l.initial.output) (g.W.Write.contents l.output)
    (interface_blocks l.counter)
