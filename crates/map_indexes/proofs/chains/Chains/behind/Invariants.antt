use Rattle.map_indexes.proofs.Common.{length, link_in, height}
use Rattle.map_indexes.proofs.ChainLaws.{Passed}
use Rattle.map_indexes.proofs.chains.Chains.behind.Given as goal

abbrev pub invariant-loop-next : goal.invariant-loop-next
invariant-loop-next l = Passed (length l.self.chains) (link_in l.self.chains l.self.nexts) l.chain
    l.at l.from l.next

abbrev pub decreases-loop-next : goal.decreases-loop-next
decreases-loop-next l = height l.next
