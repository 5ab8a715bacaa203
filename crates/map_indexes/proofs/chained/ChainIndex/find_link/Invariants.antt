use Rattle.map_indexes.specs.Chains.{link_in, height}
use Rattle.map_indexes.proofs.ChainIndexesLaws.{Left}
use Rattle.map_indexes.proofs.chained.ChainIndex.find_link.Given as goal

abbrev pub invariant-loop-next : goal.invariant-loop-next
invariant-loop-next l = Left l.self.keys.by_place l.self.chains.count
    (link_in l.self.chains.chains l.self.chains.nexts) l.key l.next

abbrev pub decreases-loop-next : goal.decreases-loop-next
decreases-loop-next l = height l.next
