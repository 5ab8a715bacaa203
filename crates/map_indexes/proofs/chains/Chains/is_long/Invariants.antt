use Rattle.map_indexes.proofs.Common.{◌≡◌, ◌+◌, ℕ, length, last_below, count_below, in_chain, link_in}
use Rattle.map_indexes.proofs.chains.Chains.is_long.Given as goal

abbrev pub invariant-loop-followed : goal.invariant-loop-followed
invariant-loop-followed l =
    (m : ℕ) × (l.next ≡ last_below (in_chain (link_in l.self.chains l.self.nexts) l.chain) m)
    × (count_below (in_chain (link_in l.self.chains l.self.nexts) l.chain) (length l.self.chains)
    ≡ l.followed
    + count_below (in_chain (link_in l.self.chains l.self.nexts) l.chain) m)
