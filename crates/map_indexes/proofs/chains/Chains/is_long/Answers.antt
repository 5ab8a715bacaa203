use Rattle.map_indexes.proofs.Common.{◌≡◌, ℕ, Some, sym, ap, ◌∙◌, arith, Link, last_below, in_chain, link_in}
use Rattle.map_indexes.proofs.LastBelowLaws.{last_is, count_below-none, count_below-some}
use Rattle.map_indexes.proofs.ChainLaws.{link_of}
use Rattle.map_indexes.proofs.ListedLinks.{link_in-is}
use Rattle.map_indexes.proofs.chains.Chains.is_long.Goals as goal
use Rattle.map_indexes.proofs.chains.Chains.is_long.Goals.{In-Some}

-- the link that the loop is at, which is of the chain
here : (c : In-Some) → (l : Link) × (link_in c.args.self.now.chains c.args.self.now.nexts
    c.in-Some.at ≡ Some l) × (l.chain ≡ c.args.chain)
here c =
    let s = c.args.self.now in
    let links = link_in s.chains s.nexts in
    let i = c.loop-followed.invariant in
    link_of links c.args.chain c.in-Some.at
    (last_is (in_chain links c.args.chain) i.0 c.in-Some.at (sym i.1 ∙ c.in-Some.is)).1

pub returns-in_default : goal.returns-in_default
returns-in_default c =
    let s = c.args.self.now in
    let test = in_chain (link_in s.chains s.nexts) c.args.chain in
    let i = c.loop-followed.invariant in
    let none = count_below-none test i.0 (sym i.1 ∙ c.in_default.is) in
    let all = i.2 in
    let few = c.loop-followed-test.true in
    grind arith

pub at-next-requires : goal.at-next-requires
at-next-requires c =
    let s = c.args.self.now in
    let h = here (goal.at.at-next-requires c).In-Some in
    let w = s.chained.within c.in-Some.at h.0 h.1 in
    let n = s.whole in
    omega arith

pub loop-followed-preserved : goal.loop-followed-preserved
loop-followed-preserved c =
    let s = c.args.self.now in
    let links = link_in s.chains s.nexts in
    let test = in_chain links c.args.chain in
    let i = c.loop-followed.invariant in
    let h = here (goal.at.loop-followed-preserved c).In-Some in
    let one = count_below-some test i.0 c.in-Some.at (sym i.1 ∙ c.in-Some.is) in
    let all = i.2 in (
      c.in-Some.at,
      c.at-next.ensures ∙ sym (link_in-is s.chains s.nexts c.in-Some.at h.0 h.1).2
          ∙ s.chained.falls c.in-Some.at h.0 h.1
          ∙ ap (λ (n : ℕ). last_below (in_chain links n) c.in-Some.at) h.2,
      omega (arith, one, all),
    )
