use Rattle.map_indexes.proofs.Common.{◌≡◌, ℕ, length, Option, Some, ◌<◌, ◌∙◌, sym, subst, arith, Link, in_chain, link_in, height}
use Rattle.map_indexes.proofs.LastBelowLaws.{last_is}
use Rattle.map_indexes.proofs.ChainLaws.{place_or, link_of, Passed, is_behind, passed_next, lower}
use Rattle.map_indexes.proofs.ListedLinks.{link_in-is}
use Rattle.map_indexes.proofs.chains.Chains.behind.Goals as goal
use Rattle.map_indexes.proofs.chains.Chains.behind.Goals.{In-Some}

-- the link that the loop is at
here : (c : In-Some) → (l : Link) × (link_in c.args.self.now.chains c.args.self.now.nexts
    c.in-Some.k ≡ Some l)
here c =
    let s = c.args.self.now in
    let links = link_in s.chains s.nexts in
    let i = c.loop-next.invariant in
    let r = last_is (in_chain links c.args.chain) (place_or
    (length s.chains) c.loop-next.from) c.in-Some.k (sym i.is ∙ c.in-Some.is) in
    let t = link_of links c.args.chain c.in-Some.k r.1 in
    (t.0, t.1)

pub returns-then-k-at : goal.returns-then-k-at
returns-then-k-at c =
    let s = c.args.self.now in
    is_behind (length s.chains) (link_in s.chains s.nexts) c.args.chain c.args.at s.chained.within
    c.loop-next.from c.loop-next.next c.loop-next.invariant
    (λ k e. let f = c.in-Some.is in let same : c.in-Some.k
    ≡ k = cc in let l = c.if-k-at.true in omega arith)

pub at-next-requires : goal.at-next-requires
at-next-requires c =
    let s = c.args.self.now in
    let h = here (goal.at.at-next-requires c).In-Some in
    let w = s.chained.within c.in-Some.k h.0 h.1 in
    let n = s.whole in
    omega arith

pub loop-next-smaller : goal.loop-next-smaller
loop-next-smaller c =
    let s = c.args.self.now in
    let links = link_in s.chains s.nexts in
    let h = here (goal.at.loop-next-smaller c).In-Some in
    let next = c.at-next.ensures ∙ sym (link_in-is s.chains s.nexts c.in-Some.k h.0 h.1).2 in
    subst (λ (o : Option _). height c.at-next.result < height o) (sym c.in-Some.is)
    (lower (in_chain links h.0.chain) c.in-Some.k c.at-next.result (next
    ∙ s.chained.falls c.in-Some.k h.0 h.1))

pub loop-next-preserved : goal.loop-next-preserved
loop-next-preserved c =
    let s = c.args.self.now in
    let links = link_in s.chains s.nexts in
    let i = c.loop-next.invariant in
    let h = here (goal.at.loop-next-preserved c).In-Some in
    let next = c.at-next.ensures ∙ sym (link_in-is s.chains s.nexts c.in-Some.k h.0 h.1).2 in
    subst (λ (o : Option ℕ). Passed (length s.chains) links c.args.chain c.args.at
    (Some c.in-Some.k) o) (sym next)
    (passed_next (length s.chains) links c.args.chain c.args.at s.chained.falls (place_or
    (length s.chains) c.loop-next.from) c.in-Some.k h.0
    (sym c.in-Some.is ∙ i.is) h.1 c.if-k-at.false)

pub returns : goal.returns
returns c =
    let s = c.args.self.now in
    is_behind (length s.chains) (link_in s.chains s.nexts) c.args.chain c.args.at s.chained.within
    c.loop-next.from c.loop-next.next c.loop-next.invariant
    (λ k e. let f = c.in_default.is in absurd (cc))
