use Rattle.map_indexes.proofs.Common.{◌≡◌, ◌<◌, ℕ, List, Option, Some, true, sym, ap, subst, ◌∙◌, is_some, nat_eq, pointwise, bytes_decides, Link, key_in, in_chain, link_in, height}
use Rattle.map_indexes.proofs.ChainLaws.{lower}
use Rattle.map_indexes.proofs.ListedLinks.{link_in-is}
use Rattle.map_indexes.proofs.ChainIndexesLaws.{Left, next_there, left_next, not_found}
use Rattle.map_indexes.proofs.chained.ChainIndex.find_link.Goals as goal
use Rattle.map_indexes.proofs.chained.ChainIndex.find_link.Goals.{In-Some}

-- the link that the loop is at, and the key of its place
here : (c : In-Some) → (l : Link) × (link_in c.args.self.now.chains.chains
    c.args.self.now.chains.nexts c.in-Some.at ≡ Some l)
    × (q : List ℕ) × (key_in c.args.self.now.keys.by_place c.in-Some.at ≡ Some q)
here c =
    let s = c.args.self.now in
    let links = link_in s.chains.chains s.chains.nexts in
    let n = next_there s.keys.by_place s.free.items s.chains.count s.overflow.places.items links s.index c.args.key.now
    c.loop-next.next c.loop-next.invariant c.in-Some.at c.in-Some.is in
    let place = (link_in-is s.chains.chains s.chains.nexts c.in-Some.at n.0 n.1).1 in
    (n.0, n.1, n.3, sym (ap (key_in s.keys.by_place) place) ∙ n.4)

pub key-requires : goal.key-requires
key-requires c = ap is_some (here (goal.at.key-requires c).In-Some).3

pub next-next-requires : goal.next-next-requires
next-next-requires c =
    let s = c.args.self.now in
    let h = here (goal.at.next-next-requires c).In-Some in
    s.chains.chained.within c.in-Some.at h.0 h.1

pub returns-then-are_same-clause-found : goal.returns-then-are_same-clause-found
returns-then-are_same-clause-found c =
    let s = c.args.self.now in
    let h = here (goal.at.returns-then-are_same-clause-found c).In-Some in
    let place = (link_in-is s.chains.chains s.chains.nexts c.in-Some.at h.0 h.1).1 in
    let t : pointwise nat_eq c.key.result.now c.args.key.now ≡ true = sym c.are_same.ensures
    ∙ c.if-are_same.true in
    record {
      link = h.0;
      there = h.1;
      has = ap (key_in s.keys.by_place) place ∙ c.key.ensures.key ∙ ap Some
          ((bytes_decides c.key.result.now c.args.key.now).0 t);
    }

pub loop-next-smaller : goal.loop-next-smaller
loop-next-smaller c =
    let s = c.args.self.now in
    let links = link_in s.chains.chains s.chains.nexts in
    let h = here (goal.at.loop-next-smaller c).In-Some in
    let next = c.next-next.ensures ∙ sym (link_in-is s.chains.chains s.chains.nexts c.in-Some.at h.0
    h.1).2 in
    subst (λ (o : Option _). height c.next-next.result < height o) (sym c.in-Some.is)
    (lower (in_chain links h.0.chain) c.in-Some.at c.next-next.result (next
    ∙ s.chains.chained.falls c.in-Some.at h.0 h.1))

pub loop-next-preserved : goal.loop-next-preserved
loop-next-preserved c =
    let s = c.args.self.now in
    let links = link_in s.chains.chains s.chains.nexts in
    let h = here (goal.at.loop-next-preserved c).In-Some in
    let is = link_in-is s.chains.chains s.chains.nexts c.in-Some.at h.0 h.1 in
    subst (λ (o : Option ℕ). Left s.keys.by_place s.chains.count links c.args.key.now o) (is.2
    ∙ sym c.next-next.ensures)
    (left_next s.keys.by_place s.free.items s.chains.count s.overflow.places.items links s.index c.args.key.now
    c.loop-next.next c.loop-next.invariant c.in-Some.at h.0 c.in-Some.is h.1
    (λ e.
    let f : Some c.key.result.now ≡ Some c.args.key.now = sym c.key.ensures.key ∙ ap
    (key_in s.keys.by_place) (sym is.1) ∙ e in
    let same : c.key.result.now ≡ c.args.key.now = cc in
    let t : pointwise nat_eq c.key.result.now c.args.key.now ≡ true =
    (bytes_decides c.key.result.now c.args.key.now).1 same in
    let g = c.are_same.ensures in
    let no = c.if-are_same.false in
    cc)
    (s.chains.chained.falls c.in-Some.at h.0 h.1))

pub returns-clause-absent : goal.returns-clause-absent
returns-clause-absent c = λ e.
    let s = c.args.self.now in
    let links = link_in s.chains.chains s.chains.nexts in
    not_found s.keys.by_place s.free.items s.chains.count s.overflow.places.items links s.index
    c.args.key.now
    (subst (Left s.keys.by_place s.chains.count links c.args.key.now) c.in_default.is
    c.loop-next.invariant)
