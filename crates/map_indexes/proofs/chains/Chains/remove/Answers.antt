use Rattle.map_indexes.proofs.Common.{◌≡◌, ℕ, List, length, Option, Some, None, ap, sym, subst, ◌∙◌, arith, slice_index_or, slice_set, Link, link_with, link_in, heads_led, nexts_led, chain_place, IsChained}
use Rattle.map_indexes.proofs.ChainLaws.{length-heads_led, length-head_set, length-nexts_led}
use Rattle.map_indexes.proofs.ListedLinks.{fits, lists_removed, gone_here, gone_chain_places}
use Rattle.map_indexes.proofs.chains.Chains.remove.Goals as goal
use Rattle.map_indexes.proofs.chains.Chains.remove.Goals.{After-at-next}

-- the link that goes
link : (c : After-at-next) → link_in c.args.self.now.chains c.args.self.now.nexts c.args.at
    ≡ Some (record { chain = c.in-Some.chain; place = c.args.at; next = c.at-next.result })
link c =
    let chain : slice_index_or c.args.self.now.chains c.args.at None
    ≡ Some c.in-Some.chain = sym c.at.ensures ∙ c.in-Some.is in
    λ i. link_with c.args.at (chain i) (sym c.at-next.ensures i)

abbrev link_at : (c : After-at-next) → Link
link_at c = record { chain = c.in-Some.chain; place = c.args.at; next = c.at-next.result }

pub lead-requires-clause-to : goal.lead-requires-clause-to
lead-requires-clause-to c =
    let s = c.args.self.now in
    let w = (goal.at.lead-requires-clause-to c).After-at-next in
    fits s.heads s.chains s.nexts s.chained s.few c.in-Some.chain c.args.at c.at-next.result
    (s.chained.falls c.args.at (link_at w) (link w))

pub invariant_of-self : goal.invariant_of-self
invariant_of-self c =
    let s = c.args.self.now in
    let w = (goal.at.invariant_of-self c).After-at-next in
    let chain : ℕ = c.in-Some.chain in
    let at : ℕ = c.args.at in
    let from = c.behind-from.result in
    let next = c.at-next.result in
    let lead = c.lead.ensures in
    let chains : c.set.new.self ≡ slice_set s.chains at None = c.set.ensures in
    let nexts : c.lead.new.nexts ≡ nexts_led from next s.nexts = lead.nexts in
    let long : length c.set.new.self ≡ length s.chains = ap length chains
    ∙ length-head_set s.chains at None in
    let is = lists_removed s.heads s.chains s.nexts s.chained s.whole chain at from
    c.behind-from.ensures next at (link w) in
    record {
      counted = ap length lead.heads ∙ length-heads_led from chain next s.heads ∙ s.counted;
      small = s.small;
      few = let f = s.few in omega arith;
      whole = ap length nexts ∙ length-nexts_led from next s.nexts ∙ s.whole ∙ sym long;
      chained =
          subst (λ (m : ℕ). IsChained c.lead.new.heads m (link_in c.set.new.self c.lead.new.nexts))
          (sym long)
          (subst (λ (h : List (Option ℕ)). IsChained h (length s.chains)
          (link_in c.set.new.self c.lead.new.nexts)) (sym lead.heads)
          (subst (λ (l : List (Option ℕ)). IsChained (heads_led from chain next s.heads)
          (length s.chains) (link_in l c.lead.new.nexts)) (sym chains)
          (subst (λ (l : List (Option ℕ)). IsChained (heads_led from chain next s.heads)
          (length s.chains) (link_in (slice_set s.chains at None) l)) (sym nexts) is)));
    }

pub returns-clause-removed : goal.returns-clause-removed
returns-clause-removed c =
    let s = c.args.self.now in
    let w = (goal.at.returns-clause-removed c).After-at-next in
    (λ k. link_in (c.set.ensures k) (c.lead.ensures.nexts k) c.args.at)
    ∙ gone_here s.heads s.chains s.nexts s.chained s.whole c.in-Some.chain c.args.at
    c.behind-from.result c.behind-from.ensures c.at-next.result
    (s.chained.within c.args.at (link_at w) (link w))

pub returns-clause-others : goal.returns-clause-others
returns-clause-others c = λ j d.
    let s = c.args.self.now in
    (λ k. chain_place (link_in (c.set.ensures k) (c.lead.ensures.nexts k) j))
    ∙ gone_chain_places s.heads s.chains s.nexts s.chained s.whole c.in-Some.chain c.args.at
    c.behind-from.result c.behind-from.ensures c.at-next.result j d

pub returns-clause-room : goal.returns-clause-room
returns-clause-room c = ap length c.set.ensures ∙ length-head_set c.args.self.now.chains c.args.at
    None
