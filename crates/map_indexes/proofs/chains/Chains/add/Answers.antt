use Rattle.map_indexes.proofs.Common.{◌≡◌, ℕ, ◌<◌, List, length, Option, Some, ap, sym, subst, ◌∙◌, arith, IfSome, slice_set, link_in, heads_led, nexts_led, chain_place, IsChained}
use Rattle.map_indexes.proofs.ChainLaws.{place_or, length-heads_led, length-head_set, length-nexts_led}
use Rattle.map_indexes.proofs.ListedLinks.{before_some, still_some, leads, fits, lists_added, added_chain_place, added_chain_places}
use Rattle.map_indexes.proofs.chains.Chains.add.Goals as goal

pub after-next-requires-clause-from : goal.after-next-requires-clause-from
after-next-requires-clause-from c =
    let s = c.args.self.now in
    before_some s.heads s.chains s.nexts s.chained s.whole c.args.chain c.args.at
    c.behind-from.result c.behind-from.ensures

pub set-requires-clause-small : goal.set-requires-clause-small
set-requires-clause-small c =
    let s = c.args.self.now in
    let a = s.small in
    let b = c.requires.chain in
    omega arith

pub set-requires-2-clause-inside : goal.set-requires-2-clause-inside
set-requires-2-clause-inside c =
    let w = c.args.self.now.whole in
    let a = c.requires.at in
    omega arith

pub set-requires-2-clause-small : goal.set-requires-2-clause-small
set-requires-2-clause-small c =
    let s = c.args.self.now in
    let n = s.counted in
    let a = c.requires.chain in
    fits s.heads s.chains s.nexts s.chained s.few c.args.chain (place_or
    (length s.chains) c.behind-from.result) c.after-next.result
    (c.after-next.ensures ∙ leads s.heads s.chains s.nexts s.chained s.whole c.args.chain c.args.at
    c.behind-from.result c.behind-from.ensures (omega arith))

pub lead-requires-clause-chain : goal.lead-requires-clause-chain
lead-requires-clause-chain c =
    let n = c.args.self.now.counted in
    let a = c.requires.chain in
    omega arith

pub lead-requires-clause-from : goal.lead-requires-clause-from
lead-requires-clause-from c =
    let s = c.args.self.now in
    subst (λ (l : List (Option ℕ)). IfSome c.behind-from.result (λ k. k < length l))
    (sym c.set-2.ensures)
    (still_some s.heads s.chains s.nexts s.chained s.whole c.args.chain c.args.at
    c.behind-from.result c.behind-from.ensures c.after-next.result c.requires.at)

pub lead-requires-clause-to : goal.lead-requires-clause-to
lead-requires-clause-to c =
    let f = c.args.self.now.few in
    let a = c.requires.at in
    omega arith

pub invariant_of-self : goal.invariant_of-self
invariant_of-self c =
    let s = c.args.self.now in
    let chain : ℕ = c.args.chain in
    let at : ℕ = c.args.at in
    let from = c.behind-from.result in
    let next = c.after-next.result in
    let n = s.counted in
    let a = c.requires.chain in
    let inside : chain < length s.heads = omega arith in
    let lead = c.lead.ensures in
    let chains : c.set.new.self ≡ slice_set s.chains at (Some chain) = c.set.ensures in
    let nexts : c.lead.new.nexts ≡ nexts_led from (Some at) (slice_set s.nexts at next) =
    lead.nexts ∙ ap (nexts_led from (Some at)) c.set-2.ensures in
    let long : length c.set.new.self ≡ length s.chains = ap length chains
    ∙ length-head_set s.chains at (Some chain) in
    let is = lists_added s.heads s.chains s.nexts s.chained s.whole chain at from
    c.behind-from.ensures next c.requires.at inside c.requires.free
    (c.after-next.ensures ∙ leads s.heads s.chains s.nexts s.chained s.whole chain at from
    c.behind-from.ensures inside) in
    let whole : length c.lead.new.nexts ≡ length s.nexts =
    ap length nexts ∙ length-nexts_led from (Some at) (slice_set s.nexts at next)
    ∙ length-head_set s.nexts at next in
    record {
      counted = ap length lead.heads ∙ length-heads_led from chain (Some at) s.heads ∙ s.counted;
      small = s.small;
      few = let f = s.few in omega arith;
      whole = whole ∙ s.whole ∙ sym long;
      chained =
          subst (λ (m : ℕ). IsChained c.lead.new.heads m (link_in c.set.new.self c.lead.new.nexts))
          (sym long)
          (subst (λ (h : List (Option ℕ)). IsChained h (length s.chains)
          (link_in c.set.new.self c.lead.new.nexts)) (sym lead.heads)
          (subst (λ (l : List (Option ℕ)). IsChained (heads_led from chain (Some at) s.heads)
          (length s.chains) (link_in l c.lead.new.nexts)) (sym chains)
          (subst (λ (l : List (Option ℕ)). IsChained (heads_led from chain (Some at) s.heads)
          (length s.chains) (link_in (slice_set s.chains at (Some chain)) l)) (sym nexts) is)));
    }

pub returns-clause-added : goal.returns-clause-added
returns-clause-added c =
    let s = c.args.self.now in
    let from = c.behind-from.result in
    let next = c.after-next.result in
    let nexts = c.lead.ensures.nexts ∙ ap (nexts_led from (Some c.args.at)) c.set-2.ensures in
    (λ k. chain_place (link_in (c.set.ensures k) (nexts k) c.args.at))
    ∙ added_chain_place s.heads s.chains s.nexts s.chained s.whole c.args.chain c.args.at from
    c.behind-from.ensures next c.requires.at

pub returns-clause-others : goal.returns-clause-others
returns-clause-others c = λ j d.
    let s = c.args.self.now in
    let from = c.behind-from.result in
    let next = c.after-next.result in
    let nexts = c.lead.ensures.nexts ∙ ap (nexts_led from (Some c.args.at)) c.set-2.ensures in
    (λ k. chain_place (link_in (c.set.ensures k) (nexts k) j))
    ∙ added_chain_places s.heads s.chains s.nexts s.chained s.whole c.args.chain c.args.at from
    c.behind-from.ensures next c.requires.at j d

pub returns-clause-room : goal.returns-clause-room
returns-clause-room c = ap length c.set.ensures ∙ length-head_set c.args.self.now.chains c.args.at
    (Some c.args.chain)
