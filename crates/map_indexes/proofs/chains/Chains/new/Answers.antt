use Rattle.map_indexes.proofs.Common.{◌≡◌, ℕ, List, length, Option, None, ap, sym, subst, ◌∙◌, arith, replicate, slice_index_or, length-replicate, IsChained, link_with, link_in}
use Rattle.map_indexes.proofs.ChainLaws.{chained_none, heads-none}
use Rattle.map_indexes.proofs.chains.Chains.new.Goals as goal

-- no place has a link where `chains`, the chain of the link at each place, has none
none : (chains nexts : List (Option ℕ)) (n : ℕ) → chains ≡ replicate n None → (k : ℕ)
    → link_in chains nexts k ≡ None
none chains nexts n e k =
    ap (λ (o : Option ℕ). link_with k o (slice_index_or nexts k None)) (ap (λ (l : List
    (Option ℕ)). slice_index_or l k None) e ∙ heads-none n k)

pub invariant_of-result : goal.invariant_of-result
invariant_of-result c =
    let chains = c.in_ok-chains.chains in
    let nexts = c.in_ok-nexts.nexts in
    let long : length chains ≡ c.args.room = ap length c.in_ok-chains.ensures
    ∙ length-replicate c.args.room None in
    let count = c.ranges.count in
    let room = c.ranges.room in
    record {
      counted = ap length c.in_ok-heads.ensures ∙ length-replicate c.args.count None;
      small = omega arith;
      few = omega arith;
      whole = ap length c.in_ok-nexts.ensures ∙ length-replicate c.args.room None ∙ sym long;
      chained = subst (λ (x : List (Option ℕ)). IsChained x (length chains) (link_in chains nexts))
          (sym c.in_ok-heads.ensures)
          (chained_none c.args.count (length chains) (link_in chains nexts)
          (none chains nexts c.args.room c.in_ok-chains.ensures));
    }

pub returns-clause-empty : goal.returns-clause-empty
returns-clause-empty c = none c.in_ok-chains.chains c.in_ok-nexts.nexts c.args.room
    c.in_ok-chains.ensures

pub returns-clause-room : goal.returns-clause-room
returns-clause-room c = ap length c.in_ok-chains.ensures ∙ length-replicate c.args.room None
