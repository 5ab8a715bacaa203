use Rattle.maps.proofs.Common.{◌≡◌, ℕ, List, Some, sym, ap, ◌∙◌, arith, is_some, get, is_lt, got, key_order, places_of, EitherIndex}
use Rattle.map_indexes.specs.ArrayLaws.{got_index}
use Rattle.maps.proofs.either.EitherIndex.is_before.Goals as goal

-- what is known of the places of an index is known of it as one kind
known : (i j : EitherIndex) (k : List ℕ) (p : ℕ) → i ≡ j → get (places_of i) k ≡ Some p
    → get (places_of j) k ≡ Some p
known i j k p same e = ap (λ (x : EitherIndex). get (places_of x) k) (sym same) ∙ e

pub overflow_cast-place : goal.overflow_cast-place
overflow_cast-place c =
    let h = c.requires.place in
    let within = (got_index c.in-Array.index.entries h.0 c.args.place
    (known _ _ h.0 c.args.place c.in-Array.is h.1)).0 in
    let small = c.in-Array.index.small in
    omega arith

pub overflow_cast-other : goal.overflow_cast-other
overflow_cast-other c =
    let h = c.requires.other in
    let within = (got_index c.in-Array.index.entries h.0 c.args.other
    (known _ _ h.0 c.args.other c.in-Array.is h.1)).0 in
    let small = c.in-Array.index.small in
    omega arith

pub key-requires : goal.key-requires
key-requires c =
    let h = c.requires.place in
    ap is_some (got c.in-Chain.index.keys.by_place h.0 c.args.place
    (known _ _ h.0 c.args.place c.in-Chain.is h.1))

pub key-requires-in-Chain : goal.key-requires-in-Chain
key-requires-in-Chain c =
    let h = c.requires.other in
    ap is_some (got c.in-Chain.index.keys.by_place h.0 c.args.other
    (known _ _ h.0 c.args.other c.in-Chain.is h.1))

pub returns-in-Array : goal.returns-in-Array
returns-in-Array c j k e f =
    let n : ℕ = c.in-Array.index.entries in
    let first = (got_index n j c.args.place (known _ _ j c.args.place c.in-Array.is e)).1 in
    let second = (got_index n k c.args.other (known _ _ k c.args.other c.in-Array.is f)).1 in
    c.is_index_before.ensures ∙ sym (λ i. is_lt (key_order (first i) (second i)))

pub returns-in-Chain : goal.returns-in-Chain
returns-in-Chain c j k e f =
    let keys = c.in-Chain.index.keys.by_place in
    let first : Some j ≡ Some c.key.result.now =
    sym (got keys j c.args.place (known _ _ j c.args.place c.in-Chain.is e)) ∙ c.key.ensures.key in
    let second : Some k ≡ Some c.key-in-Chain.result.now =
    sym (got keys k c.args.other (known _ _ k c.args.other c.in-Chain.is f))
    ∙ c.key-in-Chain.ensures.key in
    let one : j ≡ c.key.result.now = cc in
    let two : k ≡ c.key-in-Chain.result.now = cc in
    let compared = c.cmp.ensures in
    let tested = c.is_lt.ensures in
    let now : c.is_lt.result ≡ is_lt (key_order c.key.result.now c.key-in-Chain.result.now) = cc in
    now ∙ sym (λ i. is_lt (key_order (one i) (two i)))
