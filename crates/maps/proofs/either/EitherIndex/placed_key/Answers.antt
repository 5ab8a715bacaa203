use Rattle.maps.proofs.Common.{◌≡◌, ℕ, ◌+◌, List, ◌++◌, drop, Some, None, length, sym, ap, ◌∙◌, arith, slice_get-get_or, slice_get_past, values, slice_get, option_map, little_bytes, places_of, kind_of, listed_of, with_key_of}
use Rattle.maps.proofs.ReportOrderLaws.{listed-index, listed-past, listed-some, listed-key, listed-none}
use Rattle.maps.proofs.either.EitherIndex.placed_key.Goals as goal
use Rattle.maps.proofs.either.EitherIndex.placed_key.Goals.{After-slice_known-in-Array-1}

past : (c : goal.Then-k-entries) → slice_get (listed_of c.args.self.now) c.args.k ≡ None
past c =
    let n = c.entries.ensures in
    let l = c.if-k-entries.true in
    ap (λ (es : List (List ℕ × ℕ)). slice_get es c.args.k) (ap listed_of c.in-Array.is)
    ∙ listed-past c.in-Array.index.entries c.args.k (omega arith)

pub returns-then-k-entries-clause-place : goal.returns-then-k-entries-clause-place
returns-then-k-entries-clause-place c = sym (ap (option_map (λ (e : List ℕ × ℕ). e.1)) (past c))

pub returns-then-k-entries-clause-key : goal.returns-then-k-entries-clause-key
returns-then-k-entries-clause-key c = sym (ap (λ o. with_key_of o c.args.key.now) (past c))

here : (c : After-slice_known-in-Array-1)
    → slice_get (listed_of c.args.self.now) c.args.k ≡ Some (little_bytes 4 c.args.k, c.args.k)
here c =
    let n = c.entries.ensures in
    let l = c.if-k-entries.false in
    ap (λ (es : List (List ℕ × ℕ)). slice_get es c.args.k) (ap listed_of c.in-Array.is)
    ∙ listed-index c.in-Array.index.entries c.args.k (omega arith)

pub returns-else-k-entries-clause-place : goal.returns-else-k-entries-clause-place
returns-else-k-entries-clause-place c = sym (ap (option_map (λ (e : List ℕ × ℕ). e.1)) (here c))

pub returns-else-k-entries-clause-key : goal.returns-else-k-entries-clause-key
returns-else-k-entries-clause-key c =
    c.write_u32.ensures ∙ sym (ap (λ o. with_key_of o c.args.key.now) (here c))

none : (c : goal.Then-k-list) → slice_get (listed_of c.args.self.now) c.args.k ≡ None
none c =
    let l = c.if-k-list.true in
    let kind = ap kind_of c.in-Chain.is in
    let all = c.requires.list kind ∙ ap (λ (i : _). values (places_of i)) c.in-Chain.is in
    ap (λ (es : List (List ℕ × ℕ)). slice_get es c.args.k) (ap listed_of c.in-Chain.is)
    ∙ listed-none c.in-Chain.index.keys.by_place c.args.k
    (ap (λ (ps : List ℕ). slice_get ps c.args.k) (sym all)
    ∙ slice_get_past c.args.list.now c.args.k (omega arith))

pub returns-then-k-list-clause-place : goal.returns-then-k-list-clause-place
returns-then-k-list-clause-place c = sym (ap (option_map (λ (e : List ℕ × ℕ). e.1)) (none c))

pub returns-then-k-list-clause-key : goal.returns-then-k-list-clause-key
returns-then-k-list-clause-key c = sym (ap (λ o. with_key_of o c.args.key.now) (none c))

pub key-requires : goal.key-requires
key-requires c =
    let l = c.if-k-list.false in
    let kind = ap kind_of c.in-Chain.is in
    let all = c.requires.list kind ∙ ap (λ (i : _). values (places_of i)) c.in-Chain.is in
    listed-some c.in-Chain.index.keys.by_place c.args.k _
    (ap (λ (ps : List ℕ). slice_get ps c.args.k) (sym all)
    ∙ slice_get-get_or c.args.list.now c.args.k 0 (omega arith))

from_zero : (n : ℕ) → 0 + n ≡ n
from_zero n = omega arith

pub returns-else-k-list-clause-key : goal.returns-else-k-list-clause-key
returns-else-k-list-clause-key c =
    let l = c.if-k-list.false in
    let kind = ap kind_of c.in-Chain.is in
    let all = c.requires.list kind ∙ ap (λ (i : _). values (places_of i)) c.in-Chain.is in
    let there = ap (λ (es : List (List ℕ × ℕ)). slice_get es c.args.k) (ap listed_of c.in-Chain.is)
    ∙ listed-key c.in-Chain.index.keys.by_place c.args.k _
    (ap (λ (ps : List ℕ). slice_get ps c.args.k) (sym all)
    ∙ slice_get-get_or c.args.list.now c.args.k 0 (omega arith)) c.key.result.now
    c.key.ensures.key in
    c.put_bytes.ensures
    ∙ ap (λ (n : ℕ). c.key.result.now ++ drop n c.args.key.now)
    (from_zero (length c.key.result.now))
    ∙ sym (ap (λ o. with_key_of o c.args.key.now) there)
