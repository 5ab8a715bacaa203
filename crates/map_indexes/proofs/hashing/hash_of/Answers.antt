use Rattle.map_indexes.proofs.Common.{◌≡◌, ◌+◌, ◌-◌, ◌/◌, ◌<◌, ◌≤◌, ℕ, List, length, take, drop, sym, ap, ap₂, ◌∙◌, arith, length-drop, take_all, little_number, mixed, words_mixed, hash_of}
use Rattle.map_indexes.proofs.HashingLaws.{words_mixed-four, words_mixed-last, words_mixed-none}
use Rattle.map_indexes.proofs.hashing.hash_of.Goals as goal

pub loop-rest-preserved : goal.loop-rest-preserved
loop-rest-preserved c =
    let bs : List ℕ = c.loop-rest.rest.now in
    let h : ℕ = c.loop-rest.hash in
    let test = c.loop-rest-test.true in
    let more : 4 ≤ length bs = omega arith in
    let left : length (drop 4 bs) ≡ length bs - 4 = length-drop 4 bs in
    let rest : take (length bs - 4) (drop 4 bs) ≡ drop 4 bs =
    take_all (length bs - 4) (drop 4 bs) (omega arith) in
    let hash : c.mixed-hash.result ≡ mixed h (little_number 4 bs) =
    c.mixed-hash.ensures ∙ ap (mixed h) (c.from.ensures ∙ c.read_u32.ensures) in
    ap₂ (λ (xs : List ℕ) (k : ℕ). words_mixed ((length xs + 3) / 4) xs k) rest hash
    ∙ ap (λ (n : ℕ). words_mixed ((n + 3) / 4) (drop 4 bs) (mixed h (little_number 4 bs))) left
    ∙ sym (words_mixed-four bs h more) ∙ c.loop-rest.invariant

pub returns-then-is_empty : goal.returns-then-is_empty
unfolding hash_of
returns-then-is_empty c =
    let bs : List ℕ = c.loop-rest.rest.now in
    let test = c.if-is_empty.true in
    let is = c.is_empty.ensures in
    let none : length bs ≡ 0 = grind arith in
    sym (words_mixed-none bs c.loop-rest.hash none) ∙ c.loop-rest.invariant

pub returns-else-is_empty : goal.returns-else-is_empty
unfolding hash_of
returns-else-is_empty c =
    let bs : List ℕ = c.loop-rest.rest.now in
    let h : ℕ = c.loop-rest.hash in
    let test = c.if-is_empty.false in
    let is = c.is_empty.ensures in
    let end = c.loop-rest-test.false in
    let some : 0 < length bs = grind arith in
    let few : length bs < 4 = omega arith in
    c.mixed.ensures ∙ ap (mixed h) c.last_word.ensures
    ∙ sym (words_mixed-last bs h some few) ∙ c.loop-rest.invariant
