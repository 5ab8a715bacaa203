-- Laws of pieces that are put one after the other to the front of a buffer.
use Rattle.captures.proofs.Common.{◌≡◌, ◌∙◌, ℕ, ◌+◌, ◌-◌, ◌<◌, ◌≤◌, List, [], ◌∷◌, ◌++◌, Option, Result, Ok, Err, zero, suc, length, take, refl, sym, ap, subst, append_assoc, append-nil, length-append, arith, OnErr, replicate, Appends, length-take-le, take-append-le, take-append-add, Appends-trans, AppendsBeginning, interface_block, interface_blocks}

-- five pieces
pub five_pieces : (two three four five a b c d e : List ℕ) → two ≡ a ++ b → three ≡ two ++ c
    → four ≡ three ++ d → five ≡ four ++ e → five ≡ a ++ (b ++ (c ++ (d ++ e)))
five_pieces two three four five a b c d e ab bc cd de =
    de
    ∙ ap (λ (l : List ℕ). l ++ e)
    (cd ∙ ap (λ (l : List ℕ). l ++ d) (bc ∙ ap (λ (l : List ℕ). l ++ c) ab))
    ∙ append_assoc (a ++ b ++ c) d e
    ∙ append_assoc (a ++ b) c (d ++ e)
    ∙ append_assoc a b (c ++ (d ++ e))

-- a piece by another name
pub same-piece : (all front piece other : List ℕ) → all ≡ front ++ piece → piece ≡ other
    → all ≡ front ++ other
same-piece all front piece other h e = h ∙ ap (λ (l : List ℕ). front ++ l) e

-- the first of four zeros
pub zeros-take : (n : ℕ) → n ≤ 4 → take {A = ℕ} n (0 ∷ 0 ∷ 0 ∷ 0 ∷ []) ≡ replicate n 0
zeros-take zero h = refl
zeros-take (suc zero) h = refl
zeros-take (suc (suc zero)) h = refl
zeros-take (suc (suc (suc zero))) h = refl
zeros-take (suc (suc (suc (suc zero)))) h = refl
zeros-take (suc (suc (suc (suc (suc n))))) h = absurd (omega (arith, h))

-- how long the front is
pub front-length : (n : ℕ) (xs front : List ℕ) → n ≤ length xs → take n xs ≡ front
    → n ≡ length front
front-length n xs front within is = sym (length-take-le n xs within) ∙ ap length is

-- ---- interfaces

pub interface_blocks-add : (n m : ℕ)
    → interface_blocks n ++ interface_blocks m ≡ interface_blocks (n + m)
unfolding interface_blocks
interface_blocks-add zero m =
    let e : m ≡ 0 + m = omega arith in ap interface_blocks e
interface_blocks-add (suc n) m =
    let e : suc (n + m) ≡ suc n + m = omega arith in
    append_assoc interface_block (interface_blocks n) (interface_blocks m)
    ∙ ap (λ (l : List ℕ). interface_block ++ l) (interface_blocks-add n m)
    ∙ ap interface_blocks e

pub interface_blocks-one : interface_blocks 1 ≡ interface_block
unfolding interface_blocks
interface_blocks-one = append-nil interface_block

-- one more
pub interface_blocks-next : (n : ℕ)
    → interface_blocks n ++ interface_block ≡ interface_blocks (n + 1)
interface_blocks-next n =
    ap (λ (l : List ℕ). interface_blocks n ++ l) (sym interface_blocks-one)
    ∙ interface_blocks-add n 1

-- the blocks, the next one, and the others
pub interface_blocks-split : (n count : ℕ) → n < count
    → interface_blocks count
    ≡ interface_blocks n ++ (interface_block ++ interface_blocks (count - (n + 1)))
interface_blocks-split n count less =
    let more = count - (n + 1) in
    let is : count ≡ n + 1 + more = omega (arith, less) in
    ap interface_blocks is
    ∙ sym (interface_blocks-add (n + 1) more)
    ∙ ap (λ (l : List ℕ). l ++ interface_blocks more) (sym (interface_blocks-next n))
    ∙ append_assoc (interface_blocks n) interface_block (interface_blocks more)

-- some blocks were written, and then a beginning of the next one
pub interface_blocks-part : {X E : Type 0} (r : Result X E) (a b c : Option (List ℕ))
    (n count : ℕ) → n < count
    → Appends a b (interface_blocks n) → AppendsBeginning b c interface_block
    → OnErr r (AppendsBeginning a c (interface_blocks count))
interface_blocks-part (Ok x) a b c n count less whole part = tt
interface_blocks-part (Err x) a b c n count less whole part =
    let more = interface_blocks (count - (n + 1)) in
    let some = part.0 in
    let front = interface_blocks n in
    let is = interface_blocks-split n count less in
    let within : some ≤ length interface_block = omega (arith, part.1) in
    let begins : take (length front + some) (interface_blocks count)
    ≡ front ++ take some interface_block =
    ap (take (length front + some)) is
    ∙ take-append-add front (interface_block ++ more) some
    ∙ ap (λ (l : List ℕ). front ++ l) (take-append-le some interface_block more within) in
    let long : length (interface_blocks count)
    ≡ length front + (length interface_block + length more) =
    ap length is ∙ length-append front (interface_block ++ more)
    ∙ ap (λ (k : ℕ). length front + k) (length-append interface_block more) in (
      length front + some,
      omega (arith, part.1, long),
      subst (Appends a c) (sym begins) (Appends-trans a b c front (take some interface_block) whole
          part.2),
    )
