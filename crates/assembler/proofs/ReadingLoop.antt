-- Laws of the loop over the lexemes of a text: what each turn of it does.
use Rattle.assembler.proofs.Common.{◌≡◌, ℕ, zero, suc, ◌+◌, ◌-◌, ◌<◌, ◌≤◌, ◌⊎◌, List, [], ◌∷◌, length, take, drop, refl, ap, ◌∙◌, arith, inl, inr, eq-zero-or-pos, Some, None, ok_or, Result, Ok, Err, length-drop, UnknownByte, Refusal, Lexeme, lexeme_at, unknown_at, ◌>>=◌, ReadSoFar, accept, at_end, next_lexeme, read_on, accept_short}
use Rattle.assembler.proofs.LongStatements.{accept-short}

-- bytes that are passed over
skip : (bs : List ℕ) (k at : ℕ) (s : ReadSoFar)
    → read_on bs k at s ≡ read_on (drop k bs) 0 (at + k) s
skip [] zero at s = refl
skip [] (suc k) at s = refl
skip (b ∷ bs) zero at s = ap (λ n. read_on (b ∷ bs) 0 n s) (omega arith)
skip (b ∷ bs) (suc k) at s =
    let same : (at + 1) + k ≡ at + suc k = omega arith in
    skip bs k (at + 1) s ∙ ap (λ n. read_on (drop k bs) 0 n s) same

-- where no bytes are left the offset has no influence
anywhere : (bs : List ℕ) (m n : ℕ) (s : ReadSoFar) → (length bs ≡ 0) ⊎ (m ≡ n)
    → read_on bs 0 m s ≡ read_on bs 0 n s
anywhere bs m n s (inr e) = ap (λ at. read_on bs 0 at s) e
anywhere [] m n s (inl e) = refl
anywhere (b ∷ bs) m n s (inl e) = absurd (omega (arith, e))

-- after n bytes of a text, at least one, no byte is left, or the offset has grown by n
behind : (bs : List ℕ) (n all : ℕ) → 0 < length bs → length bs ≤ all
    → (length (drop (n - 1) (drop 1 bs)) ≡ 0)
    ⊎ (((all - length bs) + 1) + (n - 1) ≡ all - length (drop (n - 1) (drop 1 bs)))
behind bs n all more few =
    let one : length (drop 1 bs) ≡ length bs - 1 = length-drop 1 bs in
    let rest : length (drop (n - 1) (drop 1 bs)) ≡ length (drop 1 bs) - (n - 1) =
    length-drop (n - 1) (drop 1 bs) in
    elim (eq-zero-or-pos (length (drop (n - 1) (drop 1 bs)))) [
      | inl e ↦ inl e
      | inr some ↦ inr (omega (arith, one, rest, some, more, few))
    ]

-- the lexeme at the front is accepted, and then the rest is read
abbrev from_lexeme : List ℕ → ℕ → ReadSoFar → Result (Lexeme × ℕ) Refusal → Result ReadSoFar Refusal
from_lexeme bs at s found = found >>= λ (p : Lexeme × ℕ). accept s p.0 (at, take p.1 bs)
    >>= λ t. read_on (drop 1 bs) (p.1 - 1) (at + 1) t

loop_turn : (bs : List ℕ) (at : ℕ) (s : ReadSoFar) → 0 < length bs
    → read_on bs 0 at s ≡ from_lexeme bs at s (next_lexeme at bs)
loop_turn [] at s more = absurd (omega (arith, more))
loop_turn (b ∷ bs) at s more = refl

-- there is no lexeme
pub loop_turn-none : (bs : List ℕ) (at : ℕ) (s : ReadSoFar) → 0 < length bs → lexeme_at bs ≡ None
    → read_on bs 0 at s ≡ Err (record { kind = UnknownByte; offset = at + unknown_at bs })
loop_turn-none bs at s more e = loop_turn bs at s more
    ∙ ap (λ found. from_lexeme bs at s
    (ok_or found (record { kind = UnknownByte; offset = at + unknown_at bs }))) e

taken : (bs : List ℕ) (at : ℕ) (s : ReadSoFar) (x : Lexeme) (n : ℕ) (r : Result ReadSoFar Refusal)
    → 0 < length bs → lexeme_at bs ≡ Some (x, n) → accept_short s x (at, take n bs) ≡ r
    → read_on bs 0 at s ≡ (r >>= λ t. read_on (drop 1 bs) (n - 1) (at + 1) t)
taken bs at s x n r more e h =
    loop_turn bs at s more
    ∙ ap (λ found. from_lexeme bs at s
    (ok_or found (record { kind = UnknownByte; offset = at + unknown_at bs }))) e
    ∙ accept-short s x (at, take n bs) (drop 1 bs) (n - 1) (at + 1)
    ∙ ap (λ (o : Result ReadSoFar Refusal). o >>= λ t. read_on (drop 1 bs) (n - 1) (at + 1) t) h

-- the statement ends there and is refused
pub loop_turn-refused : (bs : List ℕ) (at : ℕ) (s : ReadSoFar) (x : Lexeme) (n : ℕ) (e : Refusal)
    → 0 < length bs → lexeme_at bs ≡ Some (x, n) → accept_short s x (at, take n bs) ≡ Err e
    → read_on bs 0 at s ≡ Err e
loop_turn-refused bs at s x n e more found h = taken bs at s x n (Err e) more found h

-- the lexeme is accepted, and the loop goes on
pub loop_turn-taken : (bs : List ℕ) (all : ℕ) (s : ReadSoFar) (x : Lexeme) (n : ℕ) (t : ReadSoFar)
    → 0 < length bs → length bs ≤ all → lexeme_at bs ≡ Some (x, n)
    → accept_short s x (all - length bs, take n bs) ≡ Ok t
    → read_on bs 0 (all - length bs) s
    ≡ read_on (drop (n - 1) (drop 1 bs)) 0 (all - length (drop (n - 1) (drop 1 bs))) t
loop_turn-taken bs all s x n t more few found h =
    taken bs (all - length bs) s x n (Ok t) more found h
    ∙ skip (drop 1 bs) (n - 1) ((all - length bs) + 1) t
    ∙ anywhere (drop (n - 1) (drop 1 bs)) (((all - length bs) + 1) + (n - 1))
    (all - length (drop (n - 1) (drop 1 bs))) t (behind bs n all more few)

-- the end of the text
pub loop_turn-end : (bs : List ℕ) (at : ℕ) (s : ReadSoFar) → length bs ≡ 0
    → read_on bs 0 at s ≡ at_end s
loop_turn-end [] at s none = refl
loop_turn-end (b ∷ bs) at s none = absurd (omega (arith, none))
