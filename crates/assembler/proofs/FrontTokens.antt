-- Laws of the token at the front of a text without names.
use Rattle.assembler.proofs.Common.{◌≡◌, ℕ, ◌<◌, ◌-◌, List, [], ◌∷◌, ◌++◌, length, refl, ap, ◌∙◌, arith, Option, Some, Token, Lexeme, Solid, lexeme_at}
use Rattle.assembler.proofs.PlainTexts.{◌>>=◌, PlainReadSoFar, accept, read_rest}

-- bytes that are passed over
pub skip : (xs ys : List ℕ) (s : PlainReadSoFar)
    → read_rest (xs ++ ys) (length xs) s ≡ read_rest ys 0 s
skip [] ys s = refl
skip (x ∷ xs) ys s = skip xs ys s

-- the lexeme at the front is accepted, and then the rest is read
abbrev pub reads_on : List ℕ → PlainReadSoFar → Option (Lexeme × ℕ) → Option PlainReadSoFar
reads_on bs s found = found >>= λ (p : Lexeme × ℕ). accept s p.0 >>= λ t. read_rest bs (p.1 - 1) t

-- a token at the front of the text
pub token : (cs rest : List ℕ) (t : Token) (s : PlainReadSoFar)
    → lexeme_at (cs ++ rest) ≡ Some (Solid t, length cs) → 0 < length cs
    → read_rest (cs ++ rest) 0 s
    ≡ read_rest rest 0 (record { tokens = s.tokens ++ t ∷ []; parts = s.parts })
token [] rest t s e more = absurd (omega (arith, more))
token (c ∷ cs) rest t s e more =
    let next : PlainReadSoFar = record { tokens = s.tokens ++ t ∷ []; parts = s.parts } in
    let k : length (c ∷ cs) - 1 ≡ length cs = omega arith in
    ap (reads_on (cs ++ rest) s) e ∙ ap (λ n. read_rest (cs ++ rest) n next) k ∙ skip cs rest next
