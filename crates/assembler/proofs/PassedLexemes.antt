-- Laws of the lexemes that change nothing.
use Rattle.assembler.proofs.Common.{◌≡◌, ℕ, ◌-◌, ◌<◌, ◌≤◌, ◌⊎◌, inl, inr, List, [], ◌∷◌, length, take, drop, refl, ap, ◌∙◌, Option, Some, None, Result, Ok, IfSome, slice_get, Lexeme, Blank, End, Solid, lexeme_at, token_length, Refusal, ReadSoFar, read_on, ChangesNothing, ReadsOn}
use Rattle.assembler.proofs.LongStatements.{pushed-full}
use Rattle.assembler.proofs.ReadingLoop.{loop_turn-taken}
use Rattle.assembler.proofs.SettledTexts.{goes-on}

-- a space or a tab
pub blank-passes : (s : ReadSoFar) (bs : List ℕ) (b : ℕ) → Some b ≡ slice_get bs 0
    → (b ≡ 32) ⊎ (b ≡ 9) → ChangesNothing s bs 1
blank-passes s [] b first is = absurd (cc)
blank-passes s (c ∷ bs) b first (inl is) =
    let same : c ≡ 32 = cc in (Blank, rw same refl, λ span. refl)
blank-passes s (c ∷ bs) b first (inr is) =
    let same : c ≡ 9 = cc in (Blank, rw same refl, λ span. refl)

-- a token of a statement of which as many are kept as can matter
pub token-passes : (s : ReadSoFar) (bs : List ℕ) (r : Option ℕ) → r ≡ token_length (lexeme_at bs)
    → length s.tokens ≡ 16 → length s.spans ≡ 16 → IfSome r (λ n. ChangesNothing s bs n)
token-passes s bs r e tokens spans = of (lexeme_at bs) refl r e where
  of : (found : Option (Lexeme × ℕ)) → lexeme_at bs ≡ found → (r : Option ℕ)
      → r ≡ token_length found → IfSome r (λ n. ChangesNothing s bs n)
  of found is None e = tt
  of None is (Some n) e = absurd (cc)
  of (Some (Blank, m)) is (Some n) e = absurd (cc)
  of (Some (End, m)) is (Some n) e = absurd (cc)
  of (Some (Solid t, m)) is (Some n) e =
      let same : m ≡ n = cc in
      (Solid t, is ∙ rw same refl, λ span. ap (λ (u : ReadSoFar). let r : Result ReadSoFar Refusal = Ok u in r) (pushed-full s t span tokens spans))

-- the loop over a text passes it over
pub loop_turn-passed : (bs : List ℕ) (all : ℕ) (s : ReadSoFar) (n : ℕ) → 0 < length bs
    → length bs ≤ all → ChangesNothing s bs n
    → read_on bs 0 (all - length bs) s
    ≡ read_on (drop (n - 1) (drop 1 bs)) 0 (all - length (drop (n - 1) (drop 1 bs))) s
loop_turn-passed bs all s n more few (x, found, same) =
    loop_turn-taken bs all s x n s more few found (same (all - length bs, take n bs))

-- and so does the loop over the first bytes of it
pub goes-on-passed : (front rest : List ℕ) (s : ReadSoFar) (n : ℕ)
    → ReadsOn front rest (length front - length rest) s → 4 ≤ length rest
    → length rest ≤ length front → n < length rest → ChangesNothing s rest n
    → ReadsOn front (drop (n - 1) (drop 1 rest))
    (length front - length (drop (n - 1) (drop 1 rest))) s
goes-on-passed front rest s n on some few less (x, found, same) =
    goes-on front rest s x n s on some few less found
    (same (length front - length rest, take n rest))
