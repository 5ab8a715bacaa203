-- What the first bytes of a text say of it.
use Rattle.std.specs.Prelude.{◌≡◌, ℕ, ◌<◌, ◌≤◌, List, ◌++◌, length, Option, Some, None, ◌⊎◌}
use Rattle.assembler.specs.declared.tokens.Lexeme.{Lexeme}
use Rattle.assembler.specs.Lexing.{lexeme_at}
use Rattle.assembler.specs.Assembling.{ReadSoFar, start, read_on, assembled}

-- however the text goes on, it is refused alike
abbrev pub IsTextSettled : List ℕ → Type 0
IsTextSettled text = (more : List ℕ) → assembled (text ++ more) ≡ assembled text

-- a lexeme that takes up all the bytes, so that more of them may belong to it
abbrev pub TakesAll : Option (Lexeme × ℕ) → ℕ → Type 0
TakesAll None all = ⊥
TakesAll (Some p) all = all ≤ p.1

-- what surely ends in the text is accepted: what is left is the beginning of a lexeme
pub record IsTextOpen (text : List ℕ) : Type 0 where
  pub rest : List ℕ
  pub at : ℕ
  pub before : ReadSoFar
  pub goes_on : (more : List ℕ)
      → read_on (text ++ more) 0 0 start ≡ read_on (rest ++ more) 0 at before
  pub is_beginning : (length rest < 4) ⊎ TakesAll (lexeme_at rest) (length rest)
