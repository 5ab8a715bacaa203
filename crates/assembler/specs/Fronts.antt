-- The front of a text: the lexemes that surely end in it, and what is left of it.
use Rattle.std.specs.Prelude.{◌≡◌, ℕ, ◌-◌, ◌<◌, ◌≤◌, List, ◌++◌, length, map, drop, ◌⊎◌}
use Rattle.assembler.specs.Lexing.{lexeme_at}
use Rattle.assembler.specs.Naming.{NameUse}
use Rattle.assembler.specs.Assembling.{TokenSpan, ReadSoFar, start, read_on}
use Rattle.assembler.specs.Settled.{TakesAll}

-- ---- the same with other offsets

abbrev pub shifted_span : (ℕ → ℕ) → TokenSpan → TokenSpan
shifted_span f span = (f span.0, span.1)

abbrev pub shifted_use : (ℕ → ℕ) → NameUse → NameUse
shifted_use f u = record { index = u.index; slot = u.slot; name = u.name; offset = f u.offset }

abbrev pub shifted : (ℕ → ℕ) → ReadSoFar → ReadSoFar
shifted f s = record {
  tokens = s.tokens;
  spans = map (shifted_span f) s.spans;
  version = s.version;
  maps = s.maps;
  insns = s.insns;
  labels = s.labels;
  uses = map (shifted_use f) s.uses;
}

-- offsets below that are the same
abbrev pub Fixes : (ℕ → ℕ) → ℕ → Type 0
Fixes f n = (o : ℕ) → o < n → f o ≡ o

-- all tokens that were read begin before that offset
abbrev pub IsBelow : ℕ → ReadSoFar → Type 0
IsBelow n s = (f : ℕ → ℕ) → Fixes f n → shifted f s ≡ s

-- ---- the front of a text

-- however the text goes on, what is left of it is read from there on in this state
abbrev pub ReadsOn : List ℕ → List ℕ → ℕ → ReadSoFar → Type 0
ReadsOn text rest at s =
    (more : List ℕ) → read_on (text ++ more) 0 0 start ≡ read_on (rest ++ more) 0 at s

-- what is left of a text after the lexemes that surely end in it
pub record IsTextFront (text rest : List ℕ) (s : ReadSoFar) : Type 0 where
  pub goes_on : ReadsOn text rest (length text - length rest) s
  pub is_beginning : (length rest < 4) ⊎ TakesAll (lexeme_at rest) (length rest)
  pub few : length rest ≤ length text
  pub ends : drop (length text - length rest) text ≡ rest
  pub below : IsBelow (length text - length rest) s
