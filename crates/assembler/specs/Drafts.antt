-- What a draft has read so far: of a statement no more tokens than a label and a form have.
use Rattle.std.specs.Prelude.{◌≡◌, ℕ, nat_lt, if◌then◌else◌, List, [], ◌∷◌, ◌++◌, length, take, map, Some, Result, Ok}
use Rattle.assembler.specs.declared.tokens.Token.{Token}
use Rattle.assembler.specs.declared.tokens.Lexeme.{Lexeme}
use Rattle.assembler.specs.declared.tokens.Lexeme.TheVariants.{Blank, End, Solid}
use Rattle.assembler.specs.Lexing.{lexeme_at}
use Rattle.assembler.specs.declared.draft.Draft.{Draft}
use Rattle.assembler.specs.declared.draft.Span.{Span}
use Rattle.assembler.specs.declared.draft.TheConstants.{MOST_TOKENS}
use Rattle.assembler.specs.declared.refusals.Refusal.{Refusal}
use Rattle.assembler.specs.Labels.{label_of}
use Rattle.assembler.specs.Naming.{use_of}
use Rattle.assembler.specs.Assembling.{TokenSpan, ReadSoFar, accept}

abbrev pub span_of : Span → TokenSpan
span_of span = (span.offset, span.bytes.now)

abbrev pub progress_of : Draft → ReadSoFar
progress_of d =
    record {
      tokens = d.tokens.items;
      spans = map span_of d.spans.items;
      version = d.version;
      maps = d.maps.items;
      insns = d.code.insns.items;
      labels = map label_of d.labels.entries;
      uses = map use_of d.uses.items;
    }

-- ---- long statements

-- the same program before other tokens
abbrev pub with_statement : ReadSoFar → List Token → List TokenSpan → ReadSoFar
with_statement s tokens spans =
    record {
      tokens = tokens;
      spans = spans;
      version = s.version;
      maps = s.maps;
      insns = s.insns;
      labels = s.labels;
      uses = s.uses;
    }

-- one more token
abbrev pub pushed : ReadSoFar → Token → TokenSpan → ReadSoFar
pushed s t span = with_statement s (s.tokens ++ t ∷ []) (s.spans ++ span ∷ [])

-- the first tokens only
abbrev pub cut : ReadSoFar → ReadSoFar
cut s = with_statement s (take MOST_TOKENS s.tokens) (take MOST_TOKENS s.spans)

-- the same unless there are more
abbrev pub shortened : ReadSoFar → ReadSoFar
shortened s = if nat_lt MOST_TOKENS (length s.tokens) then cut s else s

-- the next lexeme, and no more tokens than these
abbrev pub accept_short : ReadSoFar → Lexeme → TokenSpan → Result ReadSoFar Refusal
accept_short s (Solid t) span = Ok (shortened (pushed s t span))
accept_short s Blank span = accept s Blank span
accept_short s End span = accept s End span

-- the bytes begin with a lexeme of that length, which changes nothing
abbrev pub ChangesNothing : ReadSoFar → List ℕ → ℕ → Type 0
ChangesNothing s bs n = (x : Lexeme) × (lexeme_at bs ≡ Some (x, n))
    × ((span : TokenSpan) → accept_short s x span ≡ Ok s)
