-- Programs from texts: lexeme by lexeme, a statement at a time.
use Rattle.std.specs.Prelude.{◌≡◌, ℕ, zero, suc, ◌+◌, ◌-◌, ◌==◌, nat_lt, not, Bool, if◌then◌else◌, is_none, List, [], ◌∷◌, ◌++◌, length, take, drop, slice_get, Option, Some, None, ok_or, Result, Ok, Err, ◌⊎◌, true, false, ◌&&◌}
use Rattle.isa_model.specs.declared.map_defs.MapDef.{MapDef}
use Rattle.isa_model.specs.declared.instructions.Insn.{Insn}
use Rattle.isa_model.specs.declared.versions.Version.{Version}
use Rattle.isa_model.specs.declared.versions.Version.TheVariants.{One, Two}
use Rattle.isa_model.specs.Code.Instructions.{Program, slots}
use Rattle.isa_model.specs.Code.Limits.{max_slots}
use Rattle.image.specs.Images as image
use Rattle.image.specs.Refusals.{count_refusal}
use Rattle.assembler.specs.declared.errors.AsmErrorKind.{AsmErrorKind}
use Rattle.assembler.specs.declared.errors.AsmErrorKind.TheVariants.{UnknownByte, NoForm, OutOfRange, Memory, SlotCount}
use Rattle.assembler.specs.declared.errors.AsmError.{AsmError}
use Rattle.assembler.specs.declared.refusals.Refusal.{Refusal}
use Rattle.assembler.specs.declared.readings.Reading.{Reading}
use Rattle.assembler.specs.declared.readings.Statement.{Statement}
use Rattle.assembler.specs.declared.readings.Statement.TheVariants as said
use Rattle.assembler.specs.declared.wrong.Wrong.{Wrong}
use Rattle.assembler.specs.declared.wrong.Objection.{Objection}
use Rattle.assembler.specs.declared.wrong.Wrong.TheVariants.{Form, Range}
use Rattle.assembler.specs.declared.tokens.Token.{Token}
use Rattle.assembler.specs.declared.tokens.Lexeme.{Lexeme}
use Rattle.assembler.specs.declared.tokens.Lexeme.TheVariants.{Blank, End, Solid}
use Rattle.assembler.specs.Lexing.{lexeme_at, unknown_at}
use Rattle.assembler.specs.Operands.{◌>>=◌}
use Rattle.assembler.specs.Labelled.{spelled_behind, has_form, label_length}
use Rattle.assembler.specs.MapTests.{objection}
use Rattle.assembler.specs.Labels.{with_label, slot_in}
use Rattle.assembler.specs.Naming.{NameUse, resolved}
use Rattle.assembler.specs.Positions.{error_at}

-- where a token, or the lexeme that is read next, begins in the text, and its bytes
abbrev pub TokenSpan : Type 0
TokenSpan = ℕ × List ℕ

-- what was read so far
pub record ReadSoFar : Type 0 where
  -- the tokens of the statement, and where they are
  pub tokens : List Token
  pub spans : List TokenSpan
  -- the version, the map rows and the instructions before it
  pub version : Version
  pub maps : List MapDef
  pub insns : List Insn
  -- the names that labels define, with their slots, and where names are used
  pub labels : List (List ℕ × ℕ)
  pub uses : List NameUse

abbrev pub start : ReadSoFar
start = record {
  tokens = [];
  spans = [];
  version = One;
  maps = [];
  insns = [];
  labels = [];
  uses = [];
}

-- ---- refusals

abbrev pub offset_or : Option TokenSpan → ℕ → ℕ
offset_or (Some span) otherwise = span.0
offset_or None otherwise = otherwise

-- where the statement begins
abbrev pub begins_at : ReadSoFar → ℕ
begins_at s = offset_or (slice_get s.spans 0) 0

abbrev pub refused_at : {A : Type 0} → ℕ → Result A AsmErrorKind → Result A Refusal
refused_at at (Ok x) = Ok x
refused_at at (Err kind) = Err (record { kind = kind; offset = at })

-- why the tokens without the first k spell nothing: because of a number out of range, if all else
-- fits
abbrev pub refusal_of : ReadSoFar → ℕ → Wrong → Refusal
refusal_of s k Form = record { kind = NoForm; offset = begins_at s }
refusal_of s k (Range token) =
    if has_form (drop k s.tokens)
    then (record { kind = OutOfRange; offset = offset_or (slice_get s.spans (token + k)) 0 })
    else record { kind = NoForm; offset = begins_at s }

abbrev pub unless_wrong : {A : Type 0} → ReadSoFar → ℕ → Result A Wrong → Result A Refusal
unless_wrong s k (Ok x) = Ok x
unless_wrong s k (Err wrong) = Err (refusal_of s k wrong)

-- the refusal for an objection, whose token is counted without the first k
abbrev pub refused_by : ReadSoFar → ℕ → Objection → Refusal
refused_by s k o = record { kind = o.kind; offset = offset_or (slice_get s.spans (o.token + k)) 0 }

abbrev pub unless_refused : ReadSoFar → ℕ → Option Objection → Result (Unit {0}) Refusal
unless_refused s k None = Ok tt
unless_refused s k (Some o) = Err (refused_by s k o)

-- ---- instructions

-- whether the instructions fill no more slots than an image may have
abbrev pub has_room : List Insn → Bool
has_room insns = not (nat_lt max_slots (length (slots insns)))

-- one more instruction, unless its slots are too many
abbrev pub with_insn : List Insn → Insn → Result (List Insn) AsmErrorKind
with_insn insns i = if has_room (insns ++ i ∷ []) then Ok (insns ++ i ∷ []) else Err SlotCount

-- the next instruction uses the name there
abbrev pub with_use : ReadSoFar → Option TokenSpan → List NameUse
with_use s None = s.uses
with_use s (Some span) =
    s.uses ++ (record {
      index = length s.insns;
      slot = length (slots s.insns);
      name = span.1;
      offset = span.0;
    }) ∷ []

-- the name of the instruction's target, if it has one; k tokens come before the instruction
abbrev pub name_span : ReadSoFar → ℕ → Option ℕ → Option TokenSpan
name_span s k None = None
name_span s k (Some i) = slice_get s.spans (i + k)

-- the statement's instruction is added; k tokens come before it
abbrev pub added : ReadSoFar → ℕ → Reading → Result ReadSoFar Refusal
added s k r =
    refused_at (begins_at s) (with_insn s.insns r.insn)
    >>= λ insns. Ok (record {
      tokens = [];
      spans = [];
      version = s.version;
      maps = s.maps;
      insns = insns;
      labels = s.labels;
      uses = with_use s (name_span s k r.name);
    })

-- ---- labels

-- the name is defined as the next slot
abbrev pub named_by : ReadSoFar → Option TokenSpan → Result ReadSoFar Refusal
named_by s None = Ok s
named_by s (Some span) =
    refused_at span.0 (with_label s.labels span.1 (length (slots s.insns)))
    >>= λ labels. Ok
    (record {
      tokens = s.tokens;
      spans = s.spans;
      version = s.version;
      maps = s.maps;
      insns = s.insns;
      labels = labels;
      uses = s.uses;
    })

-- the statement's first token is the name
abbrev pub named : ReadSoFar → Result ReadSoFar Refusal
named s = named_by s (slice_get s.spans 0)

-- ---- statements

abbrev pub is_one : Version → Bool
is_one One = true
is_one Two = false

-- only empty statements were read: each other one leaves a name, a version, a row or an instruction
abbrev pub is_first : ReadSoFar → Bool
is_first s =
    length s.labels == 0 && (is_one s.version && (length s.maps == 0 && (length s.insns == 0)))

-- what a statement spells after its label of k tokens is added to what was read
abbrev pub ended : ReadSoFar → ℕ → Statement → Result ReadSoFar Refusal
ended s k said.Empty = Ok
    (record {
      tokens = [];
      spans = [];
      version = s.version;
      maps = s.maps;
      insns = s.insns;
      labels = s.labels;
      uses = s.uses;
    })
ended s k said.Version = Ok
    (record {
      tokens = [];
      spans = [];
      version = Two;
      maps = s.maps;
      insns = s.insns;
      labels = s.labels;
      uses = s.uses;
    })
ended s k (said.Row row) = Ok
    (record {
      tokens = [];
      spans = [];
      version = s.version;
      maps = s.maps
          ++ row ∷ [];
      insns = s.insns;
      labels = s.labels;
      uses = s.uses;
    })
ended s k (said.Instruction r) = added s k r

-- the end of a statement whose label has k tokens
abbrev pub at_end_behind : ReadSoFar → ℕ → Result ReadSoFar Refusal
at_end_behind s k =
    unless_wrong s k (spelled_behind k (drop k s.tokens))
    >>= λ said. unless_refused s k (objection (is_first s) s.insns s.maps said)
    >>= λ u. (if k == 0 then Ok s else named s)
    >>= λ t. ended t k said

-- the end of a statement. What its tokens spell is tested first, then the maps that it has or
-- names, then its label, then its slots
abbrev pub at_end : ReadSoFar → Result ReadSoFar Refusal
at_end s = at_end_behind s (label_length s.tokens)

-- the next lexeme of the text, which begins there and has these bytes
abbrev pub accept : ReadSoFar → Lexeme → TokenSpan → Result ReadSoFar Refusal
accept s Blank span = Ok s
accept s End span = at_end s
accept s (Solid t) span =
    Ok (record {
      tokens = s.tokens ++ t ∷ [];
      spans = s.spans
          ++ span ∷ [];
      version = s.version;
      maps = s.maps;
      insns = s.insns;
      labels = s.labels;
      uses = s.uses;
    })

-- ---- texts

-- the first lexeme of these bytes, which begin at offset `at` of the text
abbrev pub next_lexeme : ℕ → List ℕ → Result (Lexeme × ℕ) Refusal
next_lexeme at bs =
    ok_or (lexeme_at bs) (record { kind = UnknownByte; offset = at + unknown_at bs })

-- what was read when the text has ended, or the refusal: these bytes are left, from offset `at` on,
-- and the first k of them are of a lexeme that is read already
abbrev pub read_on : List ℕ → ℕ → ℕ → ReadSoFar → Result ReadSoFar Refusal
read_on [] k at s = at_end s
read_on (b ∷ bs) (suc k) at s = read_on bs k (at + 1) s
read_on (b ∷ bs) zero at s =
    next_lexeme at (b ∷ bs)
    >>= λ (p : Lexeme × ℕ). accept s p.0 (at, take p.1 (b ∷ bs))
    >>= λ t. read_on bs (p.1 - 1) (at + 1) t

-- the program of this version, these map rows and instructions; if there is no instruction, the
-- refusal is at the start of the text
abbrev pub program_of : Version → List MapDef → List Insn → Result Program Refusal
program_of version maps insns =
    if is_none (count_refusal (length (slots insns))) then Ok (image.program_of version maps insns)
    else Err (record { kind = SlotCount; offset = 0 })

-- the program once names have become distances
abbrev pub finished : ReadSoFar → Result Program Refusal
finished s = resolved (slot_in s.labels) s.uses s.insns >>= program_of s.version s.maps

abbrev pub error_in : {A : Type 0} → List ℕ → Result A Refusal → Result A AsmError
error_in text (Ok x) = Ok x
error_in text (Err refusal) = Err (error_at text refusal)

-- the program that a text spells, or what is refused and at which byte
abbrev pub program_in : List ℕ → Result Program Refusal
program_in text = read_on text 0 0 start >>= finished

-- the program that a text spells, or why it spells none, and where
unfoldable pub assembled : List ℕ → Result Program AsmError
assembled text = error_in text (program_in text)

-- ---- what functions return

-- a function returns what is wanted, as `view` shows it, or refuses as is wanted, or memory runs
-- out
abbrev pub IsAsWanted : {A B : Type 0} → (A → B) → Result A Refusal → Result B Refusal → Type 0
IsAsWanted view (Ok x) wanted = wanted ≡ Ok (view x)
IsAsWanted view (Err e) wanted = (e.kind ≡ Memory) ⊎ (wanted ≡ Err e)
