-- A simpler reading of texts that have no labels and no names; canonical text has none.
use Rattle.assembler.proofs.Common.{ℕ, zero, suc, ◌-◌, ◌==◌, Bool, true, false, if◌then◌else◌, List, [], ◌∷◌, ◌++◌, length, ◌≡◌, refl, Option, Some, None, Result, Ok, Err, option_and_then, is_none, slice_get, ◌&&◌, Insn, Token, Named, Lexeme, Blank, End, Solid, lexeme_at, Reading, Wrong, MapDef, reading_of, map_line, begins_map_line, begins_version_line, version_line, takes_row, objection_to_load, Statement, Version, One, Two, is_one}
use Rattle.assembler.specs.declared.tokens.Word.TheVariants as word
use Rattle.isa_model.specs.declared.versions.Version.{Version as TheVersion}
pub use Rattle.assembler.specs.Assembling.{has_room}

infixl 10 ◌>>=◌
abbrev pub ◌>>=◌ : {A B : Type 0} → Option A → (A → Option B) → Option B
o >>= f = option_and_then f o

abbrev pub keep : {A : Type 0} → Bool → A → Option A
keep true x = Some x
keep false x = None

-- an instruction, unless its target is a name
abbrev pub unnamed : Insn → Option ℕ → Option Insn
unnamed i None = Some i
unnamed i (Some k) = None

abbrev pub unnamed_reading : Result Reading Wrong → Option Insn
unnamed_reading (Ok r) = unnamed r.insn r.name
unnamed_reading (Err wrong) = None

-- the instruction of a statement without a label and without a name
abbrev pub plain_statement : List Token → Option Insn
plain_statement ts = unnamed_reading (reading_of ts)

-- the version, the map rows and the instructions before a statement
pub record Parts : Type 0 where
  pub version : TheVersion
  pub maps : List MapDef
  pub insns : List Insn

-- what was read so far: the tokens of the statement, and what comes before it
pub record PlainReadSoFar : Type 0 where
  pub tokens : List Token
  pub parts : Parts

abbrev pub with_row : Parts → MapDef → Parts
with_row ps row = record { version = ps.version; maps = ps.maps ++ row ∷ []; insns = ps.insns }

abbrev pub with_insn : Parts → Insn → Parts
with_insn ps i = record { version = ps.version; maps = ps.maps; insns = ps.insns ++ i ∷ [] }

abbrev pub with_version : Parts → Parts
with_version ps = record { version = Two; maps = ps.maps; insns = ps.insns }

-- whether it is the first statement
abbrev pub is_start : Parts → Bool
is_start ps = is_one ps.version && (length ps.maps == 0 && (length ps.insns == 0))

-- whether there is room for the instruction, and no objection to the map or map value that it
-- loads
abbrev pub takes : Parts → Insn → Bool
takes ps i = is_none (objection_to_load ps.maps i) && has_room (ps.insns ++ i ∷ [])

abbrev pub added : Parts → Option Insn → Option PlainReadSoFar
added ps None = None
added ps (Some i) = keep (takes ps i) (record { tokens = []; parts = with_insn ps i })

abbrev pub added_row : Parts → Result MapDef Wrong → Option PlainReadSoFar
added_row ps (Err wrong) = None
added_row ps (Ok row) =
    keep (takes_row ps.insns ps.maps row) (record { tokens = []; parts = with_row ps row })

abbrev pub added_version : Parts → Result Statement Wrong → Option PlainReadSoFar
added_version ps (Ok Version) = keep (is_start ps) (record { tokens = []; parts = with_version ps })
added_version ps r = None

-- what was read once a statement has ended
abbrev pub at_end : PlainReadSoFar → Option PlainReadSoFar
at_end s =
    if length s.tokens == 0 then Some s
    else if begins_version_line (slice_get s.tokens 0)
    then added_version s.parts (version_line s.tokens)
    else if begins_map_line (slice_get s.tokens 0) then added_row s.parts (map_line s.tokens)
    else added s.parts (plain_statement s.tokens)

abbrev pub accept : PlainReadSoFar → Lexeme → Option PlainReadSoFar
accept s Blank = Some s
accept s End = at_end s
accept s (Solid t) = Some (record { tokens = s.tokens ++ t ∷ []; parts = s.parts })

-- the result of reading the bytes of a text after the first k of them
abbrev pub read_rest : List ℕ → ℕ → PlainReadSoFar → Option PlainReadSoFar
read_rest [] k s = at_end s
read_rest (b ∷ bs) (suc k) s = read_rest bs k s
read_rest (b ∷ bs) zero s =
    lexeme_at (b ∷ bs) >>= λ (p : Lexeme × ℕ). accept s p.0 >>= λ t. read_rest bs (p.1 - 1) t

abbrev pub start : PlainReadSoFar
start = record { tokens = []; parts = record { version = One; maps = []; insns = [] } }

-- ---- a map line is no instruction

abbrev no_insn : Option Insn
no_insn = None

pub no_insn-some : (i : Insn) → no_insn ≡ Some i → ⊥
no_insn-some i h = cc

pub not-map-line : (ts : List Token) (i : Insn) → plain_statement ts ≡ Some i
    → begins_map_line (slice_get ts 0) ≡ false
unfolding reading_of
not-map-line [] i h = refl
not-map-line (Named word.Map ∷ ts) i h = absurd (no_insn-some i h)
not-map-line (t ∷ ts) i h = refl

-- nor is a version line
pub not-version-line : (ts : List Token) (i : Insn) → plain_statement ts ≡ Some i
    → begins_version_line (slice_get ts 0) ≡ false
unfolding reading_of
not-version-line [] i h = refl
not-version-line (Named word.Version ∷ ts) i h = absurd (no_insn-some i h)
not-version-line (t ∷ ts) i h = refl
