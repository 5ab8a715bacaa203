-- A statement without a label or a use of a name is read with the same result as by the simpler
-- reading of PlainTexts.
use Rattle.assembler.proofs.Common.{◌≡◌, ℕ, ◌==◌, Bool, true, false, if◌then◌else◌, List, [], ◌∷◌, ◌++◌, length, refl, ap, ◌∙◌, sym, arith, ne_eqb, ◌&&◌, is_none, slice_get, Option, Some, None, Result, Ok, Err, MapDef, Insn, Exit, Word, Token, Named, Signed, MapLine, LateVersion, SlotCount, Reading, Refusal, Statement, Empty, Version, Row, Instruction, Wrong, Form, Objection, ◌>>=◌, keep, reading_of, map_line, label_length, begins_map_line, begins_version_line, version_line, spelled, Two, takes_row, objection_to_load, objection, ReadSoFar, has_room, refused_at, begins_at, unless_wrong, unless_refused, is_first, ended, at_end_behind, at_end}
use Rattle.assembler.specs.declared.tokens.Word.TheVariants as word
use Rattle.assembler.specs.declared.tokens.Sign.TheVariants as sign
use Rattle.assembler.proofs.PlainTexts.{unnamed, unnamed_reading, plain_statement, no_insn-some, not-map-line, not-version-line, added, added_row, added_version, is_start}
use Rattle.assembler.proofs.PlainTexts as plain

-- the part of it that the simpler reading has: all but the spans, the labels and the uses of names
abbrev pub shadow : ReadSoFar → plain.PlainReadSoFar
shadow s = record {
  tokens = s.tokens;
  parts = record { version = s.version; maps = s.maps; insns = s.insns };
}

-- no name is used, and none is defined
abbrev pub Bare : ReadSoFar → Type 0
Bare s = (s.uses ≡ []) × (s.labels ≡ [])

-- the result is that of the simpler reading, and no name is used or defined
abbrev pub ReadsPlainly : Result ReadSoFar Refusal → plain.PlainReadSoFar → Type 0
ReadsPlainly r final = (s : ReadSoFar) × (r ≡ Ok s) × (shadow s ≡ final) × (Bare s)

abbrev some : plain.PlainReadSoFar → Option plain.PlainReadSoFar
some s = Some s

pub same_some : (s t : plain.PlainReadSoFar) → some s ≡ some t → s ≡ t
same_some s t h = cc

abbrev keep_progress : Bool → plain.PlainReadSoFar → Option plain.PlainReadSoFar
keep_progress b s = plain.keep b s

abbrev pub none : Option plain.PlainReadSoFar
none = None

pub never : (final : plain.PlainReadSoFar) → none ≡ Some final → ⊥
never final h = cc

-- ---- a label is no instruction

labelled : (x : Word) (ts : List Token) (i : Insn)
    → plain_statement (Named x ∷ Signed sign.Colon ∷ ts) ≡ Some i → ⊥
unfolding reading_of
labelled word.Exit ts i h =
    let more : (length (Named word.Exit ∷ Signed sign.Colon ∷ ts) == 1) ≡ false =
    ne_eqb (length (Named word.Exit ∷ Signed sign.Colon ∷ ts)) 1 (λ e. omega (arith, e)) in
    no_insn-some i (sym (ap
    (λ (b : Bool). unnamed_reading (keep b (record { insn = Exit; name = None }))) more) ∙ h)
labelled x ts i h = no_insn-some i h

not-labelled : (ts : List Token) (i : Insn) → plain_statement ts ≡ Some i → label_length ts ≡ 0
not-labelled [] i h = refl
not-labelled (Named x ∷ []) i h = refl
not-labelled (Named x ∷ Signed sign.Colon ∷ ts) i h = absurd (labelled x ts i h)
not-labelled (Named x ∷ t ∷ ts) i h = refl
not-labelled (t ∷ ts) i h = refl

-- ---- the end of a statement

abbrev some_insn : Insn → Option Insn
some_insn i = Some i

same_insn : (i j : Insn) → some_insn i ≡ some_insn j → i ≡ j
same_insn i j h = cc

abbrev plainly : Insn → Result Reading Wrong
plainly i = Ok (record { insn = i; name = None })

named-not : (i : Insn) (name : Option ℕ) (j : Insn) → unnamed i name ≡ Some j
    → (let r : Result Reading Wrong = Ok (record { insn = i; name = name }) in r) ≡ plainly j
named-not i None j h = ap plainly (same_insn i j h)
named-not i (Some k) j h = absurd (no_insn-some j h)

read-plainly : (r : Result Reading Wrong) (i : Insn) → unnamed_reading r ≡ Some i → r ≡ plainly i
read-plainly (Ok r) i h = named-not r.insn r.name i h
read-plainly (Err wrong) i h = absurd (no_insn-some i h)

-- the end of a statement without a label, whose tokens were read with this result
abbrev said_in : ReadSoFar → Result Statement Wrong → Result ReadSoFar Refusal
said_in s r = unless_wrong s 0 r >>= λ said. unless_refused s 0
    (objection (is_first s) s.insns s.maps said) >>= λ u. ended s 0 said

-- what was read, with one more instruction and no tokens
abbrev with_one : ReadSoFar → Insn → ReadSoFar
with_one s i = record {
  tokens = [];
  spans = [];
  version = s.version;
  maps = s.maps;
  insns = s.insns ++ i ∷ [];
  labels = s.labels;
  uses = s.uses;
}

at_end-behind : (s : ReadSoFar) (i : Insn) → begins_version_line (slice_get s.tokens 0) ≡ false
    → (length s.tokens == 0) ≡ false → plain_statement s.tokens ≡ Some i
    → objection_to_load s.maps i ≡ None → has_room (s.insns ++ i ∷ []) ≡ true
    → at_end_behind s 0 ≡ Ok (with_one s i)
at_end-behind s i other more e allowed fits =
    let r : Reading = record { insn = i; name = None } in
    ap (λ (b : Bool). said_in s (if b then version_line s.tokens else spelled s.tokens)) other
    ∙ ap (λ (b : Bool). said_in s
    (if b then Ok Empty
    else if begins_map_line (slice_get s.tokens 0) then (map_line s.tokens >>= λ row. Ok (Row row))
    else (reading_of s.tokens >>= λ q. Ok (Instruction q)))) more
    ∙ ap (λ (b : Bool). said_in s
    (if b then (map_line s.tokens >>= λ row. Ok (Row row))
    else (reading_of s.tokens >>= λ q. Ok (Instruction q)))) (not-map-line s.tokens i e)
    ∙ ap (λ (o : Result Reading Wrong). said_in s (o >>= λ q. Ok (Instruction q)))
    (read-plainly (reading_of s.tokens) i e)
    ∙ ap (λ o. unless_refused s 0 o >>= λ u. ended s 0 (Instruction r)) allowed
    ∙ ap (λ (b : Bool). refused_at (begins_at s)
    (if b then Ok (s.insns ++ i ∷ []) else Err SlotCount)
    >>= λ insns. Ok (record {
      tokens = [];
      spans = [];
      version = s.version;
      maps = s.maps;
      insns = insns;
      labels = s.labels;
      uses = s.uses;
    })) fits

added-agrees : (s : ReadSoFar) (i : Insn) (o : Option Objection) (room : Bool)
    (final : plain.PlainReadSoFar) → objection_to_load s.maps i ≡ o
    → has_room (s.insns ++ i ∷ []) ≡ room → (length s.tokens == 0) ≡ false
    → plain_statement s.tokens ≡ Some i → Bare s
    → plain.keep (is_none o && room) (shadow (with_one s i)) ≡ Some final
    → ReadsPlainly (at_end s) final
added-agrees s i (Some x) room final allowed fits more e unused h = absurd (never final h)
added-agrees s i None false final allowed fits more e unused h = absurd (never final h)
added-agrees s i None true final allowed fits more e unused h = (
  with_one s i,
  ap (λ k. at_end_behind s k) (not-labelled s.tokens i e)
      ∙ at_end-behind s i (not-version-line s.tokens i e) more e allowed fits,
  same_some
      (shadow (with_one s i)) final h,
  unused,
)

pub statement-agrees : (s : ReadSoFar) (o : Option Insn) (final : plain.PlainReadSoFar)
    → plain_statement s.tokens ≡ o → (length s.tokens == 0) ≡ false → Bare s
    → added (shadow s).parts o ≡ Some final → ReadsPlainly (at_end s) final
statement-agrees s None final e more unused h = absurd (never final h)
statement-agrees s (Some i) final e more unused h =
    added-agrees s i (objection_to_load s.maps i)
    (has_room (s.insns ++ i ∷ [])) final refl refl more e unused h

-- ---- the end of a map line

abbrev found : MapDef → Result MapDef Wrong
found row = Ok row

abbrev no_row : Wrong → Result MapDef Wrong
no_row wrong = Err wrong

row-found : (row : MapDef) (wrong : Wrong) → no_row wrong ≡ found row → ⊥
row-found row wrong h = cc

row-not-labelled : (ts : List Token) (row : MapDef) → map_line ts ≡ found row → label_length ts ≡ 0
row-not-labelled [] row h = refl
row-not-labelled (Named x ∷ []) row h = refl
row-not-labelled (Named x ∷ Signed sign.Colon ∷ ts) row h = absurd (row-found row Form h)
row-not-labelled (Named x ∷ t ∷ ts) row h = refl
row-not-labelled (t ∷ ts) row h = refl

abbrev with_row : ReadSoFar → MapDef → ReadSoFar
with_row s row = record {
  tokens = [];
  spans = [];
  version = s.version;
  maps = s.maps
      ++ row ∷ [];
  insns = s.insns;
  labels = s.labels;
  uses = s.uses;
}

-- a map line is no version line
row-not-version : (ts : List Token) → begins_map_line (slice_get ts 0) ≡ true
    → begins_version_line (slice_get ts 0) ≡ false
row-not-version [] h = refl
row-not-version (Named word.Version ∷ ts) h = absurd cc
row-not-version (t ∷ ts) h = refl

row-behind : (s : ReadSoFar) (row : MapDef) → begins_version_line (slice_get s.tokens 0) ≡ false
    → (length s.tokens == 0) ≡ false → begins_map_line (slice_get s.tokens 0) ≡ true
    → map_line s.tokens ≡ found row → takes_row s.insns s.maps row ≡ true
    → at_end_behind s 0 ≡ Ok (with_row s row)
row-behind s row other more line e fits =
    ap (λ (b : Bool). said_in s (if b then version_line s.tokens else spelled s.tokens)) other
    ∙ ap (λ (b : Bool). said_in s
    (if b then Ok Empty
    else if begins_map_line (slice_get s.tokens 0) then (map_line s.tokens >>= λ row. Ok (Row row))
    else (reading_of s.tokens >>= λ q. Ok (Instruction q)))) more
    ∙ ap (λ (b : Bool). said_in s
    (if b then (map_line s.tokens >>= λ row. Ok (Row row))
    else (reading_of s.tokens >>= λ q. Ok (Instruction q)))) line
    ∙ ap (λ (o : Result MapDef Wrong). said_in s (o >>= λ row. Ok (Row row))) e
    ∙ ap (λ (b : Bool). unless_refused s 0
    (if b then None else Some (record { kind = MapLine; token = 0 }))
    >>= λ u. ended s 0 (Row row)) fits

taken-agrees : (s : ReadSoFar) (row : MapDef) (taken : Bool) (final : plain.PlainReadSoFar)
    → takes_row s.insns s.maps row ≡ taken → (length s.tokens == 0) ≡ false
    → begins_map_line (slice_get s.tokens 0) ≡ true → map_line s.tokens ≡ found row → Bare s
    → plain.keep taken (shadow (with_row s row)) ≡ Some final → ReadsPlainly (at_end s) final
taken-agrees s row false final t more line e unused h = absurd (never final h)
taken-agrees s row true final t more line e unused h = (
  with_row s row,
  ap (λ k. at_end_behind s k) (row-not-labelled s.tokens row e)
      ∙ row-behind s row (row-not-version s.tokens line) more line e t,
  same_some
      (shadow (with_row s row)) final h,
  unused,
)

pub row-agrees : (s : ReadSoFar) (r : Result MapDef Wrong) (final : plain.PlainReadSoFar)
    → map_line s.tokens ≡ r → (length s.tokens == 0) ≡ false
    → begins_map_line (slice_get s.tokens 0) ≡ true → Bare s
    → added_row (shadow s).parts r ≡ Some final → ReadsPlainly (at_end s) final
row-agrees s (Err wrong) final e more line unused h = absurd (never final h)
row-agrees s (Ok row) final e more line unused h =
    taken-agrees s row (takes_row s.insns s.maps row) final refl more line e unused h

-- ---- the end of a version line

abbrev version_read : Result Statement Wrong
version_read = Ok Version

version-not-labelled : (ts : List Token) → version_line ts ≡ version_read → label_length ts ≡ 0
version-not-labelled [] h = refl
version-not-labelled (Named x ∷ []) h = refl
version-not-labelled (Named x ∷ Signed sign.Colon ∷ ts) h = absurd cc
version-not-labelled (Named x ∷ t ∷ ts) h = refl
version-not-labelled (t ∷ ts) h = refl

abbrev with_version : ReadSoFar → ReadSoFar
with_version s = record {
  tokens = [];
  spans = [];
  version = Two;
  maps = s.maps;
  insns = s.insns;
  labels = s.labels;
  uses = s.uses;
}

version-behind : (s : ReadSoFar) → begins_version_line (slice_get s.tokens 0) ≡ true
    → version_line s.tokens ≡ version_read → is_first s ≡ true
    → at_end_behind s 0 ≡ Ok (with_version s)
version-behind s line e first =
    ap (λ (b : Bool). said_in s (if b then version_line s.tokens else spelled s.tokens)) line
    ∙ ap (said_in s) e
    ∙ ap (λ (b : Bool). unless_refused s 0
    (if b then None else Some (record { kind = LateVersion; token = 0 }))
    >>= λ u. ended s 0 Version) first

first-bare : (s : ReadSoFar) → s.labels ≡ [] → is_start (shadow s).parts ≡ true → is_first s ≡ true
first-bare s unlabelled h =
    ap (λ (ls : List (List ℕ × ℕ)). length ls == 0 && is_start (shadow s).parts) unlabelled ∙ h

started-agrees : (s : ReadSoFar) (b : Bool) (final : plain.PlainReadSoFar)
    → is_start (shadow s).parts ≡ b → begins_version_line (slice_get s.tokens 0) ≡ true
    → version_line s.tokens ≡ version_read → Bare s
    → keep_progress b (record { tokens = []; parts = plain.with_version (shadow s).parts })
    ≡ Some final → ReadsPlainly (at_end s) final
started-agrees s false final first line e unused h = absurd (never final h)
started-agrees s true final first line e unused h = (
  with_version s,
  ap (λ k. at_end_behind s k) (version-not-labelled s.tokens e)
      ∙ version-behind s line e (first-bare s unused.1 first),
  same_some
      (shadow (with_version s)) final h,
  unused,
)

pub version-agrees : (s : ReadSoFar) (r : Result Statement Wrong) (final : plain.PlainReadSoFar)
    → version_line s.tokens ≡ r → begins_version_line (slice_get s.tokens 0) ≡ true → Bare s
    → added_version (shadow s).parts r ≡ Some final → ReadsPlainly (at_end s) final
version-agrees s (Ok Version) final e line unused h =
    started-agrees s (is_start (shadow s).parts) final refl line e unused h
version-agrees s (Ok Empty) final e line unused h = absurd (never final h)
version-agrees s (Ok (Row row)) final e line unused h = absurd (never final h)
version-agrees s (Ok (Instruction r)) final e line unused h = absurd (never final h)
version-agrees s (Err wrong) final e line unused h = absurd (never final h)
