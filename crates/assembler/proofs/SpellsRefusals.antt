-- A text each of whose statements spells something is refused neither for a byte that begins no
-- token, nor for a statement that fits no form, nor for a number out of range.
use Rattle.assembler.proofs.Common.{◌≡◌, ℕ, zero, suc, ◌+◌, ◌-◌, length, drop, take, List, [], ◌∷◌, ◌++◌, refl, sym, ap, subst, inl, inr, ◌⊎◌, Bool, Option, Some, None, Result, Ok, Err, ok_or, true, false, ◌==◌, ◌&&◌, if◌then◌else◌, is_some, is_none, nat_lt, slice_get, MapDef, Insn, LoadMap, LoadMapValue, Program, slots, count_refusal, is_array, Token, Lexeme, Blank, End, Solid, lexeme_at, AsmError, AsmErrorKind, UnknownByte, NoForm, OutOfRange, DefinedTwice, NotDefined, TooFar, MapLine, NoMap, NotOneValue, PastValue, LateVersion, SlotCount, Refusal, Statement, Wrong, Objection, ◌>>=◌, spelled_behind, label_length, slot_in, with_label, takes_row, objection_to_value, objection_to_load, objection, error_at, NameUse, aimed, or_too_far, distance, aim, aim_used, put, resolved, ReadSoFar, TokenSpan, start, unless_wrong, refused_by, unless_refused, is_first, named_by, named, begins_at, refused_at, has_room, with_insn, ended, at_end_behind, accept, next_lexeme, read_on, finished, error_in, program_in, assembled}
use Rattle.image.specs.Images as image
use Rattle.assembler.specs.declared.readings.Statement.TheVariants as said
use Rattle.assembler.proofs.SpellsTexts.{SpellsSome, IsSpelled, SpellsSome-spelled_behind, at_end_spells, same_tokens, AtLexeme, OnLexeme, EachStatement}

-- none of A1, A2 and A3
abbrev pub IsOtherError : AsmErrorKind → Type 0
IsOtherError UnknownByte = ⊥
IsOtherError NoForm = ⊥
IsOtherError OutOfRange = ⊥
IsOtherError kind = Unit {0}

-- of two results, one after the other, the one that fails
split : {A B E : Type 0} (r : Result A E) (f : A → Result B E) (e : E) → (r >>= f) ≡ Err e
    → (r ≡ Err e) ⊎ ((x : A) × (r ≡ Ok x) × (f x ≡ Err e))
split (Ok x) f e h = inr (x, refl, h)
split (Err d) f e h = let same : d ≡ e = cc in inl (ap Err same)

fails : {A : Type 0} (b : Bool) (x : A) (d e : AsmErrorKind) → (if b then Ok x else Err d) ≡ Err e
    → d ≡ e
fails true x d e h = absurd (cc)
fails false x d e h = cc

fails_first : {A : Type 0} (b : Bool) (x : A) (d e : AsmErrorKind)
    → (if b then Err d else Ok x) ≡ Err e → d ≡ e
fails_first true x d e h = cc
fails_first false x d e h = absurd (cc)

refused_at-Err : {A : Type 0} (at : ℕ) (r : Result A AsmErrorKind) (e : Refusal)
    → refused_at at r ≡ Err e
    → r ≡ Err e.kind
refused_at-Err at (Ok x) e h = absurd (cc)
refused_at-Err at (Err kind) e h =
    let same : (let d : Refusal = record { kind = kind; offset = at } in d) ≡ e = cc in
    ap (λ (d : Refusal). Err d.kind) same

-- ---- map lines, loads of maps and the version

objects : (b : Bool) (kind : AsmErrorKind) (token : ℕ) (o : Objection) → IsOtherError kind
    → (if b then None else Some (record { kind = kind; token = token })) ≡ Some o
    → IsOtherError o.kind
objects true kind token o other h = absurd (cc)
objects false kind token o other h =
    let same : (let p : Objection = record { kind = kind; token = token } in p) ≡ o = cc in
    subst (λ (p : Objection). IsOtherError p.kind) same other

objects_always : (kind : AsmErrorKind) (token : ℕ) (o : Objection) → IsOtherError kind
    → (let p : Option Objection = Some (record { kind = kind; token = token }) in p) ≡ Some o
    → IsOtherError o.kind
objects_always kind token o other h =
    let same : (let p : Objection = record { kind = kind; token = token } in p) ≡ o = cc in
    subst (λ (p : Objection). IsOtherError p.kind) same other

to_value : (b : Bool) (row : MapDef) (offset : ℕ) (o : Objection)
    → (if b then (if nat_lt offset row.value_size then None
    else Some (record { kind = PastValue; token = 10 }))
    else Some (record { kind = NotOneValue; token = 6 })) ≡ Some o → IsOtherError o.kind
to_value true row offset o h = objects (nat_lt offset row.value_size) PastValue 10 o tt h
to_value false row offset o h = objects_always NotOneValue 6 o tt h

to_row : (found : Option MapDef) (offset : ℕ) (o : Objection)
    → objection_to_value found offset ≡ Some o → IsOtherError o.kind
to_row None offset o h = objects_always NoMap 6 o tt h
to_row (Some row) offset o h = to_value (is_array row.kind && (row.entries == 1)) row offset o h

to_load : (maps : List MapDef) (i : Insn) (o : Objection) → objection_to_load maps i ≡ Some o
    → IsOtherError o.kind
to_load maps (LoadMap d m) o h = objects (nat_lt m (length maps)) NoMap 4 o tt h
to_load maps (LoadMapValue d m offset) o h = to_row (slice_get maps m) offset o h
to_load maps i o h = absurd (cc)

objected : (first : Bool) (insns : List Insn) (maps : List MapDef) (x : Statement) (o : Objection)
    → objection first insns maps x ≡ Some o → IsOtherError o.kind
objected first insns maps said.Empty o h = absurd (cc)
objected first insns maps said.Version o h = objects first LateVersion 0 o tt h
objected first insns maps (said.Row row) o h = objects (takes_row insns maps row) MapLine 0 o tt h
objected first insns maps (said.Instruction r) o h = to_load maps r.insn o h

refused : (s : ReadSoFar) (k : ℕ) (o : Option Objection) (e : Refusal)
    → unless_refused s k o ≡ Err e → (p : Objection) × (o ≡ Some p) × (p.kind ≡ e.kind)
refused s k None e h = absurd (cc)
refused s k (Some p) e h =
    let same : refused_by s k p ≡ e = cc in (p, refl, ap (λ (d : Refusal). d.kind) same)

-- ---- the end of a statement

labelled : (s : ReadSoFar) (span : Option TokenSpan) (e : Refusal) → named_by s span ≡ Err e
    → IsOtherError e.kind
labelled s None e h = absurd (cc)
labelled s (Some span) e h =
    elim (split (refused_at span.0 (with_label s.labels span.1 (length (slots s.insns)))) _ e h) [
      | inl twice ↦
          let kind_is =
          refused_at-Err span.0 (with_label s.labels span.1 (length (slots s.insns))) e twice in
          subst IsOtherError
          (fails_first (is_some (slot_in s.labels span.1)) _ DefinedTwice e.kind kind_is) tt
      | inr (labels, made, never) ↦ absurd (cc (never))
    ]

labelled_if : (s : ReadSoFar) (b : Bool) (e : Refusal) → (if b then Ok s else named s) ≡ Err e
    → IsOtherError e.kind
labelled_if s true e h = absurd (cc)
labelled_if s false e h = labelled s (slice_get s.spans 0) e h

ended_refused : (s : ReadSoFar) (k : ℕ) (x : Statement) (e : Refusal) → ended s k x ≡ Err e
    → IsOtherError e.kind
ended_refused s k said.Empty e h = absurd (cc)
ended_refused s k said.Version e h = absurd (cc)
ended_refused s k (said.Row row) e h = absurd (cc)
ended_refused s k (said.Instruction r) e h =
    elim (split (refused_at (begins_at s) (with_insn s.insns r.insn)) _ e h) [
      | inl many ↦
          let kind_is = refused_at-Err (begins_at s) (with_insn s.insns r.insn) e many in
          subst IsOtherError
          (fails (has_room (s.insns ++ r.insn ∷ [])) _ SlotCount e.kind kind_is) tt
      | inr (insns, made, never) ↦ absurd (cc (never))
    ]

wrong_not : (s : ReadSoFar) (k : ℕ) (r : Result Statement Wrong) (x : Statement) (e : Refusal)
    → r ≡ Ok x → unless_wrong s k r ≡ Err e → ⊥
wrong_not s k r x e is h =
    let no : unless_wrong s k (Ok x) ≡ Err e =
    subst (λ (q : Result Statement Wrong). unless_wrong s k q ≡ Err e) is h in
    absurd (cc (no))

at_end_refused : (s : ReadSoFar) (k : ℕ) (e : Refusal) → SpellsSome k (drop k s.tokens)
    → at_end_behind s k ≡ Err e → IsOtherError e.kind
at_end_refused s k e spells h =
    let (statement, is) = SpellsSome-spelled_behind k (drop k s.tokens) spells in
    elim (split (unless_wrong s k (spelled_behind k (drop k s.tokens))) _ e h) [
      | inl wrong ↦ absurd (wrong_not s k (spelled_behind k (drop k s.tokens)) statement e is wrong)
      | inr (x, found, h1) ↦
          elim (split (unless_refused s k (objection (is_first s) s.insns s.maps x)) _ e h1) [
            | inl failed ↦
                let (o, here, kind_is) =
                refused s k (objection (is_first s) s.insns s.maps x) e failed in
                subst IsOtherError kind_is (objected (is_first s) s.insns s.maps x o here)
            | inr (u, allowed, h2) ↦
                elim (split (if k == 0 then Ok s else named s) _ e h2) [
                  | inl twice ↦ labelled_if s (k == 0) e twice
                  | inr (v, defined, last) ↦ ended_refused v k x e last
                ]
          ]
    ]

-- ---- texts

accept_refused : (rest : ℕ → List Token → Type 0) (s : ReadSoFar) (x : Lexeme) (n : ℕ)
    (span : TokenSpan) (e : Refusal) → AtLexeme rest IsSpelled s.tokens x n
    → accept s x span ≡ Err e → IsOtherError e.kind
accept_refused rest s Blank n span e each h = absurd (cc)
accept_refused rest s End n span e each h = at_end_refused s (label_length s.tokens) e each.0 h
accept_refused rest s (Solid t) n span e each h = absurd (cc)

-- once a lexeme was accepted, `rest` holds of the text after it
accept_left : (rest : ℕ → List Token → Type 0) (s : ReadSoFar) (x : Lexeme) (n : ℕ)
    (span : TokenSpan) (u : ReadSoFar) → AtLexeme rest IsSpelled s.tokens x n
    → accept s x span ≡ Ok u → rest (n - 1) u.tokens
accept_left rest s Blank n span u each h =
    let same : s ≡ u = cc in subst (λ (v : ReadSoFar). rest (n - 1) v.tokens) same each
accept_left rest s End n span u each h =
    let (spells, none) = at_end_spells s (label_length s.tokens) u h in
    subst (λ (ts : List Token). rest (n - 1) ts) (sym none) each.1
accept_left rest s (Solid t) n span u each h =
    subst (λ (ts : List Token). rest (n - 1) ts) (same_tokens _ u h) each

found_at : (rest : ℕ → List Token → Type 0) (ts : List Token) (o : Option (Lexeme × ℕ))
    → OnLexeme rest IsSpelled ts o
    → (p : Lexeme × ℕ) × (o ≡ Some p) × AtLexeme rest IsSpelled ts p.0 p.1
found_at rest ts None h = absurd h
found_at rest ts (Some p) h = (p, refl, h)

lexed : (o : Option (Lexeme × ℕ)) (d e : Refusal) (p : Lexeme × ℕ) → o ≡ Some p → ok_or o d ≡ Err e
    → ⊥
lexed o d e p is h =
    let no : ok_or (Some p) d ≡ Err e =
    subst (λ (q : Option (Lexeme × ℕ)). ok_or q d ≡ Err e) is h in
    absurd (cc (no))

lexed_as : (o : Option (Lexeme × ℕ)) (d : Refusal) (p q : Lexeme × ℕ) → o ≡ Some p
    → ok_or o d ≡ Ok q → p ≡ q
lexed_as o d p q is h =
    let yes : ok_or (Some p) d ≡ Ok q =
    subst (λ (r : Option (Lexeme × ℕ)). ok_or r d ≡ Ok q) is h in
    cc (yes)

read_refused : (bs : List ℕ) (k at : ℕ) (s : ReadSoFar) (e : Refusal)
    → EachStatement IsSpelled bs k s.tokens → read_on bs k at s ≡ Err e → IsOtherError e.kind
unfolding EachStatement
read_refused [] k at s e each h = at_end_refused s (label_length s.tokens) e each h
read_refused (b ∷ bs) (suc k) at s e each h = read_refused bs k (at + 1) s e each h
read_refused (b ∷ bs) zero at s e each h =
    let (p, found, here) =
    found_at (λ n us. EachStatement IsSpelled bs n us) s.tokens (lexeme_at (b ∷ bs)) each in
    elim (split (next_lexeme at (b ∷ bs)) _ e h) [
      | inl unknown ↦ absurd (lexed (lexeme_at (b ∷ bs)) _ e p found unknown)
      | inr (q, got, h1) ↦
          let same : p ≡ q = lexed_as (lexeme_at (b ∷ bs)) _ p q found got in
          let there = subst
          (λ (r : Lexeme × ℕ). AtLexeme
          (λ n us. EachStatement IsSpelled bs n us) IsSpelled s.tokens r.0 r.1) same here in
          elim (split (accept s q.0 (at, take q.1 (b ∷ bs))) _ e h1) [
            | inl failed ↦
                accept_refused (λ n us. EachStatement IsSpelled bs n us) s q.0 q.1
                (at, take q.1 (b ∷ bs)) e there failed
            | inr (u, took, last) ↦
                read_refused bs (q.1 - 1) (at + 1) u e
                (accept_left (λ n us. EachStatement IsSpelled bs n us) s q.0 q.1
                (at, take q.1 (b ∷ bs)) u there took) last
          ]
    ]

-- ---- names

too_far : (o : Option Insn) (kind : AsmErrorKind) → or_too_far o ≡ Err kind → IsOtherError kind
too_far None kind h = let same : TooFar ≡ kind = cc in subst IsOtherError same tt
too_far (Some i) kind h = absurd (cc)

aim_refused : (to : Option ℕ) (from : ℕ) (i : Insn) (kind : AsmErrorKind) → aim to from i ≡ Err kind
    → IsOtherError kind
aim_refused None from i kind h = let same : NotDefined ≡ kind = cc in subst IsOtherError same tt
aim_refused (Some to) from i kind h = too_far (aimed i (distance from to)) kind h

used_refused : (slot_of : List ℕ → Option ℕ) (u : NameUse) (o : Option Insn) (kind : AsmErrorKind)
    → aim_used slot_of u o ≡ Err kind → IsOtherError kind
used_refused slot_of u None kind h = let same : NotDefined ≡ kind = cc in subst IsOtherError same tt
used_refused slot_of u (Some i) kind h = aim_refused (slot_of u.name) u.slot i kind h

put_refused : (u : NameUse) (is : List Insn) (r : Result Insn AsmErrorKind) (e : Refusal)
    → put u is r ≡ Err e → r ≡ Err e.kind
put_refused u is (Ok i) e h = absurd (cc)
put_refused u is (Err kind) e h =
    let same : (let d : Refusal = record { kind = kind; offset = u.offset } in d) ≡ e = cc in
    ap (λ (d : Refusal). Err d.kind) same

resolved_refused : (slot_of : List ℕ → Option ℕ) (us : List NameUse) (is : List Insn) (e : Refusal)
    → resolved slot_of us is ≡ Err e → IsOtherError e.kind
resolved_refused slot_of [] is e h = absurd (cc)
resolved_refused slot_of (u ∷ us) is e h =
    elim (split (put u is (aim_used slot_of u (slice_get is u.index))) _ e h) [
      | inl failed ↦
          used_refused slot_of u (slice_get is u.index) e.kind
          (put_refused u is (aim_used slot_of u (slice_get is u.index)) e failed)
      | inr (next, made, last) ↦ resolved_refused slot_of us next e last
    ]

counted : (b : Bool) (p : Program) (e : Refusal)
    → (if b then Ok p else Err (record { kind = SlotCount; offset = 0 })) ≡ Err e
    → IsOtherError e.kind
counted true p e h = absurd (cc)
counted false p e h =
    let same : (let d : Refusal = record { kind = SlotCount; offset = 0 } in d) ≡ e = cc in
    subst (λ (d : Refusal). IsOtherError d.kind) same tt

finished_refused : (s : ReadSoFar) (e : Refusal) → finished s ≡ Err e → IsOtherError e.kind
finished_refused s e h =
    elim (split (resolved (slot_in s.labels) s.uses s.insns) _ e h) [
      | inl failed ↦ resolved_refused (slot_in s.labels) s.uses s.insns e failed
      | inr (insns, made, last) ↦
          counted (is_none (count_refusal (length (slots insns))))
          (image.program_of s.version s.maps insns) e last
    ]

-- ---- whole texts

error_of : (text : List ℕ) (r : Result Program Refusal) (e : AsmError) → error_in text r ≡ Err e
    → (d : Refusal) × (r ≡ Err d) × (d.kind ≡ e.kind)
error_of text (Ok p) e h = absurd (cc)
error_of text (Err d) e h =
    let same : error_at text d ≡ e = cc in (d, refl, ap (λ (x : AsmError). x.kind) same)

-- where each statement of a text spells something, its error is none of A1, A2 and A3
pub EachStatement-refused : (text : List ℕ) (e : AsmError) → EachStatement IsSpelled text 0 []
    → assembled text ≡ Err e → IsOtherError e.kind
unfolding assembled
EachStatement-refused text e each h =
    let (d, is, kind_is) = error_of text (program_in text) e h in
    subst IsOtherError kind_is (elim (split (read_on text 0 0 start) _ d is) [
      | inl failed ↦ read_refused text 0 0 start d each failed
      | inr (s, read, last) ↦ finished_refused s d last
    ])
