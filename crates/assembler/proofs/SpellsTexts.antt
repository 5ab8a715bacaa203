-- A text is read to its end only where each of its statements spells something.
use Rattle.assembler.proofs.Common.{◌≡◌, ℕ, zero, suc, ◌+◌, ◌-◌, length, drop, take, List, [], ◌∷◌, ◌++◌, refl, sym, ap, ◌∙◌, subst, inl, inr, ◌⊎◌, arith, ne_eqb, Bool, Option, Some, None, Result, Ok, Err, ok_or, true, false, ◌==◌, if◌then◌else◌, nat_le, slice_get, MapDef, MapType, Insn, Program, Word, Token, Named, Number, Signed, Lexeme, Blank, End, Solid, lexeme_at, Refusal, Reading, Statement, Wrong, Form, Range, ◌>>=◌, number_at, word_at, as_map_type, field_at, reading_of, map_line, begins_map_line, begins_version_line, version_number, version_line, spelled, spelled_behind, label_length, objection, ReadSoFar, TokenSpan, start, unless_wrong, unless_refused, is_first, named, begins_at, refused_at, with_insn, ended, at_end_behind, accept, next_lexeme, read_on, error_in, program_in, assembled, Spells}
use Rattle.assembler.specs.declared.tokens.Word.TheVariants as word
use Rattle.assembler.specs.declared.readings.Statement.TheVariants as said
use Rattle.assembler.proofs.SpellsTokens.{bind, kept, passed, equal, At, whole, number_at_token, word_at_token}
use Rattle.assembler.proofs.SpellsReads.{Spells-reading_of}
use Rattle.assembler.proofs.SpellsLaws.{reading_of-Spells}

-- ---- statements

-- a number of a map line; one over the most of its field counts as the most
abbrev pub limited : ℕ → ℕ → ℕ
limited most n = if nat_le n most then n else most

-- map hash K V E, map array K V E
abbrev pub SpellsRow : List Token → MapDef → Type 0
SpellsRow ts row =
    (k : ℕ) × (v : ℕ) × (e : ℕ) × (row.key_size ≡ limited 65535 k)
    × (row.value_size ≡ limited 4294967295 v) × (row.entries ≡ limited 4294967295 e)
    × (ts ≡ Named word.Map ∷ Named (word.MapType row.kind) ∷ Number k ∷ Number v ∷ Number e ∷ [])

-- nothing, the version if no label comes before it, a map row, or an instruction
abbrev pub SpellsSome : ℕ → List Token → Type 0
SpellsSome skipped ts =
    (ts ≡ []) ⊎ (((skipped ≡ 0) × (ts ≡ Named word.Version ∷ Number 2 ∷ []))
    ⊎ (((row : MapDef) × SpellsRow ts row)
    ⊎ ((i : Insn) × (name : Option ℕ) × Spells ts i name)))

-- a statement without its label
abbrev pub IsSpelled : List Token → Type 0
IsSpelled ts = SpellsSome (label_length ts) (drop (label_length ts) ts)

-- ---- what is read of a statement

version_token : (o : Option Token) → begins_version_line o ≡ true → o ≡ Some (Named word.Version)
version_token (Some (Named word.Version)) h = refl
version_token (Some (Named x)) h = absurd (cc)
version_token (Some (Number n)) h = absurd (cc)
version_token (Some (Signed s)) h = absurd (cc)
version_token None h = absurd (cc)

map_token : (o : Option Token) → begins_map_line o ≡ true → o ≡ Some (Named word.Map)
map_token (Some (Named word.Map)) h = refl
map_token (Some (Named x)) h = absurd (cc)
map_token (Some (Number n)) h = absurd (cc)
map_token (Some (Signed s)) h = absurd (cc)
map_token None h = absurd (cc)

version_spells : (ts : List Token) (s : Statement) → At ts 0 (Named word.Version)
    → version_line ts ≡ Ok s → ts ≡ Named word.Version ∷ Number 2 ∷ []
version_spells ts s first h =
    let (n, front, last) = bind (version_number ts) _ s h in
    let (m, number, keeps) = bind (number_at ts 1) _ n front in
    let (len, same) = kept (length ts == 2) m n keeps in
    let (two, done) = passed (n == 2) said.Version (Range 1) s last in
    let is : m ≡ 2 = same ∙ equal n 2 two in
    whole ts (Named word.Version ∷ Number 2 ∷ [])
    (first, (subst (λ k. At ts 1 (Number k)) is (number_at_token ts 1 m number), tt))
    (equal (length ts) 2 len)

map_type_in : (x : Word) (kind : MapType) → as_map_type x ≡ Ok kind → x ≡ word.MapType kind
map_type_in (word.MapType k) kind h = let same : k ≡ kind = cc in ap word.MapType same
map_type_in x kind h = absurd (cc)

field_token : (most : ℕ) (ts : List Token) (i m : ℕ) → field_at most ts i ≡ Ok m
    → (n : ℕ) × At ts i (Number n) × (m ≡ limited most n)
field_token most ts i m h =
    let (n, number, last) = bind (number_at ts i) _ m h in
    let same : limited most n ≡ m = cc (last) in
    (n, number_at_token ts i n number, sym same)

row_spells : (ts : List Token) (row : MapDef) → At ts 0 (Named word.Map) → map_line ts ≡ Ok row
    → SpellsRow ts row
row_spells ts row first h =
    let (kind, front, h1) = bind (word_at ts 1 >>= as_map_type) _ row h in
    let (x, found, is) = bind (word_at ts 1) as_map_type kind front in
    let (key_size, key_read, h2) = bind (field_at 65535 ts 2) _ row h1 in
    let (value_size, value_read, h3) = bind (field_at 4294967295 ts 3) _ row h2 in
    let (entries, entries_read, last) = bind (field_at 4294967295 ts 4) _ row h3 in
    let (len, same) = kept (length ts == 5)
    (let r : MapDef = record {
      kind = kind;
      key_size = key_size;
      value_size = value_size;
      entries = entries;
    } in r) row last in
    let (k, key_at, key_is) = field_token 65535 ts 2 key_size key_read in
    let (v, value_at, value_is) = field_token 4294967295 ts 3 value_size value_read in
    let (e, entries_at, entries_is) = field_token 4294967295 ts 4 entries entries_read in
    let second : At ts 1 (Named (word.MapType kind)) =
    word_at_token ts 1 x found
    ∙ ap (λ (y : Word). let o : Option Token = Some (Named y) in o) (map_type_in x kind is) in
    let all = whole ts
    (Named word.Map ∷ Named (word.MapType kind) ∷ Number k ∷ Number v ∷ Number e ∷ [])
    (first, (second, (key_at, (value_at, (entries_at, tt))))) (equal (length ts) 5 len) in
    subst (λ (r : MapDef). SpellsRow ts r) same (k, v, e, key_is, value_is, entries_is, all)

none_left : (ts : List Token) → (length ts == 0) ≡ true → ts ≡ []
none_left [] h = refl
none_left (t ∷ ts) h =
    let zero : length (t ∷ ts) ≡ 0 = equal (length (t ∷ ts)) 0 h in absurd (omega (arith, zero))

instruction_spells : (skipped : ℕ) (ts : List Token) (s : Statement)
    → (reading_of ts >>= λ r. let z : Result Statement Wrong = Ok (said.Instruction r) in z)
    ≡ Ok s → SpellsSome skipped ts
instruction_spells skipped ts s h =
    let (r, found, last) = bind (reading_of ts) _ s h in
    inr (inr (inr (r.insn, r.name, reading_of-Spells ts r found)))

line_spells : (skipped : ℕ) (ts : List Token) (s : Statement) (b : Bool)
    → begins_map_line (slice_get ts 0) ≡ b
    → (if b then (map_line ts >>= λ row. let z : Result Statement Wrong = Ok (said.Row row) in z)
    else (reading_of ts >>= λ r. let z : Result Statement Wrong = Ok (said.Instruction r) in z))
    ≡ Ok s
    → SpellsSome skipped ts
line_spells skipped ts s true is h =
    let (row, found, last) = bind (map_line ts) _ s h in
    inr (inr (inl (row, row_spells ts row (map_token (slice_get ts 0) is) found)))
line_spells skipped ts s false is h = instruction_spells skipped ts s h

spelled_spells : (skipped : ℕ) (ts : List Token) (s : Statement) (b : Bool) → (length ts == 0) ≡ b
    → (if b then Ok said.Empty
    else if begins_map_line (slice_get ts 0)
    then (map_line ts >>= λ row. let z : Result Statement Wrong = Ok (said.Row row) in z)
    else (reading_of ts >>= λ r. let z : Result Statement Wrong = Ok (said.Instruction r) in z))
    ≡ Ok s
    → SpellsSome skipped ts
spelled_spells skipped ts s true is h = inl (none_left ts is)
spelled_spells skipped ts s false is h =
    line_spells skipped ts s (begins_map_line (slice_get ts 0)) refl h

unlabelled : (skipped : ℕ) (ts : List Token) (s : Statement) (b : Bool) → (skipped == 0) ≡ b
    → At ts 0 (Named word.Version) → (if b then version_line ts else Err Form) ≡ Ok s
    → SpellsSome skipped ts
unlabelled skipped ts s true is first h =
    inr (inl (equal skipped 0 is, version_spells ts s first h))
unlabelled skipped ts s false is first h = absurd (cc)

behind_spells : (skipped : ℕ) (ts : List Token) (s : Statement) (b : Bool)
    → begins_version_line (slice_get ts 0) ≡ b
    → (if b then (if skipped == 0 then version_line ts else Err Form) else spelled ts) ≡ Ok s
    → SpellsSome skipped ts
behind_spells skipped ts s true is h =
    unlabelled skipped ts s (skipped == 0) refl (version_token (slice_get ts 0) is) h
behind_spells skipped ts s false is h = spelled_spells skipped ts s (length ts == 0) refl h

-- what is read of a statement is what it spells
pub spelled_behind-SpellsSome : (skipped : ℕ) (ts : List Token) (s : Statement)
    → spelled_behind skipped ts ≡ Ok s → SpellsSome skipped ts
spelled_behind-SpellsSome skipped ts s h =
    behind_spells skipped ts s (begins_version_line (slice_get ts 0)) refl h

-- ---- the end of a statement

not_wrong : (s : ReadSoFar) (k : ℕ) (r : Result Statement Wrong) (x : Statement)
    → unless_wrong s k r ≡ Ok x → r ≡ Ok x
not_wrong s k (Ok y) x h =
    let same : y ≡ x = cc in ap (λ (z : Statement). let o : Result Statement Wrong = Ok z in o) same
not_wrong s k (Err w) x h = absurd (cc)

-- of equal results, the second has no tokens if the first has none
done : (r : ReadSoFar) (t : ReadSoFar) → r.tokens ≡ []
    → (let o : Result ReadSoFar Refusal = Ok r in o) ≡ Ok t → t.tokens ≡ []
done r t none h = let same : r ≡ t = cc in subst (λ (u : ReadSoFar). u.tokens ≡ []) same none

cleared : (s : ReadSoFar) (k : ℕ) (x : Statement) (t : ReadSoFar) → ended s k x ≡ Ok t
    → t.tokens ≡ []
cleared s k said.Empty t h = done _ t refl h
cleared s k said.Version t h = done _ t refl h
cleared s k (said.Row row) t h = done _ t refl h
cleared s k (said.Instruction r) t h =
    let (insns, front, last) = bind (refused_at (begins_at s) (with_insn s.insns r.insn)) _ t h in
    done _ t refl last

pub at_end_spells : (s : ReadSoFar) (k : ℕ) (t : ReadSoFar) → at_end_behind s k ≡ Ok t
    → SpellsSome k (drop k s.tokens) × (t.tokens ≡ [])
at_end_spells s k t h =
    let (x, front, h1) = bind (unless_wrong s k (spelled_behind k (drop k s.tokens))) _ t h in
    let (u, allowed, h2) =
    bind (unless_refused s k (objection (is_first s) s.insns s.maps x)) _ t h1 in
    let (v, labelled, last) = bind (if k == 0 then Ok s else named s) _ t h2 in (
      spelled_behind-SpellsSome k (drop k s.tokens) x
          (not_wrong s k (spelled_behind k (drop k s.tokens)) x front),
      cleared v k x t last,
    )

-- ---- texts

-- P holds of the tokens of each statement of a text that begins with this lexeme of n bytes; the
-- tokens ts of the first statement were read before. `rest` says the same of the text from its
-- second byte on, after as many more bytes as its first argument says
abbrev pub AtLexeme : (ℕ → List Token → Type 0) → (List Token → Type 0) → List Token → Lexeme → ℕ
    → Type 0
AtLexeme rest P ts Blank n = rest (n - 1) ts
AtLexeme rest P ts End n = P ts × rest (n - 1) []
AtLexeme rest P ts (Solid t) n = rest (n - 1) (ts ++ t ∷ [])

abbrev pub OnLexeme : (ℕ → List Token → Type 0) → (List Token → Type 0) → List Token
    → Option (Lexeme × ℕ) → Type 0
OnLexeme rest P ts None = ⊥
OnLexeme rest P ts (Some p) = AtLexeme rest P ts p.0 p.1

-- P holds of the tokens of each statement of a text after its first k bytes; ts were read before
unfoldable pub EachStatement : (List Token → Type 0) → List ℕ → ℕ → List Token → Type 0
EachStatement P [] k ts = P ts
EachStatement P (b ∷ bs) (suc k) ts = EachStatement P bs k ts
EachStatement P (b ∷ bs) zero ts =
    OnLexeme (λ n us. EachStatement P bs n us) P ts (lexeme_at (b ∷ bs))

lexeme_found : (o : Option (Lexeme × ℕ)) (e : Refusal) (p : Lexeme × ℕ) → ok_or o e ≡ Ok p
    → o ≡ Some p
lexeme_found (Some q) e p h =
    let same : q ≡ p = cc in ap (λ (z : Lexeme × ℕ). let o : Option (Lexeme × ℕ) = Some z in o) same
lexeme_found None e p h = absurd (cc)

-- equal results have the same tokens
pub same_tokens : (r u : ReadSoFar) → (let o : Result ReadSoFar Refusal = Ok r in o) ≡ Ok u
    → r.tokens ≡ u.tokens
same_tokens r u h = let same : r ≡ u = cc in ap (λ (v : ReadSoFar). v.tokens) same

accepted : (rest : ℕ → List Token → Type 0) (s : ReadSoFar) (x : Lexeme) (n : ℕ) (span : TokenSpan)
    (u : ReadSoFar) → accept s x span ≡ Ok u → rest (n - 1) u.tokens
    → AtLexeme rest IsSpelled s.tokens x n
accepted rest s Blank n span u h on =
    let same : s ≡ u = cc in subst (λ (v : ReadSoFar). rest (n - 1) v.tokens) (sym same) on
accepted rest s End n span u h on =
    let (spells, none) = at_end_spells s (label_length s.tokens) u h in
    (spells, subst (λ (ts : List Token). rest (n - 1) ts) none on)
accepted rest s (Solid t) n span u h on =
    let same : s.tokens ++ t ∷ [] ≡ u.tokens = same_tokens _ u h in
    subst (λ (ts : List Token). rest (n - 1) ts) (sym same) on

read_spells : (bs : List ℕ) (k at : ℕ) (s t : ReadSoFar) → read_on bs k at s ≡ Ok t
    → EachStatement IsSpelled bs k s.tokens
unfolding EachStatement
read_spells [] k at s t h = (at_end_spells s (label_length s.tokens) t h).0
read_spells (b ∷ bs) (suc k) at s t h = read_spells bs k (at + 1) s t h
read_spells (b ∷ bs) zero at s t h =
    let (p, front, h1) = bind (next_lexeme at (b ∷ bs)) _ t h in
    let (u, took, last) = bind (accept s p.0 (at, take p.1 (b ∷ bs))) _ t h1 in
    let found = lexeme_found (lexeme_at (b ∷ bs)) _ p front in
    let on = read_spells bs (p.1 - 1) (at + 1) u t last in
    subst (λ (o : Option (Lexeme × ℕ)). OnLexeme
    (λ n us. EachStatement IsSpelled bs n us) IsSpelled s.tokens o) (sym found)
    (accepted (λ n us. EachStatement IsSpelled bs n us) s p.0 p.1 (at, take p.1 (b ∷ bs)) u took on)

error_free : (text : List ℕ) (r : Result Program Refusal) (p : Program) → error_in text r ≡ Ok p
    → r ≡ Ok p
error_free text (Ok q) p h =
    let same : q ≡ p = cc in ap (λ (z : Program). let o : Result Program Refusal = Ok z in o) same
error_free text (Err e) p h = absurd (cc)

-- each statement of a text that is a program spells something
pub assembled-EachStatement : (text : List ℕ) (p : Program) → assembled text ≡ Ok p
    → EachStatement IsSpelled text 0 []
unfolding assembled
assembled-EachStatement text p h =
    let (s, read, last) =
    bind (read_on text 0 0 start) _ p (error_free text (program_in text) p h) in
    read_spells text 0 0 start s read

-- ---- what spells something is read

no_version : (ts : List Token) (r : Reading) → reading_of ts ≡ Ok r
    → begins_version_line (slice_get ts 0) ≡ false
unfolding reading_of
no_version [] r h = refl
no_version (Named word.Version ∷ ts) r h = absurd (cc)
no_version (t ∷ ts) r h = refl

no_map : (ts : List Token) (r : Reading) → reading_of ts ≡ Ok r
    → begins_map_line (slice_get ts 0) ≡ false
unfolding reading_of
no_map [] r h = refl
no_map (Named word.Map ∷ ts) r h = absurd (cc)
no_map (t ∷ ts) r h = refl

not_empty : (ts : List Token) (r : Reading) → reading_of ts ≡ Ok r → (length ts == 0) ≡ false
unfolding reading_of
not_empty [] r h = absurd (cc)
not_empty (t ∷ ts) r h = ne_eqb (length (t ∷ ts)) 0 (λ e. omega (arith, e))

abbrev row_statement : Result MapDef Wrong → Result Statement Wrong
row_statement r = r >>= λ row. Ok (said.Row row)

abbrev instruction_statement : Result Reading Wrong → Result Statement Wrong
instruction_statement r = r >>= λ q. Ok (said.Instruction q)

insn_behind : (skipped : ℕ) (ts : List Token) (r : Reading) → reading_of ts ≡ Ok r
    → spelled_behind skipped ts ≡ Ok (said.Instruction r)
insn_behind skipped ts r h =
    ap
    (λ (b : Bool). if b then (if skipped == 0 then version_line ts else Err Form) else spelled ts)
    (no_version ts r h)
    ∙ ap (λ (b : Bool). if b then Ok said.Empty
    else if begins_map_line (slice_get ts 0) then row_statement (map_line ts)
    else instruction_statement (reading_of ts)) (not_empty ts r h)
    ∙ ap (λ (b : Bool). if b then row_statement (map_line ts)
    else instruction_statement (reading_of ts))
    (no_map ts r h)
    ∙ ap instruction_statement h

-- a statement that spells something is read
pub SpellsSome-spelled_behind : (skipped : ℕ) (ts : List Token) → SpellsSome skipped ts
    → (s : Statement) × (spelled_behind skipped ts ≡ Ok s)
SpellsSome-spelled_behind skipped ts (inl none) = (said.Empty, ap (spelled_behind skipped) none)
SpellsSome-spelled_behind skipped ts (inr (inl (no_label, is))) =
    (said.Version, rw (no_label, is) refl)
SpellsSome-spelled_behind skipped ts (inr (inr (inl (row, (k, v, e, key, value, entries, is))))) = (
  said.Row (record {
    kind = row.kind;
    key_size = limited 65535 k;
    value_size = limited 4294967295
        v;
    entries = limited 4294967295 e;
  }),
  rw is refl,
)
SpellsSome-spelled_behind skipped ts (inr (inr (inr (i, name, spells)))) =
    (said.Instruction _, insn_behind skipped ts _ (Spells-reading_of ts i name spells))
