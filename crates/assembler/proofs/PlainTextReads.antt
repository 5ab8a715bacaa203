-- A text without labels and uses of names is read with the same result as by the simpler reading
-- of PlainTexts.
use Rattle.assembler.proofs.Common.{◌≡◌, ℕ, zero, suc, ◌+◌, ◌-◌, ◌==◌, Bool, true, false, if◌then◌else◌, List, [], ◌∷◌, ◌++◌, length, take, refl, ap, ◌∙◌, sym, subst, arith, ne_eqb, slice_get, Option, Some, None, ok_or, Result, MapDef, Insn, Token, Lexeme, Blank, End, Solid, lexeme_at, unknown_at, UnknownByte, Refusal, ◌>>=◌, map_line, begins_map_line, begins_version_line, version_line, NameUse, ReadSoFar, TokenSpan, at_end, accept, read_on}
use Rattle.isa_model.specs.declared.versions.Version.{Version as TheVersion}
use Rattle.assembler.proofs.PlainTexts.{plain_statement, added, added_row, added_version}
use Rattle.assembler.proofs.PlainTexts as plain
use Rattle.assembler.proofs.PlainReads.{version-agrees, same_some, ReadsPlainly, shadow, row-agrees, never, Bare, statement-agrees}

-- ---- the end of any statement

more-agrees : (s : ReadSoFar) (is_map_line : Bool) (final : plain.PlainReadSoFar)
    → begins_map_line (slice_get s.tokens 0) ≡ is_map_line → (length s.tokens == 0) ≡ false → Bare s
    → (if is_map_line then added_row (shadow s).parts (map_line s.tokens)
    else added (shadow s).parts (plain_statement s.tokens)) ≡ Some final
    → ReadsPlainly (at_end s) final
more-agrees s true final line more unused h =
    row-agrees s (map_line s.tokens) final refl more line unused h
more-agrees s false final line more unused h =
    statement-agrees s (plain_statement s.tokens) final refl more unused h

any-agrees : (s : ReadSoFar) (is_version_line : Bool) (final : plain.PlainReadSoFar)
    → begins_version_line (slice_get s.tokens 0) ≡ is_version_line
    → (length s.tokens == 0) ≡ false → Bare s
    → (if is_version_line then added_version (shadow s).parts (version_line s.tokens)
    else if begins_map_line (slice_get s.tokens 0)
    then added_row (shadow s).parts (map_line s.tokens)
    else added (shadow s).parts (plain_statement s.tokens)) ≡ Some final
    → ReadsPlainly (at_end s) final
any-agrees s true final line more unused h =
    version-agrees s (version_line s.tokens) final refl line unused h
any-agrees s false final version more unused h =
    more-agrees s (begins_map_line (slice_get s.tokens 0)) final refl more unused h

at_end-at : (ts : List Token) (v : TheVersion) (ms : List MapDef) (ps : List TokenSpan)
    (is : List Insn) (ls : List (List ℕ × ℕ)) (us : List NameUse) (final : plain.PlainReadSoFar)
    → (us ≡ []) × (ls ≡ [])
    → plain.at_end (record { tokens = ts; parts = record { version = v; maps = ms; insns = is } })
    ≡ Some final
    → ReadsPlainly
    (at_end (record {
      tokens = ts;
      spans = ps;
      version = v;
      maps = ms;
      insns = is;
      labels = ls;
      uses = us;
    })) final
at_end-at [] v ms ps is ls us final unused h = (
  record {
    tokens = [];
    spans = [];
    version = v;
    maps = ms;
    insns = is;
    labels = ls;
    uses = us;
  },
  refl,
  same_some
      (record { tokens = []; parts = record { version = v; maps = ms; insns = is } }) final h,
  unused,
)
at_end-at (t ∷ ts) v ms ps is ls us final unused h =
    let s : ReadSoFar = record {
      tokens = t
          ∷ ts;
      spans = ps;
      version = v;
      maps = ms;
      insns = is;
      labels = ls;
      uses = us;
    } in
    let more : (length (t ∷ ts) == 0) ≡ false =
    ne_eqb (length (t ∷ ts)) 0 (λ e. omega (arith, e)) in
    let is_version_line : Bool = begins_version_line (slice_get (t ∷ ts) 0) in
    let is_map_line : Bool = begins_map_line (slice_get (t ∷ ts) 0) in
    let rest : Option plain.PlainReadSoFar =
    if is_version_line then added_version (shadow s).parts (version_line (t ∷ ts))
    else if is_map_line then added_row (shadow s).parts (map_line (t ∷ ts))
    else added (shadow s).parts (plain_statement (t ∷ ts)) in
    any-agrees s is_version_line final refl more unused
    (sym (ap (λ (b : Bool). if b then Some (shadow s) else rest) more) ∙ h)

at_end-agrees : (s : ReadSoFar) (final : plain.PlainReadSoFar) → Bare s
    → plain.at_end (shadow s) ≡ Some final → ReadsPlainly (at_end s) final
at_end-agrees s final unused h =
    at_end-at s.tokens s.version s.maps s.spans s.insns s.labels s.uses final unused h

-- ---- the rest of a text

abbrev GoesOn : List ℕ → plain.PlainReadSoFar → Type 0
GoesOn bs final = (k at : ℕ) (s : ReadSoFar) → Bare s → plain.read_rest bs k (shadow s) ≡ Some final
    → ReadsPlainly (read_on bs k at s) final

-- the lexeme at the front is accepted, and then the rest is read
abbrev from_lexeme : List ℕ → ℕ → ℕ → ReadSoFar → Result (Lexeme × ℕ) Refusal
    → Result ReadSoFar Refusal
from_lexeme bs b at s found = found >>= λ (p : Lexeme × ℕ). accept s p.0 (at, take p.1 (b ∷ bs))
    >>= λ t. read_on bs (p.1 - 1) (at + 1) t

end-agrees : (bs : List ℕ) (n at : ℕ) (s : ReadSoFar) (mid : Option plain.PlainReadSoFar)
    (final : plain.PlainReadSoFar) → GoesOn bs final → Bare s → plain.at_end (shadow s) ≡ mid
    → plain.◌>>=◌ mid (λ t. plain.read_rest bs n t) ≡ Some final
    → ReadsPlainly (at_end s >>= λ t. read_on bs n at t) final
end-agrees bs n at s None final on unused e h = absurd (never final h)
end-agrees bs n at s (Some t) final on unused e h =
    let went : ReadsPlainly (at_end s) t = at_end-agrees s t unused e in
    let next : ReadsPlainly (read_on bs n at went.0) final =
    on n at went.0 went.3 (ap (λ u. plain.read_rest bs n u) went.2 ∙ h) in
    subst (λ (r : Result ReadSoFar Refusal). ReadsPlainly r final)
    (sym (ap (λ (r : Result ReadSoFar Refusal). r >>= λ t. read_on bs n at t) went.1)) next

lexeme-agrees : (b : ℕ) (bs : List ℕ) (x : Lexeme) (n at : ℕ) (s : ReadSoFar)
    (final : plain.PlainReadSoFar) → GoesOn bs final → Bare s
    → plain.◌>>=◌ (plain.accept (shadow s) x) (λ t. plain.read_rest bs (n - 1) t) ≡ Some final
    → ReadsPlainly (accept s x (at, take n (b ∷ bs)) >>= λ t. read_on bs (n - 1) (at + 1) t) final
lexeme-agrees b bs Blank n at s final on unused h = on (n - 1) (at + 1) s unused h
lexeme-agrees b bs End n at s final on unused h =
    end-agrees bs (n - 1) (at + 1) s (plain.at_end (shadow s)) final on unused refl h
lexeme-agrees b bs (Solid t) n at s final on unused h =
    on (n - 1) (at + 1)
    (record {
      tokens = s.tokens ++ t ∷ [];
      spans = s.spans
          ++ (at, take n (b ∷ bs))
          ∷ [];
      version = s.version;
      maps = s.maps;
      insns = s.insns;
      labels = s.labels;
      uses = s.uses;
    }) unused h

found-agrees : (b : ℕ) (bs : List ℕ) (o : Option (Lexeme × ℕ)) (at : ℕ) (s : ReadSoFar)
    (final : plain.PlainReadSoFar) → GoesOn bs final → Bare s
    → plain.◌>>=◌ o
    (λ (p : Lexeme × ℕ). plain.◌>>=◌ (plain.accept (shadow s) p.0)
    (λ t. plain.read_rest bs (p.1 - 1) t)) ≡ Some final
    → ReadsPlainly
    (from_lexeme bs b at s
    (ok_or o (record { kind = UnknownByte; offset = at + unknown_at (b ∷ bs) }))) final
found-agrees b bs None at s final on unused h = absurd (never final h)
found-agrees b bs (Some p) at s final on unused h =
    lexeme-agrees b bs p.0 p.1 at s final on unused h

-- where the simpler reading reaches the end of the text, the other one does too
pub read-agrees : (bs : List ℕ) (k at : ℕ) (s : ReadSoFar) (final : plain.PlainReadSoFar) → Bare s
    → plain.read_rest bs k (shadow s) ≡ Some final → ReadsPlainly (read_on bs k at s) final
read-agrees [] k at s final unused h = at_end-agrees s final unused h
read-agrees (b ∷ bs) (suc k) at s final unused h = read-agrees bs k (at + 1) s final unused h
read-agrees (b ∷ bs) zero at s final unused h =
    found-agrees b bs (lexeme_at (b ∷ bs)) at s final
    (λ n offset t bare more. read-agrees bs n offset t final bare more) unused h
