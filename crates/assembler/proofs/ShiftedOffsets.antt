-- Laws of offsets: where those of the tokens are others, what is read is the same, and refusals
-- have the others.
use Rattle.assembler.proofs.Common.{◌≡◌, ℕ, zero, suc, ◌+◌, ◌-◌, ◌≤◌, ◌==◌, List, [], ◌∷◌, ◌++◌, length, take, drop, map, refl, sym, ap, ◌∙◌, arith, Bool, true, false, if◌then◌else◌, Option, Some, None, Result, Ok, Err, ok_or, option_map, slice_get, nat_lt, is_none, slice_get-map, map-append, take-map, Lexeme, Blank, End, Solid, lexeme_at, unknown_at, Program, slots, count_refusal, Insn, AsmErrorKind, UnknownByte, NoForm, OutOfRange, SlotCount, Refusal, Reading, Statement, Empty, Version, Row, Instruction, Wrong, Form, Range, Objection, ◌>>=◌, spelled_behind, has_form, label_length, objection, with_label, slot_in, NameUse, aim_used, put, resolved, TokenSpan, ReadSoFar, offset_or, begins_at, refused_at, unless_wrong, unless_refused, with_insn, with_use, name_span, added, named_by, named, is_first, ended, at_end, accept, read_on, program_of, finished, accept_short, shortened, pushed, cut, shifted_span, shifted_use, shifted}
use Rattle.image.specs.Images as image

-- ---- the same with other offsets

abbrev pub shifted_refusal : (ℕ → ℕ) → Refusal → Refusal
shifted_refusal f e = record { kind = e.kind; offset = f e.offset }

abbrev pub shifted_by : {A B : Type 0} → (ℕ → ℕ) → (A → B) → Result A Refusal → Result B Refusal
shifted_by f g (Ok x) = Ok (g x)
shifted_by f g (Err e) = Err (shifted_refusal f e)

abbrev pub alike : {A : Type 0} → (ℕ → ℕ) → Result A Refusal → Result A Refusal
alike f r = shifted_by f (λ x. x) r

abbrev pub onward : (ℕ → ℕ) → Result ReadSoFar Refusal → Result ReadSoFar Refusal
onward f r = shifted_by f (shifted f) r

-- ---- offsets of tokens

offset-shifted : (f : ℕ → ℕ) (o : Option TokenSpan) → f 0 ≡ 0
    → offset_or (option_map (shifted_span f) o) 0 ≡ f (offset_or o 0)
offset-shifted f None h = sym h
offset-shifted f (Some span) h = refl

offset_at-shifted : (f : ℕ → ℕ) (s : ReadSoFar) (i : ℕ) → f 0 ≡ 0
    → offset_or (slice_get (shifted f s).spans i) 0 ≡ f (offset_or (slice_get s.spans i) 0)
offset_at-shifted f s i h =
    ap (λ (o : Option TokenSpan). offset_or o 0) (slice_get-map (shifted_span f) s.spans i)
    ∙ offset-shifted f (slice_get s.spans i) h

-- ---- one step after another

then-shifted : {A B C : Type 0} (f : ℕ → ℕ) (g : B → C) (r r' : Result A Refusal)
    (k : A → Result B Refusal) (k' : A → Result C Refusal) → r' ≡ alike f r
    → ((x : A) → k' x ≡ shifted_by f g (k x)) → (r' >>= k') ≡ shifted_by f g (r >>= k)
then-shifted f g (Ok x) r' k k' same on = ap (λ o. o >>= k') same ∙ on x
then-shifted f g (Err e) r' k k' same on = ap (λ o. o >>= k') same

onward-shifted : {B C : Type 0} (f : ℕ → ℕ) (g : B → C) (r r' : Result ReadSoFar Refusal)
    (k : ReadSoFar → Result B Refusal) (k' : ReadSoFar → Result C Refusal) → r' ≡ onward f r
    → ((t : ReadSoFar) → k' (shifted f t) ≡ shifted_by f g (k t))
    → (r' >>= k') ≡ shifted_by f g (r >>= k)
onward-shifted f g (Ok t) r' k k' same on = ap (λ o. o >>= k') same ∙ on t
onward-shifted f g (Err e) r' k k' same on = ap (λ o. o >>= k') same

-- ---- the end of a statement

abbrev refused : {A : Type 0} → AsmErrorKind → ℕ → Result A Refusal
refused kind offset = Err (record { kind = kind; offset = offset })

wrong-shifted : {A : Type 0} (f : ℕ → ℕ) (s : ReadSoFar) (k : ℕ) (r : Result A Wrong) → f 0 ≡ 0
    → unless_wrong (shifted f s) k r ≡ alike f (unless_wrong s k r)
wrong-shifted f s k (Ok x) h = refl
wrong-shifted f s k (Err Form) h = ap (refused NoForm) (offset_at-shifted f s 0 h)
wrong-shifted {A = A} f s k (Err (Range token)) h = of (has_form (drop k s.tokens)) where
  of : (b : Bool) → (let r : Result A Refusal = Err (if b
      then (record {
        kind = OutOfRange;
        offset = offset_or (slice_get (shifted f s).spans (token + k)) 0;
      })
      else record { kind = NoForm; offset = begins_at (shifted f s) }) in r)
      ≡ alike f (Err (if b
      then (record {
        kind = OutOfRange;
        offset = offset_or (slice_get s.spans (token + k)) 0;
      })
      else record { kind = NoForm; offset = begins_at s }))
  of true = ap (refused OutOfRange) (offset_at-shifted f s (token + k) h)
  of false = ap (refused NoForm) (offset_at-shifted f s 0 h)

refused-shifted : (f : ℕ → ℕ) (s : ReadSoFar) (k : ℕ) (o : Option Objection) → f 0 ≡ 0
    → unless_refused (shifted f s) k o ≡ alike f (unless_refused s k o)
refused-shifted f s k None h = refl
refused-shifted f s k (Some o) h = ap (refused o.kind) (offset_at-shifted f s (o.token + k) h)

refused_at-shifted : {A : Type 0} (f : ℕ → ℕ) (at to : ℕ) (r : Result A AsmErrorKind) → to ≡ f at
    → refused_at to r ≡ alike f (refused_at at r)
refused_at-shifted f at to (Ok x) h = refl
refused_at-shifted f at to (Err kind) h = ap (refused kind) h

named-shifted : (f : ℕ → ℕ) (s : ReadSoFar) → named (shifted f s) ≡ onward f (named s)
named-shifted f s =
    ap (named_by (shifted f s)) (slice_get-map (shifted_span f) s.spans 0)
    ∙ of (slice_get s.spans 0) where
      of : (o : Option TokenSpan)
          → named_by (shifted f s) (option_map (shifted_span f) o) ≡ onward f (named_by s o)
      of None = refl
      of (Some span) =
          then-shifted f (shifted f) (refused_at span.0 (with_label s.labels span.1 _)) _ _ _
          (refused_at-shifted f span.0 (f span.0) (with_label s.labels span.1 _) refl)
          (λ labels. refl)

uses-shifted : (f : ℕ → ℕ) (s : ReadSoFar) (o : Option TokenSpan)
    → with_use (shifted f s) (option_map (shifted_span f) o)
    ≡ map (shifted_use f) (with_use s o)
uses-shifted f s None = refl
uses-shifted f s (Some span) = sym (map-append (shifted_use f) s.uses _)

name-shifted : (f : ℕ → ℕ) (s : ReadSoFar) (k : ℕ) (name : Option ℕ)
    → name_span (shifted f s) k name ≡ option_map (shifted_span f) (name_span s k name)
name-shifted f s k None = refl
name-shifted f s k (Some i) = slice_get-map (shifted_span f) s.spans (i + k)

added-shifted : (f : ℕ → ℕ) (s : ReadSoFar) (k : ℕ) (x : Reading) → f 0 ≡ 0
    → added (shifted f s) k x ≡ onward f (added s k x)
added-shifted f s k x h =
    then-shifted f (shifted f) (refused_at (begins_at s) (with_insn s.insns x.insn)) _ _ _
    (refused_at-shifted f (begins_at s) (begins_at (shifted f s)) (with_insn s.insns x.insn)
    (offset_at-shifted f s 0 h))
    (λ insns. ap (λ (uses : List NameUse). let r : Result ReadSoFar Refusal = Ok (record {
      tokens = [];
      spans = [];
      version = s.version;
      maps = s.maps;
      insns = insns;
      labels = s.labels;
      uses = uses;
    }) in r)
    (ap (with_use (shifted f s)) (name-shifted f s k x.name)
    ∙ uses-shifted f s (name_span s k x.name)))

ended-shifted : (f : ℕ → ℕ) (s : ReadSoFar) (k : ℕ) (said : Statement) → f 0 ≡ 0
    → ended (shifted f s) k said ≡ onward f (ended s k said)
ended-shifted f s k Empty h = refl
ended-shifted f s k Version h = refl
ended-shifted f s k (Row row) h = refl
ended-shifted f s k (Instruction r) h = added-shifted f s k r h

label-shifted : (f : ℕ → ℕ) (s : ReadSoFar) (b : Bool)
    → (if b then Ok (shifted f s) else named (shifted f s))
    ≡ onward f (if b then Ok s else named s)
label-shifted f s true = refl
label-shifted f s false = named-shifted f s

at_end-shifted : (f : ℕ → ℕ) (s : ReadSoFar) → f 0 ≡ 0 → at_end (shifted f s) ≡ onward f (at_end s)
at_end-shifted f s h =
    let k = label_length s.tokens in
    then-shifted f (shifted f) (unless_wrong s k (spelled_behind k (drop k s.tokens))) _ _ _
    (wrong-shifted f s k (spelled_behind k (drop k s.tokens)) h)
    (λ said. then-shifted f (shifted f)
    (unless_refused s k (objection (is_first s) s.insns s.maps said)) _ _ _
    (refused-shifted f s k (objection (is_first s) s.insns s.maps said) h)
    (λ u. onward-shifted f (shifted f) (if k == 0 then Ok s else named s) _ _ _
    (label-shifted f s (k == 0)) (λ t. ended-shifted f t k said h)))

-- ---- a token

spans-pushed : (f : ℕ → ℕ) (s : ReadSoFar) (span : TokenSpan)
    → (map (shifted_span f) s.spans ++ shifted_span f span ∷ [])
    ≡ map (shifted_span f) (s.spans ++ span ∷ [])
spans-pushed f s span = sym (map-append (shifted_span f) s.spans (span ∷ []))

accept-shifted : (f : ℕ → ℕ) (s : ReadSoFar) (x : Lexeme) (span : TokenSpan) → f 0 ≡ 0
    → accept (shifted f s) x (shifted_span f span) ≡ onward f (accept s x span)
accept-shifted f s Blank span h = refl
accept-shifted f s End span h = at_end-shifted f s h
accept-shifted f s (Solid t) span h =
    ap (λ (spans : List TokenSpan). let r : Result ReadSoFar Refusal = Ok (record {
      tokens = s.tokens ++ t ∷ [];
      spans = spans;
      version = s.version;
      maps = s.maps;
      insns = s.insns;
      labels = s.labels;
      uses = map (shifted_use f) s.uses;
    }) in r) (spans-pushed f s span)

-- the first tokens only
short-shifted : (f : ℕ → ℕ) (s : ReadSoFar) → shifted f (shortened s) ≡ shortened (shifted f s)
short-shifted f s = of (nat_lt 16 (length s.tokens)) where
  of : (b : Bool) → shifted f (if b then cut s else s)
      ≡ (if b then cut (shifted f s) else shifted f s)
  of true = ap (λ (spans : List TokenSpan). let t : ReadSoFar = record {
    tokens = take 16 s.tokens;
    spans = spans;
    version = s.version;
    maps = s.maps;
    insns = s.insns;
    labels = s.labels;
    uses = map (shifted_use f) s.uses;
  } in t) (sym (take-map (shifted_span f) 16 s.spans))
  of false = refl

pub accept_short-shifted : (f : ℕ → ℕ) (s : ReadSoFar) (x : Lexeme) (span : TokenSpan) → f 0 ≡ 0
    → accept_short (shifted f s) x (shifted_span f span) ≡ onward f (accept_short s x span)
accept_short-shifted f s Blank span h = refl
accept_short-shifted f s End span h = at_end-shifted f s h
accept_short-shifted f s (Solid t) span h =
    ap (λ (u : ReadSoFar). let r : Result ReadSoFar Refusal = Ok (shortened u) in r)
    (ap (λ (spans : List TokenSpan). let u : ReadSoFar = record {
      tokens = s.tokens ++ t ∷ [];
      spans = spans;
      version = s.version;
      maps = s.maps;
      insns = s.insns;
      labels = s.labels;
      uses = map (shifted_use f) s.uses;
    } in u) (spans-pushed f s span))
    ∙ ap (λ (u : ReadSoFar). let r : Result ReadSoFar Refusal = Ok u in r)
    (sym (short-shifted f (pushed s t span)))

-- ---- the rest of a text

-- offsets from some on are greater by as much
abbrev pub Moves : (ℕ → ℕ) → ℕ → ℕ → Type 0
Moves f from by = (o : ℕ) → from ≤ o → f o ≡ o + by

-- the next lexeme, if the rest is read alike after it
lexeme-shifted : (f : ℕ → ℕ) (from by : ℕ) → f 0 ≡ 0 → Moves f from by → (b : ℕ) (bs : List ℕ)
    (at : ℕ) (s : ReadSoFar) → from ≤ at
    → ((n : ℕ) (t : ReadSoFar)
    → read_on bs n ((at + by) + 1) (shifted f t) ≡ onward f (read_on bs n (at + 1) t))
    → (found : Option (Lexeme × ℕ))
    → (ok_or found (let e : Refusal = record {
      kind = UnknownByte;
      offset = (at + by) + unknown_at (b ∷ bs);
    } in e)
    >>= λ (p : Lexeme × ℕ). accept (shifted f s) p.0 (at + by, take p.1 (b ∷ bs))
    >>= λ t. read_on bs (p.1 - 1) ((at + by) + 1) t)
    ≡ onward f (ok_or found (let e : Refusal = record {
      kind = UnknownByte;
      offset = at + unknown_at (b ∷ bs);
    } in e)
    >>= λ (p : Lexeme × ℕ). accept s p.0 (at, take p.1 (b ∷ bs))
    >>= λ t. read_on bs (p.1 - 1) (at + 1) t)
lexeme-shifted f from by h moves b bs at s more on None =
    let same : (at + by) + unknown_at (b ∷ bs) ≡ (at + unknown_at (b ∷ bs)) + by = omega arith in
    ap (refused UnknownByte)
    (same ∙ sym (moves (at + unknown_at (b ∷ bs)) (omega (arith, more))))
lexeme-shifted f from by h moves b bs at s more on (Some (x, n)) =
    onward-shifted f (shifted f) (accept s x (at, take n (b ∷ bs))) _ _ _
    (ap (λ o. accept (shifted f s) x (o, take n (b ∷ bs))) (sym (moves at more))
    ∙ accept-shifted f s x (at, take n (b ∷ bs)) h) (λ t. on (n - 1) t)

pub read_on-shifted : (f : ℕ → ℕ) (from by : ℕ) → f 0 ≡ 0 → Moves f from by
    → (bs : List ℕ) (k at : ℕ) (s : ReadSoFar) → from ≤ at
    → read_on bs k (at + by) (shifted f s) ≡ onward f (read_on bs k at s)
read_on-shifted f from by h moves [] k at s more = at_end-shifted f s h
read_on-shifted f from by h moves (b ∷ bs) (suc k) at s more =
    let next : (at + by) + 1 ≡ (at + 1) + by = omega arith in
    ap (λ n. read_on bs k n (shifted f s)) next
    ∙ read_on-shifted f from by h moves bs k (at + 1) s (omega (arith, more))
read_on-shifted f from by h moves (b ∷ bs) zero at s more =
    let on : (n : ℕ) (t : ReadSoFar)
    → read_on bs n ((at + by) + 1) (shifted f t) ≡ onward f (read_on bs n (at + 1) t) =
    λ n t. let next : (at + by) + 1 ≡ (at + 1) + by = omega arith in
    ap (λ m. read_on bs n m (shifted f t)) next
    ∙ read_on-shifted f from by h moves bs n (at + 1) t (omega (arith, more)) in
    lexeme-shifted f from by h moves b bs at s more on (lexeme_at (b ∷ bs))

-- ---- names

put-shifted : (f : ℕ → ℕ) (u : NameUse) (is : List Insn) (r : Result Insn AsmErrorKind)
    → put (shifted_use f u) is r ≡ alike f (put u is r)
put-shifted f u is (Ok i) = refl
put-shifted f u is (Err kind) = refl

aimed-shifted : (f : ℕ → ℕ) (slot_of : List ℕ → Option ℕ) (u : NameUse) (o : Option Insn)
    → aim_used slot_of (shifted_use f u) o ≡ aim_used slot_of u o
aimed-shifted f slot_of u None = refl
aimed-shifted f slot_of u (Some i) = refl

resolved-shifted : (f : ℕ → ℕ) (slot_of : List ℕ → Option ℕ) (us : List NameUse) (is : List Insn)
    → resolved slot_of (map (shifted_use f) us) is ≡ alike f (resolved slot_of us is)
resolved-shifted f slot_of [] is = refl
resolved-shifted f slot_of (u ∷ us) is =
    let o = slice_get is u.index in
    then-shifted f (λ x. x) (put u is (aim_used slot_of u o)) _ _ _
    (ap (put (shifted_use f u) is) (aimed-shifted f slot_of u o)
    ∙ put-shifted f u is (aim_used slot_of u o))
    (λ next. resolved-shifted f slot_of us next)

-- the whole program
pub finished-shifted : (f : ℕ → ℕ) (s : ReadSoFar) → f 0 ≡ 0
    → finished (shifted f s) ≡ alike f (finished s)
finished-shifted f s h =
    then-shifted f (λ x. x) (resolved (slot_in s.labels) s.uses s.insns) _ _ _
    (resolved-shifted f (slot_in s.labels) s.uses s.insns)
    (λ is. whole is) where
      whole : (is : List Insn)
          → program_of s.version s.maps is ≡ alike f (program_of s.version s.maps is)
      whole is = of (is_none (count_refusal (length (slots is)))) where
        of : (b : Bool) → (let r : Result Program Refusal =
            if b then Ok (image.program_of s.version s.maps is)
            else Err (record { kind = SlotCount; offset = 0 }) in r)
            ≡ alike f (if b then Ok (image.program_of s.version s.maps is)
            else Err (record { kind = SlotCount; offset = 0 }))
        of true = refl
        of false = ap (refused SlotCount) (sym h)

pub program-shifted : (f : ℕ → ℕ) (r r' : Result ReadSoFar Refusal) → f 0 ≡ 0 → r' ≡ onward f r
    → (r' >>= finished) ≡ alike f (r >>= finished)
program-shifted f r r' h same =
    onward-shifted f (λ x. x) r r' finished finished same (λ t. finished-shifted f t h)
