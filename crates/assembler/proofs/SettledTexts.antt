-- Laws of the loop over the first lexemes of a text: what they say of every text that begins so.
use Rattle.assembler.proofs.Common.{◌≡◌, ℕ, zero, suc, ◌+◌, ◌-◌, ◌<◌, ◌≤◌, ◌==◌, List, [], ◌∷◌, ◌++◌, length, take, drop, sym, ap, ◌∙◌, arith, Bool, true, false, if◌then◌else◌, Option, Some, None, Result, Ok, Err, subst, slice_get, nat_lt, Token, Lexeme, Blank, End, Solid, lexeme_at, unknown_at, AsmErrorKind, UnknownByte, NoForm, OutOfRange, AsmError, Program, Insn, Refusal, Reading, Statement, Empty, Version, Row, Instruction, Wrong, Form, Range, Objection, ◌>>=◌, spelled_behind, has_form, label_length, objection, with_label, line_behind, column_behind, TokenSpan, ReadSoFar, start, offset_or, begins_at, refused_at, unless_wrong, unless_refused, with_insn, with_use, name_span, added, named_by, named, is_first, ended, at_end, read_on, error_in, program_in, assembled, finished, accept_short, shortened, pushed, cut, ReadsOn}
use Rattle.std.proofs.lemmas.List.{length-append, length-drop, append-nil, take-append-le, drop-append-le}
use Rattle.assembler.proofs.LexingLaws.{unknown_at-within}
use Rattle.assembler.proofs.LexemeFronts.{lexeme_at-append, EndsWithin, BeginsAlike}
use Rattle.assembler.specs.Settled.{IsTextSettled}
use Rattle.assembler.proofs.ReadingLoop.{loop_turn-none, loop_turn-refused, loop_turn-taken}

-- ---- where a statement is refused: at one of its tokens, or at the start of the text

-- no token begins behind that offset
abbrev pub BeginsWithin : ℕ → List TokenSpan → Type 0
BeginsWithin m spans = (i : ℕ) → offset_or (slice_get spans i) 0 ≤ m

abbrev IsWithin : ℕ → Result ReadSoFar Refusal → Type 0
IsWithin m (Ok t) = BeginsWithin m t.spans
IsWithin m (Err e) = e.offset ≤ m

abbrev IsErrWithin : {A : Type 0} → ℕ → Result A Refusal → Type 0
IsErrWithin m (Ok x) = Unit {0}
IsErrWithin m (Err e) = e.offset ≤ m

no_tokens : (m : ℕ) → BeginsWithin m []
no_tokens m zero = omega arith
no_tokens m (suc i) = omega arith

within-pushed : (m : ℕ) (xs : List TokenSpan) (y : TokenSpan) → BeginsWithin m xs → y.0 ≤ m
    → BeginsWithin m (xs ++ y ∷ [])
within-pushed m [] y h g zero = g
within-pushed m [] y h g (suc i) = no_tokens m i
within-pushed m (x ∷ xs) y h g zero = h 0
within-pushed m (x ∷ xs) y h g (suc i) = within-pushed m xs y (λ j. h (suc j)) g i

within-take : (m k : ℕ) (xs : List TokenSpan) → BeginsWithin m xs → BeginsWithin m (take k xs)
within-take m zero xs h i = no_tokens m i
within-take m (suc k) [] h i = no_tokens m i
within-take m (suc k) (x ∷ xs) h zero = h 0
within-take m (suc k) (x ∷ xs) h (suc i) = within-take m k xs (λ j. h (suc j)) i

-- one step after another
then-within : {A : Type 0} (m : ℕ) (r : Result A Refusal) (f : A → Result ReadSoFar Refusal)
    → IsErrWithin m r → ((x : A) → IsWithin m (f x)) → IsWithin m (r >>= f)
then-within m (Ok x) f h g = g x
then-within m (Err e) f h g = h

onward-within : (m : ℕ) (r : Result ReadSoFar Refusal) (f : ReadSoFar → Result ReadSoFar Refusal)
    → IsWithin m r → ((t : ReadSoFar) → BeginsWithin m t.spans → IsWithin m (f t))
    → IsWithin m (r >>= f)
onward-within m (Ok t) f h g = g t h
onward-within m (Err e) f h g = h

wrong-within : {A : Type 0} (m : ℕ) (s : ReadSoFar) (k : ℕ) (r : Result A Wrong)
    → BeginsWithin m s.spans → IsErrWithin m (unless_wrong s k r)
wrong-within m s k (Ok x) h = tt
wrong-within m s k (Err Form) h = h 0
wrong-within m s k (Err (Range token)) h = of (has_form (drop k s.tokens)) where
  of : (b : Bool) → (let r : Refusal = if b
      then (record {
        kind = OutOfRange;
        offset = offset_or (slice_get s.spans (token + k)) 0;
      })
      else record { kind = NoForm; offset = begins_at s } in r.offset) ≤ m
  of true = h (token + k)
  of false = h 0

refused-within : (m : ℕ) (s : ReadSoFar) (k : ℕ) (o : Option Objection) → BeginsWithin m s.spans
    → IsErrWithin m (unless_refused s k o)
refused-within m s k None h = tt
refused-within m s k (Some o) h = h (o.token + k)

named-within : (m : ℕ) (s : ReadSoFar) → BeginsWithin m s.spans → IsWithin m (named s)
named-within m s h = of (slice_get s.spans 0) (h 0) where
  by : (span : TokenSpan) (r : Result (List (List ℕ × ℕ)) AsmErrorKind) → span.0 ≤ m
      → IsWithin m (refused_at span.0 r >>= λ labels. Ok (record {
        tokens = s.tokens;
        spans = s.spans;
        version = s.version;
        maps = s.maps;
        insns = s.insns;
        labels = labels;
        uses = s.uses;
      }))
  by span (Ok labels) g = h
  by span (Err kind) g = g

  of : (o : Option TokenSpan) → offset_or o 0 ≤ m → IsWithin m (named_by s o)
  of None g = h
  of (Some span) g = by span (with_label s.labels span.1 _) g

added-within : (m : ℕ) (s : ReadSoFar) (k : ℕ) (x : Reading) → BeginsWithin m s.spans
    → IsWithin m (added s k x)
added-within m s k x h = of (with_insn s.insns x.insn) where
  of : (r : Result (List Insn) AsmErrorKind)
      → IsWithin m (refused_at (begins_at s) r >>= λ insns. Ok (record {
        tokens = [];
        spans = [];
        version = s.version;
        maps = s.maps;
        insns = insns;
        labels = s.labels;
        uses = with_use s (name_span s k x.name);
      }))
  of (Ok insns) = no_tokens m
  of (Err kind) = h 0

ended-within : (m : ℕ) (s : ReadSoFar) (k : ℕ) (said : Statement) → BeginsWithin m s.spans
    → IsWithin m (ended s k said)
ended-within m s k Empty h = no_tokens m
ended-within m s k Version h = no_tokens m
ended-within m s k (Row row) h = no_tokens m
ended-within m s k (Instruction r) h = added-within m s k r h

label-within : (m : ℕ) (s : ReadSoFar) (b : Bool) → BeginsWithin m s.spans
    → IsWithin m (if b then Ok s else named s)
label-within m s true h = h
label-within m s false h = named-within m s h

at_end-within : (m : ℕ) (s : ReadSoFar) → BeginsWithin m s.spans → IsWithin m (at_end s)
at_end-within m s h =
    let k = label_length s.tokens in
    then-within m (unless_wrong s k (spelled_behind k (drop k s.tokens))) _
    (wrong-within m s k (spelled_behind k (drop k s.tokens)) h)
    (λ said. then-within m (unless_refused s k (objection (is_first s) s.insns s.maps said)) _
    (refused-within m s k (objection (is_first s) s.insns s.maps said) h)
    (λ u. onward-within m (if k == 0 then Ok s else named s) _ (label-within m s (k == 0) h)
    (λ t g. ended-within m t k said g)))

solid-within : (m : ℕ) (s : ReadSoFar) (t : Token) (span : TokenSpan) → BeginsWithin m s.spans
    → span.0 ≤ m → BeginsWithin m (shortened (pushed s t span)).spans
solid-within m s t span h g =
    let all : BeginsWithin m (s.spans ++ span ∷ []) = within-pushed m s.spans span h g in
    of (nat_lt 16 (length (pushed s t span).tokens)) all where
      of : (b : Bool) → BeginsWithin m (s.spans ++ span ∷ [])
          → BeginsWithin m (if b then cut (pushed s t span) else pushed s t span).spans
      of true all = within-take m 16 (s.spans ++ span ∷ []) all
      of false all = all

-- a lexeme that begins there is refused there or before
accept-within : (m : ℕ) (s : ReadSoFar) (x : Lexeme) (span : TokenSpan) → BeginsWithin m s.spans
    → span.0 ≤ m → IsWithin m (accept_short s x span)
accept-within m s Blank span h g = h
accept-within m s End span h g = at_end-within m s h
accept-within m s (Solid t) span h g = solid-within m s t span h g

-- ---- texts that are settled

abbrev refused : Refusal → Result ReadSoFar Refusal
refused e = Err e

abbrev not_spelled : Refusal → Result Program Refusal
not_spelled e = Err e

abbrev error_behind : AsmErrorKind → List ℕ → Result Program AsmError
error_behind kind front =
    Err (record { kind = kind; line = line_behind front; column = column_behind front })

settled_by : (text : List ℕ) (e : Refusal) → e.offset ≤ length text
    → ((more : List ℕ) → read_on (text ++ more) 0 0 start ≡ refused e) → IsTextSettled text
unfolding assembled
settled_by text e h all more =
    let spelled : (ys : List ℕ) → program_in (text ++ ys) ≡ not_spelled e =
    λ ys. ap (λ (r : Result ReadSoFar Refusal). r >>= finished) (all ys) in
    let here : program_in text ≡ not_spelled e =
    ap program_in (sym (append-nil text)) ∙ spelled [] in
    ap (error_in (text ++ more)) (spelled more)
    ∙ ap (error_behind e.kind) (take-append-le e.offset text more h)
    ∙ ap (error_in text) (sym here)

-- ---- the turns of the loop

count : (xs ys more : List ℕ) → length (xs ++ more) - length (ys ++ more) ≡ length xs - length ys
count xs ys more =
    let one : length (xs ++ more) ≡ length xs + length more = length-append xs more in
    let two : length (ys ++ more) ≡ length ys + length more = length-append ys more in
    omega arith

some_left : (rest more : List ℕ) → 4 ≤ length rest → 0 < length (rest ++ more)
some_left rest more some =
    let size : length (rest ++ more) ≡ length rest + length more = length-append rest more in
    omega arith

found_alike : (rest more : List ℕ) (x : Lexeme) (n : ℕ) → 4 ≤ length rest → n < length rest
    → lexeme_at rest ≡ Some (x, n) → lexeme_at (rest ++ more) ≡ Some (x, n)
found_alike rest more x n some less found =
    let within : EndsWithin (lexeme_at rest) (length rest) =
    subst (λ (o : Option (Lexeme × ℕ)). EndsWithin o (length rest)) (sym found) less in
    let alike : BeginsAlike rest more = lexeme_at-append rest more some within in
    alike.0 ∙ found

accepted_alike : (rest more : List ℕ) (x : Lexeme) (n at : ℕ) (s : ReadSoFar)
    (r : Result ReadSoFar Refusal) → n < length rest → accept_short s x (at, take n rest) ≡ r
    → accept_short s x (at, take n (rest ++ more)) ≡ r
accepted_alike rest more x n at s r less accepted =
    ap (λ (bs : List ℕ). accept_short s x (at, bs))
    (take-append-le n rest more (omega (arith, less)))
    ∙ accepted

-- there is no lexeme
pub settled-none : (front rest : List ℕ) (s : ReadSoFar)
    → ReadsOn front rest (length front - length rest) s → 4 ≤ length rest
    → length rest ≤ length front → lexeme_at rest ≡ None → IsTextSettled front
settled-none front rest s on some few none =
    let at = length front - length rest in
    let e : Refusal = record { kind = UnknownByte; offset = at + unknown_at rest } in
    let within : EndsWithin (lexeme_at rest) (length rest) =
    subst (λ (o : Option (Lexeme × ℕ)). EndsWithin o (length rest)) (sym none) tt in
    let last : unknown_at rest ≤ length rest = unknown_at-within rest (omega (arith, some)) in
    settled_by front e (omega (arith, last, few))
    (λ more. let alike : BeginsAlike rest more = lexeme_at-append rest more some within in
    on more
    ∙ loop_turn-none (rest ++ more) at s (some_left rest more some) (alike.0 ∙ none)
    ∙ ap (λ n. refused (record { kind = UnknownByte; offset = at + n })) alike.1)

-- the statement ends there and is refused
pub settled-refused : (front rest : List ℕ) (s : ReadSoFar) (x : Lexeme) (n : ℕ) (e : Refusal)
    → ReadsOn front rest (length front - length rest) s → BeginsWithin (length front) s.spans
    → 4 ≤ length rest → n < length rest → lexeme_at rest ≡ Some (x, n)
    → accept_short s x (length front - length rest, take n rest) ≡ Err e → IsTextSettled front
settled-refused front rest s x n e on within some less found accepted =
    let at = length front - length rest in
    let m = length front in
    let h : IsWithin m (refused e) = subst (IsWithin m) accepted
    (accept-within m s x (at, take n rest) within (omega arith)) in
    settled_by front e h
    (λ more. on more
    ∙ loop_turn-refused (rest ++ more) at s x n e (some_left rest more some)
    (found_alike rest more x n some less found)
    (accepted_alike rest more x n at s (Err e) less accepted))

abbrev next : List ℕ → ℕ → List ℕ
next rest n = drop (n - 1) (drop 1 rest)

next-append : (rest more : List ℕ) (n : ℕ) → n < length rest
    → next (rest ++ more) n ≡ next rest n ++ more
next-append rest more n less =
    let size : length (drop 1 rest) ≡ length rest - 1 = length-drop 1 rest in
    ap (drop (n - 1)) (drop-append-le 1 rest more (omega (arith, less)))
    ∙ drop-append-le (n - 1) (drop 1 rest) more (omega (arith, size, less))

-- the lexeme is accepted, and the loop goes on
pub goes-on : (front rest : List ℕ) (s : ReadSoFar) (x : Lexeme) (n : ℕ) (t : ReadSoFar)
    → ReadsOn front rest (length front - length rest) s → 4 ≤ length rest
    → length rest ≤ length front → n < length rest → lexeme_at rest ≡ Some (x, n)
    → accept_short s x (length front - length rest, take n rest) ≡ Ok t
    → ReadsOn front (next rest n) (length front - length (next rest n)) t
goes-on front rest s x n t on some few less found accepted more =
    let at = length front - length rest in
    let all = length (front ++ more) in
    let one : length (front ++ more) ≡ length front + length more = length-append front more in
    let two : length (rest ++ more) ≡ length rest + length more = length-append rest more in
    let here : all - length (rest ++ more) ≡ at = count front rest more in
    let d : next (rest ++ more) n ≡ next rest n ++ more = next-append rest more n less in
    on more
    ∙ ap (λ o. read_on (rest ++ more) 0 o s) (sym here)
    ∙ loop_turn-taken (rest ++ more) all s x n t (some_left rest more some) (omega arith)
    (found_alike rest more x n some less found)
    (ap (λ o. accept_short s x (o, take n (rest ++ more))) here
    ∙ accepted_alike rest more x n at s (Ok t) less accepted)
    ∙ ap (λ (bs : List ℕ). read_on bs 0 (all - length bs) t) d
    ∙ ap (λ o. read_on (next rest n ++ more) 0 o t) (count front (next rest n) more)

-- no token of what was accepted begins behind the text
pub stays-within : (m : ℕ) (s : ReadSoFar) (x : Lexeme) (span : TokenSpan) (t : ReadSoFar)
    → BeginsWithin m s.spans → span.0 ≤ m → accept_short s x span ≡ Ok t
    → BeginsWithin m t.spans
stays-within m s x span t h g accepted =
    subst (IsWithin m) accepted (accept-within m s x span h g)
