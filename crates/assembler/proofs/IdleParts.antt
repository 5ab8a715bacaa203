-- A part of a text that changes nothing can be dropped: what is read is the same, and refusals are
-- at the places that they had.
use Rattle.assembler.proofs.Common.{◌≡◌, ℕ, ◌+◌, ◌-◌, ◌<◌, ◌≤◌, Bool, if◌then◌else◌, List, ◌++◌, length, take, drop, refl, sym, ap, ◌∙◌, arith, append_assoc, Result, Ok, Err, take-append-drop, take-take, Program, Refusal, AsmError, ReadSoFar, start, read_on, program_in, error_in, assembled, shifted, IsBelow, ReadsOn}
use Rattle.std.proofs.lemmas.Bool.{lt-ltb, le-ltb}
use Rattle.assembler.specs.Gaps.{without, gap_of, in_place, IsIdle}
use Rattle.assembler.proofs.ShiftedOffsets.{alike, onward, read_on-shifted, program-shifted}
use Rattle.assembler.proofs.PositionLaws.{moved, error-placed}

-- ---- offsets behind the gap

moved-first : (from to : ℕ) → 0 < from → moved from to 0 ≡ 0
moved-first from to some = ap (λ (b : Bool). if b then 0 else 0 + (to - from)) (lt-ltb 0 from some)

moved-before : (from to o : ℕ) → o < from → moved from to o ≡ o
moved-before from to o h = ap (λ (b : Bool). if b then o else o + (to - from)) (lt-ltb o from h)

moved-behind : (from to o : ℕ) → from ≤ o → moved from to o ≡ o + (to - from)
moved-behind from to o h = ap (λ (b : Bool). if b then o else o + (to - from)) (le-ltb o from h)

-- ---- what is refused

error-alike : (text more : List ℕ) (from to : ℕ) → from ≤ to → to ≤ length text
    → (r : Result Program Refusal)
    → error_in (text ++ more) (alike (moved from to) r)
    ≡ in_place (gap_of from to text) (error_in (without from to text ++ more) r)
error-alike text more from to less few (Ok p) = refl
error-alike text more from to less few (Err e) =
    ap (λ (x : AsmError). let r : Result Program AsmError = Err x in r)
    (error-placed text more from to e.kind e.offset less few)

-- ---- what is read

-- without the part the text goes on as it does behind it
joined : (text rest more : List ℕ) (g from to : ℕ) → from ≤ g → g ≤ length text
    → drop from (take g text) ≡ rest → take (length rest) (drop to text) ≡ rest
    → without from to text ++ more
    ≡ take g text ++ (drop (length rest) (drop to text) ++ more)
joined text rest more g from to less few ends same =
    let tail = drop (length rest) (drop to text) in
    let behind : drop to text ≡ rest ++ tail =
    sym (take-append-drop (length rest) (drop to text))
    ∙ ap (λ (bs : List ℕ). bs ++ tail) same in
    let front : take from text ++ rest ≡ take g text =
    ap (λ (bs : List ℕ). bs ++ rest) (sym (take-take from g text less))
    ∙ ap (λ (bs : List ℕ). take from (take g text) ++ bs) (sym ends)
    ∙ take-append-drop from (take g text) in
    ap (λ (bs : List ℕ). (take from text ++ bs) ++ more) behind
    ∙ ap (λ (bs : List ℕ). bs ++ more) (sym (append_assoc (take from text) rest tail))
    ∙ ap (λ (bs : List ℕ). (bs ++ tail) ++ more) front
    ∙ append_assoc (take g text) tail more

kept-goes-on : (text rest more : List ℕ) (g from to : ℕ) (s : ReadSoFar) → from ≤ g
    → g ≤ length text → ReadsOn (take g text) rest from s → drop from (take g text) ≡ rest
    → take (length rest) (drop to text) ≡ rest
    → read_on (without from to text ++ more) 0 0 start ≡ read_on (drop to text ++ more) 0 from s
kept-goes-on text rest more g from to s less few on ends same =
    let tail = drop (length rest) (drop to text) in
    let behind : rest ++ tail ≡ drop to text =
    ap (λ (bs : List ℕ). bs ++ tail) (sym same)
    ∙ take-append-drop (length rest) (drop to text) in
    ap (λ (bs : List ℕ). read_on bs 0 0 start) (joined text rest more g from to less few ends same)
    ∙ on (tail ++ more)
    ∙ ap (λ (bs : List ℕ). read_on bs 0 from s) (sym (append_assoc rest tail more))
    ∙ ap (λ (bs : List ℕ). read_on (bs ++ more) 0 from s) behind

pub idle : (text rest : List ℕ) (g from to : ℕ) (s : ReadSoFar) → 0 < from → from ≤ g
    → g ≤ length text → from ≤ to → to ≤ length text
    → ReadsOn (take g text) rest from s → drop from (take g text) ≡ rest → IsBelow from s
    → ReadsOn text (drop to text) to s → take (length rest) (drop to text) ≡ rest
    → IsIdle from to text
unfolding assembled
idle text rest g from to s some less few before last on ends below onwards same more =
    let f = moved from to in
    let kept = without from to text ++ more in
    let first : f 0 ≡ 0 = moved-first from to some in
    let there : from + (to - from) ≡ to = omega (arith, before) in
    let still : shifted f s ≡ s = below f (λ o h. moved-before from to o h) in
    let read : read_on (text ++ more) 0 0 start ≡ onward f (read_on kept 0 0 start) =
    onwards more
    ∙ ap (λ n. read_on (drop to text ++ more) 0 n s) (sym there)
    ∙ ap (λ (t : ReadSoFar). read_on (drop to text ++ more) 0 (from + (to - from)) t) (sym still)
    ∙ read_on-shifted f from (to - from) first (moved-behind from to) (drop to text ++ more) 0
    from s (omega arith)
    ∙ ap (onward f) (sym (kept-goes-on text rest more g from to s less few on ends same)) in
    ap (error_in (text ++ more))
    (program-shifted f (read_on kept 0 0 start) (read_on (text ++ more) 0 0 start) first read)
    ∙ error-alike text more from to before last (program_in kept)
