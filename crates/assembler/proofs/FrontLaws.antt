-- Laws of the front of a text: what is left of it, and where its tokens begin.
use Rattle.assembler.proofs.Common.{◌≡◌, ℕ, ◌+◌, ◌-◌, ◌<◌, ◌≤◌, List, ◌++◌, length, take, drop, refl, sym, ap, ◌∙◌, arith, subst, append_assoc, Result, Ok, length-drop, drop-drop, take-append-drop, drop-append-le, Lexeme, Refusal, ReadSoFar, start, read_on, accept_short, ChangesNothing, shifted, IsBelow, ReadsOn}
use Rattle.assembler.proofs.ShiftedOffsets.{onward, accept_short-shifted}
use Rattle.assembler.proofs.PassedLexemes.{goes-on-passed}

abbrev next : List ℕ → ℕ → List ℕ
next rest n = drop (n - 1) (drop 1 rest)

-- what is left is the end of the text
pub ends-next : (text rest : List ℕ) (n : ℕ) → length rest ≤ length text
    → drop (length text - length rest) text ≡ rest → n < length rest
    → drop (length text - length (next rest n)) text ≡ next rest n
ends-next text rest n few ends less =
    let at = length text - length rest in
    let one : length (drop 1 rest) ≡ length rest - 1 = length-drop 1 rest in
    let size : length (next rest n) ≡ length (drop 1 rest) - (n - 1) =
    length-drop (n - 1) (drop 1 rest) in
    let here : length text - length (next rest n) ≡ (at + 1) + (n - 1) =
    omega (arith, one, size, few, less) in
    ap (λ k. drop k text) here
    ∙ sym (drop-drop (n - 1) (at + 1) text)
    ∙ ap (drop (n - 1)) (sym (drop-drop 1 at text) ∙ ap (drop 1) ends)

-- ---- offsets

pub below-more : (n m : ℕ) (s : ReadSoFar) → IsBelow n s → n ≤ m → IsBelow m s
below-more n m s below more f fixes = below f (λ o h. fixes o (omega (arith, h, more)))

injected : (s t : ReadSoFar) → (let r : Result ReadSoFar Refusal = Ok s in r) ≡ Ok t → s ≡ t
injected s t e = cc

-- the next lexeme begins at n, and what follows it at m
pub below-taken : (n m : ℕ) (s t : ReadSoFar) (x : Lexeme) (bytes : List ℕ) → IsBelow n s → n < m
    → accept_short s x (n, bytes) ≡ Ok t → IsBelow m t
below-taken n m s t x bytes below more accepted f fixes =
    let same : shifted f s ≡ s = below f (λ o h. fixes o (omega (arith, h, more))) in
    let here : f n ≡ n = fixes n more in
    let none : f 0 ≡ 0 = fixes 0 (omega (arith, more)) in
    injected (shifted f t) t
    (sym (ap (onward f) accepted)
    ∙ sym (accept_short-shifted f s x (n, bytes) none)
    ∙ ap (λ (u : ReadSoFar). accept_short u x (f n, bytes)) same
    ∙ ap (λ (o : ℕ). accept_short s x (o, bytes)) here
    ∙ accepted)

-- ---- a text whose first bytes were read

pub goes-on-whole : (text rest : List ℕ) (g from : ℕ) (s : ReadSoFar)
    → ReadsOn (take g text) rest from s → drop from (take g text) ≡ rest
    → from ≤ length (take g text) → ReadsOn text (drop from text) from s
goes-on-whole text rest g from s on ends within more =
    let whole : take g text ++ drop g text ≡ text = take-append-drop g text in
    let left : drop from text ≡ rest ++ drop g text =
    ap (drop from) (sym whole)
    ∙ drop-append-le from (take g text) (drop g text) within
    ∙ ap (λ (bs : List ℕ). bs ++ drop g text) ends in
    ap (λ (bs : List ℕ). read_on (bs ++ more) 0 0 start) (sym whole)
    ∙ ap (λ (bs : List ℕ). read_on bs 0 0 start) (append_assoc (take g text) (drop g text) more)
    ∙ on (drop g text ++ more)
    ∙ ap (λ (bs : List ℕ). read_on bs 0 from s) (sym (append_assoc rest (drop g text) more))
    ∙ ap (λ (bs : List ℕ). read_on (bs ++ more) 0 from s) (sym left)

-- ---- lexemes that change nothing

-- what is left after one more of them
pub onward-passed : (text rest left : List ℕ) (from n : ℕ) (s : ReadSoFar)
    → (ReadsOn text (drop from text) from s → ReadsOn text rest (length text - length rest) s)
    → length rest ≤ length text - from → drop (length text - length rest) text ≡ rest
    → 4 ≤ length rest → n < length rest → ChangesNothing s rest n → left ≡ next rest n
    → (ReadsOn text (drop from text) from s → ReadsOn text left (length text - length left) s)
    × (length left ≤ length text - from)
    × (drop (length text - length left) text ≡ left)
onward-passed text rest left from n s on few ends some less passed is =
    let within : length rest ≤ length text = omega (arith, few) in
    let one : length (drop 1 rest) ≡ length rest - 1 = length-drop 1 rest in
    let size : length (next rest n) ≡ length (drop 1 rest) - (n - 1) =
    length-drop (n - 1) (drop 1 rest) in
    let shorter : length left ≤ length rest = omega (arith, ap length is, one, size) in (
      λ h. subst (λ (r : List ℕ). ReadsOn text r (length text - length r) s) (sym is)
          (goes-on-passed text rest s n (on h) some within less passed),
      omega (arith, shorter, few),
      subst (λ (r : List ℕ). drop (length text - length r) text ≡ r) (sym is)
          (ends-next text rest n within ends less),
    )

-- the offset of what is left
pub goes-on-there : (text left : List ℕ) (at : ℕ) (s : ReadSoFar)
    → ReadsOn text left (length text - length left) s
    → drop (length text - length left) text ≡ left → at ≡ length text - length left
    → ReadsOn text (drop at text) at s
goes-on-there text left at s on ends is =
    subst (λ (k : ℕ). ReadsOn text (drop k text) k s) (sym is)
    (subst (λ (r : List ℕ). ReadsOn text r (length text - length left) s) (sym ends) on)
