-- Laws of names that are written byte by byte, until a write fails.
use Rattle.messages.proofs.Common.{◌≡◌, ℕ, ◌<◌, List, [], ◌∷◌, ◌++◌, length, drop, Option, sym, ap, ap₂, ◌∙◌, subst, arith, slice_index, Appends, AppendsBeginning, AppendsBeginning-first, AppendsBeginning-second, shown_byte, shown_from}
use Rattle.std.proofs.KnownBytes.{Appends-trans}

shown_next : (before byte next : ℕ) (rest after : List ℕ) → 0 < length rest
    → byte ≡ slice_index rest 0 → after ≡ drop 1 rest → next ≡ slice_index after 0
    → shown_from before rest ≡ shown_byte before byte next ++ shown_from byte after
shown_next before byte next [] after some eb ea en = absurd (omega (arith, some))
shown_next before byte next (b ∷ bs) after some eb ea en =
    let first : b ≡ byte = sym eb in
    let rest : bs ≡ after = sym ea in
    let second : slice_index bs 0 ≡ next = ap (λ (l : List ℕ). slice_index l 0) rest ∙ sym en in
    ap₂ (λ (u v : List ℕ). u ++ v) (ap₂ (λ (x y : ℕ). shown_byte before x y) first second)
    (ap₂ (λ (x : ℕ) (l : List ℕ). shown_from x l) first rest)

-- a byte was written, and then the others
pub next_written : (out mid new : Option (List ℕ)) (before byte next : ℕ) (rest after : List ℕ)
    → 0 < length rest → byte ≡ slice_index rest 0 → after ≡ drop 1 rest
    → next ≡ slice_index after 0 → Appends out mid (shown_byte before byte next)
    → Appends mid new (shown_from byte after) → Appends out new (shown_from before rest)
next_written out mid new before byte next rest after some eb ea en p q =
    subst (Appends out new) (sym (shown_next before byte next rest after some eb ea en))
    (Appends-trans out mid new (shown_byte before byte next) (shown_from byte after) p q)

-- a byte was written, and then a beginning of the others
pub next_broken : (out mid new : Option (List ℕ)) (before byte next : ℕ) (rest after : List ℕ)
    → 0 < length rest → byte ≡ slice_index rest 0 → after ≡ drop 1 rest
    → next ≡ slice_index after 0 → Appends out mid (shown_byte before byte next)
    → AppendsBeginning mid new (shown_from byte after)
    → AppendsBeginning out new (shown_from before rest)
next_broken out mid new before byte next rest after some eb ea en p q =
    subst (AppendsBeginning out new) (sym (shown_next before byte next rest after some eb ea en))
    (AppendsBeginning-second out mid new (shown_byte before byte next) (shown_from byte after) p q)

-- a byte was not written as a whole
pub next_failed : (out new : Option (List ℕ)) (before byte next : ℕ) (rest after : List ℕ)
    → 0 < length rest → byte ≡ slice_index rest 0 → after ≡ drop 1 rest
    → next ≡ slice_index after 0 → AppendsBeginning out new (shown_byte before byte next)
    → AppendsBeginning out new (shown_from before rest)
next_failed out new before byte next rest after some eb ea en p =
    subst (AppendsBeginning out new) (sym (shown_next before byte next rest after some eb ea en))
    (AppendsBeginning-first out new (shown_byte before byte next) (shown_from byte after) p)
