-- Laws of the uses of names, one after another, as the loop takes them.
use Rattle.assembler.proofs.Common.{◌≡◌, ℕ, ◌+◌, ◌<◌, List, map, length, drop, get_or, slice_get, slice_set, ap, ◌∙◌, sym, subst, Option, Some, None, Result, Ok, Err, drop_more, get_or-map, length-map, Insn, AsmErrorKind, NotDefined, Refusal, Use, NameUse, use_of, aim, aim_used, put, resolved, ◌>>=◌}

-- a turn of the loop, for a use whose instruction was looked up, and then the uses after it
abbrev loop_turn : (List ℕ → Option ℕ) → List Use → List Insn → ℕ → NameUse → Option Insn
    → Result (List Insn) Refusal
loop_turn f us is k u found =
    put u is (aim_used f u found) >>= λ next. resolved f (drop (k + 1) (map use_of us)) next

loop_turn-of : (f : List ℕ → Option ℕ) (us : List Use) (is : List Insn) (k : ℕ) (d : Use)
    → k < length us
    → resolved f (drop k (map use_of us)) is
    ≡ loop_turn f us is k (use_of (get_or us k d)) (slice_get is (get_or us k d).index)
loop_turn-of f us is k d h =
    let within : k < length (map use_of us) = subst (λ n. k < n) (sym (length-map us use_of)) h in
    ap (λ l. resolved f l is) (drop_more (map use_of us) k (use_of d) within)
    ∙ ap (λ (u : NameUse). loop_turn f us is k u (slice_get is u.index))
    (get_or-map use_of us k d (use_of d) h)

-- where there is no instruction at the use's index, it is refused
pub use_missing : (f : List ℕ → Option ℕ) (us : List Use) (is : List Insn) (k : ℕ) (d : Use)
    → k < length us → slice_get is (get_or us k d).index ≡ None
    → resolved f (drop k (map use_of us)) is
    ≡ Err (record { kind = NotDefined; offset = (get_or us k d).offset })
use_missing f us is k d h none =
    loop_turn-of f us is k d h
    ∙ ap (λ found. loop_turn f us is k (use_of (get_or us k d)) found) none

loop_turn-aimed : (f : List ℕ → Option ℕ) (us : List Use) (is : List Insn) (k : ℕ) (d : Use)
    (i : Insn)
    (r : Result Insn AsmErrorKind) → k < length us → slice_get is (get_or us k d).index ≡ Some i
    → aim (f (get_or us k d).name.now) (get_or us k d).slot i ≡ r
    → resolved f (drop k (map use_of us)) is
    ≡ (put (use_of (get_or us k d)) is r >>= λ next. resolved f (drop (k + 1) (map use_of us)) next)
loop_turn-aimed f us is k d i r h there e =
    loop_turn-of f us is k d h
    ∙ ap (λ found. loop_turn f us is k (use_of (get_or us k d)) found) there
    ∙ ap (λ made. put (use_of (get_or us k d)) is made
    >>= λ next. resolved f (drop (k + 1) (map use_of us)) next) e

-- where its distance is refused, the text is
pub use_refused : (f : List ℕ → Option ℕ) (us : List Use) (is : List Insn) (k : ℕ) (d : Use)
    (i : Insn) (kind : AsmErrorKind) → k < length us → slice_get is (get_or us k d).index ≡ Some i
    → aim (f (get_or us k d).name.now) (get_or us k d).slot i ≡ Err kind
    → resolved f (drop k (map use_of us)) is
    ≡ Err (record { kind = kind; offset = (get_or us k d).offset })
use_refused f us is k d i kind h there e = loop_turn-aimed f us is k d i (Err kind) h there e

-- else the instruction gets its distance
pub use_aimed : (f : List ℕ → Option ℕ) (us : List Use) (is : List Insn) (k : ℕ) (d : Use)
    (i j : Insn) → k < length us → slice_get is (get_or us k d).index ≡ Some i
    → aim (f (get_or us k d).name.now) (get_or us k d).slot i ≡ Ok j
    → resolved f (drop k (map use_of us)) is
    ≡ resolved f (drop (k + 1) (map use_of us)) (slice_set is (get_or us k d).index j)
use_aimed f us is k d i j h there e = loop_turn-aimed f us is k d i (Ok j) h there e
