-- Numbers that are shown to name an action, and what a program answers.
use Rattle.transfer.proofs.Common.{◌≡◌, ◌≢◌, ◌⊎◌, ℕ, ◌%◌, ◌^◌, ◌≤◌, nat_le, bit_or, Bool, true, false, ◌||◌, if◌then◌else◌, Ok, Err, inl, inr, ◌∙◌, arith, refl, nat_tests, is_answer, Scalar, Kind, Number, Has, IsConstant, IsJust, Ways, Refusal, ExitValue, NoAction, shows_action, exit_result}
use Rattle.std.proofs.lemmas.Nat.Bits.{bit_at_or, bit_at-zero, same_from_bits}
use Rattle.isa_model.specs.declared.versions.Version.{Version}
use Rattle.isa_model.specs.declared.versions.Version.TheVariants.{One, Two}
use Rattle.known_bits.specs.Bits.{greatest_of}
use Rattle.known_bits.proofs.MemberLaws.{low-greatest}
use Rattle.transfer.specs.declared.Ways.TheVariants as ways

-- ---- what is shown

one_of : (a b c goal : Bool) → (a || (b || c)) ≡ true → (a ≡ true → goal ≡ true)
    → (b ≡ true → goal ≡ true) → (c ≡ true → goal ≡ true) → goal ≡ true
one_of true b c goal h by_a by_b by_c = by_a refl
one_of false true c goal h by_a by_b by_c = by_b refl
one_of false false true goal h by_a by_b by_c = by_c refl
one_of false false false goal h by_a by_b by_c = absurd (cc)

-- numbers that are shown to name actions do
pub shows_action-answers : (v : Version) (numbers : Scalar) (x : ℕ) → Has numbers x
    → shows_action v numbers ≡ true → is_answer v x ≡ true
shows_action-answers One numbers x h shown = refl
shows_action-answers Two numbers x h shown =
    let bits = low-greatest numbers.bits x 32 (omega arith) h.0 in
    let wide = h.1.0.to in
    let low = h.1.1.to in
    one_of (nat_le (greatest_of numbers.bits % 2 ^ 32) 4) (nat_le numbers.range.low.greatest 4)
    (nat_le numbers.range.wide.greatest 4) (nat_le (x % 2 ^ 32) 4) shown
    (λ few. grind (arith, nat_tests)) (λ few. grind (arith, nat_tests))
    (λ few. grind (arith, nat_tests))

or_zero : (x : ℕ) → bit_or x 0 ≡ x
or_zero x =
    same_from_bits (bit_or x 0) x (λ i. bit_at_or x 0 i ∙ (let none = bit_at-zero i in omega arith))

any_of : (half x : ℕ) → half ≤ x → (nat_le half 4 || (nat_le half 4 || nat_le x 4)) ≡ nat_le half 4
any_of half x h = grind (arith, nat_tests)

-- a constant is shown to name an action exactly where it names one
pub shows_action-constant : (v : Version) (numbers : Scalar) (x : ℕ) → IsConstant numbers x
    → shows_action v numbers ≡ is_answer v x
shows_action-constant One numbers x h = refl
shows_action-constant Two numbers x h =
    let bits : greatest_of numbers.bits ≡ x = rw (h.0.0, h.0.1) (or_zero x) in
    let low = h.1.1.1 in
    let wide = h.1.0.1 in
    rw (bits, low, wide) (any_of (x % 2 ^ 32) x (omega arith))

-- ---- what is answered

-- where an answer is not refused, it is a number that is shown to name an action, and ends the run
pub answered_number : (v : Version) (k : Kind) (w : Ways) → Ok w ≡ exit_result v k
    → (numbers : Scalar) × (k ≡ Number numbers) × (shows_action v numbers ≡ true) × (w ≡ ways.None)
answered_number v (Number numbers) w h = of (shows_action v numbers) refl h
  where
    of : (shown : Bool) → shows_action v numbers ≡ shown
        → Ok w ≡ (if shown then Ok ways.None else Err NoAction)
        → (c : Scalar) × (Number numbers ≡ Number c) × (shows_action v c ≡ true) × (w ≡ ways.None)
    of true is e = (numbers, refl, is, cc)
    of false is e = absurd (cc)
answered_number v k w h = absurd (cc)

-- an answer is refused where it is no number, or in version 2 a number that is not shown to name an
-- action
pub answered_refused : (v : Version) (k : Kind) (e : Refusal) → Err e ≡ exit_result v k
    → ((e ≡ ExitValue) × ((numbers : Scalar) → k ≢ Number numbers))
    ⊎ ((numbers : Scalar) × (k ≡ Number numbers) × (shows_action v numbers ≡ false) × (e ≡ NoAction)
    × (v ≡ Two))
answered_refused v (Number numbers) e h = of v (shows_action v numbers) refl h
  where
    of : (u : Version) (shown : Bool) → shows_action u numbers ≡ shown
        → Err e ≡ (if shown then Ok ways.None else Err NoAction)
        → ((e ≡ ExitValue) × ((c : Scalar) → Number numbers ≢ Number c))
        ⊎ ((c : Scalar) × (Number numbers ≡ Number c) × (shows_action u c ≡ false) × (e ≡ NoAction)
        × (u ≡ Two))
    of u true is h = absurd (cc)
    of One false is h = absurd (cc)
    of Two false is h = inr (numbers, refl, is, cc, refl)
answered_refused v k e h = inl (cc, λ numbers is. cc)

-- a constant that names an action is not refused
pub answered_constant : (v : Version) (k : Kind) (x : ℕ) → IsJust k x → is_answer v x ≡ true
    → exit_result v k ≡ Ok ways.None
answered_constant v (Number c) x h names =
    let shown : shows_action v c ≡ true = shows_action-constant v c x h.1 ∙ names in
    rw shown refl
answered_constant v k x h names = absurd h
