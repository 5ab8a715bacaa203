-- Exits of the only call frame: where they lead, and what they are refused for.
use Rattle.walks.proofs.Common.{◌≡◌, ◌+◌, ℕ, zero, suc, Ok, Err, true, arith, inl, inr, R0, is_answer, State, kind_of, IsNumberKind, IsJust, Ways, Refusal, NoAction, ExitsFrom}
use Rattle.isa_model.specs.declared.versions.Version.{Version}
use Rattle.isa_model.specs.declared.versions.Version.TheVariants.{Two}
use Rattle.transfer.specs.declared.Ways.TheVariants as ways
use Rattle.transfer.proofs.AnswerLaws.{answered_number, answered_refused, answered_constant}
use Rattle.walks.proofs.Accepted.{number_is}

-- ---- where they lead

-- the exit of the only frame, which has no callers, leads nowhere
pub exited_none : (version : Version) (callers : ℕ) (s b : State) (w : Ways) → callers + 1 ≡ 1
    → ExitsFrom version callers s (Ok w) b → w ≡ ways.None
exited_none version zero s b w one h = (answered_number version (kind_of s R0) w h).3
exited_none version (suc n) s b w one h = absurd (omega (arith, one))

-- an exit leads to one state at most
pub exits_not_two : (version : Version) (callers : ℕ) (s b : State)
    → ExitsFrom version callers s (Ok ways.Two) b → ⊥
exits_not_two version zero s b h =
    let none : ways.Two ≡ ways.None = (answered_number version (kind_of s R0) ways.Two h).3 in
    absurd (cc)
exits_not_two version (suc n) s b h = absurd (cc h.1)

-- ---- what they are refused for

-- a program of version 2 has to answer with an action, which is not shown
abbrev pub ShowsNoAction : Version → Refusal → Type 0
ShowsNoAction version e = (version ≡ Two) × (e ≡ NoAction)

-- the exit of the only frame with a number in r0 is refused for nothing else
pub exit_goes : (version : Version) (callers : ℕ) (s b : State) (e : Refusal) → callers + 1 ≡ 1
    → IsNumberKind (kind_of s R0) → ExitsFrom version callers s (Err e) b → ShowsNoAction version e
exit_goes version zero s b e one number h =
    elim (answered_refused version (kind_of s R0) e h) [
      | inl none ↦ let (numbers, is) = number_is (kind_of s R0) number in absurd (none.1 numbers is)
      | inr unshown ↦ (unshown.4, unshown.3)
    ]
exit_goes version (suc n) s b e one number h = absurd (omega (arith, one))

-- the exit with a known number in r0, which may be the answer, is not refused
pub constant_goes : (version : Version) (callers : ℕ) (s b : State) (x : ℕ) (e : Refusal)
    → callers + 1 ≡ 1 → IsJust (kind_of s R0) x → is_answer version x ≡ true
    → ExitsFrom version callers s (Err e) b → ⊥
constant_goes version zero s b x e one just names h =
    let known = answered_constant version (kind_of s R0) x just names in absurd (cc (h, known))
constant_goes version (suc n) s b x e one just names h = absurd (omega (arith, one))
