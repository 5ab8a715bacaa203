-- Which registers instructions read and write: what the tests of one register say.
use Rattle.control_flow.proofs.Common.{◌≡◌, ◌++◌, ◌∷◌, [], List, Option, Some, None, refl, sym, ◌∙◌, inl, inr, ◌↔◌, ◌⊎◌, ℤ, option_to_list, same_Some, Reg, Insn, CallHelper, CallLocal, Exit, reads, writes, IsOneOf, IsOneOf-option, read_registers, written_registers}

-- ---- registers among registers

append-left : (xs ys : List Reg) (r : Reg) → IsOneOf xs r → IsOneOf (xs ++ ys) r
append-left [] ys r h = absurd h
append-left (x ∷ xs) ys r (inl e) = inl e
append-left (x ∷ xs) ys r (inr h) = inr (append-left xs ys r h)

append-right : (xs ys : List Reg) (r : Reg) → IsOneOf ys r → IsOneOf (xs ++ ys) r
append-right [] ys r h = h
append-right (x ∷ xs) ys r h = inr (append-right xs ys r h)

append-cases : (xs ys : List Reg) (r : Reg) → IsOneOf (xs ++ ys) r → IsOneOf xs r ⊎ IsOneOf ys r
append-cases [] ys r h = inr h
append-cases (x ∷ xs) ys r (inl e) = inl (inl e)
append-cases (x ∷ xs) ys r (inr h) =
    elim (append-cases xs ys r h) [ inl front ↦ inl (inr front) | inr back ↦ inr back ]

option-one : (o : Option Reg) (r : Reg) → o ≡ Some r → IsOneOf (option_to_list o) r
option-one (Some d) r e = inl (sym (same_Some d r e))
option-one None r e = absurd cc

-- what begins with no register, and gets that of an option if there is one, has just that one
pub found-with : (A B : Type 0) (o q : Option Reg) (r : Reg) → o ≡ q → (A → ⊥)
    → B ↔ (A ⊎ (o ≡ Some r)) → B ↔ IsOneOf (option_to_list q) r
found-with A B o q r same none x = (
  λ b. elim (x.0 b) [ inl a ↦ absurd (none a) | inr e ↦ option-one q r (sym same ∙ e) ],
  λ among. x.1 (inr (same ∙ IsOneOf-option q r among)),
)

-- it is one of the first two, or one of the others
pub among-first : (a b c d : Option Reg) (r : Reg) → (a ≡ Some r) ⊎ (b ≡ Some r)
    → IsOneOf (((option_to_list a ++ option_to_list b) ++ option_to_list c) ++ option_to_list d) r
among-first a b c d r h =
    append-left ((option_to_list a ++ option_to_list b) ++ option_to_list c) (option_to_list d) r
    (append-left (option_to_list a ++ option_to_list b) (option_to_list c) r
    (elim h [
      | inl e ↦ append-left (option_to_list a) (option_to_list b) r (option-one a r e)
      | inr e ↦ append-right (option_to_list a) (option_to_list b) r (option-one b r e)
    ]))

pub among-last : (a b c d : Option Reg) (r : Reg) → (c ≡ Some r) ⊎ (d ≡ Some r)
    → IsOneOf (((option_to_list a ++ option_to_list b) ++ option_to_list c) ++ option_to_list d) r
among-last a b c d r h = elim h [
  | inl e ↦
      append-left ((option_to_list a ++ option_to_list b) ++ option_to_list c) (option_to_list d) r
      (append-right (option_to_list a ++ option_to_list b) (option_to_list c) r (option-one c r e))
  | inr e ↦
      append-right ((option_to_list a ++ option_to_list b) ++ option_to_list c) (option_to_list d) r
      (option-one d r e)
]

pub among-cases : (a b c d : Option Reg) (r : Reg)
    → IsOneOf (((option_to_list a ++ option_to_list b) ++ option_to_list c) ++ option_to_list d) r
    → ((a ≡ Some r) ⊎ (b ≡ Some r)) ⊎ ((c ≡ Some r) ⊎ (d ≡ Some r))
among-cases a b c d r h =
    elim (append-cases ((option_to_list a ++ option_to_list b) ++ option_to_list c)
    (option_to_list d) r h) [
      | inr last ↦ inr (inr (IsOneOf-option d r last))
      | inl three ↦
          elim (append-cases (option_to_list a ++ option_to_list b) (option_to_list c) r three) [
            | inr third ↦ inr (inl (IsOneOf-option c r third))
            | inl two ↦ elim (append-cases (option_to_list a) (option_to_list b) r two) [
              | inl first ↦ inl (inl (IsOneOf-option a r first))
              | inr second ↦ inl (inr (IsOneOf-option b r second))
            ]
          ]
    ]

-- the same with four options, one after the other
pub among-with : (A B C D E : Type 0) (a b c d : Option Reg) (r : Reg) → (A → ⊥)
    → B ↔ (A ⊎ (a ≡ Some r)) → C ↔ (B ⊎ (b ≡ Some r)) → D ↔ (C ⊎ (c ≡ Some r))
    → E ↔ (D ⊎ (d ≡ Some r)) → E ↔ IsOneOf
    (((option_to_list a ++ option_to_list b) ++ option_to_list c) ++ option_to_list d) r
among-with A B C D E a b c d r none x y z w = (
  λ h4. elim (w.0 h4) [
    | inr e ↦ among-last a b c d r (inr e)
    | inl h3 ↦ elim (z.0 h3) [
      | inr e ↦ among-last a b c d r (inl e)
      | inl h2 ↦ elim (y.0 h2) [
        | inr e ↦ among-first a b c d r (inr e)
        | inl h1 ↦
            elim (x.0 h1) [ inr e ↦ among-first a b c d r (inl e) | inl h0 ↦ absurd (none h0) ]
      ]
    ]
  ],
  λ among. elim (among-cases a b c d r among) [
    | inl front ↦
        elim front [
          | inl e ↦ w.1 (inl (z.1 (inl (y.1 (inl (x.1 (inr e)))))))
          | inr e ↦ w.1 (inl (z.1 (inl (y.1 (inr e)))))
        ]
    | inr back ↦ elim back [ inl e ↦ w.1 (inl (z.1 (inr e))) | inr e ↦ w.1 (inr e) ]
  ],
)

-- ---- instructions

-- all but calls of functions and exits read what has to be set
pub read_others : (i : Insn) → ((by : ℤ) → i ≡ CallLocal by → ⊥) → (i ≡ Exit → ⊥)
    → read_registers i ≡ reads i
read_others (CallLocal by) call exit = absurd (call by refl)
read_others Exit call exit = absurd (exit refl)
read_others i call exit = refl

-- all but calls write the one register that their form says
pub written_others : (i : Insn) → ((number : ℤ) → i ≡ CallHelper number → ⊥)
    → ((by : ℤ) → i ≡ CallLocal by → ⊥) → written_registers i ≡ option_to_list (writes i)
written_others (CallHelper number) helper call = absurd (helper number refl)
written_others (CallLocal by) helper call = absurd (call by refl)
written_others i helper call = refl
