-- The start of a search, and the starts of the machine that its state means.
use Rattle.explorer.proofs.Common.{◌≡◌, [], ℕ, Option, List, arith, refl, sym, subst, IsSome, All-nil, All-cons, Insn, Program, IsImage, start, State, Within, StoredState, AllSettled, IsAtInsns, Precision, Forgets, Forgets-slot, Forgets-returns}
use Rattle.std.specs.List.{All}
use Rattle.image.proofs.ImageLaws.{fetch-zero}
use Rattle.image.proofs.Programs.{IsProgram-IsImage}
use Rattle.isa_model.specs.Running.Runs.{start_state}
use Rattle.stack_state.proofs.StartsLaws.{Means-start}
use Rattle.isa_model.specs.Running.Outcomes.{StartsEnd}
use Rattle.control_flow.specs.Graph.{BeginsInsn}

pub empty_fine : (p : Program) (m : ℕ) (states : List StoredState) → states ≡ []
    → AllSettled p m states
unfolding AllSettled
empty_fine p m states e = subst (λ x. AllSettled p m x) (sym e) (λ k d h. absurd (omega arith))

start_ready : (p : Program) → IsImage p → IsAtInsns p start
unfolding start
start_ready p image =
    let first = fetch-zero p image in
    let begins : BeginsInsn p 0 = subst (λ (o : Option Insn). IsSome o) (sym first.1) refl in
    record {
      insn_begins = begins;
      returns = All-cons (BeginsInsn p) 0 [] begins
          (All-nil (BeginsInsn p));
    }

IsAtInsns-forgets : {how : Precision} (p : Program) (a b : State) → Forgets how p a b
    → IsAtInsns p a → IsAtInsns p b
IsAtInsns-forgets p a b f ready = record {
  insn_begins = subst (BeginsInsn p) (sym (Forgets-slot p a b f)) ready.insn_begins;
  returns = subst (All (BeginsInsn p)) (sym (Forgets-returns p a b f)) ready.returns;
}

pub starts_ready : {how : Precision} (p q : Program) (s : State) → p ≡ q → IsImage q
    → Forgets how p start s
    → IsAtInsns p s
starts_ready p q s same image forgets =
    IsAtInsns-forgets p start s forgets (start_ready p (subst IsImage (sym same) image))

pub starts_end : (p q : Program) (n : ℕ) → p ≡ q → IsImage q → Within p start n → StartsEnd q n
unfolding Within StartsEnd
starts_end p q n same image within = λ clock head packet contents fits given.
    subst (λ x. Within x start n) same within clock fits (start_state head packet contents)
    (Means-start q head packet contents (IsProgram-IsImage q image) given)
