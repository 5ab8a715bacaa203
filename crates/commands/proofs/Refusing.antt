-- What is said of a program that is refused.
use Rattle.commands.proofs.Common.{◌≡◌, ℕ, List, Option, subst, sym, inl, inr, Program, fetch, TaskOutcome, Done, WrongWords, Refused, Faulted, CannotRead, CannotWrite, CannotReplace, NoMemory, IsWriteFailure, IfRefusal, SaysRefused, RefusesProgram}
use Rattle.messages.specs.Lines.{verdict_line}
use Rattle.commands.specs.Saying.{Says}
use Rattle.isa_model.specs.declared.instructions.Insn.{Insn}
use Rattle.walks.specs.declared.refusals.Refusal.{Refusal}
use Rattle.walks.specs.Refused.{IsRefused}
use Rattle.messages.specs.declared.rejections.Rejection.TheVariants as rejection

-- the instruction that the message shows is the one at the slot
pub program_refused : (p : Program) (refusal : Refusal) (slot : ℕ) (insn : Option Insn)
    (old new : Option (List ℕ)) (r o : TaskOutcome)
    → IsRefused p refusal slot → insn ≡ fetch p slot → o ≡ r
    → SaysRefused refusal slot insn old new r → RefusesProgram p old new o
program_refused p refusal slot insn old new r o is at e (inl lacks) = rw e (inl lacks)
program_refused p refusal slot insn old new r o is at e (inr said) =
    rw e (inr (
      refusal,
      slot,
      is,
      said.0,
      subst
          (λ (i : Option Insn). Says old new (verdict_line refusal slot)
          (Refused (rejection.Program refusal slot i)) r) at said.1,
    ))

failure_refuses_none : (name : List ℕ) (r : TaskOutcome) (fact : Refusal → ℕ → Type 0)
    → IsWriteFailure name r → IfRefusal r fact
failure_refuses_none name Done fact h = absurd h
failure_refuses_none name (WrongWords said) fact h = absurd h
failure_refuses_none name (Refused refused) fact h = absurd h
failure_refuses_none name (Faulted fault form) fact h = absurd h
failure_refuses_none name (CannotRead path kind) fact h = absurd h
failure_refuses_none name (CannotWrite path cause) fact h = tt
failure_refuses_none name (CannotReplace path conflict) fact h = absurd h
failure_refuses_none name NoMemory fact h = absurd h

-- what holds of the refusal that was to be told, holds of the one with which the task ended
pub refusal_told : (refusal : Refusal) (slot : ℕ) (insn : Option Insn)
    (old new : Option (List ℕ)) (r : TaskOutcome) (fact : Refusal → ℕ → Type 0)
    → fact refusal slot → SaysRefused refusal slot insn old new r → IfRefusal r fact
refusal_told refusal slot insn old new r fact is (inl lacks) =
    subst (λ (o : TaskOutcome). IfRefusal o fact) (sym lacks.0) tt
refusal_told refusal slot insn old new r fact is (inr (other, inl (appends, same))) =
    subst (λ (o : TaskOutcome). IfRefusal o fact) (sym same) is
refusal_told refusal slot insn old new r fact is (inr (other, inr (begins, fails))) =
    failure_refuses_none _ r fact fails
