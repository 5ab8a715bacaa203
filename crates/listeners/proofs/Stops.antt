-- What is known of the refusal with which a search stopped.
use Rattle.listeners.proofs.Common.{◌≡◌, ℕ, Option, Some, None, Result, subst, Err, IfErr, IfSome, Program, Refusal, IsRefused, AcceptsAll, AcceptsAll-refused, IfRefused}
use Rattle.isa_model.specs.Machine.MachineStates.{IsProgram}
use Rattle.explorer.specs.declared.moves.Halt.{Halt}
use Rattle.explorer.specs.declared.moves.Halt.TheVariants.{Refused}
use Rattle.listeners.specs.declared.rejections.Unverified.{Unverified}
use Rattle.listeners.specs.declared.rejections.Unverified.TheVariants.{Rejected, Stopped}
use Rattle.listeners.specs.Rejections.{IfRejected}

pub refused_with : {S : Type 0} (r : Result ℕ (Halt S)) (e : Refusal) (slot : ℕ)
    (fact : Refusal → ℕ → Type 0) → r ≡ Err (Refused e slot)
    → IfErr r (λ h. IfRefused h fact) → fact e slot
refused_with r e slot fact same h = subst (λ x. IfErr x (λ h. IfRefused h fact)) same h

-- a program that must be accepted does not get the refusal
pub rejected_accepts : {S : Type 0} (stop : Unverified S) (p : Program) → IsProgram p
    → IfRejected stop (IsRefused p) → IfRejected stop (λ e _. AcceptsAll p e)
rejected_accepts (Rejected r) p program refused =
    AcceptsAll-refused p r.refusal r.slot program refused
rejected_accepts (Stopped stop) p program refused = tt

-- ---- what may be missing

pub if_some : {X : Type 0} (o : Option X) (P Q : X → Type 0) → ((x : X) → P x → Q x)
    → IfSome o P → IfSome o Q
if_some None P Q weaker h = h
if_some (Some x) P Q weaker h = weaker x h

pub for_some : {X : Type 0} (o : Option X) (P : Type 0) → P → IfSome o (λ _. P)
for_some None P h = tt
for_some (Some x) P h = h
