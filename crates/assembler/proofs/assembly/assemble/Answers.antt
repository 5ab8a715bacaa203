use Rattle.assembler.proofs.Common.{◌≡◌, ap, ◌∙◌, sym, Result, Ok, Err, inl, inr, Program, AsmError, Refusal, assembled, program_in, error_in}
use Rattle.assembler.proofs.TextReads.{program_in-canonical_text}
use Rattle.assembler.proofs.assembly.assemble.Goals as goal

abbrev found : Program → Result Program Refusal
found p = Ok p

abbrev refused : Refusal → Result Program Refusal
refused e = Err e

same_found : (p q : Program) → found p ≡ found q → p ≡ q
same_found p q h = cc

found-refused : (p : Program) (e : Refusal) → found p ≡ refused e → ⊥
found-refused p e h = cc

abbrev failed : AsmError → Result Program AsmError
failed e = Err e

pub returns-in-Ok-clause-exact : goal.returns-in-Ok-clause-exact
unfolding assembled
returns-in-Ok-clause-exact c = ap (λ r. error_in c.args.text.now r) c.in-Ok.ensures

pub returns-in-Ok-clause-round_trip : goal.returns-in-Ok-clause-round_trip
returns-in-Ok-clause-round_trip c = λ p h e. same_found c.in-Ok.image p
    (sym c.in-Ok.ensures ∙ ap (λ text. program_in text) e ∙ program_in-canonical_text p h)

pub returns-in-Err-clause-exact : goal.returns-in-Err-clause-exact
unfolding assembled
returns-in-Err-clause-exact c =
    elim c.in-Err.ensures [
      | inl memory ↦ inl (ap (λ (e : AsmError). e.kind) c.located.ensures ∙ memory)
      | inr e ↦ inr (ap (λ r. error_in c.args.text.now r) e ∙ ap failed (sym c.located.ensures))
    ]

pub returns-in-Err-clause-round_trip : goal.returns-in-Err-clause-round_trip
returns-in-Err-clause-round_trip c = λ p h e.
    elim c.in-Err.ensures [
      | inl memory ↦ ap (λ (e : AsmError). e.kind) c.located.ensures ∙ memory
      | inr r ↦
          absurd (found-refused p c.in-Err.refusal
          (sym (program_in-canonical_text p h) ∙ ap (λ text. program_in text) (sym e) ∙ r))
    ]
