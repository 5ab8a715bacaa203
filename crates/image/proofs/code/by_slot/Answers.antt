use Rattle.image.proofs.Common.{◌≡◌, ℕ, ◌+◌, ◌<◌, false, List, [], ◌∷◌, ◌++◌, take, length, get_or, Option, Some, None, sym, ap, ◌∙◌, subst, append_assoc, pos, take_more, Insn, Alu, slots, InsnFits, IsCode}
use Rattle.isa_model.specs.declared.registers.Reg.TheVariants.{R0}
use Rattle.isa_model.specs.declared.sizes.Width.TheVariants.{Low32}
use Rattle.isa_model.specs.declared.instructions.AluOp.TheVariants.{Add}
use Rattle.isa_model.specs.declared.instructions.Operand.TheVariants.{Constant}
use Rattle.image.proofs.CodeLaws.{slots-append, slots-one, slots-two, IsCode-one, IsCode-append}
use Rattle.image.proofs.code.by_slot.Goals.{then-slots-eq2+in_ok-push-2, else-slots-eq2}
use Rattle.image.proofs.code.by_slot.Goals as goal

-- the item past the end of the list, as the prover names it
abbrev none_such : Insn
none_such = Alu Low32 Add R0 (Constant (pos 0))

abbrev Slots : Type 0
Slots = List (Option Insn)

record Grown (insns : List Insn) (k : ℕ) (next : Slots) : Type 0 where
  all : next ≡ slots (take k insns)
  code : IsCode false next

grown : (insns : List Insn) (k : ℕ) (code next : Slots) → k < length insns
    → code ≡ slots (take k insns) → IsCode false code → InsnFits (get_or insns k none_such)
    → next ≡ code ++ slots (get_or insns k none_such ∷ []) → Grown insns (k + 1) next
grown insns k code next below all ok fits e =
    let i : Insn = get_or insns k none_such in
    record {
      all = e ∙ ap (λ (l : Slots). l ++ slots (i ∷ [])) all
          ∙ sym (slots-append (take k insns) (i ∷ []))
          ∙ ap (λ (l : List Insn). slots l) (sym (take_more insns k none_such below));
      code = subst (λ (l : Slots). IsCode false l) (sym e)
          (IsCode-append code (slots (i ∷ [])) false ok (IsCode-one i fits));
    }

pub loop-insn-preserved : goal.loop-insn-preserved
loop-insn-preserved c =
    let k = c.loop-insn.insn-index in
    let insns = c.args.insns.now in
    let i : Insn = get_or insns k none_such in
    let before : Slots = c.loop-insn.code.items in
    elim c.if-slots-eq2.branch [
      | then-slots-eq2+in_ok-push-2 w ↦
          let e : c.if-slots-eq2.code.items ≡ before ++ slots (i ∷ []) =
          ap (λ v. v.items) w.code-is ∙ w.in_ok-push-2.ensures.items
          ∙ ap (λ (l : Slots). l ++ None ∷ []) c.in_ok-push.ensures.items
          ∙ append_assoc before (Some i ∷ []) (None ∷ [])
          ∙ ap (λ (l : Slots). before ++ l)
          (sym (slots-two i (sym c.slots.ensures ∙ w.if-slots-eq2.true))) in
          let g = grown insns k before c.if-slots-eq2.code.items c.loop-insn-test.true
          c.loop-insn.invariant.all c.loop-insn.invariant.code c.numbers_fit.ensures e in
          record { all = g.all; code = g.code }
      | else-slots-eq2 w ↦
          let e : c.if-slots-eq2.code.items ≡ before ++ slots (i ∷ []) =
          ap (λ v. v.items) w.code-is ∙ c.in_ok-push.ensures.items
          ∙ ap (λ (l : Slots). before ++ l)
          (sym (slots-one i (λ two. w.if-slots-eq2.false (c.slots.ensures ∙ two)))) in
          let g = grown insns k before c.if-slots-eq2.code.items c.loop-insn-test.true
          c.loop-insn.invariant.all c.loop-insn.invariant.code c.numbers_fit.ensures e in
          record { all = g.all; code = g.code }
    ]
