use Rattle.assembler.proofs.Common.{◌≡◌, ℕ, ◌+◌, ◌<◌, false, List, [], ◌∷◌, ◌++◌, length, refl, sym, ap, ◌∙◌, arith, inr, lt-ltb, not, Insn, slots, slots_filled, has_room}
use Rattle.isa_model.specs.Code.Limits.{max_slots}
use Rattle.image.proofs.CodeLaws.{length-slots-more}
use Rattle.assembler.proofs.code.AssembledCode.push.Goals as goal

-- one more instruction, counted
counted_more : (is : List Insn) (i : Insn) (count : ℕ) → count ≡ length (slots is)
    → count + slots_filled i ≡ length (slots (is ++ i ∷ []))
counted_more is i count h = ap (λ n. n + slots_filled i) h ∙ sym (length-slots-more is i)

too_many : (is : List Insn) (i : Insn) (count : ℕ) → count ≡ length (slots is)
    → max_slots < count + slots_filled i → has_room (is ++ i ∷ []) ≡ false
too_many is i count h more =
    let e : count + slots_filled i ≡ length (slots (is ++ i ∷ [])) = counted_more is i count h in
    ap not (lt-ltb max_slots (length (slots (is ++ i ∷ []))) (omega (arith, e, more)))

pub returns-then-count-gt-MAX_SLOTS : goal.returns-then-count-gt-MAX_SLOTS
returns-then-count-gt-MAX_SLOTS c =
    let h = c.if-count-gt-MAX_SLOTS.true in let k = c.slots.ensures in
    inr (rw (too_many c.args.self.now.insns.items c.args.insn c.args.self.now.count
    c.args.self.now.counted (omega (arith, h, k))) refl)

pub invariant_of-self : goal.invariant_of-self
invariant_of-self c =
    let e = counted_more c.args.self.now.insns.items c.args.insn c.args.self.now.count
    c.args.self.now.counted in
    record {
      counted = ap (λ n. c.args.self.now.count + n) c.slots.ensures ∙ e
          ∙ ap (λ (l : List Insn). length (slots l)) (sym c.in-Ok.ensures.items);
      few = omega (arith, c.if-count-gt-MAX_SLOTS.false);
    }
