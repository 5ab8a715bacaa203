use Rattle.kept_states.proofs.Common.{◌∙◌, ℕ, ◌+◌, drop, get_or, ap, ap₂, sym, arith, ◌==◌, bit_at, drop_all, InRegister, all_written, held_part, held_registers}
use Rattle.kept_states.proofs.HeldLaws.{held_registers-next}
use Rattle.kept_states.proofs.held_places.HeldPlaces.see_registers.Goals as goal

pub loop-index-preserved : goal.loop-index-preserved
loop-index-preserved c =
    let i : ℕ = c.loop-index.index in
    let ks = c.args.registers.now in
    let k = get_or ks i c.index-registers-index.result in
    let h = c.args.self.now in
    let any = c.args.any.now in
    ap (λ f. all_written f (held_registers h any (i + 1) (drop (i + 1) ks)))
    (c.see_register.ensures
    ∙ ap₂ (λ a b. all_written c.loop-index.frame
    (held_part a b (InRegister i any) (InRegister i k)))
    (c.is_in-is_any.ensures ∙ ap (λ m. bit_at m i == 1) c.from.ensures)
    (c.is_in-is_held.ensures ∙ ap (λ m. bit_at m i == 1) c.from-in-loop-index.ensures))
    ∙ sym (held_registers-next h any c.loop-index.frame ks i k (omega arith)
    (ap (get_or ks i) c.index-registers-index.is))
    ∙ c.loop-index.invariant

pub returns : goal.returns
unfolding all_written held_registers
returns c =
    sym (ap (λ l. all_written c.loop-index.frame
    (held_registers c.args.self.now c.args.any.now c.loop-index.index l))
    (drop_all c.loop-index.index c.args.registers.now (omega arith))) ∙ c.loop-index.invariant
