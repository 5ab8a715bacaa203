use Rattle.std.proofs.Common.{inr, refl, subst, sym, List, arith}
use Rattle.table_entries.proofs.Common.{StackSlot, Written, IsWeakerList}
use Rattle.table_entries.proofs.ForgettingLaws.{IsWeakerList-front, IsWeakerList-set}
use Rattle.table_entries.proofs.forgetting.forget_slots.Goals as goal
use Rattle.table_entries.proofs.forgetting.forget_slots.Goals.{then-is_blank+then-index-known_from, else-is_blank}

pub loop-index-init : goal.loop-index-init
loop-index-init c =
    let xs = c.args.stack.now.slots in
    record {
      weaker =
          subst (λ (ys : List StackSlot). IsWeakerList (Written 0) xs ys)
          (sym c.forget_before.ensures.before)
          (IsWeakerList-front (Written 0) c.blank_stack_slots-blank.result xs);
      long = c.forget_before.ensures.wide;
    }

pub loop-index-preserved : goal.loop-index-preserved
loop-index-preserved c =
    let xs = c.args.stack.now.slots in
    let ys = c.loop-index.stack.slots in
    elim c.if-is_blank.branch [
      | then-is_blank+then-index-known_from w ↦ rw w.stack-is (record {
        weaker =
            subst (λ (zs : List StackSlot). IsWeakerList (Written 0) xs zs)
            (sym w.mark.ensures.set)
            (IsWeakerList-set (Written 0) xs ys c.loop-index.index (Written 0) (Written 0)
            (omega (arith, c.loop-index.invariant.long)) (inr refl)
            c.loop-index.invariant.weaker);
        long = w.mark.ensures.wide;
      })
      | else-is_blank w ↦ rw w.stack-is c.loop-index.invariant
    ]
