use Rattle.table_entries.proofs.Common.{◌≡◌, ℕ, ◌+◌, ◌*◌, drop, ap, ◌∙◌, subst, arith, List, drop-drop, AreZeros}
use Rattle.table_entries.proofs.BlankStackSlots.{AreZeros-more}
use Rattle.table_entries.proofs.blanks.blank_stack_slots.Goals as goal

pub skip-rest-requires : goal.skip-rest-requires
skip-rest-requires c = c.blank_sixteens-sixteens.ensures.zeros.inside

pub loop-group-init : goal.loop-group-init
loop-group-init c =
    let bytes = c.args.bytes.now in
    let n = 2 * c.blank_sixteens-sixteens.result in
    let same : n ≡ n + 8 * 0 = omega arith in
    record {
      zeros = subst (λ (k : ℕ). AreZeros k bytes) same c.blank_sixteens-sixteens.ensures.zeros;
      rest_is = c.skip-rest.ensures ∙ ap (λ (k : ℕ). drop k bytes) same;
    }

pub loop-group-preserved : goal.loop-group-preserved
loop-group-preserved c =
    let bytes = c.args.bytes.now in
    let n = 2 * c.blank_sixteens-sixteens.result + 8 * c.loop-group.group in
    let more : n + 8 ≡ 2 * c.blank_sixteens-sixteens.result + 8 * (c.loop-group.group + 1) =
    omega arith in
    record {
      zeros = subst (λ (k : ℕ). AreZeros k bytes) more
          (AreZeros-more n 8 bytes c.loop-group.invariant.zeros
          (subst (λ (xs : List ℕ). AreZeros 8 xs) c.loop-group.invariant.rest_is
          (c.begins_with_four.ensures c.if-not-begins_with_four.false)));
      rest_is =
          c.skip-rest-in-loop-group.ensures ∙ ap (drop 8) c.loop-group.invariant.rest_is
          ∙ drop-drop 8 n bytes ∙ ap (λ (k : ℕ). drop k bytes) more;
    }
