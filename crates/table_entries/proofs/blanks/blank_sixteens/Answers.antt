use Rattle.table_entries.proofs.Common.{◌≡◌, ℕ, ◌+◌, ◌*◌, drop, ap, ◌∙◌, subst, arith, List, drop-drop, AreZeros}
use Rattle.table_entries.proofs.BlankStackSlots.{AreZeros-more}
use Rattle.table_entries.proofs.blanks.blank_sixteens.Goals as goal

pub loop-group-preserved : goal.loop-group-preserved
loop-group-preserved c =
    let bytes = c.args.bytes.now in
    let n = 32 * c.loop-group.group in
    let more : n + 32 ≡ 32 * (c.loop-group.group + 1) = omega arith in
    record {
      zeros = subst (λ (k : ℕ). AreZeros k bytes) more
          (AreZeros-more n 32 bytes c.loop-group.invariant.zeros
          (subst (λ (xs : List ℕ). AreZeros 32 xs) c.loop-group.invariant.rest_is
          (c.begins_blank.ensures c.if-not-begins_blank.false)));
      rest_is =
          c.skip-rest.ensures ∙ ap (drop 32) c.loop-group.invariant.rest_is ∙ drop-drop 32 n bytes
          ∙ ap (λ (k : ℕ). drop k bytes) more;
    }
