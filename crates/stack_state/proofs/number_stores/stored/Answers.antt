use Rattle.std.proofs.Common.{◌≡◌, ℕ, ◌+◌, ◌*◌, refl, sym, ap, ◌∙◌, subst, arith, bit_or, inl, inr}
use Rattle.stack_state.proofs.Common.{Size, size_bytes, StackSlot, marks_of, mask_of, marks_after}
use Rattle.reg_state.specs.Splices as S
use Rattle.stack_state.proofs.number_stores.stored.Goals as goal

-- the marks of the slot with those of the bytes
after : (s : StackSlot) (from : ℕ) (size : Size) (marks mask bytes : ℕ) → marks ≡ marks_of s
    → mask ≡ mask_of from (from + bytes) → bytes ≡ size_bytes size
    → bit_or marks mask ≡ marks_after s from size
after s from size marks mask bytes old new count =
    ap (λ (m : ℕ). bit_or m mask) old
    ∙ ap (λ (m : ℕ). bit_or (marks_of s) m)
    (new ∙ ap (λ (n : ℕ). mask_of from (from + n)) count)

pub returns-then-is_blank : goal.returns-then-is_blank
returns-then-is_blank c =
    let marks = after c.args.slot c.args.from c.args.size c.marks.result c.mask.result
    c.bytes.result c.marks.ensures c.mask.ensures c.bytes.ensures.value in
    let full : bit_or c.marks.result c.mask.result ≡ 255 = omega arith in
    record {
      whole = λ all. inr (c.is_blank.ensures c.if-is_blank.true, refl);
      parts = λ other. absurd (other (sym marks ∙ full));
    }

pub returns : goal.returns
returns c =
    let from : ℕ = c.args.from in
    let marks = after c.args.slot from c.args.size c.marks.result c.mask.result c.bytes.result
    c.marks.ensures c.mask.ensures c.bytes.ensures.value in
    let full : bit_or c.marks.result c.mask.result ≡ 255 = omega arith in
    record {
      whole = λ all. inl (record {
        old = c.whole.result;
        new = c.spliced.result;
        whole = c.whole.ensures;
        spliced =
            subst (λ (n : ℕ).
            S.IsSpliced (8 * from) (8 * n) c.whole.result c.args.numbers c.spliced.result)
            c.bytes-2.ensures.value c.spliced.ensures;
        left = c.spilled.ensures;
      });
      parts = λ other. absurd (other (sym marks ∙ full));
    }
