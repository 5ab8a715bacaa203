use Rattle.image.proofs.Common.{◌≡◌, ℕ, ◌*◌, ◌/◌, List, Bool, Ok, true, false, length, sym, subst, Err, inr, err_from_is_err_and, insn_at, code_from}
use Rattle.image.proofs.CodeSpelling.{take-rest}
use Rattle.image.proofs.Loop.{CodeReadSoFar, goes_on_half, goes_on, fails, is_done}
use Rattle.image.proofs.code.code_of.Goals as goal
use Rattle.image.proofs.code.code_of.Goals.{then-second_half+in_ok-push, else-second_half+in_ok-insn+in_ok-push-2}

pub returns-in_err-insn : goal.returns-in_err-insn
returns-in_err-insn c =
    let bytes = c.args.bytes.now in
    let n = length bytes / 8 in
    let total = code_from c.args.maps.now n false 0 bytes in
    let failed = subst
    (λ (b : List ℕ). insn_at c.args.maps.now c.loop-slot.slot b ≡ Err c.in_err-insn.field-0.0)
    (take-rest (8 * c.loop-slot.slot) bytes) (sym c.in_err-insn.ensures) in
    let start = subst
    (λ (b : Bool). CodeReadSoFar c.args.maps.now c.loop-slot.slots.items n b c.loop-slot.slot
    bytes total) c.if-second_half.false c.loop-slot.invariant in
    let p =
    err_from_is_err_and c.from_residual-in_err-insn.result c.from_residual-in_err-insn.ensures.1 in
    rw (p.1, p.2) (inr
    (fails c.args.maps.now c.in_err-insn.field-0.0 c.loop-slot.slots.items n c.loop-slot.slot
    bytes total c.loop-slot-test.true failed start))

pub loop-slot-preserved : goal.loop-slot-preserved
loop-slot-preserved c =
    let bytes = c.args.bytes.now in
    let n = length bytes / 8 in
    let total = code_from c.args.maps.now n false 0 bytes in
    let slot = c.loop-slot.slot in
    let start = λ (h : Bool) (e : c.loop-slot.second_half ≡ h). subst
    (λ (b : Bool). CodeReadSoFar c.args.maps.now c.loop-slot.slots.items n b slot bytes total) e
    c.loop-slot.invariant in
    elim c.if-second_half.branch [
      | then-second_half+in_ok-push w ↦
          rw (w.slots-is, w.second_half-is, w.in_ok-push.ensures.items)
          (goes_on_half c.args.maps.now c.loop-slot.slots.items n slot bytes total
          c.loop-slot-test.true (start true w.if-second_half.true))
      | else-second_half+in_ok-insn+in_ok-push-2 w ↦
          let at = subst (λ (b : List ℕ). insn_at c.args.maps.now slot b ≡ Ok w.in_ok-insn.insn)
          (take-rest (8 * slot) bytes) (sym w.in_ok-insn.ensures) in
          rw (
            w.slots-is,
            w.second_half-is,
            w.in_ok-push-2.ensures.items,
            w.slots-second_half.ensures,
          )
          (goes_on c.args.maps.now c.loop-slot.slots.items n slot bytes w.in_ok-insn.insn total
          c.loop-slot-test.true at (start false w.if-second_half.false))
    ]

pub returns : goal.returns
returns c =
    let bytes = c.args.bytes.now in
    is_done c.args.maps.now c.loop-slot.slots.items
    (length bytes / 8) c.loop-slot.slot c.loop-slot.second_half bytes
    (code_from c.args.maps.now (length bytes / 8) false 0 bytes) c.loop-slot-test.false
    c.loop-slot.invariant
