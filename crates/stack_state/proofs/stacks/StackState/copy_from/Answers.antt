use Rattle.stack_state.proofs.Common.{◌≡◌, ◌≤◌, ◌-◌, ◌++◌, List, length, take, drop, replicate, ap, sym, arith, ◌∙◌, take_all, take-append-drop, take-append-le, length-replicate, length-drop, StackSlot, Written, StackSlots, frame_slots}
use Rattle.std.proofs.lemmas.Slice.{take-put_mid}
use borrow.Rule.Slice.PartMut.{put_mid, same_len_mid}
use Rattle.stack_state.proofs.BlankLaws.{blank_taken}
use Rattle.stack_state.proofs.stacks.StackState.copy_from.Goals as goal

pub returns : goal.returns
returns c =
    let n = c.other.inside.known_from in
    let xs = c.self.inside.slots in
    let ys = c.other.inside.slots in
    let zs = c.copy_from_slice.new.self in
    let wide : length xs ≡ frame_slots = c.self.invariant.wide in
    let other_wide : length ys ≡ frame_slots = c.other.invariant.wide in
    let inside : n ≤ frame_slots = c.other.invariant.inside in
    let count = length-replicate n (Written 0) in
    let head : take n xs ≡ take n ys =
    ap (λ (s : StackSlots). take n s.slots) c.self.view_is
    ∙ ap (take n) c.forget_before.ensures.before
    ∙ take-append-le n (replicate n (Written 0)) (drop n c.args.self.now.slots)
    (omega (arith, count))
    ∙ take_all n (replicate n (Written 0)) (omega (arith, count))
    ∙ sym (blank_taken n ys (omega (arith, other_wide, inside)) c.other.invariant.blank) in
    let rest : length (drop n ys) ≡ length ys - n = length-drop n ys in
    let tail : zs ≡ drop n ys =
    c.copy_from_slice.ensures.after
    ∙ take_all (frame_slots - n) (drop n ys) (omega (arith, rest, other_wide)) in
    let long : length zs ≡ frame_slots - n =
    ap (λ (s : List StackSlot). length s) tail ∙ omega (arith, rest, other_wide) in
    let same = same_len_mid n (frame_slots - n) xs zs c.copy_from_slice.ensures.len in
    let whole : put_mid n (frame_slots - n) xs zs ≡ ys =
    sym (take_all frame_slots (put_mid n (frame_slots - n) xs zs) (omega (arith, same, wide)))
    ∙ take-put_mid n (frame_slots - n) xs zs frame_slots (omega (arith, long, inside))
    (omega (arith, wide, inside))
    ∙ ap (λ (s : List StackSlot). s ++ zs) head
    ∙ ap (λ (s : List StackSlot). take n ys ++ s) tail
    ∙ take-append-drop n ys in
    ap (λ (s : List StackSlot). record { slots = s }) whole ∙ c.other.view_is
