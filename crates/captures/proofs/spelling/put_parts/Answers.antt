use Rattle.captures.proofs.Common.{◌≡◌, ◌+◌, ◌++◌, length, drop, ap, sym, ◌∙◌, arith, length-append, take_at, length-take-le, take-put_mid}
use Rattle.captures.proofs.spelling.put_parts.Goals as goal

pub returns : goal.returns
returns c =
    let held = c.args.held.now in
    let head = c.copy_from_slice.new.self in
    let frame = c.copy_from_slice-2.new.self in
    let size = length c.args.frame.now in
    let room = length-take-le 24 held (omega (arith, c.requires)) in
    let long : length head ≡ 24 = omega (arith, room, c.copy_from_slice.ensures.len) in
    let same : 24 + size ≡ 24 + length frame =
    ap (λ l. 24 + length l) (sym c.copy_from_slice-2.ensures.after) in
    take-put_mid 24 _ (head ++ drop 24 held) frame (24 + size) same
    (omega (arith, long, length-append head (drop 24 held)))
    ∙ ap (λ l. l ++ frame) (take_at head (drop 24 held) 24 long)
    ∙ ap (λ l. l ++ frame) c.copy_from_slice.ensures.after
    ∙ ap (λ l. c.args.head.now ++ l) c.copy_from_slice-2.ensures.after
