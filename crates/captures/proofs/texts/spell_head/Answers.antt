use Rattle.captures.proofs.Common.{◌∙◌, codes, decimal, head_line, reason_text}
use Rattle.captures.proofs.PieceLaws.{same-piece}
use Rattle.captures.proofs.TextsLaws.{eight-pieces, then-piece}
use Rattle.captures.proofs.texts.spell_head.Goals as goal

pub returns-clause-front : goal.returns-clause-front
unfolding head_line
returns-clause-front c =
    let head = c.args.head.now in
    let two = then-piece _ _ _ _ c.put-at.ensures.front
    (same-piece _ _ _ _ c.put-at-2.ensures.front
    (c.as_bytes.ensures.value ∙ c.format.ensures.text)) in
    let three = then-piece _ _ _ _ two c.put-at-3.ensures.front in
    let four = then-piece _ _ _ _ three
    (same-piece _ _ _ _ c.put-at-4.ensures.front
    (c.as_bytes-2.ensures.value ∙ c.format-2.ensures.text)) in
    let five = then-piece _ _ _ _ four c.put-at-5.ensures.front in
    let six = then-piece _ _ _ _ five
    (same-piece _ _ _ _ c.put-at-6.ensures.front
    (c.as_bytes-3.ensures.value ∙ c.format-3.ensures.text)) in
    let seven = then-piece _ _ _ _ six c.put_reason-at.ensures.front in
    then-piece _ _ _ _ seven c.put.ensures.front
    ∙ eight-pieces (codes "frame ") (decimal head.time) (codes " interface ")
    (decimal head.interface) (codes " queue ") (decimal head.queue) (reason_text c.args.reason)
    (codes "\n")
