use Rattle.captures.proofs.Common.{◌≡◌, ◌∙◌, ℕ, ◌+◌, List, ◌++◌, length, take, ap, sym, append_assoc, length-append, arith, rules, codes, decimal, replicate, little_bytes, padding, reason_comment, reason_options}
use Rattle.captures.proofs.PieceLaws.{five_pieces, same-piece, zeros-take, front-length}
use Rattle.captures.proofs.packet_bytes.put_reason.Goals as goal

pub returns-clause-front : goal.returns-clause-front
returns-clause-front c =
    let reason = c.args.reason in
    let text = c.format-text.result.now in
    let comment = reason_comment reason in
    let is : text ≡ decimal reason = c.format-text.ensures.text in
    let size : 7 + length text ≡ length comment =
    ap (λ (l : List ℕ). 7 + length l) is ∙ sym (length-append (codes "reason ") (decimal reason)) in
    let pads : take c.padding_of.result (replicate 4 0) ≡ padding (length comment) =
    zeros-take c.padding_of.result (omega (arith, c.padding_of.ensures.few))
    ∙ ap (λ (n : ℕ). replicate n 0) c.padding_of.ensures.size
    ∙ ap (λ (n : ℕ). padding n) size in
    five_pieces _ _ _ _ (little_bytes 2 1 ++ little_bytes 2 (length comment)) (codes "reason ")
    (decimal reason) (padding (length comment)) (replicate 4 0)
    (c.put-at-2.ensures.front ∙ ap (λ (l : List ℕ). l ++ codes "reason ")
    (c.put-at.ensures.front ∙ c.option_head.ensures
    ∙ ap (λ (n : ℕ). little_bytes 2 1 ++ little_bytes 2 n) size))
    (same-piece _ _ _ _ c.put-at-3.ensures.front (c.as_bytes.ensures.value ∙ is))
    (same-piece _ _ _ _ c.put-at-4.ensures.front pads)
    c.put.ensures.front
    ∙ ap (λ (l : List ℕ). little_bytes 2 1 ++ little_bytes 2 (length comment) ++ l)
    (sym (append_assoc (codes "reason ") (decimal reason)
    (padding (length comment) ++ replicate 4 0)))
    ∙ append_assoc (little_bytes 2 1) (little_bytes 2 (length comment)) _

pub returns-clause-size : goal.returns-clause-size
returns-clause-size c =
    front-length c.put.result c.put.new.buffer (reason_options c.args.reason) (search rules)
    (returns-clause-front c)
