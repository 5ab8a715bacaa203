use Rattle.captures.proofs.Common.{◌≡◌, ◌∙◌, ℕ, ◌+◌, List, ◌++◌, length, take, ap, arith, replicate, little_bytes, PacketFrame, block_head, block_length, named_interface, packet_options, padding}
use Rattle.captures.proofs.PieceLaws.{five_pieces, same-piece, zeros-take}
use Rattle.captures.proofs.packet_bytes.spell_block.Goals as goal

pub returns-clause-bytes : goal.returns-clause-bytes
returns-clause-bytes c =
    let head = c.args.head.now in
    let body = c.args.body.now in
    let options = packet_options c.args.reason in
    let frame : PacketFrame = record { head = head; body = body; reason = c.args.reason } in
    let total : 32 + length body + c.padding_of-pads.result + c.put_options-count.result
    ≡ block_length frame =
    omega (arith, c.padding_of-pads.ensures.size, c.put_options-count.ensures.size) in
    let pads : take c.padding_of-pads.result (replicate 4 0) ≡ padding (length body) =
    zeros-take c.padding_of-pads.result (omega (arith, c.padding_of-pads.ensures.few))
    ∙ ap (λ (n : ℕ). replicate n 0) c.padding_of-pads.ensures.size in
    five_pieces _ _ _ _
    (block_head (block_length frame) head.time (named_interface head.interface) (length body)) body
    (padding (length body)) options (little_bytes 4 (block_length frame))
    (c.put-at-2.ensures.front ∙ ap (λ (l : List ℕ). l ++ body)
    (c.put-at.ensures.front ∙ c.block_head.ensures
    ∙ ap (λ (n : ℕ). block_head n head.time c.named_interface-interface.result (length body)) total
    ∙ ap (λ (n : ℕ). block_head (block_length frame) head.time n (length body))
    c.named_interface-interface.ensures.number))
    (same-piece _ _ _ _ c.put-at-3.ensures.front pads)
    (same-piece _ _ _ _ c.put-at-4.ensures.front c.put_options-count.ensures.front)
    (same-piece _ _ _ _ c.put.ensures.front
    (c.number_bytes.ensures ∙ ap (λ (n : ℕ). little_bytes 4 n) total))
