use Rattle.captures.proofs.Common.{◌≡◌, ◌∙◌, ℕ, ◌+◌, ap, max, PacketFrame, named_interface, packet_block}
use Rattle.captures.proofs.WritingLaws.{failed-block, written-block}
use Rattle.captures.proofs.taking.write_block.Goals as goal

pub returns-in_err-write_bytes-clause-err : goal.returns-in_err-write_bytes-clause-err
returns-in_err-write_bytes-clause-err g c =
    let f : PacketFrame =
    record { head = c.args.head.now; body = c.args.body.now; reason = c.args.reason } in
    let described = c.args.described in
    let e : c.max-after.result ≡ max described (named_interface f.head.interface + 1) =
    c.max-after.ensures ∙ ap (λ (n : ℕ). max described (n + 1)) c.named_interface.ensures.number in
    failed-block c.from_residual-in_err-write_bytes.result (g.W.Write.contents c.args.output.now)
    (g.W.Write.contents c.write_interfaces.new.output) (g.W.Write.contents c.write_bytes.new.writer)
    _ _ described _ (packet_block f) e c.spell_block-size.ensures.bytes
    c.in_ok-write_interfaces.ensures.ok c.in_err-write_bytes.ensures.err

pub returns-clause-ok : goal.returns-clause-ok
returns-clause-ok g c =
    let f : PacketFrame =
    record { head = c.args.head.now; body = c.args.body.now; reason = c.args.reason } in
    let described = c.args.described in
    let e : c.max-after.result ≡ max described (named_interface f.head.interface + 1) =
    c.max-after.ensures
    ∙ ap (λ (n : ℕ). max described (n + 1)) c.named_interface.ensures.number in (
      e,
      written-block (g.W.Write.contents c.args.output.now)
          (g.W.Write.contents c.write_interfaces.new.output)
          (g.W.Write.contents c.write_bytes.new.writer) _ _ described _ (packet_block f) e
          c.spell_block-size.ensures.bytes c.in_ok-write_interfaces.ensures.ok
          c.in_ok-write_bytes.ensures.ok,
    )
