use Rattle.xdpvm.proofs.Common.{◌∙◌, inl, arith, size_text}
use Rattle.messages.proofs.Written.{ok_text, err_text}
use Rattle.xdpvm.proofs.Sizes.{part_by}
use Rattle.xdpvm.proofs.proving.say_size.Goals as goal

pub returns-in-Ok : goal.returns-in-Ok
returns-in-Ok g c =
    let text = size_text c.args.size in
    let is = c.as_bytes.ensures.value ∙ c.in-Ok.ensures in
    inl (
      omega (arith, c.if-size-le-LARGE.false),
      part_by c.write_bytes.result _ _ text
          (ok_text c.write_bytes.result _ _ c.as_bytes.result.now text is c.write_bytes.ensures.ok)
          (err_text c.write_bytes.result _ _ c.as_bytes.result.now text is c.write_bytes.ensures.err),
    )
