use Rattle.captures.proofs.Common.{refl, packet_head}
use Rattle.captures.proofs.packet_bytes.packet_head.Goals as goal

pub returns : goal.returns
unfolding packet_head
returns c =
    rw (
      c.write_u32-4.ensures,
      c.write_u32-3.ensures,
      c.write_u32-2.ensures,
      c.write_u32.ensures,
    ) refl
