use Rattle.captures.proofs.Common.{refl, block_head}
use Rattle.captures.proofs.packet_bytes.block_head.Goals as goal

pub returns : goal.returns
unfolding block_head
returns c =
    rw (
      c.write_u32-7.ensures,
      c.write_u32-6.ensures,
      c.write_u32-5.ensures,
      c.write_u32-4.ensures,
      c.write_u32-3.ensures,
      c.write_u32-2.ensures,
      c.write_u32.ensures,
    ) refl
