use Rattle.frames.proofs.Common.{refl, head_bytes}
use Rattle.frames.proofs.heads.encode_head2.Goals as goal

pub returns : goal.returns
unfolding head_bytes
returns c =
    rw (
      c.write_u32-4.ensures,
      c.write_u32-3.ensures,
      c.write_u32-2.ensures,
      c.write_u32.ensures,
      c.write_u64.ensures,
    ) refl
