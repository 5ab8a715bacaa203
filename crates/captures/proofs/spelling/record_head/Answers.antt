use Rattle.captures.proofs.Common.{refl, head_bytes}
use Rattle.captures.proofs.spelling.record_head.Goals as goal

pub returns : goal.returns
unfolding head_bytes
returns c =
    rw (
      c.write_u32-4.ensures,
      c.write_u32-3.ensures,
      c.write_u32-2.ensures,
      c.write_u32.ensures,
      c.write_u64.ensures,
    ) refl
