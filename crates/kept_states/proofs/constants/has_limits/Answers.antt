use Rattle.std.proofs.Common.{rules, ◌∙◌}
use Rattle.kept_states.proofs.constants.has_limits.Goals as goal

pub returns-then-low-cast_signed : goal.returns-then-low-cast_signed
returns-then-low-cast_signed c = λ yes.
    let half = c.low_32_bits-half.ensures in (
      (c.if-wide-value.false, c.if-wide-value-2.false, search rules, search rules),
      (c.if-low-half.false ∙ half, c.if-low-half-2.false ∙ half, search rules, search rules),
    )
