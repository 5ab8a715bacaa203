use Rattle.std.proofs.Common.{rules}
use Rattle.kept_states.proofs.kept.Kept.of_others.Goals as goal

pub of_parts-requires : goal.of_parts-requires
of_parts-requires c = search rules
