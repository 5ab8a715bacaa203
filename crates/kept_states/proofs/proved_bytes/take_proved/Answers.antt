use Rattle.std.proofs.Common.{refl}
use Rattle.kept_states.proofs.ProvedBytesLaws.{with_nothing}
use Rattle.kept_states.proofs.proved_bytes.take_proved.Goals as goal

pub returns-then-proved-eq0-clause-taken : goal.returns-then-proved-eq0-clause-taken
returns-then-proved-eq0-clause-taken c =
    with_nothing (record { identity = 0; bytes = 0 }) c.args.state.now refl
