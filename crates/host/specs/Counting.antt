-- What a machine notes whose packet frames are counted too.
use Rattle.std.specs.Prelude.{Some, None}
use Rattle.isa_model.specs.declared.versions.Version.{Version}
use Rattle.bounds.specs.Bounds.{Bounded}
use Rattle.host.specs.Counts.{Totals, with_end}
use Rattle.host.specs.Stops.{Noting}
use Rattle.host.specs.Turns.{rule_of}

-- what it notes itself, and how many frames ended in each way
abbrev pub counting_notes : {N : Type 0} → Version → Bounded → Noting N → Noting (N × Totals)
counting_notes v a notes =
    record {
      run = λ noted number head body contents. (
        notes.run noted.0 number head body contents,
        with_end v noted.1 (Some (rule_of a head body contents).ends),
      );
      skip = λ noted. (notes.skip noted.0, with_end v noted.1 None);
    }
