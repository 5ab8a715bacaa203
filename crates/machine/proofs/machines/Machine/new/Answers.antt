use Rattle.machine.proofs.Common.{◌≡◌, ◌≤◌, ◌∙◌, List, length, sym, ap, subst, max_maps, MapDef, Program, FitRows, rows_of, contents_of, FitRows-IsMap, IsReady}
use Rattle.isa_model.specs.Code.Versions.{version_number}
use Rattle.machine.proofs.Runs.{starts_running}
use Rattle.machine.proofs.machines.Machine.new.Goals as goal

pub invariant_of-result : goal.invariant_of-result
invariant_of-result c =
    let contents = contents_of c.args.maps in
    let fits = subst (λ (rows : List MapDef). FitRows rows contents) c.requires.rows
    (FitRows-IsMap c.args.maps c.say_fits.ensures) in
    let started = starts_running c.args.verified contents c.bound-bound.ensures.verified fits in
    let maps = c.in-Ok-new.ensures.maps in
    let program : c.in-Ok.program ≡ c.args.verified.program =
    c.in-Ok.ensures ∙ c.into_image.ensures.program in
    let ready : IsReady c.in-Ok.program c.bound-bound.result c.in-Ok-new.memory = record {
      running = rw (maps, c.bound-bound.ensures.bound, program) started;
      few =
          subst (λ (p : Program). length p.maps ≤ max_maps)
          (sym program) c.bound-bound.ensures.verified.image.few_maps;
      rows = ap rows_of maps ∙ c.requires.rows ∙ ap (λ (p : Program). p.maps) (sym program);
      whole = c.in-Ok-new.ensures.frames;
      outer = c.in-Ok-new.ensures.saved;
      capacity = c.in-Ok-new.ensures.capacity;
    } in
    record {
      ready = ready;
      version_is =
          c.version-version.ensures
          ∙ ap (λ (p : Program). version_number p.version) (c.image.ensures.program ∙ sym program);
    }
