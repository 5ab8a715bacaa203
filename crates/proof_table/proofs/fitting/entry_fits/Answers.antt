use Rattle.proof_table.proofs.Common.{◌^◌, ◌<◌, arith, refl, rules, All-from_get_or, Entry}
use Rattle.std.proofs.Math.Facts.{Fits-lt-pow}
use Rattle.proof_table.proofs.FittingLaws.{EntryFits-callers, EntryFits-said}
use Rattle.proof_table.proofs.fitting.entry_fits.Goals as goal

pub returns-then-not-callers_fit : goal.returns-then-not-callers_fit
returns-then-not-callers_fit c =
    let e : Entry =
    record {
      number = c.args.number;
      state = c.args.state.now;
      successors = c.args.successors.now;
    } in (
      λ h. absurd cc,
      λ h. c.if-not-callers_fit.ensures.1
          (rw (c.deref.ensures.0, c.maps-rows.ensures) (EntryFits-callers c.args.image.now e h)),
    )

pub returns : goal.returns
returns c =
    let e : Entry =
    record {
      number = c.args.number;
      state = c.args.state.now;
      successors = c.args.successors.now;
    } in
    EntryFits-said c.args.image.now e c.frame_fits.result (search rules) (omega arith) (omega arith)
    (rw (← c.deref.ensures.0, ← c.maps-rows.ensures) (c.if-not-callers_fit.ensures.0 refl))
    (omega arith)
    (All-from_get_or (λ i. i < 2 ^ 32) c.args.successors.now 0
    (λ i less. Fits-lt-pow (c.type_inv.successors i)))
    (rw (← c.len.ensures.value, ← c.maps-rows.ensures) c.frame_fits.ensures)
