use Rattle.std.proofs.Common.{◌≡◌, Ok, Some, true, take, take_all, ap, ◌∙◌, refl, arith, length}
use Rattle.table_entries.proofs.Common.{slice_get_read, frame_in}
use Rattle.table_entries.proofs.Many.{spelled-goes_on, many-begins, many-done}
use Rattle.table_entries.proofs.KnownBytesLaws.{SpellFrames-notes}
use Rattle.table_entries.proofs.spelled_entries.after_callers.Goals as goal

pub loop-holder-init : goal.loop-holder-init
loop-holder-init c = record {
  so_far =
      many-begins (λ k. frame_in c.args.rows k true) (length c.args.callers.now)
      c.args.bytes.now;
  spelled = c.requires;
}

pub after_caller-requires : goal.after_caller-requires
after_caller-requires c =
    c.loop-holder.invariant.spelled c.loop-holder.holder c.index-callers-holder.result
    (slice_get_read c.args.callers.now (length c.args.callers.now) c.loop-holder.holder
    c.index-callers-holder.result refl (omega arith) c.index-callers-holder.is)

pub loop-holder-preserved : goal.loop-holder-preserved
loop-holder-preserved c =
    let callers = c.args.callers.now in
    let frame = c.index-callers-holder.result in
    let at =
    slice_get_read callers (length callers) c.loop-holder.holder frame refl (omega arith)
    c.index-callers-holder.is in
    record {
      so_far =
          spelled-goes_on (λ k. frame_in c.args.rows k true) callers (length callers)
          c.loop-holder.holder c.loop-holder.rest.now frame c.in_ok-rest.rest.now _ (omega arith)
          (omega arith) (rw (← c.index-callers-holder.is) c.in_ok-rest.ensures.after)
          c.loop-holder.invariant.so_far;
      spelled =
          SpellFrames-notes c.args.rows c.loop-holder.holder frame callers
          c.loop-holder.known.items c.after_caller.new.known.items at
          c.loop-holder.invariant.spelled c.after_caller.ensures.notes;
    }

pub returns-in_err-rest-clause-spelled : goal.returns-in_err-rest-clause-spelled
returns-in_err-rest-clause-spelled c =
    let callers = c.args.callers.now in
    let frame = c.index-callers-holder.result in
    let at =
    slice_get_read callers (length callers) c.loop-holder.holder frame refl (omega arith)
    c.index-callers-holder.is in
    SpellFrames-notes c.args.rows c.loop-holder.holder frame callers
    c.loop-holder.known.items c.after_caller.new.known.items at
    c.loop-holder.invariant.spelled c.after_caller.ensures.notes

pub returns-clause-after : goal.returns-clause-after
returns-clause-after c =
    let whole : take c.loop-holder.holder c.args.callers.now ≡ c.args.callers.now =
    take_all c.loop-holder.holder c.args.callers.now (omega arith) in
    many-done (λ k. frame_in c.args.rows k true)
    (Some (take c.loop-holder.holder c.args.callers.now))
    (length c.args.callers.now) c.loop-holder.holder
    c.loop-holder.rest.now _ (omega arith) c.loop-holder.invariant.so_far
    ∙ ap (λ xs. Ok (Some xs, c.loop-holder.rest.now)) whole
