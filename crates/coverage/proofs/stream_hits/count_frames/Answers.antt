use Rattle.coverage.proofs.Common.{◌≡◌, [], ◌∷◌, ◌++◌, refl, sym, ap, ◌∙◌, subst, rules, arith, Program, stream_with, HasBegun-open, HasBegun-stopped}
use Rattle.isa_model.specs.declared.streams.Finish.TheVariants as finish
use Rattle.coverage.proofs.FrameLoop.{begun_by, more_begun, early_frame, more_numbered, more_carried}
use Rattle.coverage.proofs.stream_hits.count_frames.Goals as goal

pub frames-init : goal.frames-init
frames-init g c = (
  _,
  [],
  begun_by g.R.Source.remaining g.R.Source.may_fail _ _ _ _ _ _ c.new-reader.ensures
      c.begin.ensures.opens c.begin.ensures.begun c.version_begun-version.ensures,
  refl,
  refl,
  refl,
  c.requires.none,
)

pub returns-in-End : goal.returns-in-End
returns-in-End g c =
    let (v, frames, begun, n, p, held, counted) = c.frames.invariant in
    record {
      found = stream_with v (frames, finish.End);
      are_open = HasBegun-open v frames _ _ _ begun;
      read = HasBegun-stopped v frames _ _ _ _ _ finish.End begun c.in-End.ensures.finds;
      finish_is = refl;
      counted = counted;
    }

pub returns-in-Fault : goal.returns-in-Fault
returns-in-Fault g c =
    let (v, frames, begun, n, p, held, counted) = c.frames.invariant in
    record {
      found = stream_with v (frames, finish.Fault c.in-Fault.fault c.in-Fault.offset);
      are_open = HasBegun-open v frames _ _ _ begun;
      read = HasBegun-stopped v frames _ _ _ _ _ _ begun c.in-Fault.ensures.finds;
      finish_is = refl;
      counted = counted;
    }

pub frames-preserved : goal.frames-preserved
frames-preserved g c =
    let (v, frames, begun, n, p, held, counted) = c.frames.invariant in (
      v,
      _,
      more_begun v frames _ _ _ _ _ _ begun c.in-Frame.ensures.finds,
      more_numbered frames _ _ n,
      c.take_frame.ensures.program ∙ p,
      more_carried _ _ _ _ _ _ frames _ p held c.take_frame.ensures.contents,
      rw (← p) (c.take_frame.ensures.counted _ frames (rw p held) (rw p counted)),
    )

pub overflow_add-number : goal.overflow_add-number
overflow_add-number g c =
    let (v, frames, begun, n, p, held, counted) = c.frames.invariant in
    let early = early_frame v frames _ _ _ _ _ _ begun c.in-Frame.ensures.finds in
    omega (arith, n, early)
