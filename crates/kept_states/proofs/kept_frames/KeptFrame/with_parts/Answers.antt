use Rattle.kept_states.proofs.Common.{◌∙◌, ap, sym, parts_of, unset_frame, all_written, all_written-parts_of}
use Rattle.kept_states.proofs.kept_frames.KeptFrame.with_parts.Goals as goal

pub returns : goal.returns
returns c =
    ap (all_written (unset_frame c.args.frame.now.return_slot)) c.in_ok-parts.ensures
    ∙ all_written-parts_of c.args.frame.now c.args.parts.now c.requires.ten c.requires.wide
    c.requires.all

pub invariant_of-result : goal.invariant_of-result
invariant_of-result c =
    ap parts_of (ap (all_written (unset_frame c.args.frame.now.return_slot)) c.in_ok-parts.ensures
    ∙ all_written-parts_of c.args.frame.now c.args.parts.now c.requires.ten c.requires.wide
    c.requires.all)
    ∙ sym c.requires.all ∙ sym c.in_ok-parts.ensures
