use Rattle.transfer.proofs.Common.{◌≡◌, ◌∙◌, sym, false, writes, is_frame_pointer, reads_unset}
use Rattle.image.proofs.Programs.{IsProgram-IsImage}
use Rattle.transfer.proofs.ValuePointerLaws.{NamesFit-fetch}
use Rattle.transfer.proofs.ExactLaws.{Steps-leads}
use Rattle.transfer.proofs.FollowLaws.{Steps-follows}
use Rattle.transfer.proofs.step_in_place.Goals as goal

pub returns-clause-leads : goal.returns-clause-leads
returns-clause-leads c =
    let known : reads_unset c.args.state.now c.in-Some.insn.now ≡ false = sym c.reads_unset.ensures
    ∙ c.if-reads_unset.false in
    let own : is_frame_pointer (writes c.in-Some.insn.now) ≡ false =
    sym c.writes_frame_pointer.ensures ∙ c.if-writes_frame_pointer.false in
    Steps-leads c.args.image.now c.args.state.now c.in-Some.insn.now c.in_ok-ways.ways
    c.perform.new.state c.perform.new.other
    (IsProgram-IsImage c.args.image.now c.slots.ensures.fits) (sym c.in-Some.ensures)
    (rw (known, own)
    (c.in_ok-ways.ensures c.args.image.now (sym c.slots.ensures.count) (sym c.maps.ensures)
    (sym c.version_of.ensures)))

pub returns-clause-follows : goal.returns-clause-follows
returns-clause-follows c =
    let known : reads_unset c.args.state.now c.in-Some.insn.now ≡ false = sym c.reads_unset.ensures
    ∙ c.if-reads_unset.false in
    let own : is_frame_pointer (writes c.in-Some.insn.now) ≡ false =
    sym c.writes_frame_pointer.ensures ∙ c.if-writes_frame_pointer.false in
    Steps-follows c.args.image.now c.args.state.now c.in-Some.insn.now c.in_ok-ways.ways
    c.perform.new.state c.perform.new.other
    (sym c.in-Some.ensures)
    (rw (known, own)
    (c.in_ok-ways.ensures c.args.image.now (sym c.slots.ensures.count) (sym c.maps.ensures)
    (sym c.version_of.ensures)))

pub perform-requires-clause-named : goal.perform-requires-clause-named
perform-requires-clause-named c =
    NamesFit-fetch c.args.image.now c.args.state.now.slot c.in-Some.insn.now c.slots.ensures.fits
    (sym c.in-Some.ensures)
