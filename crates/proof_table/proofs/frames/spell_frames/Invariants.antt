use Rattle.proof_table.proofs.Common.{◌≡◌, ◌++◌, take, flat_map, frame_bytes}
use Rattle.proof_table.proofs.frames.spell_frames.Given as goal

abbrev pub invariant-loop-frame : goal.invariant-loop-frame
invariant-loop-frame l =
    l.buffer.items ≡ l.initial.buffer.items ++ flat_map frame_bytes (take l.frame-index l.frames)
