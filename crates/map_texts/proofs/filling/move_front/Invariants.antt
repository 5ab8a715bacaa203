use Rattle.std.proofs.Common.{◌≡◌, ℕ, ◌≤◌, get_or, take, drop}
use Rattle.map_texts.proofs.filling.move_front.Given as goal

abbrev pub invariant-loop-i : goal.invariant-loop-i
invariant-loop-i l =
    (take l.i l.buffer ≡ take l.i (drop l.start l.fn.buffer))
    × ((k : ℕ) → l.i ≤ k → get_or l.buffer k 0 ≡ get_or l.fn.buffer k 0)
