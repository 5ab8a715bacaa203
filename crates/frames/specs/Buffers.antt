-- The bytes that a buffered source has left, where they are known.
use Rattle.std.specs.Prelude.{ℕ, List, slice_range, Option}
use Rattle.std.specs.Io.KnownBytes.{prepend_known}
use Rattle.std.specs.Io.Buffered.{reader_remaining}
use Rattle.frames.specs.declared.buffers.Ahead.{Ahead}
use Rattle.frames.specs.declared.buffers.Buffered.{Buffered}

-- those in the buffer, and then the reader's
abbrev pub buffered_remaining : {R : Type 0} → (R → Option (List ℕ)) → Buffered R
    → Option (List ℕ)
buffered_remaining remaining b = reader_remaining remaining b.reader

-- what is left of the bytes that were read ahead, and then the reader's
abbrev pub ahead_remaining : {R : Type 0} → (R → Option (List ℕ)) → Ahead R → Option (List ℕ)
ahead_remaining remaining a =
    prepend_known (slice_range a.front a.given a.count) (buffered_remaining remaining a.source)
