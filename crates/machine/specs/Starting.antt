-- The start: words that represent the first state of a run.
use Rattle.std.proofs.Common.{ℕ, List, [], ◌∷◌}
use Rattle.isa_model.specs.declared.frames.FrameHead.{FrameHead}
use Rattle.maps.specs.Maps.{MapState}
use Rattle.word_machine.specs.Addresses.{context_base, frame_end}
use Rattle.word_machine.specs.Words.{Words}

-- the words of r0 to r10: r1 is the context, and r10 the end of the first call frame
abbrev pub start_words : List ℕ
start_words = 0 ∷ context_base ∷ 0 ∷ 0 ∷ 0 ∷ 0 ∷ 0 ∷ 0 ∷ 0 ∷ 0 ∷ frame_end 0 ∷ []

abbrev pub start_of : FrameHead → List ℕ → List ℕ → List MapState → Words
start_of head packet frames maps =
    record {
      at = 0;
      regs = start_words;
      frames = frames;
      packet = packet;
      saved = [];
      interface = head.interface;
      queue = head.queue;
      maps = maps;
      clock_calls = 0;
    }
