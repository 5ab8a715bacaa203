-- The results of runs of words, where every run exits within the bound.
use Rattle.machine.proofs.Common.{◌≡◌, ℕ, ◌+◌, ◌<◌, ◌≤◌, ◌^◌, List, length, sym, ap, subst, ◌∙◌, All, vec_capacity, nil_from_length, max_call_frames, FrameHead, Program, KeyValues, max_packet, AreBytes, FitRows, IsClock, IsGiven, IsMap, contents_of, Saved, Words, EndsSafely, EndsInTime, Exits, start_words, start_of, RunsWithinBound, ReturnsOutcome, IsReady}
use Rattle.isa_model.proofs.OutcomesLaws.{FitRows-HasOutcome}
use Rattle.image.proofs.Programs.{IsProgram-IsImage}
use Rattle.bounds.specs.Bounds.{Bounded, IsVerified}
use Rattle.word_machine.specs.declared.memory.Memory.{Memory}
use Rattle.word_machine.specs.Machine.{words_of}
use Rattle.machine.specs.Returning.{IsStart, ReturnsAsModel as WordReturns}
use Rattle.machine.proofs.ReturningLaws.{start_ends, start_returns}

-- the machine of an accepted program, whose maps fit its rows
pub starts_running : (a : Bounded) (contents : List KeyValues) → IsVerified a
    → FitRows a.program.maps contents
    → RunsWithinBound (record { program = a.program; bound = a.bound; contents = contents })
starts_running a contents h fits = record {
  is_program = IsProgram-IsImage a.program h.image;
  ends = h.ends;
  some = h.some;
  most = h.most;
  fits = fits;
}

-- memory as a run finds it
abbrev pub memory_at : Memory → FrameHead → Memory
memory_at memory head = record memory { interface = head.interface; queue = head.queue }

module _ (p : Program) (bound : ℕ) (memory : Memory) (ready : IsReady p bound memory)
    (head : FrameHead) (packet : List ℕ) (clock : ℕ → ℕ)
    (answers : IsClock clock) (short : length packet ≤ max_packet) (bytes : AreBytes packet)
    (interface : head.interface < 2 ^ 32) (queue : head.queue < 2 ^ 32)
    (are : All IsMap memory.maps) where
  given : IsGiven p head packet (contents_of memory.maps)
  given =
      record {
        short = short;
        bytes = bytes;
        interface = interface;
        queue = queue;
        maps = ready.running.fits;
      }

  is_start : IsStart p clock bound head packet memory.frames.items memory.maps
  is_start = record {
    is_program = ready.running.is_program;
    ends = ready.running.ends;
    answers = answers;
    given = given;
    few = ready.few;
    whole = ready.whole;
    are_maps = are;
    rows = ready.rows;
  }

  abbrev first : Words
  first = words_of 0 start_words (memory_at memory head) packet 0

  at_start : first ≡ start_of head packet memory.frames.items memory.maps
  at_start =
      ap {A = List Saved} {B = Words}
      (λ saved. record (start_of head packet memory.frames.items memory.maps) { saved = saved })
      ready.outer

  -- the run ends
  pub run_ends : EndsInTime p clock first
  run_ends = record {
    bound = bound;
    most = ready.running.most;
    ends =
        subst (λ w. EndsSafely p clock w bound) (sym at_start)
        (start_ends p clock bound head packet memory.frames.items memory.maps is_start);
  }

  module _ (number steps slot asked : ℕ) (regs : List ℕ) (left : Memory) (after : List ℕ)
      (exits : Exits p clock first number steps (words_of slot regs left after asked)) where
    abbrev last : Words
    last = words_of slot regs left after asked

    word_returns : WordReturns p clock bound head packet memory.maps number steps last
    word_returns =
        start_returns p clock bound head packet memory.frames.items memory.maps is_start number
        steps last
        (subst (λ w. Exits p clock w number steps last) at_start exits)

    -- what it leaves is the outcome
    pub run_returns : (coming : ℕ → ℕ) → ((k : ℕ) → coming k ≡ clock (asked + k))
        → ReturnsOutcome
        (record { program = p; bound = bound; contents = contents_of memory.maps }) head packet
        clock
        (record { r0 = number; steps = steps }) after (contents_of left.maps) coming
    run_returns coming comes = record {
      outcome = word_returns.outcome;
      found = word_returns.found;
      few = word_returns.few;
      number_is = word_returns.number_is;
      steps_are = word_returns.steps_are;
      packet_is = word_returns.packet_is;
      contents_are = word_returns.contents_are;
      clock_is = λ k. comes k ∙ ap (λ n. clock (n + k)) word_returns.clock_calls_are;
    }

    -- and the machine can run again
    pub still_ready : vec_capacity left.saved ≡ max_call_frames → IsReady p bound left
    still_ready capacity = record {
      running = record {
        is_program = ready.running.is_program;
        ends = ready.running.ends;
        some = ready.running.some;
        most = ready.running.most;
        fits = subst (FitRows p.maps) (sym word_returns.contents_are)
            (FitRows-HasOutcome p head packet
            (contents_of memory.maps) clock word_returns.outcome ready.running.is_program answers
            given word_returns.found);
      };
      few = ready.few;
      rows = word_returns.rows;
      whole = word_returns.whole;
      outer = nil_from_length left.saved.items word_returns.back;
      capacity = capacity;
    }
