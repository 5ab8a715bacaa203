-- Laws of the frame whose run is shown.
use Rattle.coverage.proofs.Common.{◌≡◌, ℕ, ◌≤◌, List, [], ◌∷◌, ◌++◌, length, Option, sym, ap, ◌∙◌, subst, Version, Program, KeyValues, PacketFrame, stream_with, checked_rule, contents_after, HasBegun, HasBegun-open, HasBegun-found, HasBegun-stopped, HasFound-begins}
use Rattle.isa_model.specs.declared.streams.Finish.{Finish}
use Rattle.checked_vm.specs.Machines.{LoadedProgram}
use Rattle.frames.specs.Sources.{Origin}
use Rattle.frames.specs.Readers.{Position}
use Rattle.frames.specs.Reading.{Finds, Found, Stopped}
use Rattle.coverage.specs.declared.frame_steps.FrameFound.{FrameFound}
use Rattle.coverage.specs.declared.frame_steps.FrameFound.TheVariants as answers
use Rattle.coverage.specs.Steps.{ShowsFrame, FindsFrame, HasNoFrame}

-- the frame was found, and is shown
pub found_frame : (p : Program) (m : LoadedProgram) (limit : ℕ) (start : List KeyValues) (source : Origin)
    (number : ℕ) (v : Version) (taken : List PacketFrame) (known new : Option (List ℕ))
    (before after : Position) (f : PacketFrame) (answer : FrameFound)
    → m.program ≡ p → m.contents ≡ contents_after (checked_rule p limit) start taken
    → number ≡ length taken → HasBegun v taken source known before
    → Finds source.may_fail before known new after (Found f)
    → ShowsFrame m.program limit m.contents f v answer → FindsFrame p limit start source number answer
found_frame p m limit start source number v taken known new before after f answer same carried
    numbered begun finds shows =
    let (found, early, fits) =
    HasBegun-found v taken source known new before after f begun finds in
    record {
      version = v;
      frames = taken;
      frame = f;
      are_open = found.are_open;
      begun =
          HasFound-begins source.may_fail v (taken ++ f ∷ []) source.bytes new after found;
      numbered = sym numbered;
      shows =
          subst (λ (x : Program). ShowsFrame x limit
          (contents_after (checked_rule p limit) start taken) f v answer) same
          (subst (λ (x : List KeyValues). ShowsFrame m.program limit x f v answer) carried shows);
    }

-- the stream has ended before it
pub no_frame : (source : Origin) (number count : ℕ) (v : Version) (taken : List PacketFrame)
    (known new : Option (List ℕ)) (before after : Position) (finish : Finish)
    → count ≡ length taken → count ≤ number → HasBegun v taken source known before
    → Finds source.may_fail before known new after (Stopped finish)
    → HasNoFrame source number (answers.Missing count finish)
no_frame source number count v taken known new before after finish numbered few begun finds =
    record {
      found = stream_with v (taken, finish);
      are_open = HasBegun-open v taken source known before begun;
      read = HasBegun-stopped v taken source known new before after finish begun finds;
      few = subst (λ n. n ≤ number) numbered few;
      answer_is = ap (λ n. answers.Missing n finish) numbered;
    }
