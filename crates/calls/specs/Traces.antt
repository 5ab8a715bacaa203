-- What the call returns for a traced run.
use Rattle.std.specs.Prelude.{◌≡◌, ℕ, List}
use Rattle.isa_model.specs.Code.Instructions.{Program}
use Rattle.isa_model.specs.declared.ends.End.{End}
use Rattle.isa_model.specs.declared.ends.End.TheVariants.{Exit, Trap, Limit}
use Rattle.isa_model.specs.declared.ends.TrapReason.{TrapReason}
use Rattle.isa_model.specs.declared.ends.TrapReason.TheVariants.{NoCode, UnsetRead, ReadOnly, BadPointer, OutOfRange, BadAccess, BadCompare, BadHelper, TooManyCallFrames, NoResult, BadAction}
use Rattle.isa_model.specs.declared.frames.FrameHead.{FrameHead}
use Rattle.isa_model.specs.Running.Runs.{turn}
use Rattle.isa_model.specs.Reporting.Reports.{starting_contents}
use Rattle.image.specs.Images.{IsImage, image_bytes}
use Rattle.calls.specs.declared.tracing.TracedEnd.{TracedEnd}

abbrev pub trap_number : TrapReason → ℕ
trap_number NoCode = 1
trap_number UnsetRead = 2
trap_number ReadOnly = 3
trap_number BadPointer = 4
trap_number OutOfRange = 5
trap_number BadAccess = 6
trap_number BadCompare = 7
trap_number BadHelper = 8
trap_number TooManyCallFrames = 9
trap_number NoResult = 10
trap_number BadAction = 11

-- an end in numbers
abbrev pub end_of : End → ℕ → TracedEnd
end_of (Exit r0 steps) limit = record { r0 = r0; steps = steps; kind = 0; reason = 0 }
end_of (Trap reason steps) limit =
    record { r0 = 0; steps = steps; kind = 1; reason = trap_number reason }
end_of Limit limit = record { r0 = 0; steps = limit; kind = 2; reason = 0 }

-- the bytes are an image, and the run of its program within the limit, on starting maps, has this
-- end and leaves this packet
pub record ReturnsTrace (bytes : List ℕ) (head : FrameHead) (packet : List ℕ) (limit : ℕ)
    (end : TracedEnd) (after : List ℕ) : Type 0 where
  pub program : Program
  pub spelled : bytes ≡ image_bytes program
  pub is_image : IsImage program
  pub ends : end ≡ end_of
      (turn program limit (λ _. head.time) head packet (starting_contents program.maps)).ends limit
  pub packet_is : after
      ≡ (turn program limit (λ _. head.time) head packet (starting_contents program.maps)).packet
