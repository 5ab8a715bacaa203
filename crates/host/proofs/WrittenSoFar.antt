-- What holds while the packet frames of a stream are run.
use Rattle.host.proofs.Common.{◌≡◌, ℕ, List, length, Option, KeyValues, PacketFrame, Rule, ReportForm, contents_after, Origin, HasBegun, Outputs, Wrote, front_in}
use Rattle.frames.specs.Readers.{Position}

-- these frames were found and taken, and their pieces were written
pub record WrittenSoFar (form : ReportForm) (rule : Rule) (start : List KeyValues)
    (source : Origin) (before : Outputs) (frames : List PacketFrame)
    (known : Option (List ℕ)) (position : Position) (number : ℕ) (contents : List KeyValues)
    (now : Outputs) : Type 0 where
  pub begun : HasBegun form.stream frames source known position
  pub numbered : number ≡ length frames
  pub wrote : Wrote before now (front_in form rule start frames)
  pub carried : contents ≡ contents_after rule start frames
