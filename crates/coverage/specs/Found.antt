-- What is counted of the stream of a source.
use Rattle.std.specs.Prelude.{◌≡◌, ℕ, List, [], MatchOption}
use Rattle.isa_model.specs.declared.streams.Finish.{Finish}
use Rattle.isa_model.specs.Code.Instructions.{Program}
use Rattle.isa_model.specs.Machine.States.{KeyValues}
use Rattle.isa_model.specs.Reporting.Streams.{Stream, AreOpen}
use Rattle.frames.specs.Sources.{Origin}
use Rattle.frames.specs.Inputs.{AreReadFrom}
use Rattle.coverage.specs.declared.stream_hits.StreamHits.{StreamHits}
use Rattle.coverage.specs.Hits.{CountsFrames, HasCountedFrames}

-- The stream was read to its end, or to a fault: it is the stream of the source's bytes, where they
-- are known. Its frames were run, and counted.
pub record CountsStream (p : Program) (limit : ℕ) (contents : List KeyValues) (source : Origin)
    (hits : StreamHits) : Type 0 where
  pub found : Stream
  pub are_open : AreOpen found.version found.frames
  pub read : AreReadFrom source found
  pub finish : hits.finish ≡ found.finish
  pub counted : CountsFrames p limit contents found.frames hits

-- the same in numbers of 64 bits
pub record HasCountedStream (p : Program) (limit : ℕ) (contents : List KeyValues)
    (source : Origin) (hits : StreamHits) (finish : Finish) : Type 0 where
  pub found : Stream
  pub are_open : AreOpen found.version found.frames
  pub read : AreReadFrom source found
  pub finish_is : finish ≡ found.finish
  pub counted : HasCountedFrames p limit contents found.frames hits
