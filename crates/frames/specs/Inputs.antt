-- A frame reader finds the stream of the input that it reads, however many bytes each read of its
-- source returns.
use Rattle.std.proofs.Common.{◌≡◌, ℕ, ◌+◌, ◌++◌, List, [], Option, Result, Ok, Err, IfSome}
use Rattle.isa_model.specs.declared.streams.Fault.{Fault}
use Rattle.isa_model.specs.declared.streams.Fault.TheVariants.{ReadFailed}
use Rattle.isa_model.specs.declared.streams.Finish.TheVariants as finish
use Rattle.isa_model.specs.declared.versions.Version.{Version}
use Rattle.isa_model.specs.declared.versions.Version.TheVariants.{One}
use Rattle.isa_model.specs.Code.Versions.{version_number}
use Rattle.isa_model.specs.Reporting.Streams.{PacketFrame, Input, ByEnd, ByError, Stream, stream_of, stream_bytes}
use Rattle.frames.specs.Sources.{Origin}
use Rattle.frames.specs.Reading.{MayEnd}

-- The input was read from a source with these bytes: all of them and then the end, or the first of
-- them and then an error. An error is read only where the stream's fault is ReadFailed.
pub record IsReadFrom (bytes : List ℕ) (input : Input) : Type 0 where
  pub unread : List ℕ
  pub split : bytes ≡ input.bytes ++ unread
  pub all : input.ending ≡ ByEnd → unread ≡ []
  pub error : input.ending ≡ ByError
      → (offset : ℕ) × ((stream_of input).finish ≡ finish.Fault ReadFailed offset)

-- This stream was read from the source: it is the stream of an input, and where the bytes of the
-- source are known, of an input that was read from those bytes. The input ends by an error only if
-- a read of the source may fail.
pub record AreReadFrom (source : Origin) (found : Stream) : Type 0 where
  pub input : Input
  pub from_source : IfSome source.bytes (λ bytes. IsReadFrom bytes input)
  pub may_end : MayEnd source.may_fail input.ending
  pub stream : stream_of input ≡ found

-- ---- where reading breaks off

-- a source begins with the magic of this version and the records of these frames, where its bytes
-- are known; whatever follows them
abbrev pub IsBegunBy : Origin → Version → List PacketFrame → Type 0
IsBegunBy source v frames =
    IfSome source.bytes (λ bytes. (rest : List ℕ) × (bytes ≡ stream_bytes v frames ++ rest))

-- ---- a reader that has begun

-- the version of the stream that was begun, by what `begin` returned: version 1 where there is no
-- magic
abbrev pub IsBegunVersion : Result ℕ (Fault × ℕ) → Version → Type 0
IsBegunVersion (Ok number) v = (w : Version) → number ≡ version_number w → v ≡ w
IsBegunVersion (Err fault) v = v ≡ One
