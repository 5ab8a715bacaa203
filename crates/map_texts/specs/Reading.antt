-- What a call that fills maps does to them, by the text that it reads.
use Rattle.std.specs.Prelude.{◌≡◌, ℕ, List, [], ◌++◌, Option, Some, None, Result, Ok, Err, IfSome}
use Rattle.isa_model.specs.Reporting.Streams.{Input, ByEnd, ByError}
use Rattle.maps.specs.Maps.{MapState, rows_of, contents_of}
use Rattle.map_texts.specs.declared.errors.MapTextError.{MapTextError}
use Rattle.map_texts.specs.declared.errors.MapTextErrorKind.TheVariants.{ReadFailed}
use Rattle.map_texts.specs.Fillings.{FilledMaps, filled_by}

abbrev pub error_of : Result (Unit {0}) MapTextError → Option MapTextError
error_of (Ok done) = None
error_of (Err error) = Some error

-- the maps after a call, and what it returned
abbrev pub filled_of : List MapState → Result (Unit {0}) MapTextError → FilledMaps
filled_of maps result = record { contents = contents_of maps; error = error_of result }

-- the source failed
abbrev pub TellsReadFailure : Option MapTextError → Type 0
TellsReadFailure None = ⊥
TellsReadFailure (Some error) = error.kind ≡ ReadFailed

-- The input was read from a source with these bytes: all of them and then the end, or the first of
-- them and then an error, which is what the call returns.
pub record IsTextFrom (bytes : List ℕ) (input : Input) (error : Option MapTextError)
    : Type 0 where
  pub unread : List ℕ
  pub split : bytes ≡ input.bytes ++ unread
  pub all : input.ending ≡ ByEnd → unread ≡ []
  pub failed : input.ending ≡ ByError → TellsReadFailure error

-- The maps were filled by the text that a source returned: it is that of an input, and where the
-- bytes of the source are known, of an input that was read from those bytes. Their rows stay.
pub record AreFilledFrom (source : Option (List ℕ)) (old new : List MapState)
    (result : Result (Unit {0}) MapTextError) : Type 0 where
  pub input : Input
  pub from_source : IfSome source (λ bytes. IsTextFrom bytes input (error_of result))
  pub filled : filled_of new result ≡ filled_by (rows_of old) (contents_of old) input
  pub rows : rows_of new ≡ rows_of old
