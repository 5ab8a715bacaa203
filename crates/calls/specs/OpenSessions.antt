-- What the calls that open a session return, and what calls on its maps say of its machine.
use Rattle.std.specs.Prelude.{◌≡◌, ℕ, ◌<◌, List, length, Option, Some}
use Rattle.isa_model.specs.Reporting.Reports.{starting_contents}
use Rattle.machine.specs.Running.{Running}
use Rattle.machine.specs.BetweenRuns.{row_at}
use Rattle.rechecking.specs.Refusing.{ShowsBound}
use Rattle.stack_state.specs.Starts.{start}
use Rattle.walks.specs.Accepting.{BoundsAll}
use Rattle.walks.specs.Counts.{HasNumber}
use Rattle.calls.specs.Verdicts.{IsAcceptedImage}

-- the bytes are an accepted image, and the session holds its program, with this bound and starting
-- maps
pub record HoldsAccepted (bytes : List ℕ) (bound : ℕ) (held : Option Running) : Type 0 where
  pub accepts : IsAcceptedImage bytes bound
  pub is : held ≡ Some (record {
    program = accepts.program;
    bound = bound;
    contents = starting_contents accepts.program.maps;
  })

-- and the bound is the one that `xdpvm_verify` gives: the number of the program's start state, as
-- small as `BoundsAll` says
pub record OpensSession (bytes : List ℕ) (held : Option Running) : Type 0 where
  pub bound : ℕ
  pub holds : HoldsAccepted bytes bound held
  pub number : HasNumber holds.accepts.program start bound
  pub bounds : BoundsAll holds.accepts.program bound

-- or the bytes are a closed table of this program, and the bound is the number of its first entry
pub record OpensByTable (bytes table : List ℕ) (held : Option Running) : Type 0 where
  pub bound : ℕ
  pub holds : HoldsAccepted bytes bound held
  pub shows : ShowsBound holds.accepts.program table bound

-- a session is open, and this holds of its machine
pub record HoldsOpen (held : Option Running) (fact : Running → Type 0) : Type 0 where
  pub machine : Running
  pub is : held ≡ Some machine
  pub so : fact machine

-- it is open before and after a call, and this holds of its machine before and after
pub record StaysOpen (old new : Option Running)
    (relation : Running → Running → Type 0) : Type 0 where
  pub before : Running
  pub after : Running
  pub was : old ≡ Some before
  pub is : new ≡ Some after
  pub so : relation before after

-- there is a map with this index, and its keys have this size
pub record FitsKey (machine : Running) (map size : ℕ) : Type 0 where
  pub inside : map < length machine.program.maps
  pub key_size : size ≡ (row_at machine map).key_size

-- the same, and its values have this size
pub record FitsMap (machine : Running) (map size_of_key size : ℕ) : Type 0 where
  pub fits_key : FitsKey machine map size_of_key
  pub value_size : size ≡ (row_at machine map).value_size
