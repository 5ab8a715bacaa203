-- What helpers answer, and what they make of the maps. bpf-helpers(7).
use Rattle.std.specs.Prelude.{◌≡◌, ℕ, ◌<◌, List, length, slice_set, Option, Some, None}
use Rattle.std.specs.FinMap.{get}
use Rattle.isa_model.specs.declared.helpers.Helper.{Helper}
use Rattle.isa_model.specs.declared.helpers.Helper.TheVariants.{MapLookupElem, MapUpdateElem, MapDeleteElem, KtimeGetNs}
use Rattle.maps.specs.Maps.{MapState, map_at, Updated, Deleted}
use Rattle.maps.specs.declared.calls.Request.{Request}
use Rattle.maps.specs.declared.calls.Answer.{Answer}
use Rattle.maps.specs.declared.calls.Answer.TheVariants.{Number, Value}

-- ---- what may be asked

-- there is a map m, and its keys are as long as this one
pub record TakesKey (maps : List MapState) (m : ℕ) (key : List ℕ) : Type 0 where
  pub map : m < length maps
  pub key_size : length key ≡ (map_at maps m).row.key_size

abbrev pub FitsAt : Helper → List MapState → (map : ℕ) → (key value : List ℕ) → Type 0
FitsAt MapLookupElem maps m key value = TakesKey maps m key
FitsAt MapUpdateElem maps m key value =
    TakesKey maps m key × (length value ≡ (map_at maps m).row.value_size)
FitsAt MapDeleteElem maps m key value = TakesKey maps m key
FitsAt KtimeGetNs maps m key value = Unit {0}

abbrev pub FitsMaps : List MapState → Request → Type 0
FitsMaps maps request = FitsAt request.helper maps request.map request.key.now request.value.now

-- ---- the answers

-- the place of the key's value, or 0
abbrev pub found : Option ℕ → Answer
found (Some place) = Value place
found None = Number 0

-- only map m has changed
abbrev pub ChangesOne : ℕ → List MapState → List MapState → Type 0
ChangesOne m old new = new ≡ slice_set old m (map_at new m)

-- the answer is a number, of which P holds: an update and a delete answer 0 or an error
abbrev pub IsNumberAnswer : Answer → (ℕ → Type 0) → Type 0
IsNumberAnswer (Number n) P = P n
IsNumberAnswer (Value place) P = ⊥

-- a look-up and the time leave the maps as they are, an update and a delete change only their map
abbrev pub AnswersAt : (clock : ℕ → ℕ) → Helper → (map : ℕ) → (key value : List ℕ) → (flags : ℕ)
    → (old : List MapState) → Answer → (new : List MapState) → Type 0
AnswersAt clock MapLookupElem m key value flags old answer new =
    (answer ≡ found (get (map_at old m).places key)) × (new ≡ old)
AnswersAt clock MapUpdateElem m key value flags old answer new =
    IsNumberAnswer answer (λ n. Updated key value flags n (map_at old m) (map_at new m))
    × ChangesOne m old new
AnswersAt clock MapDeleteElem m key value flags old answer new =
    IsNumberAnswer answer (λ n. Deleted key n (map_at old m) (map_at new m)) × ChangesOne m old new
AnswersAt clock KtimeGetNs m key value flags old answer new =
    (answer ≡ Number (clock 0)) × (new ≡ old)

abbrev pub AnswersRequest : (clock : ℕ → ℕ) → Request → (old : List MapState) → Answer
    → (new : List MapState) → Type 0
AnswersRequest clock request old answer new =
    AnswersAt clock request.helper request.map request.key.now request.value.now request.flags old
    answer new

-- how often the clock is asked
abbrev pub asks : Helper → ℕ
asks KtimeGetNs = 1
asks helper = 0

abbrev pub clock_calls : Request → ℕ
clock_calls request = asks request.helper
