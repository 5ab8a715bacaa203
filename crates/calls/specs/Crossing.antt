-- What calls return and write: statuses, which `src/statuses` names, and bytes in a buffer.
use Rattle.std.specs.Prelude.{◌≡◌, ℕ, List, ◌++◌, length, take, drop, ◌⊎◌}
use Rattle.calls.specs.declared.statuses.TheConstants.{ABSENT, MEMORY, OK, REFUSED, UNDECIDED, WRONG}

-- done, refused, or out of memory
abbrev pub IsVerdictStatus : ℕ → Type 0
IsVerdictStatus status = (status ≡ OK) ⊎ ((status ≡ REFUSED) ⊎ (status ≡ MEMORY))

-- one of these, or `WRONG`: nothing was done
abbrev pub IsStatus : ℕ → Type 0
IsStatus status = (status ≡ WRONG) ⊎ IsVerdictStatus status

-- done, refused, out of memory, or the limit on explored instructions came first
abbrev pub IsDecision : ℕ → Type 0
IsDecision status = (status ≡ UNDECIDED) ⊎ IsVerdictStatus status

-- of a key: done, `WRONG`, or there is no such key
abbrev pub IsLookUp : ℕ → Type 0
IsLookUp status = (status ≡ OK) ⊎ ((status ≡ WRONG) ⊎ (status ≡ ABSENT))

-- of a run or a change: done, or `WRONG`
abbrev pub IsChange : ℕ → Type 0
IsChange status = (status ≡ OK) ⊎ (status ≡ WRONG)

-- a buffer after bytes were written to it, as far as there is room
abbrev pub filled : List ℕ → List ℕ → List ℕ
filled buffer bytes = take (length buffer) bytes ++ drop (length bytes) buffer

-- bytes were written to a buffer as far as there is room, and this is how many there are
pub record FillsBuffer (old new : List ℕ) (count : ℕ) (bytes : List ℕ) : Type 0 where
  pub whole : count ≡ length bytes
  pub written : new ≡ filled old bytes
