-- How many bytes a call that may fail moves.
use Rattle.std.specs.Prelude.{ℕ, ◌-◌, min, Option, Some, None}
use Rattle.exact_io.specs.declared.failing.Failure.{Failure}

-- how many of `most` bytes a call moves, if it does not fail: at most `chunk`, and no more than are
-- left before the failure
abbrev pub count_of : ℕ → ℕ → ℕ → Option Failure → ℕ
count_of most chunk room None = min most chunk
count_of most chunk room (Some failing) = min (min most chunk) room

-- how many bytes are left before the failure, after a call that moved `count`
abbrev pub room_after : ℕ → ℕ → Option Failure → ℕ
room_after count room None = room
room_after count room (Some failing) = room - count
