-- The place of a reason among others that rise.
use Rattle.std.specs.Prelude.{ℕ, suc, nat_lt, if◌then◌else◌, List, [], ◌∷◌}
use Rattle.host.specs.declared.counts.ReasonCount.{ReasonCount}

-- how many of the first ones are smaller
abbrev pub place_of : List ReasonCount → ℕ → ℕ
place_of [] reason = 0
place_of (r ∷ rs) reason = if nat_lt r.reason reason then suc (place_of rs reason) else 0
