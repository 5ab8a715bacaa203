-- What is read from bytes, once and several times.
use Rattle.std.specs.Prelude.{◌≡◌, ℕ, zero, suc, ◌+◌, nat_lt, Bool, true, false, if◌then◌else◌, List, [], ◌∷◌, ◌++◌, length, drop, Option, Some, None, Result, Ok, Err}
use Rattle.std.specs.Option.{is_some}
use Rattle.table_entries.specs.declared.stops.StopReason.{StopReason}
use Rattle.table_entries.specs.declared.stops.StopReason.TheVariants.{Short}

-- what is read, and the bytes after it. None: it has the format, but a field is not allowed
abbrev pub Read : Type 0 → Type 0
Read X = Result (Option X × List ℕ) StopReason

-- the view of what a function returned is what is read
abbrev pub ReturnsRead : {X Y : Type 0} → (X → Y) → Result X StopReason → Result Y StopReason
    → Type 0
ReturnsRead view (Ok x) read = read ≡ Ok (view x)
ReturnsRead view (Err stop) read = read ≡ Err stop

-- what was read, if it is allowed
abbrev pub kept : {X : Type 0} → Bool → X → Option X
kept true x = Some x
kept false x = None

-- whether what is read is allowed, and the bytes after it
abbrev pub seen : {X : Type 0} → Read X → Result (Bool × List ℕ) StopReason
seen (Ok x) = Ok (is_some x.0, x.1)
seen (Err stop) = Err stop

-- fields of n bytes
abbrev pub sized : {X : Type 0} → ℕ → (List ℕ → Option X) → List ℕ → Read X
sized n fields bytes =
    if nat_lt (length bytes) n then Err Short else Ok (fields bytes, drop n bytes)

-- what is read next
abbrev pub then_read : {X Y : Type 0} → Read X → (Option X → List ℕ → Read Y) → Read Y
then_read (Ok x) next = next x.0 x.1
then_read (Err stop) next = Err stop

abbrev pub joined : {X : Type 0} → Option X → Option (List X) → Option (List X)
joined (Some x) (Some xs) = Some (x ∷ xs)
joined x xs = None

-- n of them, from the k-th on, one after the other. None: one has a field that is not allowed
unfoldable pub many : {X : Type 0} → (ℕ → List ℕ → Read X) → ℕ → ℕ → List ℕ → Read (List X)
many one zero k bytes = Ok (Some [], bytes)
many one (suc n) k bytes =
    then_read (one k bytes)
    (λ first rest. then_read (many one n (k + 1) rest)
    (λ others after. Ok (joined first others, after)))

-- what is read, if it is allowed
abbrev pub allowed : {X : Type 0} → Read X → Option X
allowed (Ok x) = x.0
allowed (Err stop) = None

-- ---- what was read so far

abbrev pub one_more : {X : Type 0} → Option (List X) → Option X → Option (List X)
one_more (Some xs) (Some x) = Some (xs ++ x ∷ [])
one_more xs x = None
