-- The stream of which the output of a writer has the capture.
use Rattle.std.specs.Prelude.{ℕ, List, [], ◌∷◌, Option, Some, None, option_map}
use Rattle.std.specs.declared.io.ErrorKind.{ErrorKind}

-- all that was handed on, where nothing failed and no byte is in the buffer; else none of it counts
abbrev pub reached_by : Option ErrorKind → List ℕ → Option (List ℕ) → Option (List ℕ)
reached_by None [] handed = handed
reached_by None (b ∷ waits) handed = option_map (λ bytes. []) handed
reached_by (Some kind) waits handed = option_map (λ bytes. []) handed
