-- The message on standard error about packet frames whose runs ended with INVALID.
use Rattle.std.specs.Prelude.{◌≡◌, ℕ, List, ◌++◌, Option, Some, None, String, Result, Ok, Err, IfSome, codes, decimal}
use Rattle.std.specs.Fmt.{signed_decimal}
use Rattle.std.specs.Int.{w64, cast_signed}
use Rattle.std.specs.declared.alloc.Global.{Global}
use Rattle.std.specs.String.{string_bytes}
use Rattle.host.specs.declared.errors.HostError.{HostError}
use Rattle.host.specs.declared.invalid.InvalidFrame.{InvalidFrame}
use Rattle.host.specs.declared.noting.Ran.{Ran}
use Rattle.messages.specs.Stopped.{no_action_line, others_words}

-- what a frame's run answered, as a signed number
abbrev pub answer_line : ℕ → List ℕ
answer_line answer =
    codes "r0: number " ++ (signed_decimal (cast_signed w64 answer) ++ codes "\n")

-- what Linux does, and who says more
abbrev pub linux_line : List ℕ
linux_line = codes "Linux takes INVALID as ABORTED; xdpvm trace names the slot\n"

-- the first of these frames, how many more there are, and what the first one answered
abbrev pub invalid_lines : InvalidFrame → ℕ → List ℕ
invalid_lines first count =
    codes "frame " ++ (decimal first.frame ++ (others_words count
    ++ (codes ": INVALID\n" ++ (answer_line first.answer ++ (no_action_line ++ linux_line)))))

-- the text, if there is one, has these lines; there is none if there are no such frames, and there
-- may be none if memory ran out
abbrev pub TellsInvalid : Option InvalidFrame → ℕ → Option (String Global) → Type 0
TellsInvalid None count why = why ≡ None
TellsInvalid (Some first) count why =
    IfSome why (λ text. string_bytes text ≡ invalid_lines first count)

-- the message after a run whose report was completed
abbrev pub TellsInvalidOf : Result Ran HostError → Option (String Global) → Type 0
TellsInvalidOf (Ok ran) why = TellsInvalid ran.invalid.first ran.invalid.count why
TellsInvalidOf (Err error) why = why ≡ None
