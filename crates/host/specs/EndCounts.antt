-- How many runs ended by each action, and by a trap of each reason.
use Rattle.std.specs.Prelude.{ℕ, ◌+◌, ◌-◌, ◌^◌, min}
use Rattle.isa_model.specs.declared.frames.Action.{Action}
use Rattle.isa_model.specs.declared.frames.Action.TheVariants as action
use Rattle.isa_model.specs.declared.ends.TrapReason.{TrapReason}
use Rattle.isa_model.specs.declared.ends.TrapReason.TheVariants.{NoCode, UnsetRead, ReadOnly, BadPointer, OutOfRange, BadAccess, BadCompare, BadHelper, TooManyCallFrames, NoResult, BadAction}
use Rattle.host.specs.declared.end_counts.ActionCounts.{ActionCounts}
use Rattle.host.specs.declared.end_counts.TrapCounts.{TrapCounts}

abbrev pub no_actions : ActionCounts
no_actions = record { aborted = 0; drop = 0; pass = 0; tx = 0; redirect = 0; invalid = 0 }

abbrev pub no_traps : TrapCounts
no_traps =
    record {
      no_code = 0;
      unset_read = 0;
      read_only = 0;
      bad_pointer = 0;
      out_of_range = 0;
      bad_access = 0;
      bad_compare = 0;
      bad_helper = 0;
      too_many_call_frames = 0;
      no_result = 0;
      bad_action = 0;
    }

-- ---- one more

-- a count has room for every frame of a stream
abbrev pub one_more : ℕ → ℕ
one_more n = min (n + 1) (2 ^ 32 - 1)

abbrev pub count_of_action : ActionCounts → Action → ℕ
count_of_action c action.Aborted = c.aborted
count_of_action c action.Drop = c.drop
count_of_action c action.Pass = c.pass
count_of_action c action.Tx = c.tx
count_of_action c action.Redirect = c.redirect
count_of_action c action.Invalid = c.invalid

abbrev pub with_action : ActionCounts → Action → ActionCounts
with_action c action.Aborted = record c { aborted = one_more c.aborted }
with_action c action.Drop = record c { drop = one_more c.drop }
with_action c action.Pass = record c { pass = one_more c.pass }
with_action c action.Tx = record c { tx = one_more c.tx }
with_action c action.Redirect = record c { redirect = one_more c.redirect }
with_action c action.Invalid = record c { invalid = one_more c.invalid }

abbrev pub count_of_trap : TrapCounts → TrapReason → ℕ
count_of_trap c NoCode = c.no_code
count_of_trap c UnsetRead = c.unset_read
count_of_trap c ReadOnly = c.read_only
count_of_trap c BadPointer = c.bad_pointer
count_of_trap c OutOfRange = c.out_of_range
count_of_trap c BadAccess = c.bad_access
count_of_trap c BadCompare = c.bad_compare
count_of_trap c BadHelper = c.bad_helper
count_of_trap c TooManyCallFrames = c.too_many_call_frames
count_of_trap c NoResult = c.no_result
count_of_trap c BadAction = c.bad_action

abbrev pub with_trap : TrapCounts → TrapReason → TrapCounts
with_trap c NoCode = record c { no_code = one_more c.no_code }
with_trap c UnsetRead = record c { unset_read = one_more c.unset_read }
with_trap c ReadOnly = record c { read_only = one_more c.read_only }
with_trap c BadPointer = record c { bad_pointer = one_more c.bad_pointer }
with_trap c OutOfRange = record c { out_of_range = one_more c.out_of_range }
with_trap c BadAccess = record c { bad_access = one_more c.bad_access }
with_trap c BadCompare = record c { bad_compare = one_more c.bad_compare }
with_trap c BadHelper = record c { bad_helper = one_more c.bad_helper }
with_trap c TooManyCallFrames = record c { too_many_call_frames = one_more c.too_many_call_frames }
with_trap c NoResult = record c { no_result = one_more c.no_result }
with_trap c BadAction = record c { bad_action = one_more c.bad_action }
