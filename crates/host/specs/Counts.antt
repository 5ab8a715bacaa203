-- How many packet frames of a stream ended in each way.
use Rattle.std.specs.Prelude.{◌≡◌, ℕ, ◌==◌, nat_lt, Bool, false, if◌then◌else◌, List, [], ◌∷◌, length, Option, Some, None}
use Rattle.std.specs.Option.{option_map}
use Rattle.isa_model.specs.declared.ends.End.{End}
use Rattle.isa_model.specs.declared.ends.End.TheVariants.{Exit, Trap, Limit}
use Rattle.isa_model.specs.declared.versions.Version.{Version}
use Rattle.isa_model.specs.declared.versions.Version.TheVariants.{One, Two}
use Rattle.isa_model.specs.Code.Instructions.{Program}
use Rattle.isa_model.specs.Machine.States.{KeyValues}
use Rattle.isa_model.specs.Reporting.Frames.{action_of}
use Rattle.isa_model.specs.Reporting.Streams.{PacketFrame, Stream}
use Rattle.isa_model.specs.Running.Runs.{Turn}
use Rattle.isa_model.specs.Reporting.Reports.{Rule, turn_on, contents_left, checked_rule, reason_of}
use Rattle.bounds.specs.Bounds.{Bounded}
use Rattle.host.specs.declared.end_counts.ActionCounts.{ActionCounts}
use Rattle.host.specs.declared.end_counts.TrapCounts.{TrapCounts}
use Rattle.host.specs.declared.counts.ReasonCount.{ReasonCount}
use Rattle.host.specs.declared.counts.FrameCounts.{FrameCounts}
use Rattle.host.specs.declared.counts.TheConstants.{MOST_REASONS}
use Rattle.host.specs.declared.traced.Counted.{Counted}
use Rattle.host.specs.EndCounts.{no_actions, no_traps, one_more, with_action, with_trap}
use Rattle.host.specs.Stops.{ShowsTracedFrom}
use Rattle.host.specs.Accepted.{ShowsLast}

-- how many frames ended in each way; the reasons rise
pub record Totals : Type 0 where
  pub actions : ActionCounts
  pub traps : TrapCounts
  pub limit : ℕ
  pub skipped : ℕ
  pub reasons : List ReasonCount
  pub other_reasons : ℕ

abbrev pub totals_of : FrameCounts → Totals
totals_of counts =
    record {
      actions = counts.actions;
      traps = counts.traps;
      limit = counts.limit;
      skipped = counts.skipped;
      reasons = counts.reasons.items;
      other_reasons = counts.other_reasons;
    }

abbrev pub no_totals : Totals
no_totals =
    record {
      actions = no_actions;
      traps = no_traps;
      limit = 0;
      skipped = 0;
      reasons = [];
      other_reasons = 0;
    }

-- ---- one more frame

-- whether a reason is among these, which rise
abbrev pub is_met : List ReasonCount → ℕ → Bool
is_met [] reason = false
is_met (r ∷ rs) reason = if nat_lt r.reason reason then is_met rs reason else r.reason == reason

-- these with one more frame of a reason, in its place
abbrev pub one_more_of : List ReasonCount → ℕ → List ReasonCount
one_more_of [] reason = record { reason = reason; frames = 1 } ∷ []
one_more_of (r ∷ rs) reason =
    if nat_lt r.reason reason
    then r ∷ one_more_of rs reason
    else (
    if r.reason == reason
    then record { reason = r.reason; frames = one_more r.frames } ∷ rs
    else record { reason = reason; frames = 1 } ∷ r ∷ rs)

-- the frames of the first 64 reasons are counted by reason, those of all others together
abbrev pub with_reason : Totals → ℕ → Totals
with_reason c reason =
    if is_met c.reasons reason
    then record c { reasons = one_more_of c.reasons reason }
    else (
    if nat_lt (length c.reasons) MOST_REASONS
    then record c { reasons = one_more_of c.reasons reason }
    else record c { other_reasons = one_more c.other_reasons })

-- a frame that is forwarded has reason 0, and none is counted
abbrev pub with_reason_if : Totals → ℕ → Totals
with_reason_if c reason = if reason == 0 then c else with_reason c reason

-- one more frame whose run answered this number; programs of version 1 have no reasons
abbrev pub with_exit : Version → Totals → ℕ → Totals
with_exit One c answer = record c { actions = with_action c.actions (action_of answer) }
with_exit Two c answer =
    with_reason_if (record c { actions = with_action c.actions (action_of answer) })
    (reason_of Two answer)

-- one more frame, by how its run ended; of one that was passed over there is no end
abbrev pub with_end : Version → Totals → Option End → Totals
with_end v c None = record c { skipped = one_more c.skipped }
with_end v c (Some (Exit answer steps)) = with_exit v c answer
with_end v c (Some (Trap reason steps)) = record c { traps = with_trap c.traps reason }
with_end v c (Some Limit) = record c { limit = one_more c.limit }

-- ---- the frames of a stream

-- how a frame's run ended, if it was run
abbrev pub end_of : Option Turn → Option End
end_of turn = option_map (λ (t : Turn). t.ends) turn

-- what is counted of frames, the maps' contents carried along
abbrev pub totals_after : Version → Rule → Totals → List KeyValues → List PacketFrame → Totals
totals_after v rule c contents [] = c
totals_after v rule c contents (f ∷ frames) =
    let t = turn_on rule contents f in
    totals_after v rule (with_end v c (end_of t)) (contents_left contents t) frames

-- what a run over a stream shows of an accepted program, with the counts of the stream's frames
abbrev pub ShowsCounted : Bounded → List KeyValues → Stream → List KeyValues → Counted → Type 0
ShowsCounted a contents found last counted =
    ShowsLast a.program found last counted.traced
    × (totals_of counted.counts
    ≡ totals_after a.program.version (checked_rule a.program a.bound) no_totals contents
    found.frames)

-- the same of a run with checks
abbrev pub ShowsTracedCounted : Program → ℕ → List KeyValues → Stream → Counted → Type 0
ShowsTracedCounted p limit contents found counted =
    ShowsTracedFrom p limit contents found counted.traced
    × (totals_of counted.counts
    ≡ totals_after p.version (checked_rule p limit) no_totals contents found.frames)
