use Rattle.host.proofs.Common.{rules, ◌≡◌, ◌<◌, length, get_or, totals_of, one_more, place_of}
use Rattle.host.proofs.Places.{no_frames, add_met, add_new, add_other}
use Rattle.host.proofs.counts.FrameCounts.add_reason.Goals as goal
use Rattle.host.proofs.counts.FrameCounts.add_reason.Goals.{else-place-len-via-then-place-len+else-deref-place, else-place-len-via-else-place-len}

pub returns-then-deref-place : goal.returns-then-deref-place
returns-then-deref-place c =
    let rs = c.args.self.now.reasons.items in
    let place : c.place_of-place.result ≡ place_of rs c.args.reason = search rules in
    let inside : c.place_of-place.result < length rs = search rules in
    let is : (get_or rs c.place_of-place.result no_frames).reason ≡ c.args.reason = search rules in
    let frames : c.saturating_add-frames.result
    ≡ one_more (get_or rs c.place_of-place.result no_frames).frames = search rules in
    add_met (totals_of c.args.self.now) c.args.reason c.place_of-place.result place _ _
    c.deref_mut.ensures.value inside is frames

pub returns-then-len-lt-MOST_REASONS : goal.returns-then-len-lt-MOST_REASONS
returns-then-len-lt-MOST_REASONS c =
    let rs = c.args.self.now.reasons.items in
    let place : c.place_of-place.result ≡ place_of rs c.args.reason = search rules in
    let other : c.place_of-place.result < length rs
    → (get_or rs c.place_of-place.result no_frames).reason ≡ c.args.reason → ⊥ =
    elim c.else-place-len.branch [
      | else-place-len-via-then-place-len+else-deref-place w ↦ λ h is. search rules
      | else-place-len-via-else-place-len w ↦ λ h is. search rules
    ] in
    add_new (totals_of c.args.self.now) c.args.reason c.place_of-place.result place other _
    (search rules) c.insert.ensures.items

pub returns-else-len-lt-MOST_REASONS : goal.returns-else-len-lt-MOST_REASONS
returns-else-len-lt-MOST_REASONS c =
    let rs = c.args.self.now.reasons.items in
    let place : c.place_of-place.result ≡ place_of rs c.args.reason = search rules in
    let other : c.place_of-place.result < length rs
    → (get_or rs c.place_of-place.result no_frames).reason ≡ c.args.reason → ⊥ =
    elim c.else-place-len.branch [
      | else-place-len-via-then-place-len+else-deref-place w ↦ λ h is. search rules
      | else-place-len-via-else-place-len w ↦ λ h is. search rules
    ] in
    add_other (totals_of c.args.self.now) c.args.reason c.place_of-place.result place other _
    (search rules) c.saturating_add-self.ensures
