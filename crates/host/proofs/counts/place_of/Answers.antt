use Rattle.host.proofs.Common.{rules, ◌<◌, ◌≤◌, length, get_or, sym, arith, lt-ltb, le-ltb, place_of}
use Rattle.host.proofs.Places.{no_frames, passes, stops, within}
use Rattle.host.proofs.counts.place_of.Goals as goal

pub returns-then-reasons-place-clause-place : goal.returns-then-reasons-place-clause-place
returns-then-reasons-place-clause-place c =
    let rs = c.args.reasons.now in
    let inside : c.loop-place.place < length rs = search rules in
    let large : c.args.reason ≤ (get_or rs c.loop-place.place no_frames).reason = search rules in
    sym (stops no_frames c.args.reason rs c.loop-place.place inside c.loop-place.invariant
    (le-ltb _ _ large))

pub loop-place-preserved : goal.loop-place-preserved
loop-place-preserved c =
    let rs = c.args.reasons.now in
    let inside : c.loop-place.place < length rs = search rules in
    let small : (get_or rs c.loop-place.place no_frames).reason < c.args.reason = search rules in
    let past = passes no_frames c.args.reason rs c.loop-place.place inside c.loop-place.invariant
    (lt-ltb _ _ small) in
    omega (arith, past)

pub returns-clause-place : goal.returns-clause-place
returns-clause-place c =
    let rs = c.args.reasons.now in
    let most = within no_frames c.args.reason rs in
    let all : length rs ≤ c.loop-place.place = search rules in
    let least : c.loop-place.place ≤ place_of rs c.args.reason = c.loop-place.invariant in
    omega (arith, most, all, least)
