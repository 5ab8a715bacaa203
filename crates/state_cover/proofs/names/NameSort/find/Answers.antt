use Rattle.state_cover.proofs.Common.{◌∙◌, sym, is_named}
use Rattle.state_cover.proofs.Places.{find-places_push}
use Rattle.state_cover.proofs.names.NameSort.find.Goals as goal

pub returns-in-Some : goal.returns-in-Some
returns-in-Some c =
    let a = c.args.a.now in
    let b = c.args.b.now in
    let split = find-places_push
    (λ place. is_named c.args.self c.args.identity place.0) a.callers.items b.callers.items
    a.innermost b.innermost c.requires in
    let found = rw (c.as_slice-left.ensures.value, c.as_slice-right.ensures.value) at
    c.in-Some.ensures in
    sym (rw (← found) at split)

pub returns : goal.returns
returns c =
    let a = c.args.a.now in
    let b = c.args.b.now in
    let split = find-places_push
    (λ place. is_named c.args.self c.args.identity place.0) a.callers.items b.callers.items
    a.innermost b.innermost c.requires in
    let none = rw (c.as_slice-left.ensures.value, c.as_slice-right.ensures.value) at
    c.in_default.ensures in
    c.find_in_frame.ensures ∙ sym (rw (← none) at split)
