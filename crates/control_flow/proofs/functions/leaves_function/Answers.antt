use Rattle.control_flow.proofs.Common.{◌<◌, ◌≤◌, length, sym, arith, get_or, not, nat_eq, SameFunction}
use Rattle.isa_model.specs.Code.Limits.{max_slots}
use Rattle.control_flow.proofs.TargetTests.{from_some, jump-inside}
use Rattle.control_flow.proofs.FunctionsLaws.{differ}
use Rattle.control_flow.proofs.functions.leaves_function.Goals as goal

pub offset_bounds-functions-to : goal.offset_bounds-functions-to
offset_bounds-functions-to c =
    let inside : c.in-Some.to < length c.args.image.now.insns =
    jump-inside c.args.image.now c.requires.targets c.args.slot c.in-Some.to
    (sym c.in-Some.ensures) in
    let few : length c.args.image.now.insns ≤ max_slots = c.recall.ensures.few_slots in
    omega arith

pub bounds-functions-to : goal.bounds-functions-to
bounds-functions-to c =
    let inside : c.in-Some.to < length c.args.image.now.insns =
    jump-inside c.args.image.now c.requires.targets c.args.slot c.in-Some.to
    (sym c.in-Some.ensures) in
    omega (arith, c.requires.functions.same)

pub returns-in-Some : goal.returns-in-Some
returns-in-Some c =
    let p = c.args.image.now in
    let inside : c.in-Some.to < length p.insns =
    jump-inside p c.requires.targets c.args.slot c.in-Some.to (sym c.in-Some.ensures) in
    let f = get_or c.args.functions.now c.args.slot 0 in
    let g = get_or c.args.functions.now c.in-Some.to 0 in
    from_some (λ to. ¬ SameFunction p c.args.slot to)
    (not (nat_eq f g)) c.in-Some.to _ c.in-Some.ensures
    (differ p c.args.slot c.in-Some.to f g (c.requires.functions.each c.args.slot c.requires.inside)
    (c.requires.functions.each c.in-Some.to inside))
