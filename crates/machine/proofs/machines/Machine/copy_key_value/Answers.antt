use Rattle.machine.proofs.Common.{◌∙◌, sym, subst, true, KeyValues, row_at, CopiesKeyValue}
use Rattle.std.specs.List.{slice_get}
use Rattle.maps.specs.Listing.{listed_key_values}
use Rattle.machine.proofs.BetweenRunsLaws.{inside, row_is, ordered_is, sized, found_size, copies}
use Rattle.machine.proofs.machines.Machine.copy_key_value.Goals as goal

pub copy_from_slice-requires-2 : goal.copy_from_slice-requires-2
copy_from_slice-requires-2 c =
    let p = c.self.inside.program in
    let bound = c.self.inside.bound in
    let maps = c.self.inside.memory.maps in
    let rows = c.self.invariant.ready.rows in
    let row = row_at c.args.self.now c.args.map in
    let es = listed_key_values c.order.result in
    let are = sized maps c.say_fits.ensures c.args.map
    (inside p bound maps rows c.args.self.now c.self.view_is c.args.map c.requires.map) row es
    (row_is p bound maps rows c.args.self.now c.self.view_is c.args.map c.requires.map)
    c.order.ensures.pairs in
    c.requires.value_size
    ∙ sym (found_size row es c.args.k c.in-Some.found.now are c.in-Some.ensures.value)

pub returns-clause-copied : goal.returns-clause-copied
returns-clause-copied c =
    let p = c.self.inside.program in
    let bound = c.self.inside.bound in
    let maps = c.self.inside.memory.maps in
    let rows = c.self.invariant.ready.rows in
    let row = row_at c.args.self.now c.args.map in
    let es = listed_key_values c.order.result in
    let are = sized maps c.say_fits.ensures c.args.map
    (inside p bound maps rows c.args.self.now c.self.view_is c.args.map c.requires.map) row es
    (row_is p bound maps rows c.args.self.now c.self.view_is c.args.map c.requires.map)
    c.order.ensures.pairs in
    subst (λ (xs : KeyValues). CopiesKeyValue
    (slice_get xs c.args.k) true c.args.key.now c.copy_from_slice.new.self c.args.value.now
    c.copy_from_slice-2.new.self)
    (c.order.ensures.pairs
    ∙ ordered_is p bound maps rows c.args.self.now c.self.view_is c.args.map c.requires.map)
    (copies row es c.args.k c.in-Some.found.now are c.in-Some.ensures.value c.key_value.new.key _
    c.args.key.now c.copy_from_slice.new.self c.args.value.now c.copy_from_slice-2.new.self
    c.requires.key_size c.in-Some.ensures.key c.copy_from_slice.ensures.after
    c.copy_from_slice-2.ensures.after)
