use Rattle.std.proofs.Common.{◌∙◌}
use Rattle.machine.proofs.BetweenRunsLaws.{versioned_again}
use Rattle.machine.proofs.TextLaws.{fills}
use Rattle.machine.proofs.machines.Machine.fill.Goals as goal

pub invariant_of-self : goal.invariant_of-self
invariant_of-self c =
    versioned_again c.self.inside.program c.self.inside.bound c.self.inside.version
    c.self.inside.memory c.fill_maps_by-filled.new.maps c.self.invariant
    (c.fill_maps_by-filled.ensures.rows ∙ c.self.invariant.ready.rows) c.say_fits.ensures

pub returns : goal.returns
returns c =
    fills c.self.inside.program c.self.inside.bound c.self.inside.memory.maps
    c.self.invariant.ready.rows c.args.self.now c.self.view_is c.args.text.now
    c.fill_maps_by-filled.new.maps c.fill_maps_by-filled.result
    c.fill_maps_by-filled.ensures.filled
