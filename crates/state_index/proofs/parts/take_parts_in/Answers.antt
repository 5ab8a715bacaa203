use Rattle.state_index.proofs.PartLaws.{kept_parts}
use Rattle.state_index.proofs.parts.take_parts_in.Goals as goal

pub returns : goal.returns
returns c =
    let registers = c.in_ok-push_registers.ensures in
    let slots = c.in_ok-push_slots.ensures in
    let same = c.slots.ensures in
    record {
      all =
          kept_parts c.args.frame.now c.clear.new.self.items c.push_registers.new.parts.items
          c.push_slots.new.parts.items c.clear.ensures.items registers.pushed
          (rw (← same) slots.pushed);
      ten = registers.ten;
      wide = rw (← same) slots.wide;
    }
