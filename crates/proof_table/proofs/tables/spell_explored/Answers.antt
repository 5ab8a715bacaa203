use Rattle.std.proofs.Common.{refl}
use Rattle.proof_table.proofs.WritingLaws.{SpellsEntry-said}
use Rattle.proof_table.proofs.tables.spell_explored.Goals as goal

pub returns-in-Ok-clause-ok : goal.returns-in-Ok-clause-ok
returns-in-Ok-clause-ok c =
    SpellsEntry-said c.args.image.now c.args.insn.now.number c.args.insn.now.state
    c.restore.new.state c.args.insn.now.successors.items c.deref.result.now
    c.deref-2.result.now
    c.clear.new.self.items c.spell_entry.new.buffer.items c.restore.ensures c.deref.ensures.0
    c.deref-2.ensures.0
    (c.if-not-entry_fits.ensures.0 refl) c.clear.ensures.items c.in-Ok.ensures
