use Rattle.assembler.proofs.Common.{◌≡◌, ◌≤◌, length, map, slice_get, slice_index_or, sym, ◌∙◌, rules, [], Some, slice_get_past, slice_get_read, label_of, slot_in, Use}
use Rattle.assembler.proofs.NameUses.{use_missing, use_refused, use_aimed}
use Rattle.assembler.proofs.names.resolve.Goals as goal

abbrev some_use : Use
some_use = record { index = 0; slot = 0; name = record { ref_ptr = (0, 0); now = [] }; offset = 0 }

pub returns-in_default : goal.returns-in_default
returns-in_default c =
    let past : length c.loop-used.insns.items
    ≤ (slice_index_or c.args.uses.now c.loop-used.used-index some_use).index = search rules in
    c.loop-used.invariant
    ∙ use_missing
    (slot_in (map label_of c.args.labels.now.entries)) c.args.uses.now c.loop-used.insns.items
    c.loop-used.used-index some_use c.loop-used-test.true
    (slice_get_past c.loop-used.insns.items
    (slice_index_or c.args.uses.now c.loop-used.used-index some_use).index past)

pub returns-in-Err : goal.returns-in-Err
returns-in-Err c =
    let there : slice_get c.loop-used.insns.items
    (slice_index_or c.args.uses.now c.loop-used.used-index some_use).index
    ≡ Some c.in-Some.insn.now = search (rules, slice_get_read) in
    c.loop-used.invariant
    ∙ use_refused
    (slot_in (map label_of c.args.labels.now.entries)) c.args.uses.now c.loop-used.insns.items
    c.loop-used.used-index some_use c.in-Some.insn.now c.in-Err.kind c.loop-used-test.true there
    (sym c.in-Err.ensures)

pub loop-used-preserved : goal.loop-used-preserved
loop-used-preserved c =
    let there : slice_get c.loop-used.insns.items
    (slice_index_or c.args.uses.now c.loop-used.used-index some_use).index
    ≡ Some c.in-Some.insn.now = search (rules, slice_get_read) in
    c.loop-used.invariant
    ∙ use_aimed (slot_in (map label_of c.args.labels.now.entries)) c.args.uses.now
    c.loop-used.insns.items c.loop-used.used-index some_use c.in-Some.insn.now c.in-Ok.aimed
    c.loop-used-test.true there (sym c.in-Ok.ensures)
