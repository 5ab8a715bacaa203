use Rattle.explanations.proofs.Common.{◌∙◌, [], ap, sym, entry_at, list_of}
use Rattle.explanations.proofs.EntryLaws.{tells_counts, tells_first, tells_second}
use Rattle.explanations.proofs.entries.successor_lines.Goals as goal

pub returns-then-successors-count : goal.returns-then-successors-count
returns-then-successors-count c =
    tells_counts (entry_at c.args.image.now c.args.table.now) c.args.head.number
    (list_of c.args.head.named) c.args.ways c.args.state.now c.args.other.now
    c.count_line.result
    c.ways_in-successors.result c.named_in-count.result c.ways_in-successors.ensures
    c.named_in-count.ensures c.if-successors-count.true c.count_line.ensures

pub returns-in-One : goal.returns-in-One
returns-in-One c =
    tells_first (entry_at c.args.image.now c.args.table.now) c.args.head.number c.in-One.first
    (list_of c.args.head.named)
    [] c.args.ways c.args.state.now c.args.other.now c.named_lines.result
    (ap list_of c.in-One.is)
    (sym c.ways_in-successors.ensures
    ∙ (c.if-successors-count.false ∙ c.named_in-count.ensures)) c.named_lines.ensures

pub returns-in-None-named_lines : goal.returns-in-None-named_lines
returns-in-None-named_lines c =
    tells_second (entry_at c.args.image.now c.args.table.now) c.args.head.number c.in-Two.first
    c.in-Two.second
    (list_of c.args.head.named) c.args.ways c.args.state.now c.args.other.now
    c.named_lines-in-None-named_lines.result
    (ap list_of c.in-Two.is)
    (sym c.ways_in-successors.ensures
    ∙ (c.if-successors-count.false ∙ c.named_in-count.ensures))
    c.named_lines-in-None-named_lines.ensures
