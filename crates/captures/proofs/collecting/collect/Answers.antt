use Rattle.std.proofs.Common.{arith}
use Rattle.captures.proofs.Collection.{Collects-more, Collects-all}
use Rattle.captures.proofs.collecting.collect.Goals as goal

pub returns-in-Whole-clause-bytes : goal.returns-in-Whole-clause-bytes
returns-in-Whole-clause-bytes g c =
    Collects-all _ _ c.args.count c.args.wanted c.args.buffer.now c.fill.new.buffer
    c.requires.less (omega arith) (omega arith) c.in-Whole.ensures.fills

pub returns-in-Ended-clause-bytes : goal.returns-in-Ended-clause-bytes
returns-in-Ended-clause-bytes g c =
    Collects-more _ _ c.args.count _ c.in-Ended.more c.args.buffer.now c.fill.new.buffer
    c.requires.less (omega (arith, c.in-Ended.ensures.fills.0)) c.in-Ended.ensures.fills.1

pub returns-in-Failed-clause-bytes : goal.returns-in-Failed-clause-bytes
returns-in-Failed-clause-bytes g c =
    Collects-more _ _ c.args.count _ c.in-Failed.more c.args.buffer.now c.fill.new.buffer
    c.requires.less (omega (arith, c.in-Failed.ensures.fills.0)) c.in-Failed.ensures.fills.1
