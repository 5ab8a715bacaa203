use Rattle.std.proofs.Common.{rules}
use Rattle.words.proofs.Words.{limit_of-read, limit_of-unread}
use Rattle.words.proofs.asked.limit_of.Goals as goal

pub returns-in-Ok : goal.returns-in-Ok
returns-in-Ok c =
    limit_of-read c.args.text.now c.in-Ok.steps (search rules)
    (search rules) c.in-Ok.ensures.value.0.1 (search rules) (search rules)

pub returns-in_default-3 : goal.returns-in_default-3
returns-in_default-3 c =
    limit_of-unread c.args.text.now (search rules) (search rules) c.in_default.ensures.value.0
