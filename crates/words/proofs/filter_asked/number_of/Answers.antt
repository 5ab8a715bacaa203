use Rattle.std.proofs.Common.{rules}
use Rattle.words.proofs.Words.{number_of-read, number_of-unread}
use Rattle.words.proofs.filter_asked.number_of.Goals as goal

pub returns-in-Ok : goal.returns-in-Ok
returns-in-Ok c =
    number_of-read c.args.text.now c.in-Ok.number (search rules) (search rules)
    c.in-Ok.ensures.value.0.1 (search rules)

pub returns-in-Err : goal.returns-in-Err
returns-in-Err c =
    number_of-unread c.args.text.now (search rules) (search rules) c.in-Err.ensures.value.0
