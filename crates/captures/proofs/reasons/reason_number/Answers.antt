use Rattle.std.proofs.Common.{rules}
use Rattle.captures.proofs.ReasonLaws.{digits-text, reason_number-unread}
use Rattle.captures.proofs.reasons.reason_number.Goals as goal

pub returns-in-Err-parse : goal.returns-in-Err-parse
returns-in-Err-parse c =
    reason_number-unread c.args.digits.now (search rules) (search rules) (search rules)
    (rw (c.in-Ok.ensures.cases.0) at c.in-Err-parse.ensures.value.0)

pub returns-in-Err : goal.returns-in-Err
returns-in-Err c =
    absurd (c.in-Err.ensures.cases.0 (digits-text c.args.digits.now (search rules)))
