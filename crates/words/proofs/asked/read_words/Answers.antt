use Rattle.words.proofs.Parsed.{failed-reads, parsed-none, parsed-reads}
use Rattle.words.proofs.asked.read_words.Goals as goal

pub returns-in-Err : goal.returns-in-Err
returns-in-Err c =
    failed-reads _ _ c.in-Err.error _ c.in_ok-program.ensures c.in-Err.ensures.kinds
    c.words_error_of.ensures

pub returns-in-Some : goal.returns-in-Some
returns-in-Some c =
    parsed-reads _ _ c.in-Ok.matches _ _ _ c.in_ok-program.ensures c.in-Ok.ensures.kinds
    c.in-Ok.ensures.matches
    c.in-Some.ensures.name c.in-Some.ensures.rows c.wanted_task.ensures

pub returns : goal.returns
returns c =
    parsed-none _ _ c.in-Ok.matches c.in_ok-program.ensures c.in-Ok.ensures.kinds
    c.in-Ok.ensures.matches c.in-None.ensures.name
