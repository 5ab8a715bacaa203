use Rattle.words.proofs.FilterParsed.{filter-failed, filter-parsed}
use Rattle.words.proofs.filter_asked.read_filter_words.Goals as goal

pub returns-in-Err : goal.returns-in-Err
returns-in-Err c =
    filter-failed _ c.command_in-command.result.0 _ _ c.in-Err.error _ c.in_ok-line_of.ensures
    c.command_in-command.ensures.command c.command_in-command.ensures.words c.in-Err.ensures.kinds
    c.filter_error_of.ensures.memory c.filter_error_of.ensures.shown

pub returns : goal.returns
returns c =
    filter-parsed _ c.command_in-command.result.0 _ _ c.in-Ok.matches _ c.in_ok-line_of.ensures
    c.command_in-command.ensures.command c.command_in-command.ensures.words c.in-Ok.ensures.kinds
    c.in-Ok.ensures.matches c.task_in.ensures.tells c.task_in.ensures.unshown
