use Rattle.std.proofs.Common.{rules}
use Rattle.maps.proofs.helpers.update_answer_by.Goals as goal

pub returns-then-flags-gt-EXIST : goal.returns-then-flags-gt-EXIST
returns-then-flags-gt-EXIST c = search rules

pub returns-in-Hash : goal.returns-in-Hash
returns-in-Hash c = search rules

pub returns-in_default-2-2 : goal.returns-in_default-2-2
returns-in_default-2-2 c = search rules

pub returns-in_default-2-3 : goal.returns-in_default-2-3
returns-in_default-2-3 c = search rules
