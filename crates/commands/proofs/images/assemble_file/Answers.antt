use Rattle.std.proofs.Common.{refl}
use Rattle.commands.proofs.FilesLaws.{text_refused, text_stored, text_unread}
use Rattle.commands.proofs.images.assemble_file.Goals as goal

pub returns-in-Err : goal.returns-in-Err
returns-in-Err g c =
    text_unread _ _ _ _ _ _ refl c.of_read.ensures.failed c.plain.ensures.outcome
    c.plain.ensures.why

pub returns-in-Ok-assembled : goal.returns-in-Ok-assembled
returns-in-Ok-assembled g c =
    text_stored _ _ c.in-Ok.text c.in-Ok-assembled.image _ _ _ _ _ c.in-Ok-assembled.ensures.ok
    c.in-Ok-assembled.ensures.found c.store_made.ensures c.plain-in-Ok-assembled.ensures.outcome
    c.plain-in-Ok-assembled.ensures.why

pub returns : goal.returns
returns g c = text_refused _ _ c.in-Ok.text _ _ _ c.in-Err-assembled.ensures.refused
