use Rattle.captures.proofs.Common.{◌≡◌, max, arith, ap, sym, ◌∙◌, length-take-le, head_size}
use Rattle.captures.proofs.Collection.{Collects-then}
use Rattle.captures.proofs.GatheringLaws.{was_whole, was_ended, was_failed, gathered_none, gathered_some, gathered_bad, gathered_part, gathered_whole, gathered_unread, head_read, headless_part, still_says}
use Rattle.captures.proofs.CapturedLaws.{record_size-most}
use Rattle.captures.proofs.gathering.gather.Goals as goal

pub returns-then-count-eq0-clause-gathered : goal.returns-then-count-eq0-clause-gathered
returns-then-count-eq0-clause-gathered g c =
    let how = was_ended _ c.args.count _ _ _ c.collect-collected.ensures.count c.in-Ended.is in
    λ interfaces. gathered_none c.args.format interfaces c.args.offset _
    c.collect-collected.result.1 c.collect-collected.new.buffer c.if-count-eq0.true how.2

pub returns-else-count-eq0-clause-gathered : goal.returns-else-count-eq0-clause-gathered
returns-else-count-eq0-clause-gathered g c =
    let how = was_ended _ c.args.count _ _ _ c.collect-collected.ensures.count c.in-Ended.is in
    let head = c.head_size.ensures.size in
    λ interfaces. gathered_some c.args.format interfaces c.args.offset _
    c.collect-collected.result.1 c.collect-collected.new.buffer (omega arith)
    (omega (arith, how.1, head)) c.collect-collected.ensures.inside how.2

pub returns-in-Failed-clause-gathered : goal.returns-in-Failed-clause-gathered
returns-in-Failed-clause-gathered g c =
    let how = was_failed _ c.args.count _ _ _ c.collect-collected.ensures.count c.in-Failed.is in
    let head = c.head_size.ensures.size in
    λ interfaces. headless_part c.args.format c.collect-collected.result.1
    c.collect-collected.new.buffer c.collect-collected.ensures.inside (omega (arith, how.1, head))

pub returns-in-Err-clause-gathered : goal.returns-in-Err-clause-gathered
returns-in-Err-clause-gathered g c =
    let how = was_whole _ c.args.count _ _ _ c.collect-collected.ensures.count c.in-Whole.is in
    let head = c.head_size.ensures.size in
    λ interfaces. gathered_bad c.args.format interfaces c.args.offset _ c.collect-collected.result.1
    c.collect-collected.new.buffer c.in-Err.fault (omega (arith, how, head))
    c.collect-collected.ensures.inside (sym c.record_size.ensures ∙ c.in-Err.is)

pub collect-collected-requires-2-clause-room : goal.collect-collected-requires-2-clause-room
collect-collected-requires-2-clause-room g c =
    let most =
    record_size-most c.args.format c.collect-collected.new.buffer c.in-Ok.size
    (sym c.record_size.ensures ∙ c.in-Ok.is) in
    let room = c.requires.room in
    let long = c.collect-collected.auto.buffer in
    omega (arith, most, room, long)

pub returns-in-Whole-collected-clause-gathered : goal.returns-in-Whole-collected-clause-gathered
returns-in-Whole-collected-clause-gathered g c =
    let how = was_whole _ c.args.count _ _ _ c.collect-collected.ensures.count c.in-Whole.is in
    let first : c.collect-collected.result.1 ≡ max c.args.count (head_size c.args.format) =
    how ∙ ap (max c.args.count) c.head_size.ensures.size in
    let last = was_whole _ c.collect-collected.result.1 _ _ _
    c.collect-collected-2.ensures.count c.in-Whole-collected.is in
    λ interfaces. gathered_whole c.args.format _ _ _ _ c.collect-collected-2.result.1 c.in-Ok.size
    c.collect-collected-2.new.buffer
    (head_read c.args.format _ _ c.args.count c.collect-collected.result.1 c.in-Ok.size
    c.args.block.now c.collect-collected.new.buffer c.collect-collected.ensures.bytes
    c.requires.inside c.collect-collected.ensures.inside first c.requires.part
    (sym c.record_size.ensures ∙ c.in-Ok.is)) c.collect-collected-2.ensures.bytes
    (length-take-le _ _ c.collect-collected.ensures.inside) c.collect-collected-2.ensures.inside
    last

pub returns-in-Ended-collected-clause-gathered : goal.returns-in-Ended-collected-clause-gathered
returns-in-Ended-collected-clause-gathered g c =
    let how = was_whole _ c.args.count _ _ _ c.collect-collected.ensures.count c.in-Whole.is in
    let first : c.collect-collected.result.1 ≡ max c.args.count (head_size c.args.format) =
    how ∙ ap (max c.args.count) c.head_size.ensures.size in
    let last = was_ended _ c.collect-collected.result.1 _ _ _
    c.collect-collected-2.ensures.count c.in-Ended-collected.is in
    let says =
    still_says c.args.format _ _ _ _ c.in-Ok.size
    (head_read c.args.format _ _ c.args.count c.collect-collected.result.1 c.in-Ok.size
    c.args.block.now c.collect-collected.new.buffer c.collect-collected.ensures.bytes
    c.requires.inside c.collect-collected.ensures.inside first c.requires.part
    (sym c.record_size.ensures ∙ c.in-Ok.is)) c.collect-collected-2.ensures.bytes in
    λ interfaces. gathered_part c.args.format interfaces c.args.offset _
    c.collect-collected-2.result.1 c.in-Ok.size c.collect-collected-2.new.buffer
    (omega (arith, first, last.0)) c.collect-collected-2.ensures.inside says last.1 last.2

pub returns-in-Failed-collected-clause-gathered : goal.returns-in-Failed-collected-clause-gathered
returns-in-Failed-collected-clause-gathered g c =
    let how = was_whole _ c.args.count _ _ _ c.collect-collected.ensures.count c.in-Whole.is in
    let first : c.collect-collected.result.1 ≡ max c.args.count (head_size c.args.format) =
    how ∙ ap (max c.args.count) c.head_size.ensures.size in
    let last = was_failed _ c.collect-collected.result.1 _ _ _
    c.collect-collected-2.ensures.count c.in-Failed-collected.is in
    λ interfaces. gathered_unread c.args.format _ _ _ c.collect-collected-2.result.1 c.in-Ok.size
    c.collect-collected-2.new.buffer
    (head_read c.args.format _ _ c.args.count c.collect-collected.result.1 c.in-Ok.size
    c.args.block.now c.collect-collected.new.buffer c.collect-collected.ensures.bytes
    c.requires.inside c.collect-collected.ensures.inside first c.requires.part
    (sym c.record_size.ensures ∙ c.in-Ok.is)) c.collect-collected-2.ensures.bytes
    c.collect-collected-2.ensures.inside last.1

pub returns-then-count-eq0-clause-bytes : goal.returns-then-count-eq0-clause-bytes
returns-then-count-eq0-clause-bytes g c = c.collect-collected.ensures.bytes

pub returns-then-count-eq0-clause-inside : goal.returns-then-count-eq0-clause-inside
returns-then-count-eq0-clause-inside g c = c.collect-collected.ensures.inside

pub returns-else-count-eq0-clause-bytes : goal.returns-else-count-eq0-clause-bytes
returns-else-count-eq0-clause-bytes g c = c.collect-collected.ensures.bytes

pub returns-else-count-eq0-clause-inside : goal.returns-else-count-eq0-clause-inside
returns-else-count-eq0-clause-inside g c = c.collect-collected.ensures.inside

pub returns-in-Failed-clause-bytes : goal.returns-in-Failed-clause-bytes
returns-in-Failed-clause-bytes g c = c.collect-collected.ensures.bytes

pub returns-in-Failed-clause-inside : goal.returns-in-Failed-clause-inside
returns-in-Failed-clause-inside g c = c.collect-collected.ensures.inside

pub returns-in-Err-clause-bytes : goal.returns-in-Err-clause-bytes
returns-in-Err-clause-bytes g c = c.collect-collected.ensures.bytes

pub returns-in-Err-clause-inside : goal.returns-in-Err-clause-inside
returns-in-Err-clause-inside g c = c.collect-collected.ensures.inside

pub returns-in-Whole-collected-clause-bytes : goal.returns-in-Whole-collected-clause-bytes
returns-in-Whole-collected-clause-bytes g c =
    Collects-then c.collect-collected.ensures.bytes c.collect-collected-2.ensures.bytes

pub returns-in-Whole-collected-clause-inside : goal.returns-in-Whole-collected-clause-inside
returns-in-Whole-collected-clause-inside g c = c.collect-collected-2.ensures.inside

pub returns-in-Ended-collected-clause-bytes : goal.returns-in-Ended-collected-clause-bytes
returns-in-Ended-collected-clause-bytes g c =
    Collects-then c.collect-collected.ensures.bytes c.collect-collected-2.ensures.bytes

pub returns-in-Ended-collected-clause-inside : goal.returns-in-Ended-collected-clause-inside
returns-in-Ended-collected-clause-inside g c = c.collect-collected-2.ensures.inside

pub returns-in-Failed-collected-clause-bytes : goal.returns-in-Failed-collected-clause-bytes
returns-in-Failed-collected-clause-bytes g c =
    Collects-then c.collect-collected.ensures.bytes c.collect-collected-2.ensures.bytes

pub returns-in-Failed-collected-clause-inside : goal.returns-in-Failed-collected-clause-inside
returns-in-Failed-collected-clause-inside g c = c.collect-collected-2.ensures.inside
