use Rattle.std.proofs.Common.{arith, rules, refl}
use Rattle.frames.proofs.Findings.{whole_head, record_many, record_end, record_failed, record_cut, record_long, body_cut, body_failed, record_whole, can_be_whole, can_end, can_fail, can_be_many, can_be_cut, can_be_long, can_lack_body}
use Rattle.frames.proofs.reader.read_record.Goals as goal

pub returns-in-Whole-clause-bytes : goal.returns-in-Whole-clause-bytes
returns-in-Whole-clause-bytes g c =
    record_many _ _ _ _ _ _ (search rules) (search rules) c.in-Whole.ensures.fills

pub returns-in-Ended-clause-bytes : goal.returns-in-Ended-clause-bytes
returns-in-Ended-clause-bytes g c =
    record_end _ _ _ _ _ _ _
    (search (rules, c.in-Ended.ensures.fills.0)) c.in-Ended.ensures.fills.1
    c.in-Ended.ensures.fills.2

pub returns-in-Failed-clause-bytes : goal.returns-in-Failed-clause-bytes
returns-in-Failed-clause-bytes g c =
    record_failed _ _ _ _ _ _ _ (λ _. search (rules, c.in-Failed.ensures.fills.0))
    (search rules) c.in-Failed.ensures.fills.0 c.in-Failed.ensures.fills.1

pub returns-in-Ended-eq0-clause-bytes : goal.returns-in-Ended-eq0-clause-bytes
returns-in-Ended-eq0-clause-bytes g c =
    record_end _ _ _ _ _ _ _ c.in-Ended-eq0.field-0-test c.in-Ended-eq0.ensures.fills.1
    c.in-Ended-eq0.ensures.fills.2

pub returns-in-Ended-fill_head-clause-bytes : goal.returns-in-Ended-fill_head-clause-bytes
returns-in-Ended-fill_head-clause-bytes g c =
    record_cut _ _ _ _ _ _ _ (search rules) (search rules)
    (whole_head _ _ _ _ c.fill_head.auto.head c.head_size.ensures.size
    c.head_size.ensures.short refl) c.in-Ended-fill_head.ensures.fills.0
    c.in-Ended-fill_head.ensures.fills.1 c.in-Ended-fill_head.ensures.fills.2

pub returns-in-Failed-fill_head-clause-bytes : goal.returns-in-Failed-fill_head-clause-bytes
returns-in-Failed-fill_head-clause-bytes g c =
    record_failed _ _ _ _ _ _ _ (λ last. search rules)
    (search rules) c.in-Failed-fill_head.ensures.fills.0 c.in-Failed-fill_head.ensures.fills.1

pub returns-then-length-max_body-clause-bytes : goal.returns-then-length-max_body-clause-bytes
returns-then-length-max_body-clause-bytes g c =
    record_long _ _ _ _ _ _ (search rules)
    (whole_head _ _ _ _ c.fill_head.auto.head c.head_size.ensures.size
    c.head_size.ensures.short refl)
    (omega (arith, c.max_body.ensures.most, c.decode_head-length.ensures.field))
    c.in-Whole-fill_head.ensures.fills

pub returns-in-Whole-fill_at_once-clause-bytes : goal.returns-in-Whole-fill_at_once-clause-bytes
returns-in-Whole-fill_at_once-clause-bytes g c =
    record_whole _ _ _ _ _ _ _ _ _ _ _ _ c.decode_head-length.ensures.spelled
    (search rules) c.in-Whole-fill_head.ensures.fills c.in-Whole-fill_at_once.ensures.fills

pub returns-in-Ended-fill_at_once-clause-bytes : goal.returns-in-Ended-fill_at_once-clause-bytes
returns-in-Ended-fill_at_once-clause-bytes g c =
    body_cut _ _ _ _ _ _ _ _ _ (search rules)
    (whole_head _ _ _ _ c.fill_head.auto.head c.head_size.ensures.size
    c.head_size.ensures.short refl)
    (omega (arith, c.max_body.ensures.most, c.decode_head-length.ensures.field))
    (search rules) c.in-Ended-fill_at_once.ensures.fills.0 c.in-Whole-fill_head.ensures.fills
    c.in-Ended-fill_at_once.ensures.fills.1 c.in-Ended-fill_at_once.ensures.fills.2

pub returns-in-Failed-fill_at_once-clause-bytes
    : goal.returns-in-Failed-fill_at_once-clause-bytes
returns-in-Failed-fill_at_once-clause-bytes g c =
    body_failed _ _ _ _ _ _ _ _ _ (search rules)
    (whole_head _ _ _ _ c.fill_head.auto.head c.head_size.ensures.size
    c.head_size.ensures.short refl)
    (omega (arith, c.max_body.ensures.most, c.decode_head-length.ensures.field))
    (search rules) c.in-Failed-fill_at_once.ensures.fills.0 c.in-Whole-fill_head.ensures.fills
    c.in-Failed-fill_at_once.ensures.fills.1

pub returns-in-Whole-clause-room : goal.returns-in-Whole-clause-room
returns-in-Whole-clause-room g c = can_be_many _ _ _ _ (search rules)

pub returns-in-Ended-clause-room : goal.returns-in-Ended-clause-room
returns-in-Ended-clause-room g c = can_end _ _ _ _

pub returns-in-Failed-clause-room : goal.returns-in-Failed-clause-room
returns-in-Failed-clause-room g c = can_fail _ _ _ _ (c.in-Failed.ensures.fails tt)

pub returns-in-Ended-eq0-clause-room : goal.returns-in-Ended-eq0-clause-room
returns-in-Ended-eq0-clause-room g c = can_end _ _ _ _

pub returns-in-Ended-fill_head-clause-room : goal.returns-in-Ended-fill_head-clause-room
returns-in-Ended-fill_head-clause-room g c = can_be_cut _ _ _ _ (search rules)

pub returns-in-Failed-fill_head-clause-room : goal.returns-in-Failed-fill_head-clause-room
returns-in-Failed-fill_head-clause-room g c =
    can_fail _ _ _ _ (c.in-Failed-fill_head.ensures.fails tt)

pub returns-then-length-max_body-clause-room : goal.returns-then-length-max_body-clause-room
returns-then-length-max_body-clause-room g c =
    can_be_long _ _ _ _ c.fill_head.new.head (search rules)
    (whole_head _ _ _ _ c.fill_head.auto.head c.head_size.ensures.size
    c.head_size.ensures.short refl)
    (omega (arith, c.max_body.ensures.most, c.decode_head-length.ensures.field))

pub returns-in-Whole-fill_at_once-clause-room : goal.returns-in-Whole-fill_at_once-clause-room
returns-in-Whole-fill_at_once-clause-room g c =
    can_be_whole _ _ _ _ _ _ _ (omega arith) (search rules)
    (omega (arith, c.max_body.ensures.most)) c.in_range.ensures (search rules) (search rules)
    (search rules) c.decode_head-length.ensures.reason

pub returns-in-Ended-fill_at_once-clause-room : goal.returns-in-Ended-fill_at_once-clause-room
returns-in-Ended-fill_at_once-clause-room g c =
    can_lack_body _ _ _ _ c.fill_head.new.head _ _ (search rules)
    (whole_head _ _ _ _ c.fill_head.auto.head c.head_size.ensures.size
    c.head_size.ensures.short refl)
    (omega (arith, c.max_body.ensures.most, c.decode_head-length.ensures.field))
    (search rules) c.in-Ended-fill_at_once.ensures.fills.0

pub returns-in-Failed-fill_at_once-clause-room : goal.returns-in-Failed-fill_at_once-clause-room
returns-in-Failed-fill_at_once-clause-room g c =
    can_fail _ _ _ _ (c.in-Failed-fill_at_once.ensures.fails tt)
