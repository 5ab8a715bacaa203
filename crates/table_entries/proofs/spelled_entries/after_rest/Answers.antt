use Rattle.std.proofs.Common.{◌≡◌, true, sym, ◌∙◌, refl, length}
use Rattle.table_entries.specs.Entries.{head_allowed}
use Rattle.table_entries.proofs.Parts.{rest_in-read}
use Rattle.table_entries.proofs.spelled_entries.after_rest.Goals as goal

pub returns-in-Ok-clause-after : goal.returns-in-Ok-clause-after
returns-in-Ok-clause-after c =
    let p = c.args.image.now in
    let a = c.args.state.now in
    let frames = c.in_ok-rest.ensures.after in
    let allowed : head_allowed p c.args.number a.slot ≡ true =
    sym c.head_allowed.ensures ∙ c.if-not-head_allowed.false in
    rest_in-read p c.args.number
    (length a.callers.items) c.args.bytes.now true a frames.between true
    c.in_ok-rest.rest.now c.in-Ok.named c.in-Ok.after.now frames.outer frames.inner c.in-Ok.ensures
    ∙ rw allowed refl
