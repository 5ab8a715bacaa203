use Rattle.messages.proofs.Common.{◌<◌, length, rules, on_err}
use Rattle.messages.proofs.ShownNames.{next_written, next_broken, next_failed}
use Rattle.messages.proofs.names.write_escaped.Goals as goal

pub shown-init : goal.shown-init
shown-init g c = record {
  written = λ new h. h;
  broken = λ new h. h;
}

pub shown-preserved : goal.shown-preserved
shown-preserved g c =
    let some : 0 < length c.shown.rest.now = search rules in
    record {
      written = λ new h. c.shown.invariant.written new
          (next_written _ _ new _ _ _ _ _ some c.first_of-byte.ensures
          c.without_first-after.ensures.value c.first_of.ensures c.in_ok-write_shown.ensures.ok h);
      broken = λ new h. c.shown.invariant.broken new
          (next_broken _ _ new _ _ _ _ _ some c.first_of-byte.ensures
          c.without_first-after.ensures.value c.first_of.ensures c.in_ok-write_shown.ensures.ok h);
    }

pub returns-in_err-write_shown-clause-err : goal.returns-in_err-write_shown-clause-err
returns-in_err-write_shown-clause-err g c =
    let some : 0 < length c.shown.rest.now = search rules in
    on_err _ _ (c.shown.invariant.broken _
    (next_failed _ _ _ _ _ _ _ some c.first_of-byte.ensures
    c.without_first-after.ensures.value c.first_of.ensures c.in_err-write_shown.ensures.err))
