use Rattle.table_entries.proofs.Common.{◌∙◌, ap, sym, Ok, Bool, err_from_is_err_and, seen}
use Rattle.table_entries.proofs.Seen.{seen-rest, and-named}
use Rattle.table_entries.proofs.passing.pass_rest.Goals as goal

pub returns-in_err-callers-clause-read : goal.returns-in_err-callers-clause-read
returns-in_err-callers-clause-read c =
    let p = err_from_is_err_and c.from_residual.result c.from_residual.ensures.1 in
    rw (
      p.1,
      p.2,
      seen-rest c.args.image.now c.args.number c.args.slot c.args.caller_count
          c.args.bytes.now,
      ← c.maps-rows.ensures,
      c.in_err-callers.ensures.read,
    )

pub returns-in_err-innermost-clause-read : goal.returns-in_err-innermost-clause-read
returns-in_err-innermost-clause-read c =
    let p =
    err_from_is_err_and c.from_residual-in_err-innermost.result
    c.from_residual-in_err-innermost.ensures.1 in
    rw (
      p.1,
      p.2,
      seen-rest c.args.image.now c.args.number c.args.slot c.args.caller_count c.args.bytes.now,
      ← c.maps-rows.ensures,
      c.in_ok-callers.ensures.read,
      c.in_err-innermost.ensures,
    )

pub returns-in_err-rest-clause-read : goal.returns-in_err-rest-clause-read
returns-in_err-rest-clause-read c =
    let p =
    err_from_is_err_and c.from_residual-in_err-rest.result
    c.from_residual-in_err-rest.ensures.1 in
    rw (
      p.1,
      p.2,
      seen-rest c.args.image.now c.args.number c.args.slot c.args.caller_count c.args.bytes.now,
      ← c.maps-rows.ensures,
      c.in_ok-callers.ensures.read,
      c.in_ok-innermost.ensures,
      c.in_err-rest.ensures,
    )

pub returns-clause-read : goal.returns-clause-read
returns-clause-read c =
    let named = ap seen c.in_ok-rest.ensures in
    seen-rest c.args.image.now c.args.number c.args.slot c.args.caller_count c.args.bytes.now
    ∙ rw (
      ← c.maps-rows.ensures,
      c.in_ok-callers.ensures.read,
      c.in_ok-innermost.ensures,
      named,
      c.both-2.ensures,
      c.both.ensures,
      c.head_allowed-fits.ensures,
    )
    (ap (λ (b : Bool). Ok (b, c.in_ok-rest.rest.now)) (sym (and-named _)))
