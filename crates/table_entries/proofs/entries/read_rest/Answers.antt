use Rattle.table_entries.proofs.Common.{err_from_is_err_and, State}
use Rattle.table_entries.proofs.Parts.{rest_in-read}
use Rattle.table_entries.proofs.entries.read_rest.Goals as goal

pub returns-in_err-callers : goal.returns-in_err-callers
returns-in_err-callers c =
    let p = err_from_is_err_and c.from_residual.result c.from_residual.ensures.1 in
    rw (p.1, p.2, ← c.maps-rows.ensures, c.in_err-callers.ensures)

pub returns-in_err-innermost : goal.returns-in_err-innermost
returns-in_err-innermost c =
    let p =
    err_from_is_err_and c.from_residual-in_err-innermost.result
    c.from_residual-in_err-innermost.ensures.1 in
    rw (p.1, p.2, ← c.maps-rows.ensures, c.in_ok-callers.ensures, c.in_err-innermost.ensures)

pub returns-in_err-named : goal.returns-in_err-named
returns-in_err-named c =
    let p =
    err_from_is_err_and c.from_residual-in_err-named.result
    c.from_residual-in_err-named.ensures.1 in
    rw (
      p.1,
      p.2,
      ← c.maps-rows.ensures,
      c.in_ok-callers.ensures,
      c.in_ok-innermost.ensures,
      c.in_err-named.ensures,
    )

pub returns : goal.returns
returns c =
    let a : State =
    record {
      slot = c.args.state.now.slot;
      callers = c.read_callers.new.callers;
      innermost = c.read_frame.new.frame;
    } in
    rw (c.head_if-head.ensures, c.both-2.ensures, c.both.ensures, c.head_allowed-fits.ensures)
    (rest_in-read c.args.image.now c.args.number c.args.caller_count c.args.bytes.now
    c.in_ok-callers.callers a c.in_ok-callers.rest.now
    c.in_ok-innermost.innermost c.in_ok-innermost.rest.now c.in_ok-named.named
    c.in_ok-named.rest.now
    (rw (← c.maps-rows.ensures) c.in_ok-callers.ensures)
    (rw (← c.maps-rows.ensures) c.in_ok-innermost.ensures) c.in_ok-named.ensures)
