use Rattle.map_texts.proofs.Common.{arith, ◌≡◌, ◌+◌, ◌-◌, ◌≤◌, ℕ, List, ◌++◌, take, length, length-take, append-nil, le_refl, ap, ◌∙◌, subst, Consumes, Consumes-trans, MapDef, rows_of, contents_of, after_line, StopsFilling, ArePending}
use Rattle.std.proofs.lemmas.Slice.{take-put_mid_below}
use borrow.Rule.Slice.PartMut.{put_mid}
use Rattle.map_texts.proofs.Finishing.{read_on, at_end, at_error, at_refusal}
use Rattle.map_texts.proofs.filling.fill_maps.Goals as goal

pub returns-then-count-eq0 : goal.returns-then-count-eq0
returns-then-count-eq0 g c =
    let inv = c.loop-reads.invariant in
    let old = c.args.maps.now in
    let rows = rows_of old in
    let held = contents_of c.loop-reads.maps in
    let len = c.loop-reads.pending.len in
    let number = c.loop-reads.pending.number in
    let buffer = c.loop-reads.buffer in
    let source = g.R.Read.remaining c.args.source.now in
    let now = g.R.Read.remaining c.read.new.self in
    let most = inv.len in
    let within : len ≤ length buffer = omega arith in
    let nothing : inv.read ++ take c.in-Ok.count c.read.new.buf ≡ inv.read =
    ap (λ (n : ℕ). inv.read ++ take n c.read.new.buf) c.if-count-eq0.true
    ∙ append-nil inv.read in
    let line = take len (put_mid len (16384 - len) buffer c.read.new.buf) in
    let front : line ≡ take len buffer = take-put_mid_below len (16384 - len) buffer c.read.new.buf len
    (le_refl len) within in
    at_end source now inv.read
    (subst (Consumes source now) nothing
    (Consumes-trans _ _ _ inv.read _ inv.consumed c.in-Ok.ensures.bytes.0))
    old c.loop-reads.maps number (take len buffer) inv.rows inv.is_pending inv.goes_on
    c.take_line.new.maps c.take_line.result
    (c.in-Ok.ensures.bytes.1 c.if-count-eq0.true (omega arith))
    (c.take_line.ensures.rows ∙ inv.rows)
    (c.take_line.ensures.filled
    ∙ ap (λ (r : List MapDef). after_line r number held line) inv.rows
    ∙ ap (after_line rows number held) front)

pub returns-in-Err-take_bytes : goal.returns-in-Err-take_bytes
returns-in-Err-take_bytes g c =
    let inv = c.loop-reads.invariant in
    let old = c.args.maps.now in
    let rows = rows_of old in
    let held = contents_of c.loop-reads.maps in
    let len = c.loop-reads.pending.len in
    let number = c.loop-reads.pending.number in
    let count = c.in-Ok.count in
    let buffer = c.loop-reads.buffer in
    let chunk = take count c.read.new.buf in
    let most = inv.len in
    let within : len ≤ length buffer = omega arith in
    let bytes = take (len + count) (put_mid len (16384 - len) buffer c.read.new.buf) in
    at_refusal (g.R.Read.remaining c.args.source.now) (g.R.Read.remaining c.read.new.self)
    (inv.read ++ chunk)
    (Consumes-trans _ _ _ inv.read _ inv.consumed c.in-Ok.ensures.bytes.0)
    old c.loop-reads.maps c.take_bytes.new.maps number bytes c.in-Err-take_bytes.error
    (c.in-Err-take_bytes.ensures.rows ∙ inv.rows)
    (read_on rows 1 number (contents_of old) held inv.read buffer c.read.new.buf len (16384 - len)
    count within c.in-Ok.ensures.bound.0 inv.goes_on)
    (subst (λ (r : List MapDef). StopsFilling r number held bytes
    (contents_of c.take_bytes.new.maps) c.in-Err-take_bytes.error) inv.rows c.in-Err-take_bytes.ensures.taken)

pub returns-in-Err : goal.returns-in-Err
returns-in-Err g c =
    let inv = c.loop-reads.invariant in
    at_error (g.R.Read.remaining c.args.source.now) (g.R.Read.remaining c.loop-reads.source)
    inv.read inv.consumed c.args.maps.now c.loop-reads.maps c.loop-reads.pending.number
    (take c.loop-reads.pending.len c.loop-reads.buffer) inv.rows inv.is_pending inv.goes_on
    c.at.result c.at.ensures

pub returns : goal.returns
returns g c =
    let inv = c.loop-reads.invariant in
    at_error (g.R.Read.remaining c.args.source.now) (g.R.Read.remaining c.loop-reads.source)
    inv.read inv.consumed c.args.maps.now c.loop-reads.maps c.loop-reads.pending.number
    (take c.loop-reads.pending.len c.loop-reads.buffer) inv.rows inv.is_pending inv.goes_on
    c.at-2.result c.at-2.ensures

pub loop-reads-preserved : goal.loop-reads-preserved
loop-reads-preserved g c =
    let inv = c.loop-reads.invariant in
    let old = c.args.maps.now in
    let rows = rows_of old in
    let held = contents_of c.loop-reads.maps in
    let len = c.loop-reads.pending.len in
    let number = c.loop-reads.pending.number in
    let count = c.in-Ok.count in
    let buffer = c.loop-reads.buffer in
    let chunk = take count c.read.new.buf in
    let most = inv.len in
    let within : len ≤ length buffer = omega arith in
    let fits : count ≤ length c.read.new.buf = c.in-Ok.ensures.bound.0 in
    let bytes = take (len + count) (put_mid len (16384 - len) buffer c.read.new.buf) in
    let state =
    subst (λ (r : List MapDef). ArePending r number held (contents_of c.take_bytes.new.maps) bytes
    c.take_bytes.new.buffer c.in-Ok-take_bytes.next) inv.rows c.in-Ok-take_bytes.ensures.taken in
    let step = state.goes_on in
    let before =
    read_on rows 1 number (contents_of old) held inv.read buffer c.read.new.buf len (16384 - len)
    count within fits inv.goes_on in
    let size = length-take (len + count) (put_mid len (16384 - len) buffer c.read.new.buf) in
    let few = state.few in
    record {
      rows = c.in-Ok-take_bytes.ensures.rows ∙ inv.rows;
      len = state.len;
      few = let before_few = inv.few in omega arith;
      is_pending = state.is_pending;
      read = inv.read ++ chunk;
      consumed = Consumes-trans _ _ _ inv.read _ inv.consumed c.in-Ok.ensures.bytes.0;
      goes_on = λ ending more. before ending more ∙ step ending more;
    }
