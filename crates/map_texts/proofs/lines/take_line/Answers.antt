use Rattle.map_texts.proofs.Common.{◌≡◌, ◌+◌, ◌<◌, ℕ, length, false, Some, sym, ap, ◌∙◌, subst, arith, nat_lt, rows_of, contents_of, MapTextError, LongLine, longest_line, FilledMaps, refused}
use Rattle.map_texts.proofs.LineLaws.{passed_line, plain_line, long_line}
use Rattle.map_texts.proofs.lines.take_line.Goals as goal

pub returns-then-is_passed-clause-filled : goal.returns-then-is_passed-clause-filled
returns-then-is_passed-clause-filled c =
    sym (passed_line (rows_of c.args.maps.now) c.args.number (contents_of c.args.maps.now)
    c.args.line.now (sym c.is_passed.ensures ∙ c.if-is_passed.true))

pub returns-then-line-longest-clause-filled : goal.returns-then-line-longest-clause-filled
returns-then-line-longest-clause-filled c =
    let rows = rows_of c.args.maps.now in
    let held = contents_of c.args.maps.now in
    let long : longest_line rows < length c.args.line.now =
    subst (λ (n : ℕ). n < length c.args.line.now) c.requires.longest (omega arith) in
    ap (λ (e : MapTextError). let f : FilledMaps = record { contents = held; error = Some e } in f)
    c.at.ensures
    ∙ ap (λ (n : ℕ). refused held LongLine c.args.number (n + 1)) c.requires.longest
    ∙ sym (long_line rows c.args.number held c.args.line.now
    (sym c.is_passed.ensures ∙ c.if-is_passed.false) long)

pub returns-clause-filled : goal.returns-clause-filled
returns-clause-filled c =
    let rows = rows_of c.args.maps.now in
    let short : nat_lt (longest_line rows) (length c.args.line.now) ≡ false =
    subst (λ (n : ℕ). nat_lt n (length c.args.line.now) ≡ false) c.requires.longest
    (grind arith) in
    c.take_map_line.ensures.filled
    ∙ sym (plain_line rows c.args.number (contents_of c.args.maps.now) c.args.line.now
    (sym c.is_passed.ensures ∙ c.if-is_passed.false) short)
