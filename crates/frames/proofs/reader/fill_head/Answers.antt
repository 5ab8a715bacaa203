use Rattle.frames.proofs.Common.{◌≡◌, length, ap, ◌∙◌, arith, head_size}
use Rattle.std.proofs.lemmas.List.{append-nil, drop_all}
use Rattle.frames.proofs.reader.fill_head.Goals as goal

pub returns-in-Two-clause-fills : goal.returns-in-Two-clause-fills
returns-in-Two-clause-fills g c =
    let long : length c.args.head.now ≡ 24 = c.requires ∙ ap head_size c.in-Two.is in
    rw (drop_all 24 c.args.head.now (omega (arith, long)), append-nil)
    c.fill_at_once-in-Two.ensures.fills
