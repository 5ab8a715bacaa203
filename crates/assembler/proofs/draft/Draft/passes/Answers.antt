use Rattle.assembler.proofs.Common.{◌∙◌, inl, inr, length-map, span_of, progress_of}
use Rattle.assembler.proofs.PassedLexemes.{blank-passes, token-passes}
use Rattle.assembler.proofs.draft.Draft.passes.Goals as goal

pub returns-then-is_full : goal.returns-then-is_full
returns-then-is_full c =
    let full = c.is_full.ensures c.if-is_full.true in
    token-passes (progress_of c.args.self.now) c.args.text.now c.token_len.result
    c.token_len.ensures full.0 (length-map c.args.self.now.spans.items span_of ∙ full.1)

pub returns-in-32 : goal.returns-in-32
returns-in-32 c = blank-passes (progress_of c.args.self.now) c.args.text.now
    c.in_ok-first.field-0.now c.in_ok-first.ensures.value (inl c.in-32.is)

pub returns-in-32-2 : goal.returns-in-32-2
returns-in-32-2 c = blank-passes (progress_of c.args.self.now) c.args.text.now
    c.in_ok-first.field-0.now c.in_ok-first.ensures.value (inr c.in-32.is)
