use Rattle.assembler.proofs.Common.{ap, ◌∙◌, Result, Ok, length-map, Refusal, ReadSoFar, progress_of, span_of}
use Rattle.assembler.proofs.LongStatements.{pushed-full}
use Rattle.assembler.proofs.draft.Draft.take.Goals as goal

abbrev taken : ReadSoFar → Result ReadSoFar Refusal
taken s = Ok s

pub returns-then-is_full-clause-exact : goal.returns-then-is_full-clause-exact
returns-then-is_full-clause-exact c =
    let s = progress_of c.args.self.now in
    let full = c.is_full.ensures c.if-is_full.true in
    ap taken (pushed-full s c.args.token (span_of c.args.span) full.0
    (length-map c.args.self.now.spans.items span_of ∙ full.1))
