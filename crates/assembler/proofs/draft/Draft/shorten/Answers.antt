use Rattle.assembler.proofs.Common.{◌≡◌, ◌<◌, List, ap, ap₂, ◌∙◌, sym, length, take, map, arith, rules, take-map, Token, span_of, progress_of, with_statement}
use Rattle.assembler.specs.declared.draft.Span.{Span}
use Rattle.assembler.proofs.LongStatements.{shortened-long}
use Rattle.assembler.proofs.draft.Draft.shorten.Goals as goal

pub returns-then-len-gt-MOST_TOKENS : goal.returns-then-len-gt-MOST_TOKENS
returns-then-len-gt-MOST_TOKENS c =
    let s = progress_of c.args.self.now in
    let long : 16 < length c.args.self.now.tokens.items = omega arith in
    let tokens : c.truncate.new.self.items ≡ take 16 c.args.self.now.tokens.items =
    search rules in
    let spans : c.truncate-then-len-gt-MOST_TOKENS.new.self.items
    ≡ take 16 c.args.self.now.spans.items = search rules in
    ap₂ (λ (ts : List Token) (xs : List Span). with_statement s ts (map span_of xs)) tokens spans
    ∙ ap (with_statement s (take 16 c.args.self.now.tokens.items))
    (sym (take-map span_of 16 c.args.self.now.spans.items))
    ∙ sym (shortened-long s long)
