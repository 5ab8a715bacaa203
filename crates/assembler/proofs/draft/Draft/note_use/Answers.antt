use Rattle.assembler.proofs.Common.{◌≡◌, ◌∙◌, ap, refl, List, map, length, ◌∷◌, [], rules, slice_get, Some, Option, option_map, slice_get-map, slice_get_read, map-append, Use, use_of, span_of}
use Rattle.assembler.specs.declared.draft.Span.{Span}
use Rattle.assembler.proofs.draft.Draft.note_use.Goals as goal

pub returns-in-Ok-clause-noted : goal.returns-in-Ok-clause-noted
returns-in-Ok-clause-noted c =
    let there : slice_get c.args.self.now.spans.items c.args.index ≡ Some c.in-Some.span =
    search (rules, slice_get_read) in
    let long : length c.args.self.now.code.insns.items ≡ c.args.self.now.code.insns.len =
    search rules in
    let span_is : slice_get (map span_of c.args.self.now.spans.items) c.args.index
    ≡ Some (span_of c.in-Some.span) = slice_get-map span_of c.args.self.now.spans.items
    c.args.index ∙ ap (λ (o : Option Span). option_map span_of o) there in
    ap (λ (us : List Use). map use_of us) c.in-Ok.ensures.items
    ∙ map-append use_of c.args.self.now.uses.items
    (record {
      index = c.len.result;
      slot = c.next_slot.result;
      name = c.in-Some.span.bytes;
      offset = c.in-Some.span.offset;
    } ∷ [])
    ∙ rw (span_is, c.len.ensures, c.next_slot.ensures, long) refl
