use Rattle.messages.proofs.Common.{◌∙◌, ◌++◌, ap, inr, subst, sym, List, ℕ, T, is_none, string_bytes}
use Rattle.messages.specs.Texts.{program_front}
use Rattle.messages.proofs.whole_texts.program_text.Goals as goal

pub returns-in-Ok-clause-text : goal.returns-in-Ok-clause-text
returns-in-Ok-clause-text c = record {
  known = string_bytes c.in-Some.known;
  is_known = inr (rw c.in-Some.is at c.requires.known);
  text_is = c.in-Ok.ensures.items
      ∙ ap (λ (l : List ℕ). l ++ c.as_bytes.result.now) c.in_ok-text.ensures
      ∙ ap (λ (l : List ℕ). program_front c.args.image.now c.args.refusal c.args.slot ++ l)
      c.as_bytes.ensures.value;
}

pub returns-in-Ok-clause-unknown : goal.returns-in-Ok-clause-unknown
returns-in-Ok-clause-unknown c = λ no.
    absurd (subst (λ r. T (is_none r)) (sym no ∙ c.in-Some.is) tt)
