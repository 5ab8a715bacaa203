use Rattle.assembler.proofs.Common.{◌≡◌, ◌≤◌, ◌∙◌, true, false, List, [], ◌∷◌, length, slice_get, Option, Some, None, refl, sym, ap, ap₂, arith, Token, Named, Number, Signed, is_label}
use Rattle.assembler.proofs.draft.Draft.label_length.Goals as goal

-- one token is no label
not_alone : (t : Option Token) → is_label t None ≡ false
not_alone None = refl
not_alone (Some (Named x)) = refl
not_alone (Some (Number n)) = refl
not_alone (Some (Signed s)) = refl

-- a label is two tokens
two_tokens : (ts : List Token) → is_label (slice_get ts 0) (slice_get ts 1) ≡ true → 2 ≤ length ts
two_tokens [] is = let not = not_alone None in absurd (cc)
two_tokens (t ∷ []) is = let not = not_alone (Some t) in absurd (cc)
two_tokens (t ∷ u ∷ ts) is = omega arith

pub returns-then-is_label-clause-within : goal.returns-then-is_label-clause-within
returns-then-is_label-clause-within c =
    let ts = c.args.self.now.tokens.items in
    let first : c.token_in.result ≡ slice_get ts 0 =
    c.token_in.ensures ∙ ap (λ (us : List Token). slice_get us 0) c.deref.ensures.value in
    let second : c.token_in-2.result ≡ slice_get ts 1 =
    c.token_in-2.ensures ∙ ap (λ (us : List Token). slice_get us 1) c.deref-2.ensures.value in
    let both = ap₂ is_label (sym first) (sym second) in
    two_tokens ts (both ∙ (sym c.is_label.ensures ∙ c.if-is_label.true))
