use Rattle.insn_codec.proofs.Common.{◌≡◌, ℕ, ◌∙◌, Result, IfOk, take, ap, sym, subst, refl, arith, Insn, spelling_of, InsnFits, CodecError, decoded, sized}
use Rattle.insn_codec.proofs.Whole.{sized-found, sized-fits, decoded-spelling_of}
use Rattle.insn_codec.proofs.decode.Goals as goal

pub returns-clause-found : goal.returns-clause-found
returns-clause-found c =
    let bytes = c.args.bytes.now in
    subst (λ (r : Result (Insn × ℕ) CodecError). IfOk r (λ f. take f.1 bytes ≡ spelling_of f.0))
    (sym c.decode_front.ensures)
    (sized-found bytes (decoded bytes) (λ j. omega (arith, c.type_inv.bytes j)) refl)

pub returns-clause-fits : goal.returns-clause-fits
returns-clause-fits c =
    let bytes = c.args.bytes.now in
    subst (λ (r : Result (Insn × ℕ) CodecError). IfOk r (λ f. InsnFits f.0))
    (sym c.decode_front.ensures)
    (sized-fits bytes (decoded bytes) (λ j. omega (arith, c.type_inv.bytes j)) refl)

pub returns-clause-only : goal.returns-clause-only
returns-clause-only c = λ i rest h e. c.decode_front.ensures
    ∙ ap sized (ap decoded e ∙ decoded-spelling_of i rest h)
