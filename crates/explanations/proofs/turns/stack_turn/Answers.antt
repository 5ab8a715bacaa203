use Rattle.explanations.proofs.Common.{◌≡◌, List, ℕ, ◌++◌, rules, subst, length, IfOk, codes, string_bytes, offset_of, stack_words, turn_line}
use Rattle.std.specs.Fmt.{signed_decimal}
use Rattle.explanations.proofs.turns.stack_turn.Goals as goal

pub returns : goal.returns
returns c =
    let earlier = c.args.earlier.now in
    let state = c.args.state.now in
    let slot = c.args.slot in
    let place : c.as_str.result.now ≡ codes "stack " ++ signed_decimal (offset_of slot 0) =
    search rules in
    let before : c.as_str-2.result.now ≡ stack_words earlier (length earlier.callers.items) slot =
    search rules in
    let now : c.as_str-3.result.now ≡ stack_words state (length state.callers.items) slot =
    search rules in
    subst (λ (told : List ℕ). IfOk c.turn_line.result (λ text. string_bytes text ≡ told))
    (λ i. turn_line (place i) (before i) (now i)) c.turn_line.ensures
