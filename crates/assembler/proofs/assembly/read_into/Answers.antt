use Rattle.assembler.proofs.Common.{◌≡◌, ◌+◌, ◌<◌, ◌≤◌, ◌-◌, ◌^◌, ℕ, List, ap, ap₂, ◌∙◌, sym, length, take, rules, Some, None, Result, Ok, Err, arith, inr, subst, take_min, lexeme_at, unknown_at, UnknownByte, Refusal, ReadSoFar, IsAsWanted, read_on, progress_of, accept_short}
use Rattle.assembler.proofs.LexingLaws.{unknown_at-within}
use Rattle.assembler.proofs.PassedLexemes.{loop_turn-passed}
use Rattle.assembler.proofs.ReadingLoop.{loop_turn-none, loop_turn-taken, loop_turn-end}
use Rattle.assembler.proofs.assembly.read_into.Goals as goal

pub loop-rest-preserved : goal.loop-rest-preserved
loop-rest-preserved c =
    let at : lexeme_at c.loop-rest.rest.now ≡ Some (c.in-Ok.found.0, c.in-Ok.found.1) =
    sym c.in-Ok.ensures.found in
    let more : 0 < length c.loop-rest.rest.now = search rules in
    let few : length c.loop-rest.rest.now ≤ length c.args.text.now = c.loop-rest.invariant.1 in
    let bytes : take c.min.result c.loop-rest.rest.now ≡ take c.in-Ok.found.1 c.loop-rest.rest.now =
    ap (λ n. take n c.loop-rest.rest.now) c.min.ensures
    ∙ take_min c.in-Ok.found.1 c.loop-rest.rest.now in
    let taken : accept_short (progress_of c.loop-rest.draft) c.in-Ok.found.0 (
      length c.args.text.now - length c.loop-rest.rest.now,
      take c.in-Ok.found.1 c.loop-rest.rest.now,
    ) ≡ Ok (progress_of c.accept.new.self) =
    ap₂ (λ (o : ℕ) (bs : List ℕ). accept_short (progress_of c.loop-rest.draft) c.in-Ok.found.0 (o, bs))
    (sym c.saturating_sub-offset.ensures) (sym bytes) ∙ c.in-Ok-accept.ensures
    in
    let less = c.after-rest-in-loop-rest.ensures.less in (
      c.loop-rest.invariant.0
          ∙ loop_turn-taken c.loop-rest.rest.now (length c.args.text.now)
          (progress_of c.loop-rest.draft) c.in-Ok.found.0 c.in-Ok.found.1
          (progress_of c.accept.new.self) more few at taken
          ∙ ap (λ bs. read_on bs 0 (length c.args.text.now - length bs)
          (progress_of c.accept.new.self)) (sym c.after-rest-in-loop-rest.ensures.value),
      omega (arith, few, less),
    )

pub loop-rest-preserved-in-Some : goal.loop-rest-preserved-in-Some
loop-rest-preserved-in-Some c =
    let more : 0 < length c.loop-rest.rest.now = search rules in
    let few : length c.loop-rest.rest.now ≤ length c.args.text.now = c.loop-rest.invariant.1 in
    let less = c.after-rest.ensures.less in (
      c.loop-rest.invariant.0
          ∙ loop_turn-passed c.loop-rest.rest.now (length c.args.text.now)
          (progress_of c.loop-rest.draft) c.in-Some.len more few c.in-Some.ensures
          ∙ ap (λ bs. read_on bs 0 (length c.args.text.now - length bs)
          (progress_of c.loop-rest.draft)) (sym c.after-rest.ensures.value),
      omega (arith, few, less),
    )

pub returns-in-Err : goal.returns-in-Err
returns-in-Err c =
    let at : lexeme_at c.loop-rest.rest.now ≡ None = sym c.in-Err.ensures.found in
    let more : 0 < length c.loop-rest.rest.now = search rules in
    let few : length c.loop-rest.rest.now ≤ length c.args.text.now = c.loop-rest.invariant.1 in
    let unknown : c.in-Err.at ≡ unknown_at c.loop-rest.rest.now = c.in-Err.ensures.unknown in
    let within : unknown_at c.loop-rest.rest.now ≤ length c.loop-rest.rest.now =
    unknown_at-within c.loop-rest.rest.now more in
    let small : length c.args.text.now < 2 ^ 63 = search rules in
    let offset = c.saturating_sub-offset.ensures in
    let sum = c.saturating_add.ensures in
    let offset_is : (length c.args.text.now - length c.loop-rest.rest.now)
    + unknown_at c.loop-rest.rest.now
    ≡ c.saturating_add.result = omega (arith, offset, sum, unknown, within, small, few) in
    inr (c.loop-rest.invariant.0
    ∙ loop_turn-none c.loop-rest.rest.now (length c.args.text.now - length c.loop-rest.rest.now)
    (progress_of c.loop-rest.draft) more at
    ∙ ap (λ o. let r : Refusal = record { kind = UnknownByte; offset = o } in Err r) offset_is)

pub returns : goal.returns
returns c =
    let rest = c.loop-rest.rest.now in
    let none : length rest ≡ 0 = search rules in
    let same = c.loop-rest.invariant.0
    ∙ loop_turn-end rest (length c.args.text.now - length rest)
    (progress_of c.loop-rest.draft) none in
    subst (λ (wanted : Result ReadSoFar Refusal).
    IsAsWanted (λ done. progress_of c.close.new.self) c.close.result wanted)
    (sym same) c.close.ensures
