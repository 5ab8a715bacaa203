use Rattle.assembler.proofs.Common.{◌≡◌, ◌<◌, ◌≤◌, ◌-◌, ◌∙◌, ℕ, List, ap, sym, subst, length, take, drop, Some, Option, Ok, arith, inl, inr, Lexeme, lexeme_at, progress_of, accept_short, ReadsOn, IsBelow}
use Rattle.assembler.specs.Settled.{TakesAll}
use Rattle.assembler.proofs.SettledTexts.{settled-none, settled-refused, goes-on, stays-within}
use Rattle.assembler.proofs.PassedLexemes.{goes-on-passed}
use Rattle.assembler.proofs.FrontLaws.{ends-next, below-more, below-taken}
use Rattle.assembler.proofs.fronts.read_front.Goals as goal

abbrev next : List ℕ → ℕ → List ℕ
next rest n = drop (n - 1) (drop 1 rest)

pub returns-in-Err-clause-settled : goal.returns-in-Err-clause-settled
returns-in-Err-clause-settled c = λ other.
    settled-none c.args.bytes.now c.loop-rest.rest.now (progress_of c.loop-rest.draft)
    c.loop-rest.invariant.goes_on (omega arith) c.loop-rest.invariant.few
    (sym c.in-Err.ensures.found)

pub returns-then-len-rest-2-clause-front : goal.returns-then-len-rest-2-clause-front
returns-then-len-rest-2-clause-front c = record {
  goes_on = c.loop-rest.invariant.goes_on;
  is_beginning = inr
      (subst (λ (o : Option (Lexeme × ℕ)). TakesAll o (length c.loop-rest.rest.now))
      c.in-Ok.ensures.found (omega arith));
  few = c.loop-rest.invariant.few;
  ends = c.loop-rest.invariant.ends;
  below = c.loop-rest.invariant.below;
}

pub returns-clause-front : goal.returns-clause-front
returns-clause-front c = record {
  goes_on = c.loop-rest.invariant.goes_on;
  is_beginning = inl (omega arith);
  few = c.loop-rest.invariant.few;
  ends = c.loop-rest.invariant.ends;
  below = c.loop-rest.invariant.below;
}

pub loop-rest-preserved : goal.loop-rest-preserved
loop-rest-preserved c =
    let rest = c.loop-rest.rest.now in
    let front = c.args.bytes.now in
    let s = progress_of c.loop-rest.draft in
    let t = progress_of c.accept.new.self in
    let x = c.in-Ok.found.0 in
    let n = c.in-Ok.found.1 in
    let found : lexeme_at rest ≡ Some (x, n) = sym c.in-Ok.ensures.found in
    let some : 4 ≤ length rest = omega arith in
    let less : n < length rest = omega arith in
    let few : length rest ≤ length front = c.loop-rest.invariant.few in
    let accepted : accept_short s x (length front - length rest, take n rest) ≡ Ok t =
    ap (λ o. accept_short s x (o, take n rest)) (sym c.saturating_sub-offset.ensures)
    ∙ c.in-Ok-accept.ensures in
    let shorter = c.after-rest-in-loop-rest.ensures.less in
    let left = c.after-rest-in-loop-rest.ensures.value in
    let smaller : length (next rest n) < length rest =
    subst (λ (r : List ℕ). length r < length rest) left shorter in
    record {
      goes_on = subst (λ (r : List ℕ). ReadsOn front r (length front - length r) t) (sym left)
          (goes-on front rest s x n t c.loop-rest.invariant.goes_on some few less found accepted);
      within = stays-within (length front) s x (length front - length rest, take n rest) t
          c.loop-rest.invariant.within (omega arith) accepted;
      few = omega (arith, few, shorter);
      ends = subst (λ (r : List ℕ). drop (length front - length r) front ≡ r) (sym left)
          (ends-next front rest n few c.loop-rest.invariant.ends less);
      below = subst (λ (r : List ℕ). IsBelow (length front - length r) t) (sym left)
          (below-taken (length front - length rest) (length front - length (next rest n)) s t x
          (take n rest) c.loop-rest.invariant.below (omega (arith, few, smaller)) accepted);
    }

pub loop-rest-preserved-then-len-rest : goal.loop-rest-preserved-then-len-rest
loop-rest-preserved-then-len-rest c =
    let rest = c.loop-rest.rest.now in
    let front = c.args.bytes.now in
    let s = progress_of c.loop-rest.draft in
    let n = c.in-Some.len in
    let some : 4 ≤ length rest = omega arith in
    let less : n < length rest = omega arith in
    let few : length rest ≤ length front = c.loop-rest.invariant.few in
    let shorter = c.after-rest.ensures.less in
    let left = c.after-rest.ensures.value in
    let smaller : length (next rest n) < length rest =
    subst (λ (r : List ℕ). length r < length rest) left shorter in
    record {
      goes_on = subst (λ (r : List ℕ). ReadsOn front r (length front - length r) s) (sym left)
          (goes-on-passed front rest s n c.loop-rest.invariant.goes_on some few less
          c.in-Some.ensures);
      within = c.loop-rest.invariant.within;
      few = omega (arith, few, shorter);
      ends = subst (λ (r : List ℕ). drop (length front - length r) front ≡ r) (sym left)
          (ends-next front rest n few c.loop-rest.invariant.ends less);
      below = subst (λ (r : List ℕ). IsBelow (length front - length r) s) (sym left)
          (below-more (length front - length rest) (length front - length (next rest n)) s
          c.loop-rest.invariant.below (omega (arith, few, smaller)));
    }

pub returns-in-Err-accept-clause-settled : goal.returns-in-Err-accept-clause-settled
returns-in-Err-accept-clause-settled c = λ other.
    let rest = c.loop-rest.rest.now in
    let front = c.args.bytes.now in
    let s = progress_of c.loop-rest.draft in
    let x = c.in-Ok.found.0 in
    let n = c.in-Ok.found.1 in
    let found : lexeme_at rest ≡ Some (x, n) = sym c.in-Ok.ensures.found in
    let some : 4 ≤ length rest = omega arith in
    let less : n < length rest = omega arith in
    elim c.in-Err-accept.ensures [
      | inl memory ↦ absurd (other memory)
      | inr refused ↦
          settled-refused front rest s x n c.in-Err-accept.refusal
          c.loop-rest.invariant.goes_on c.loop-rest.invariant.within some less found
          (ap (λ o. accept_short s x (o, take n rest)) (sym c.saturating_sub-offset.ensures)
          ∙ refused)
    ]
