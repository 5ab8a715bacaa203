use Rattle.assembler.proofs.Common.{◌≡◌, ◌<◌, ◌≤◌, ◌-◌, ◌∙◌, ap, sym, subst, length, drop, take, arith, inl, inr, length-take-le, progress_of, ReadsOn, IsBelow, IsTextFront}
use Rattle.assembler.proofs.FrontLaws.{goes-on-whole}
use Rattle.assembler.proofs.IdleParts.{idle}
use Rattle.assembler.proofs.gaps.idle_part.Goals as goal

pub returns-then-keeps_hints-clause-idle : goal.returns-then-keeps_hints-clause-idle
returns-then-keeps_hints-clause-idle c =
    let text = c.args.text.now in
    let g = c.enough_bytes.result in
    let rest = c.in-Ok.front.rest.now in
    let s = progress_of c.in-Ok.front.draft in
    let from = c.saturating_sub-from.result in
    let to = c.idle_end-to.result in
    let few : g ≤ length text = c.enough_bytes.ensures in
    let size : length (take g text) ≡ g = length-take-le g text few in
    let front : IsTextFront (take g text) rest s = c.in-Ok.ensures.front in
    let here : from ≡ length (take g text) - length rest =
    c.saturating_sub-from.ensures in
    let on : ReadsOn (take g text) rest from s =
    subst (λ k. ReadsOn (take g text) rest k s) (sym here) front.goes_on in
    let ends : drop from (take g text) ≡ rest =
    ap (λ k. drop k (take g text)) here ∙ front.ends in
    let below : IsBelow from s = subst (λ k. IsBelow k s) (sym here) front.below in
    let first : from ≤ g = omega (arith, here, size) in
    let whole : ReadsOn text (drop from text) from s =
    goes-on-whole text rest g from s on ends (omega (arith, first, size)) in
    let far : from < to = omega arith in
    elim c.idle_end-to.ensures.alike [
      | inl same ↦ absurd (omega (arith, far, same))
      | inr alike ↦
          idle text rest g from to s (omega arith) first few (omega (arith, far))
          c.idle_end-to.ensures.within on ends below (c.idle_end-to.ensures.idle whole) alike
    ]
