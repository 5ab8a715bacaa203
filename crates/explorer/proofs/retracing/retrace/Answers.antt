use Rattle.explorer.proofs.Common.{◌≡◌, ◌∙◌, [], ap, subst, Program, State, start, Coarse, Exact, Forgets, Forgets-as}
use Rattle.explorer.specs.declared.retracing.Walker.{Walker}
use Rattle.explorer.proofs.retracing.retrace.Goals as goal

pub loop-index-init : goal.loop-index-init
loop-index-init g c =
    let p = c.args.image.now in
    let s = c.forget.new.state in
    let first : c.deref_mut-walker.result.now.state ≡ start =
    ap (λ (w : Walker). w.state) c.deref_mut-walker.ensures.value ∙ c.in_ok-walker.ensures in
    let begins : Forgets Exact p start s =
    subst (λ (q : Program). Forgets Exact q start s) c.in-Ok.ensures.found
    (subst (λ (t : State). Forgets Exact c.in-Ok.flow t s) first c.forget.ensures.forgets) in (
      [],
      c.in-Ok-arrives.ensures Coarse p [] c.requires.untold.0
          (Forgets-as Coarse Exact p start s tt begins) c.requires.untold.1,
    )
