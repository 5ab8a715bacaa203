use Rattle.reg_state.proofs.Common.{Option, Some, None, refl, IfSome, IfSome_then, Full64, exchanged}
use Rattle.reg_state.proofs.GoingLaws.{may_whole}
use Rattle.reg_state.proofs.comparisons.related_whole.Goals as goal

together : {X : Type 0} (r : Option X) (P Q : X → Type 0) → IfSome r P → IfSome r Q
    → IfSome r (λ x. P x × Q x)
together None P Q h k = tt
together (Some x) P Q h k = (h, k)

pub returns-clause-whole : goal.returns-clause-whole
returns-clause-whole g c =
    let r = c.related.result in
    let limits = together r _ _ c.related.ensures.left_limits c.related.ensures.right_limits in
    let bits = together r _ _ (c.related.ensures.left_bits refl)
    (c.related.ensures.right_bits refl) in
    IfSome_then r (together r _ _ limits bits) (λ p shown. record {
      left_limits = λ x h.
          may_whole c.args.comparison c.args.taken (g.D.Domain.allows Full64 c.args.b)
          (g.D.Domain.has c.args.b)
          (g.D.Domain.limits Full64 c.args.b) (g.D.Domain.limits Full64 c.args.a) x
          (g.met.D.Domain.in_register p.0 x h) (g.met.D.Domain.whole c.args.b)
          (shown.0.0 x h);
      right_limits = λ y h.
          may_whole (exchanged c.args.comparison) c.args.taken (g.D.Domain.allows Full64 c.args.a)
          (g.D.Domain.has c.args.a)
          (g.D.Domain.limits Full64 c.args.a) (g.D.Domain.limits Full64 c.args.b) y
          (g.met.D.Domain.in_register p.1 y h) (g.met.D.Domain.whole c.args.a)
          (shown.0.1 y h);
      left_bits = shown.1.0;
      right_bits = shown.1.1;
    })
