use Rattle.std.proofs.Common.{sym, subst, ◌∙◌, T}
use Rattle.reg_state.proofs.scalars.ScalarDomain.covers.Goals as goal

pub returns-else-covers-clause-exact : goal.returns-else-covers-clause-exact
returns-else-covers-clause-exact c = (
  λ no. absurd (subst T (sym (sym c.if-covers.false ∙ no)) tt),
  λ both.
      absurd (subst T (sym (sym c.if-covers.false ∙ c.covers.ensures.inclusion.1 both.0)) tt),
)

pub returns-else-covers-clause-yes : goal.returns-else-covers-clause-yes
returns-else-covers-clause-yes c = λ no. absurd (subst T (sym (sym c.if-covers.false ∙ no)) tt)

pub returns-then-covers-clause-exact : goal.returns-then-covers-clause-exact
returns-then-covers-clause-exact c = (
  λ yes. (c.covers.ensures.inclusion.0 c.if-covers.true, c.covers-then-covers.ensures.limits.0 yes),
  λ both. c.covers-then-covers.ensures.limits.1 both.1,
)

pub returns-then-covers-clause-yes : goal.returns-then-covers-clause-yes
returns-then-covers-clause-yes c = λ yes x h. (
  c.covers.ensures.inclusion.0 c.if-covers.true x h.0,
  c.covers-then-covers.ensures.yes yes x h.1,
)
