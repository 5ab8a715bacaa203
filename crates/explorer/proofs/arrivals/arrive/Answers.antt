use Rattle.explorer.proofs.Common.{◌∙◌, ap, length, refl, List, sym, subst, inr, StoredState, IsCovered, IsRepeated, stored_too}
use Rattle.state_index.specs.Parts.{AreParts}
use Rattle.state_index.specs.declared.keys.Key.{Key}
use Rattle.explorer.proofs.arrivals.arrive.Goals as goal

pub take_up-requires : goal.take_up-requires
take_up-requires c = λ new j below none.
    (c.requires.forgotten new).1 j below (c.kept_slots-mask.ensures j below none)

pub store-requires : goal.store-requires
store-requires c = record {
  drawn = λ none. subst (λ (key : Key). AreParts key.parts.items c.args.state.now.innermost)
      (sym (c.repeats.ensures.drawn ∙ c.cover_of.ensures.drawn)) (c.in-Ok.ensures.drawn none);
  kept = c.requires.kept;
}

pub returns-in-Some-clause-arrives : goal.returns-in-Some-clause-arrives
returns-in-Some-clause-arrives c =
    let found = c.in-Some in (
      c.is_join.ensures.join.0 c.if-not-is_join.false,
      subst (λ states. IsCovered states found.index c.args.state.now found.number)
          c.take_up.ensures.same found.ensures.covered,
      c.cover_of.ensures.same ∙ c.take_up.ensures.same,
    )

pub returns-then-repeats-clause-refused : goal.returns-then-repeats-clause-refused
returns-then-repeats-clause-refused c = (
  c.is_join.ensures.join.0 c.if-not-is_join.false,
  subst (λ states. IsRepeated states c.args.state.now)
      (c.cover_of.ensures.same ∙ c.take_up.ensures.same)
      (c.repeats.ensures.repeated c.if-repeats.true),
  refl,
)

pub returns-in-Ok-store-clause-arrives : goal.returns-in-Ok-store-clause-arrives
returns-in-Ok-store-clause-arrives c =
    let same = c.repeats.ensures.same ∙ c.cover_of.ensures.same ∙ c.take_up.ensures.same in (
      c.is_join.ensures.join.0 c.if-not-is_join.false,
      c.in-Ok-store.ensures.index ∙ ap (λ (states : List StoredState). length states) same,
      c.in-Ok-store.ensures.stored ∙ ap (λ states. stored_too states c.args.state.now) same,
    )

pub returns-in-Ok-store-clause-limits : goal.returns-in-Ok-store-clause-limits
returns-in-Ok-store-clause-limits c = λ none. absurd (cc none)

pub returns-then-states-2-clause-limits : goal.returns-then-states-2-clause-limits
returns-then-states-2-clause-limits c = λ none join. inr c.if-states-2.true

pub returns-in_default : goal.returns-in_default
returns-in_default c = record { arrives = tt; limits = tt; refused = refl }

pub returns-in-Err : goal.returns-in-Err
returns-in-Err c = record { arrives = tt; limits = tt; refused = refl }
