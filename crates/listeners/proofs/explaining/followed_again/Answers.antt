use Rattle.listeners.proofs.Common.{◌≡◌, List, [], rules, subst, sym, State, Program, Explains, Precision, Coarse, HasFollowed}
use Rattle.listeners.specs.declared.explaining.Follower.{Follower}
use Rattle.listeners.proofs.Following.{explains_long}
use Rattle.listeners.proofs.Stops.{if_some}
use Rattle.listeners.proofs.explaining.followed_again.Goals as goal

pub retrace-requires : goal.retrace-requires
retrace-requires c = record {
  untold =
      subst
      (λ (f : Follower). (last : State)
      × HasFollowed Coarse f.image.now f.slots.items f.slot f.turns c.args.image.now [] last)
      (sym c.deref_mut-follower.ensures.value) (c.in-Ok.ensures.nothing Coarse);
}

pub returns-in-Some : goal.returns-in-Some
returns-in-Some c =
    let p = c.args.image.now in
    let f = c.retrace.new.listener in
    let tale : Precision → Program → List State → State → Type 0 =
    λ how r path last. HasFollowed how f.image.now f.slots.items f.slot f.turns r path last in
    let here : c.in-Some.end ≡ c.args.slot = search rules in
    record {
      explains =
          if_some c.explanation.result _ (λ x. Explains p c.args.refusal c.args.slot x.value)
          (λ x shown. explains_long p tale c.args.refusal c.in-Some.end c.args.slot x.value
          (c.is_too_long.ensures (search rules)) here c.requires.refused c.in-Some.ensures shown)
          c.explanation.ensures;
    }
