use Rattle.live_maps.proofs.Common.{◌≡◌, ◌∙◌, ℕ, List, Bool, Some, sym, ap, true, Since, PlaceOrder, is_given, serials_of, since_in, serial_in}
use Rattle.live_maps.proofs.PlaceOrderLaws.{serial-given}
use Rattle.live_maps.proofs.place_serials.PlaceSerials.noted_place.Goals as goal

given_at : (now k : PlaceOrder) (p n : ℕ) (xs : List Since) (s : Since) (b : Bool) → k ≡ now
    → xs ≡ k.since → s ≡ since_in xs p → b ≡ is_given n s → b ≡ true
    → serial_in (serials_of now) p ≡ Some n
given_at now k p n xs s b view same e f t =
    serial-given now p n
    (ap (λ (j : PlaceOrder). is_given n (since_in j.since p)) (sym view)
    ∙ ap (λ (l : List Since). is_given n (since_in l p)) (sym same) ∙ ap (is_given n) (sym e)
    ∙ sym f ∙ t)

pub returns-then-is_given : goal.returns-then-is_given
returns-then-is_given c =
    given_at c.args.self.now _ _ c.args.serial _ c.since_at.result c.is_given.result c.self.view_is
    c.as_slice.ensures.value c.since_at.ensures c.is_given.ensures c.if-is_given.true
