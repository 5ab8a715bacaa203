-- What tests show, and what shows them: two tests together, and an order that two things have.
use Rattle.isa_model.proofs.Common.{◌≡◌, ◌&&◌, Bool, true, false, T, refl, is_lt, is_eq, Less, Equal, Greater}
use Rattle.std.specs.declared.cmp.Ordering.{Ordering}

pub both : (a b : Bool) → T a → T b → T (a && b)
both true b p q = q
both false b p q = p

pub both_parts : (a b : Bool) → T (a && b) → T a × T b
both_parts true b h = (tt, h)
both_parts false b h = absurd h

pub is_less : (o : Ordering) → T (is_lt o) → o ≡ Less
is_less Less h = refl
is_less Equal h = absurd h
is_less Greater h = absurd h

pub less_is : (o : Ordering) → o ≡ Less → T (is_lt o)
less_is Less e = tt
less_is Equal e = absurd (cc)
less_is Greater e = absurd (cc)

pub is_equal : (o : Ordering) → is_eq o ≡ true → o ≡ Equal
is_equal Less h = absurd (cc)
is_equal Equal h = refl
is_equal Greater h = absurd (cc)
