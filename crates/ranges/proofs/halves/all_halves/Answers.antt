use Rattle.ranges.proofs.Common.{ℕ, ◌<◌, ◌%◌, ◌^◌, refl, arith, Extension, Low8, Low16, Full8, Full16, sign_extended}
use Rattle.ranges.proofs.Extended.{half_of_8, half_of_16}
use Rattle.ranges.proofs.halves.all_halves.Goals as goal

half_below : (e : Extension) (x : ℕ) → sign_extended e x % 2 ^ 32 < 2 ^ 32
half_below e x = omega arith

pub returns-in-Low8-clause-contains : goal.returns-in-Low8-clause-contains
returns-in-Low8-clause-contains c = λ x.
    let h = half_of_8 Low8 x refl in
    rw c.in-Low8.is (c.signed_between.ensures.members _ (half_below Low8 x) h.0 h.1)

pub returns-in-Low16-clause-contains : goal.returns-in-Low16-clause-contains
returns-in-Low16-clause-contains c = λ x.
    let h = half_of_16 Low16 x refl in
    rw c.in-Low16.is (c.signed_between-in-Low16.ensures.members _ (half_below Low16 x) h.0 h.1)

pub returns-in-Full8-clause-contains : goal.returns-in-Full8-clause-contains
returns-in-Full8-clause-contains c = λ x.
    let h = half_of_8 Full8 x refl in
    rw c.in-Full8.is (c.signed_between-in-Full8.ensures.members _ (half_below Full8 x) h.0 h.1)

pub returns-in-Full16-clause-contains : goal.returns-in-Full16-clause-contains
returns-in-Full16-clause-contains c = λ x.
    let h = half_of_16 Full16 x refl in
    rw c.in-Full16.is (c.signed_between-in-Full16.ensures.members _ (half_below Full16 x) h.0 h.1)

pub returns-in-Full32-clause-contains : goal.returns-in-Full32-clause-contains
returns-in-Full32-clause-contains c =
    λ x. (c.any.ensures.members _).1 (half_below c.args.extension x)
