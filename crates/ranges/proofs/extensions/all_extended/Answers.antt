use Rattle.ranges.proofs.Common.{Low8, Low16, Full8, Full16, Full32, sign_extended_fits, sign_extended_below}
use Rattle.ranges.proofs.Limits.{extended_8, extended_16, extended_32}
use Rattle.ranges.proofs.extensions.all_extended.Goals as goal

pub returns-in-Full8-clause-contains : goal.returns-in-Full8-clause-contains
returns-in-Full8-clause-contains c = λ x.
    let l = extended_8 x in
    rw c.in-Full8.is ((c.signed_between.ensures.members _).1 (sign_extended_fits Full8 x, l.0, l.1))

pub returns-in-Full16-clause-contains : goal.returns-in-Full16-clause-contains
returns-in-Full16-clause-contains c = λ x.
    let l = extended_16 x in
    rw c.in-Full16.is
    ((c.signed_between-in-Full16.ensures.members _).1 (sign_extended_fits Full16 x, l.0, l.1))

pub returns-in-Full32-clause-contains : goal.returns-in-Full32-clause-contains
returns-in-Full32-clause-contains c = λ x.
    let l = extended_32 x in
    rw c.in-Full32.is
    ((c.signed_between-in-Full32.ensures.members _).1 (sign_extended_fits Full32 x, l.0, l.1))

pub returns-in-Low8-clause-contains : goal.returns-in-Low8-clause-contains
returns-in-Low8-clause-contains c =
    λ x. rw c.in-Low8.is ((c.any.ensures.members _).1 (sign_extended_below Low8 x))

pub returns-in-Low16-clause-contains : goal.returns-in-Low16-clause-contains
returns-in-Low16-clause-contains c =
    λ x. rw c.in-Low16.is ((c.any-in-Low16.ensures.members _).1 (sign_extended_below Low16 x))
