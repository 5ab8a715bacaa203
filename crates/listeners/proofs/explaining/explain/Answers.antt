use Rattle.listeners.proofs.Common.{IsProgram-IsImage, AcceptsAll-refused}
use Rattle.listeners.proofs.explaining.explain.Goals as goal

pub returns-in-Some-followed_again-clause-accepts :
    goal.returns-in-Some-followed_again-clause-accepts
returns-in-Some-followed_again-clause-accepts c =
    AcceptsAll-refused c.args.image.now c.args.refusal c.args.slot
    (IsProgram-IsImage c.args.image.now c.recall.ensures) (rw c.in-Some.is at c.requires.refused)
