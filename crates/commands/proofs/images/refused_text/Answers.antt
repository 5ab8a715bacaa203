use Rattle.commands.proofs.Common.{List, ℕ, subst, ShowsKept}
use Rattle.commands.proofs.TextsLaws.{refuses-file}
use Rattle.commands.proofs.images.refused_text.Goals as goal

pub returns : goal.returns
returns g c =
    refuses-file c.args.text.now c.args.path.now _ _ c.args.error c.in-Some.placed
    c.say_made-outcome.result c.text_line.result c.of_text.result c.requires.known
    c.requires.refused c.in-Some.ensures c.text_line.ensures c.say_made-outcome.ensures
    c.of_text.ensures.outcome
    (subst (λ (bytes : List ℕ). ShowsKept bytes c.args.error c.of_text.result)
    c.as_slice.ensures.value c.of_text.ensures.known)
