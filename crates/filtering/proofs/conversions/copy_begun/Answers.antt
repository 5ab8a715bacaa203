use Rattle.std.proofs.Common.{ℕ, List, subst, inr}
use Rattle.exact_io.specs.Replacing.{written}
use Rattle.filtering.specs.Conversions.{CopiesFrom}
use Rattle.filtering.proofs.conversions.copy_begun.Goals as goal

pub returns-in-Ok : goal.returns-in-Ok
returns-in-Ok g c =
    inr (
      c.in-Ok.file,
      c.copy_from.new.output,
      subst (λ (name : List ℕ). CopiesFrom (written g.R.File.Write.contents) c.args.from.path.now
          (g.S.Source.remaining c.args.from.source) c.args.from.form c.args.frame_form c.args.from.placing name
          c.in-Ok.file c.copy_from.new.output c.copy_from.result) c.output_name.ensures
          c.copy_from.ensures,
    )
