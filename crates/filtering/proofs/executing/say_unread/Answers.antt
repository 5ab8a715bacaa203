use Rattle.filtering.proofs.Common.{codes, refl, usage}
use Rattle.filtering.proofs.DeliveringLaws.{said-wrong}
use Rattle.filtering.proofs.executing.say_unread.Goals as goal

pub returns-in-Wrong : goal.returns-in-Wrong
returns-in-Wrong g c =
    rw c.in-Wrong.is (
      refl,
      said-wrong _ _ _ _ _ usage c.as_str.ensures.value c.write_texts.ensures.ok
          c.write_texts.ensures.err,
    )

pub returns-in-NotUnicode : goal.returns-in-NotUnicode
returns-in-NotUnicode g c =
    rw c.in-NotUnicode.is (
      refl,
      said-wrong _ _ _ (codes "error: an argument is not UTF-8\n")
          (codes "error: an argument is not UTF-8\n") usage refl c.write_texts-in-NotUnicode.ensures.ok
          c.write_texts-in-NotUnicode.ensures.err,
    )
