use Rattle.messages.proofs.Common.{◌++◌, codes, refl, decimal, on_err}
use Rattle.isa_model.specs.Text.CanonicalText.{line_of}
use Rattle.messages.proofs.Written.{first_failed, ok_behind, err_behind}
use Rattle.messages.proofs.rejections.say_insn.Goals as goal

pub returns-in_err-say_slot-clause-err : goal.returns-in_err-say_slot-clause-err
returns-in_err-say_slot-clause-err g c =
    on_err _ _ (first_failed _ _ (codes "slot " ++ (decimal c.args.slot ++ codes ": "))
    (line_of c.args.insn.now) _ refl c.in_err-say_slot.ensures.err)

pub returns-clause-ok : goal.returns-clause-ok
returns-clause-ok g c =
    ok_behind _ _ _ _ (codes "slot " ++ (decimal c.args.slot ++ codes ": "))
    (line_of c.args.insn.now) _ refl c.in_ok-say_slot.ensures.ok c.write_insn.ensures.ok

pub returns-clause-err : goal.returns-clause-err
returns-clause-err g c =
    err_behind _ _ _ _ (codes "slot " ++ (decimal c.args.slot ++ codes ": "))
    (line_of c.args.insn.now) _ refl c.in_ok-say_slot.ensures.ok c.write_insn.ensures.err
