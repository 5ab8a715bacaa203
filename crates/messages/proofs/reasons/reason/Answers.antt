use Rattle.messages.proofs.Common.{◌≡◌, sym, subst, IfOk, string_bytes}
use Rattle.walks.specs.declared.explained.Explanation.{Explanation}
use Rattle.explanations.specs.States.{lines_of}
use Rattle.messages.proofs.ReasonLaws.{of_flow, of_state}
use Rattle.messages.proofs.reasons.reason.Goals as goal

pub returns-in-Flow : goal.returns-in-Flow
returns-in-Flow c =
    rw c.ok.ensures.value
    (of_flow c.args.image.now c.args.refusal c.args.slot c.in-Flow.error c.in_ok-insn.insn.now
    c.flow_line.result c.in-Flow.is (sym c.in_ok-insn.ensures) c.flow_line.ensures)

pub returns : goal.returns
returns c =
    rw c.ok-2.ensures.value
    (of_state c.args.image.now c.args.refusal c.args.slot c.in-Some.found.value
    c.in_ok-insn.insn.now c.lines_of.result (rw c.in-Some.is at c.requires.found)
    (sym c.in_ok-insn.ensures)
    (subst
    (λ (x : Explanation). IfOk c.lines_of.result (λ text. string_bytes text
    ≡ lines_of c.args.image.now c.in_ok-insn.insn.now c.args.refusal x))
    c.deref.ensures c.lines_of.ensures))
