use Rattle.xdpvm.proofs.Common.{◌≡◌, ◌∙◌, ◌≤◌, None, subst, sym, refl, inl, arith, request_of, Ending, AppendsPart, status_of}
use Rattle.xdpvm.proofs.StatusesLaws.{silent_words, silent_memory, unasked_status}
use Rattle.xdpvm.proofs.FilesSilence.{whole_handed_on}
use Rattle.xdpvm.proofs.Knowing.{whole_knows}
use Rattle.xdpvm.proofs.ExecutingLaws.{done_by, done_plain, faulted_by, faulted_plain, refused_by, words_plain}
use Rattle.xdpvm.proofs.Silence.{whole_silent}
use Rattle.xdpvm.proofs.Served.{asked-served, unasked}
use Rattle.xdpvm.proofs.Telling.{served, told_before}
use Rattle.xdpvm.proofs.executing.execute.Goals as goal

pub returns-in-Ok-clause-executes : goal.returns-in-Ok-clause-executes
returns-in-Ok-clause-executes g c = (
  c.flushed.result,
  g.W2.Write.contents c.serve.new.err,
  c.tell.ensures.status,
  asked-served _ _
      (request_of c.in-Ok.task) _ _ _ _ _ _ _ c.in-Ok.ensures c.serve.ensures c.flushed.ensures,
  c.tell.ensures.said,
)

pub returns-in-Ok-clause-wrong_words : goal.returns-in-Ok-clause-wrong_words
returns-in-Ok-clause-wrong_words g c e =
    whole_silent _
    (request_of c.in-Ok.task) _ _ _ _ c.flushed.result
    (served (request_of c.in-Ok.task) _ _ _ _ _ c.serve.ensures) c.flushed.ensures
    (silent_words _ (sym c.tell.ensures.status ∙ e))

pub returns-in-Ok-clause-no_memory : goal.returns-in-Ok-clause-no_memory
returns-in-Ok-clause-no_memory g c e =
    whole_silent _
    (request_of c.in-Ok.task) _ _ _ _ c.flushed.result
    (served (request_of c.in-Ok.task) _ _ _ _ _ c.serve.ensures) c.flushed.ensures
    (silent_memory _ (sym c.tell.ensures.status ∙ e))

pub returns-in-Ok-clause-done : goal.returns-in-Ok-clause-done
returns-in-Ok-clause-done g c e = (
  g.W2.Write.contents c.serve.new.err,
  told_before _ (request_of c.in-Ok.task) _ _ _ _ _ c.in-Ok.ensures c.serve.ensures,
  done_by _ (request_of c.in-Ok.task) c.flushed.result.outcome c.flushed.result.why _ _
      c.in-Ok.ensures
      (whole_knows _
      (request_of c.in-Ok.task) _ _ _ _ c.flushed.result
      (served (request_of c.in-Ok.task) _ _ _ _ _ c.serve.ensures) c.flushed.ensures)
      (sym c.tell.ensures.status ∙ e) c.tell.ensures.unsaid c.tell.ensures.said,
)

pub returns-in-Ok-clause-faulted : goal.returns-in-Ok-clause-faulted
returns-in-Ok-clause-faulted g c e = (
  g.W2.Write.contents c.serve.new.err,
  told_before _ (request_of c.in-Ok.task) _ _ _ _ _ c.in-Ok.ensures c.serve.ensures,
  faulted_by (request_of c.in-Ok.task) c.flushed.result.outcome c.flushed.result.why _ _
      (whole_knows _
      (request_of c.in-Ok.task) _ _ _ _ c.flushed.result
      (served (request_of c.in-Ok.task) _ _ _ _ _ c.serve.ensures) c.flushed.ensures)
      (sym c.tell.ensures.status ∙ e) c.tell.ensures.said,
)

pub returns-in-Ok-clause-refused : goal.returns-in-Ok-clause-refused
returns-in-Ok-clause-refused g c e = (
  g.W2.Write.contents c.serve.new.err,
  told_before _ (request_of c.in-Ok.task) _ _ _ _ _ c.in-Ok.ensures c.serve.ensures,
  refused_by (request_of c.in-Ok.task) c.flushed.result.outcome c.flushed.result.why _ _
      (whole_knows _
      (request_of c.in-Ok.task) _ _ _ _ c.flushed.result
      (served (request_of c.in-Ok.task) _ _ _ _ _ c.serve.ensures) c.flushed.ensures)
      (sym c.tell.ensures.status ∙ e) c.tell.ensures.said,
)

pub returns-in-Ok-clause-handed_on : goal.returns-in-Ok-clause-handed_on
returns-in-Ok-clause-handed_on g c most apart =
    whole_handed_on _ _ _ _ c.flushed.result c.flushed.ensures
    (subst (λ n. n ≤ 3) c.tell.ensures.status most) (λ e. apart (c.tell.ensures.status ∙ e))

pub returns-in-Err-clause-handed_on : goal.returns-in-Err-clause-handed_on
returns-in-Err-clause-handed_on g c most apart =
    absurd (unasked_status _ _ c.of_words.ensures
    (subst (λ n. n ≤ 3) c.tell-in-Err.ensures.status most)
    (λ e. apart (c.tell-in-Err.ensures.status ∙ e)))

pub returns-in-Err-clause-executes : goal.returns-in-Err-clause-executes
returns-in-Err-clause-executes g c =
    let ending : Ending = record { outcome = c.of_words.result; why = None } in (
      ending,
      g.W2.Write.contents c.args.err.now,
      c.tell-in-Err.ensures.status,
      unasked _ _ c.in-Err.error _ _ _ c.in-Err.ensures
          c.of_words.ensures,
      subst (AppendsPart _ _) (sym (words_plain c.in-Err.error _ _ c.of_words.ensures))
          c.tell-in-Err.ensures.said,
    )

pub returns-in-Err-clause-refused : goal.returns-in-Err-clause-refused
returns-in-Err-clause-refused g c e =
    let two : status_of c.of_words.result ≡ 2 = sym c.tell-in-Err.ensures.status ∙ e in
    absurd (unasked_status _ _ c.of_words.ensures (omega arith) (λ one. omega arith))

pub returns-in-Err-clause-faulted : goal.returns-in-Err-clause-faulted
returns-in-Err-clause-faulted g c e = (
  g.W2.Write.contents c.args.err.now,
  inl refl,
  faulted_plain _ _ _ (sym c.tell-in-Err.ensures.status ∙ e) c.tell-in-Err.ensures.said,
)

pub returns-in-Err-clause-done : goal.returns-in-Err-clause-done
returns-in-Err-clause-done g c e = (
  g.W2.Write.contents c.args.err.now,
  inl refl,
  done_plain _ _ _ _ (sym c.tell-in-Err.ensures.status ∙ e) c.tell-in-Err.ensures.unsaid,
)
