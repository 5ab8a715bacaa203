use Rattle.coverage.proofs.Common.{◌≡◌, ℕ, [], ◌∷◌, ◌++◌, refl, sym, ap, ◌∙◌, subst, End, begun_on, states_in, HasCounted}
use Rattle.coverage.specs.declared.slot_hits.SlotHits.{SlotHits}
use Rattle.coverage.proofs.HitsLaws.{HasCountedFrames-run}
use Rattle.coverage.proofs.stream_hits.run_frame.Goals as goal

pub returns-clause-counted : goal.returns-clause-counted
returns-clause-counted c = λ start frames carried so.
    let p = c.args.machine.now.program in
    let limit = c.args.limit in
    HasCountedFrames-run p limit start _ frames _ _ _ c.run_watched-stop.result.end carried refl
    (ap (λ (e : End). e ∷ []) (sym c.run_watched-stop.ensures.ends)) refl so
    (λ h. subst (λ (x : SlotHits). HasCounted x p.insns
    (states_in p limit start frames ++ begun_on p limit (λ k. c.args.head.time) c.args.head
    c.args.body.now c.args.machine.now.contents)) (sym c.add_end.ensures.slots)
    (c.run_watched-stop.ensures.seen (states_in p limit start frames) h))
    c.add_end.ensures.taken_len c.add_end.ensures.taken c.add_end.ensures.ended_len
    c.add_end.ensures.ended c.add_end.ensures.ran c.add_end.ensures.skipped
