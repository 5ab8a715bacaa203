use Rattle.coverage.proofs.Common.{◌≡◌, ℕ, [], ◌∷◌, ◌++◌, if◌then◌else◌, not, refl, sym, ap, subst, PacketFrame, checked_rule, begun_on, HasCountedFrames}
use Rattle.std.proofs.lemmas.Bool.{eq-eqb, ne_eqb}
use Rattle.coverage.proofs.HitsLaws.{HasCountedFrames-skip}
use Rattle.coverage.proofs.stream_hits.take_frame.Goals as goal

pub returns-then-frame-eq0-clause-contents : goal.returns-then-frame-eq0-clause-contents
returns-then-frame-eq0-clause-contents c =
    rw (eq-eqb c.args.frame.reason 0 c.if-frame-eq0.true) c.run_frame.ensures.contents

pub returns-then-frame-eq0-clause-counted : goal.returns-then-frame-eq0-clause-counted
returns-then-frame-eq0-clause-counted c = λ start frames carried so.
    subst (λ (n : ℕ). HasCountedFrames c.args.machine.now.program c.args.limit start
    (frames ++ record {
      head = c.args.frame.head;
      body = c.args.body.now;
      reason = n;
    } ∷ []) c.run_frame.new.hits) (sym c.if-frame-eq0.true)
    (c.run_frame.ensures.counted start frames carried so)

pub returns-else-frame-eq0-clause-contents : goal.returns-else-frame-eq0-clause-contents
returns-else-frame-eq0-clause-contents c =
    rw (ne_eqb c.args.frame.reason 0 c.if-frame-eq0.false) refl

pub returns-else-frame-eq0-clause-counted : goal.returns-else-frame-eq0-clause-counted
returns-else-frame-eq0-clause-counted c = λ start frames carried so.
    let p = c.args.machine.now.program in
    let f : PacketFrame = record {
      head = c.args.frame.head;
      body = c.args.body.now;
      reason = c.args.frame.reason;
    } in
    let contents = c.args.machine.now.contents in
    let other = ne_eqb c.args.frame.reason 0 c.if-frame-eq0.false in
    HasCountedFrames-skip p c.args.limit start contents frames f _ _ carried
    (ap (λ b. if b then begun_on p c.args.limit (λ k. f.head.time) f.head f.body contents else [])
    other)
    (ap (λ b. if b then (checked_rule p c.args.limit f.head f.body contents).ends ∷ [] else [])
    other) (ap not other) refl refl refl refl refl so
