-- Laws of the runs of a stream's frames.
use Rattle.coverage.proofs.Common.{◌≡◌, ℕ, zero, suc, ◌+◌, ◌*◌, ◌<◌, ◌≤◌, ◌^◌, ◌==◌, if◌then◌else◌, Bool, true, false, List, [], ◌∷◌, ◌++◌, length, map, All, sym, ap, ◌∙◌, subst, refl, arith, append_assoc, append-nil, length-append, End, Program, State, KeyValues, PacketFrame, Rule, checked_rule, turn_on, contents_left, contents_after, beginning, begun_in, begun_on, states_of, states_in, ends_of, ends_in, steps_by, steps_in}
use Rattle.std.proofs.lemmas.List.Elements.{All-nil, All-cons, All-append, All-map}
use Rattle.isa_model.specs.declared.frames.FrameHead.{FrameHead}
use Rattle.isa_model.specs.declared.ends.End.TheVariants.{Exit, Trap, Limit}
use Rattle.isa_model.specs.Machine.Steps.{StepResult, Next, Finished, Trapped, step}
use Rattle.isa_model.specs.Running.Runs.{Progress, GoesOn, Ended, after_step, advanced, progress, start_state, turn_of, turn}
use Rattle.isa_model.proofs.RunLaws.{progress-zero, progress-suc}

-- ---- one more frame

pub states_in-push : (p : Program) (limit : ℕ) (contents : List KeyValues)
    (frames : List PacketFrame) (f : PacketFrame)
    → states_in p limit contents (frames ++ f ∷ [])
    ≡ states_in p limit contents frames
    ++ states_of p limit (contents_after (checked_rule p limit) contents frames) f
states_in-push p limit contents [] f = append-nil (states_of p limit contents f)
states_in-push p limit contents (g ∷ frames) f =
    let next = contents_left contents (turn_on (checked_rule p limit) contents g) in
    ap (λ l. states_of p limit contents g ++ l) (states_in-push p limit next frames f)
    ∙ sym (append_assoc (states_of p limit contents g) (states_in p limit next frames)
    (states_of p limit (contents_after (checked_rule p limit) next frames) f))

pub contents_after-one : (rule : Rule) (contents : List KeyValues) (frames : List PacketFrame)
    (f : PacketFrame)
    → contents_after rule contents (frames ++ f ∷ [])
    ≡ contents_left (contents_after rule contents frames)
    (turn_on rule (contents_after rule contents frames) f)
contents_after-one rule contents [] f = refl
contents_after-one rule contents (g ∷ frames) f =
    contents_after-one rule (contents_left contents (turn_on rule contents g)) frames f

pub ends_in-push : (p : Program) (limit : ℕ) (contents : List KeyValues)
    (frames : List PacketFrame) (f : PacketFrame)
    → ends_in p limit contents (frames ++ f ∷ [])
    ≡ ends_in p limit contents frames
    ++ ends_of p limit (contents_after (checked_rule p limit) contents frames) f
ends_in-push p limit contents [] f = append-nil (ends_of p limit contents f)
ends_in-push p limit contents (g ∷ frames) f =
    let next = contents_left contents (turn_on (checked_rule p limit) contents g) in
    ap (λ l. ends_of p limit contents g ++ l) (ends_in-push p limit next frames f)
    ∙ sym (append_assoc (ends_of p limit contents g) (ends_in p limit next frames)
    (ends_of p limit (contents_after (checked_rule p limit) next frames) f))

-- ---- how many steps there are

beginning-one : (x : Progress) → length (beginning x) ≤ 1
beginning-one (GoesOn s) = omega arith
beginning-one (Ended e s) = omega arith

begun_in-most : (p : Program) (clock : ℕ → ℕ) (n : ℕ) (s : State)
    → length (begun_in p clock n s) ≤ n
unfolding begun_in
begun_in-most p clock zero s = omega arith
begun_in-most p clock (suc n) s =
    let so_far = begun_in-most p clock n s in
    let one = beginning-one (progress p clock n s) in
    let both = length-append (begun_in p clock n s) (beginning (progress p clock n s)) in
    omega (arith, so_far, one, both)

states_of-most : (p : Program) (limit : ℕ) (contents : List KeyValues) (f : PacketFrame)
    → length (states_of p limit contents f) ≤ limit
states_of-most p limit contents f = go (f.reason == 0)
  where
    go : (b : Bool)
        → length (if b then begun_on p limit (λ k. f.head.time) f.head f.body contents else [])
        ≤ limit
    go true =
        begun_in-most p (λ k. f.head.time) limit (start_state f.head f.body contents)
    go false = omega arith

-- each frame has at most `limit` of them
pub states_in-most : (p : Program) (limit : ℕ) (contents : List KeyValues)
    (frames : List PacketFrame) → length (states_in p limit contents frames) ≤ length frames * limit
states_in-most p limit contents [] = omega arith
states_in-most p limit contents (f ∷ frames) =
    let next = contents_left contents (turn_on (checked_rule p limit) contents f) in
    let rest = states_in-most p limit next frames in
    let one = states_of-most p limit contents f in
    let both = length-append (states_of p limit contents f) (states_in p limit next frames) in
    let more : suc (length frames) * limit ≡ limit + length frames * limit = grind arith in
    omega (arith, rest, one, both, more)

ends_of-most : (p : Program) (limit : ℕ) (contents : List KeyValues) (f : PacketFrame)
    → length (ends_of p limit contents f) ≤ 1
ends_of-most p limit contents f = go (f.reason == 0)
  where
    go : (b : Bool)
        → length (if b then (checked_rule p limit f.head f.body contents).ends ∷ [] else []) ≤ 1
    go true = omega arith
    go false = omega arith

-- each frame is run once at most
pub ends_in-most : (p : Program) (limit : ℕ) (contents : List KeyValues)
    (frames : List PacketFrame) → length (ends_in p limit contents frames) ≤ length frames
ends_in-most p limit contents [] = omega arith
ends_in-most p limit contents (f ∷ frames) =
    let next = contents_left contents (turn_on (checked_rule p limit) contents f) in
    let rest = ends_in-most p limit next frames in
    let one = ends_of-most p limit contents f in
    let both = length-append (ends_of p limit contents f) (ends_in p limit next frames) in
    omega (arith, rest, one, both)

-- ---- how many steps a run takes

-- the end after n steps, whatever the limit is, from n on
abbrev EndsBy : ℕ → Progress → Type 0
EndsBy n (GoesOn s) = Unit {0}
EndsBy n (Ended (Exit a m) s) = m ≤ n
EndsBy n (Ended (Trap e m) s) = m ≤ n
EndsBy n (Ended Limit s) = ⊥

after_step-by : (n : ℕ) (s : State) (r : StepResult) → EndsBy (suc n) (after_step n s r)
after_step-by n s (Next t) = tt
after_step-by n s (Finished a) = omega arith
after_step-by n s (Trapped e) = omega arith

advanced-by : (p : Program) (clock : ℕ → ℕ) (n : ℕ) (x : Progress) → EndsBy n x
    → EndsBy (suc n) (advanced p clock n x)
advanced-by p clock n (GoesOn s) h = after_step-by n s (step p clock s)
advanced-by p clock n (Ended (Exit a m) s) h = omega (arith, h)
advanced-by p clock n (Ended (Trap e m) s) h = omega (arith, h)
advanced-by p clock n (Ended Limit s) h = absurd h

progress-by : (p : Program) (clock : ℕ → ℕ) (n : ℕ) (s : State)
    → EndsBy n (progress p clock n s)
progress-by p clock zero s = subst (EndsBy 0) (sym (progress-zero p clock s)) tt
progress-by p clock (suc n) s =
    subst (EndsBy (suc n)) (sym (progress-suc p clock n s))
    (advanced-by p clock n (progress p clock n s) (progress-by p clock n s))

steps_within : (limit : ℕ) (x : Progress) → EndsBy limit x
    → steps_by limit (turn_of x).ends ≤ limit
steps_within limit (GoesOn s) h = omega arith
steps_within limit (Ended (Exit a m) s) h = h
steps_within limit (Ended (Trap e m) s) h = h
steps_within limit (Ended Limit s) h = absurd h

pub turn-within : (p : Program) (limit : ℕ) (clock : ℕ → ℕ) (head : FrameHead) (packet : List ℕ)
    (contents : List KeyValues)
    → steps_by limit (turn p limit clock head packet contents).ends ≤ limit
unfolding turn
turn-within p limit clock head packet contents =
    steps_within limit (progress p clock limit (start_state head packet contents))
    (progress-by p clock limit (start_state head packet contents))

-- each run takes at most `limit` steps
ends_of-below : (p : Program) (limit : ℕ) (contents : List KeyValues) (f : PacketFrame)
    → All (λ e. steps_by limit e < limit + 1) (ends_of p limit contents f)
ends_of-below p limit contents f = go (f.reason == 0)
  where
    go : (b : Bool)
        → All (λ e. steps_by limit e < limit + 1)
        (if b then (checked_rule p limit f.head f.body contents).ends ∷ [] else [])
    go true =
        let within = turn-within p limit (λ k. f.head.time) f.head f.body contents in
        All-cons (λ e. steps_by limit e < limit + 1) _ [] (omega (arith, within))
        (All-nil (λ e. steps_by limit e < limit + 1))
    go false = All-nil (λ e. steps_by limit e < limit + 1)

ends_in-below : (p : Program) (limit : ℕ) (contents : List KeyValues)
    (frames : List PacketFrame)
    → All (λ e. steps_by limit e < limit + 1) (ends_in p limit contents frames)
ends_in-below p limit contents [] = All-nil (λ e. steps_by limit e < limit + 1)
ends_in-below p limit contents (f ∷ frames) =
    let next = contents_left contents (turn_on (checked_rule p limit) contents f) in
    All-append (λ e. steps_by limit e < limit + 1) (ends_of p limit contents f) (ends_in p limit next frames)
    (ends_of-below p limit contents f) (ends_in-below p limit next frames)

pub steps_in-below : (p : Program) (limit : ℕ) (contents : List KeyValues)
    (frames : List PacketFrame) → All (λ n. n < limit + 1) (steps_in p limit contents frames)
steps_in-below p limit contents frames =
    All-map (λ n. n < limit + 1) (steps_by limit) (ends_in p limit contents frames)
    (ends_in-below p limit contents frames)
