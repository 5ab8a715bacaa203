-- A trail with one visit more, or one less.
use Rattle.explorer.proofs.Common.{◌≡◌, ◌∙◌, ℕ, suc, ◌+◌, ◌≤◌, List, [], ◌∷◌, ◌++◌, take, set, get_or, length, length-append, Bool, true, false, Option, Some, None, refl, sym, ap, arith, is_some, option_to_list, set_split, set-get_or, drop_all, take_all, take_more, State, Visit, KeptVisit, pending_of, states_left, visits_of, one_if, waiting_count}
use Rattle.std.proofs.Math.Seq.{get_or-append_seam}

pending_of-append : (b : Bool) (states more : List State) → one_if b ≤ length states
    → pending_of b (states ++ more) ≡ pending_of b states
pending_of-append false states more h = refl
pending_of-append true [] more h = absurd (omega arith)
pending_of-append true (s ∷ states) more h = refl

states_left-append : (b : Bool) (states more : List State) → one_if b ≤ length states
    → states_left b (states ++ more) ≡ states_left b states ++ more
states_left-append false states more h = refl
states_left-append true [] more h = absurd (omega arith)
states_left-append true (s ∷ states) more h = refl

length-states_left : (b : Bool) (states : List State) (n : ℕ) → one_if b + n ≡ length states
    → n ≡ length (states_left b states)
length-states_left false states n h = omega (arith, h)
length-states_left true [] n h = absurd (omega arith)
length-states_left true (s ∷ states) n h = omega (arith, h)

-- where each waiting visit has its state, the states after them are for the visits after them
visits_of-append : (visits others : List KeptVisit) (states more : List State)
    → waiting_count visits ≡ length states
    → visits_of (visits ++ others) (states ++ more)
    ≡ visits_of visits states ++ visits_of others more
unfolding visits_of
visits_of-append [] others [] more h = refl
visits_of-append [] others (s ∷ states) more h = absurd (omega arith)
visits_of-append (kept ∷ visits) others states more h =
    let enough : one_if kept.waits ≤ length states = omega (arith, h) in
    ap (λ o. record { pending = o; best = kept.best; stored = kept.stored }
    ∷ visits_of (visits ++ others) (states_left kept.waits (states ++ more)))
    (pending_of-append kept.waits states more enough)
    ∙ ap (λ l. record {
      pending = pending_of kept.waits states;
      best = kept.best;
      stored = kept.stored;
    } ∷ visits_of (visits ++ others) l)
    (states_left-append kept.waits states more enough)
    ∙ ap (λ l. record {
      pending = pending_of kept.waits states;
      best = kept.best;
      stored = kept.stored;
    } ∷ l)
    (visits_of-append visits others (states_left kept.waits states) more
    (length-states_left kept.waits states (waiting_count visits) h))

waiting_count-append : (visits others : List KeptVisit)
    → waiting_count (visits ++ others) ≡ waiting_count visits + waiting_count others
waiting_count-append [] others = omega arith
waiting_count-append (kept ∷ visits) others =
    let rest = waiting_count-append visits others in omega (arith, rest)

-- a visit with its pending state
visit_alone : (kept : KeptVisit) (o : Option State) → kept.waits ≡ is_some o
    → visits_of (kept ∷ []) (option_to_list o)
    ≡ record { pending = o; best = kept.best; stored = kept.stored } ∷ []
unfolding visits_of
visit_alone kept None is =
    ap (λ b. record { pending = pending_of b []; best = kept.best; stored = kept.stored } ∷ []) is
visit_alone kept (Some s) is =
    ap (λ b. record { pending = pending_of b (s ∷ []); best = kept.best; stored = kept.stored }
    ∷ []) is

-- one visit more at the end
pub visits_of-one : (visits : List KeptVisit) (kept : KeptVisit) (states : List State)
    (o : Option State) → waiting_count visits ≡ length states → kept.waits ≡ is_some o
    → visits_of (visits ++ kept ∷ []) (states ++ option_to_list o)
    ≡ visits_of visits states ++ record { pending = o; best = kept.best; stored = kept.stored } ∷ []
visits_of-one visits kept states o fits is =
    visits_of-append visits (kept ∷ []) states (option_to_list o) fits
    ∙ ap (λ l. visits_of visits states ++ l) (visit_alone kept o is)

pub visits_of-more : (visits whole : List KeptVisit) (kept : KeptVisit) (states all : List State)
    (o : Option State) → waiting_count visits ≡ length states
    → whole ≡ visits ++ kept ∷ [] → all ≡ states ++ option_to_list o → kept.waits ≡ is_some o
    → visits_of whole all
    ≡ visits_of visits states ++ record { pending = o; best = kept.best; stored = kept.stored } ∷ []
visits_of-more visits whole kept states all o fits longer grown is =
    ap (λ l. visits_of l all) longer ∙ ap (visits_of (visits ++ kept ∷ [])) grown
    ∙ visits_of-one visits kept states o fits is

length-option : (o : Option State) → length (option_to_list o) ≡ one_if (is_some o)
length-option None = refl
length-option (Some s) = refl

waiting_count-one : (visits whole : List KeptVisit) (kept : KeptVisit) (states all : List State)
    (o : Option State)
    → whole ≡ visits ++ kept ∷ [] → all ≡ states ++ option_to_list o → kept.waits ≡ is_some o
    → waiting_count visits + length all ≡ waiting_count whole + length states
waiting_count-one visits whole kept states all o longer grown is =
    let wait : waiting_count whole ≡ waiting_count visits + waiting_count (kept ∷ []) =
    ap waiting_count longer ∙ waiting_count-append visits (kept ∷ []) in
    let hold : length all ≡ length states + length (option_to_list o) =
    ap length grown ∙ length-append states (option_to_list o) in
    let one : one_if kept.waits ≡ length (option_to_list o) =
    ap one_if is ∙ sym (length-option o) in
    omega (arith, wait, hold, one)

-- each waiting visit has its state, also with one visit more
pub waiting_count-more : (visits whole : List KeptVisit) (kept : KeptVisit)
    (states all : List State) (o : Option State) → waiting_count visits ≡ length states
    → whole ≡ visits ++ kept ∷ [] → all ≡ states ++ option_to_list o → kept.waits ≡ is_some o
    → waiting_count whole ≡ length all
waiting_count-more visits whole kept states all o fits longer grown is =
    let same = waiting_count-one visits whole kept states all o longer grown is in
    omega (arith, same, fits)

-- and with one visit less
pub waiting_count-less : (visits whole : List KeptVisit) (kept : KeptVisit)
    (states all : List State) (o : Option State) → waiting_count whole ≡ length all
    → whole ≡ visits ++ kept ∷ [] → all ≡ states ++ option_to_list o → kept.waits ≡ is_some o
    → waiting_count visits ≡ length states
waiting_count-less visits whole kept states all o fits longer grown is =
    let same = waiting_count-one visits whole kept states all o longer grown is in
    omega (arith, same, fits)

-- the last visit, if it waits, has a state
pub last_waits : (visits whole : List KeptVisit) (kept : KeptVisit) (states : List State)
    → whole ≡ visits ++ kept ∷ [] → waiting_count whole ≡ length states
    → one_if kept.waits ≤ length states
last_waits visits whole kept states longer fits =
    let wait : waiting_count whole ≡ waiting_count visits + waiting_count (kept ∷ []) =
    ap waiting_count longer ∙ waiting_count-append visits (kept ∷ []) in
    omega (arith, wait, fits)

-- a visit whose pending state is taken
pub waiting_count-taken : (visits whole now : List KeptVisit) (kept taken : KeptVisit)
    → whole ≡ visits ++ kept ∷ [] → now ≡ visits ++ taken ∷ [] → kept.waits ≡ true
    → taken.waits ≡ false → waiting_count whole ≡ waiting_count now + 1
waiting_count-taken visits whole now kept taken before after waits idle =
    let old : waiting_count whole ≡ waiting_count visits + waiting_count (kept ∷ []) =
    ap waiting_count before ∙ waiting_count-append visits (kept ∷ []) in
    let new : waiting_count now ≡ waiting_count visits + waiting_count (taken ∷ []) =
    ap waiting_count after ∙ waiting_count-append visits (taken ∷ []) in
    omega (arith, old, new, ap one_if waits, ap one_if idle)

pub length-visits_of : (visits : List KeptVisit) (states : List State)
    → length (visits_of visits states) ≡ length visits
unfolding visits_of
length-visits_of [] states = refl
length-visits_of (kept ∷ visits) states =
    let rest = length-visits_of visits (states_left kept.waits states) in omega (arith, rest)

-- ---- the last visit

-- it is written again
pub last_set : (whole : List KeptVisit) (i : ℕ) (kept : KeptVisit) → i + 1 ≡ length whole
    → set whole i kept ≡ take i whole ++ kept ∷ []
last_set whole i kept last =
    set_split whole i kept (omega (arith, last))
    ∙ ap (λ l. take i whole ++ kept ∷ l) (drop_all (suc i) whole (omega (arith, last)))

pub last_read : (whole : List KeptVisit) (i : ℕ) (d : KeptVisit) → i + 1 ≡ length whole
    → whole ≡ take i whole ++ get_or whole i d ∷ []
last_read whole i d last = sym (set-get_or whole i d) ∙ last_set whole i (get_or whole i d) last

-- a path has one last visit
pub last_visit : (path others : List Visit) (visit other : Visit)
    → path ++ visit ∷ [] ≡ others ++ other ∷ [] → visit ≡ other
last_visit path others visit other same =
    let count : length path ≡ length others =
    omega (
      arith,
      ap length same,
      length-append path (visit ∷ []),
      length-append others (other ∷ []),
    ) in
    sym (get_or-append_seam path visit [] visit)
    ∙ ap (λ l. get_or l (length path) visit) same
    ∙ ap (λ (n : ℕ). get_or (others ++ other ∷ []) n visit) count
    ∙ get_or-append_seam others other [] visit

-- a list that is not empty has a last element
pub last_split : {X : Type 0} (x : X) (xs : List X) → x ∷ xs
    ≡ take (length xs) (x ∷ xs) ++ get_or (x ∷ xs) (length xs) x ∷ []
last_split x xs =
    sym (take_all (length xs + 1) (x ∷ xs) (omega arith))
    ∙ take_more (x ∷ xs) (length xs) x (omega arith)

-- a last visit without a pending state does not wait
pub last_idle : (visits whole : List KeptVisit) (kept : KeptVisit) (states : List State)
    → whole ≡ visits ++ kept ∷ [] → waiting_count whole ≡ length states
    → ((path : List Visit) (visit : Visit) → visits_of whole states ≡ path ++ visit ∷ []
    → visit.pending ≡ None)
    → (b : Bool) → kept.waits ≡ b → b ≡ false
last_idle visits whole kept states longer fits idle false is = refl
last_idle visits whole kept [] longer fits idle true is =
    let some = last_waits visits whole kept [] longer fits in
    absurd (omega (arith, some, ap one_if is))
last_idle visits whole kept (s ∷ states) longer fits idle true is =
    let all : List State = s ∷ states in
    let front : List State = take (length states) all in
    let last : State = get_or all (length states) s in
    let split : all ≡ front ++ last ∷ [] = last_split s states in
    let seen =
    visits_of-more visits whole kept front all (Some last)
    (waiting_count-less visits whole kept front all (Some last) fits longer split is)
    longer split is in
    absurd (cc (idle (visits_of visits front)
    (record { pending = Some last; best = kept.best; stored = kept.stored }) seen))

-- a state is taken, if there is one
pub is_taken : (o : Option State) (states : List State) → 1 ≤ length states
    → (o ≡ None → states ≡ []) → true ≡ is_some o
is_taken None states some none = absurd (omega (arith, some, ap length (none refl)))
is_taken (Some s) states some none = refl
