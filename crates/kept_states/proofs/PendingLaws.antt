-- Pending states with one more, or one less.
use Rattle.kept_states.proofs.Common.{◌≡◌, ◌∙◌, suc, List, [], ◌∷◌, ◌++◌, take, drop, reverse, length, refl, ap, ap₂, arith, reverse-append, length-reverse, Kind, AbstractFrame, State, Part, all_written, changes_of, changed_state, states_from, states_below, pending_states}
use Rattle.kept_states.specs.declared.changing.ChangedState.{ChangedState}
use Rattle.kept_states.specs.declared.changing.PendingState.{PendingState}
use Rattle.kept_states.specs.declared.changing.PendingState.TheVariants.{Whole, Changed}
use Rattle.kept_states.specs.declared.changing.Changing.{Changing}
use Rattle.kept_states.proofs.ChangeLaws.{reverse_more}

-- a state by what it changes, and those before it
pub changed_from : (any : Kind) (s : ChangedState) (states : List PendingState) (parts before : List Part)
    (f old : AbstractFrame) (a : State) → changed_state any s f ≡ a
    → drop s.count parts ≡ before → all_written f (take s.count parts) ≡ old
    → states_from any (Changed s ∷ states) parts f ≡ a ∷ states_from any states before old
unfolding states_from
changed_from any s states parts before f old a is dropped undone =
    ap₂ (λ (x : State) (l : List State). x ∷ l) is
    (ap₂ (λ (l : List Part) (g : AbstractFrame). states_from any states l g) dropped undone)

length-states_from : (any : Kind) (states : List PendingState) (parts : List Part) (f : AbstractFrame)
    → length (states_from any states parts f) ≡ length states
unfolding states_from
length-states_from any [] parts f = refl
length-states_from any (Whole s ∷ states) parts f =
    ap suc (length-states_from any states parts f)
length-states_from any (Changed s ∷ states) parts f =
    ap suc
    (length-states_from any states (drop s.count parts) (all_written f (take s.count parts)))

pub length-pending_states : (c : Changing) (states : List PendingState)
    → length (pending_states c states) ≡ length states
length-pending_states c states =
    length-reverse (states_below c (reverse states))
    ∙ length-states_from c.any (reverse states) (changes_of c.changed) c.changed.frame
    ∙ length-reverse states

-- one state more
pub pending_more : (old new : Changing) (states all : List PendingState) (p : PendingState) (s : State)
    → all ≡ states ++ p ∷ []
    → states_below new (p ∷ reverse states) ≡ s ∷ states_below old (reverse states)
    → pending_states new all ≡ pending_states old states ++ s ∷ []
pending_more old new states all p s longer below =
    ap (λ l. reverse (states_below new l)) (reverse_more states all p longer)
    ∙ ap reverse below
    ∙ reverse-append (s ∷ []) (states_below old (reverse states))

pub no_items : {X : Type 0} (l : List X) → length l ≡ 0 → l ≡ []
no_items [] none = refl
no_items (x ∷ l) none = absurd (omega arith)
