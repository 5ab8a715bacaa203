-- One slot that is taken from the work list: what it adds to the masks, and that a mask which
-- grows has less room.
use Rattle.control_flow.proofs.Common.{◌≡◌, ℕ, zero, suc, ◌^◌, ◌<◌, ◌≤◌, true, false, eqb, eq-eqb, List, length, set, Option, Some, None, refl, sym, ap, ◌∙◌, subst, arith, inl, inr, ◌↔◌, ◌⊎◌, ◌&&◌, slice_get, cases_eq, same_Some, get_or-set_same, get_or-set_other, length-set, sum_by-set, HomeMask, Node, HasHome, no_homes, mask_at, Home, IsWanted, HasBehind, IsWantedBehind, IsWantedBefore, AreSound, room_in, AddsAt}

-- ---- one slot

-- what the mask of a successor has is wanted there
behind_to : (nodes : List Node) (masks : List HomeMask) (o : Option ℕ) (h : Home)
    → AreSound nodes masks
    → HasBehind masks o h → (to : ℕ) × (o ≡ Some to) × IsWanted nodes h to
behind_to nodes masks None h sound has = absurd has
behind_to nodes masks (Some to) h sound has = (to, refl, sound h to has)

-- what is wanted before an instruction is wanted at its slot: there, or further on the way from one
-- of its successors
before_wanted : (nodes : List Node) (masks : List HomeMask) (slot : ℕ) (node : Node) (h : Home)
    → slice_get nodes slot ≡ Some node → AreSound nodes masks → IsWantedBefore masks node h
    → IsWanted nodes h slot
before_wanted nodes masks slot node h here sound (inl wants) = (zero, (node, here, wants))
before_wanted nodes masks slot node h here sound (inr (g, turns, inl falls)) =
    let next = behind_to nodes masks node.falls_to g sound falls in
    (suc next.2.0, (node, here, next.0, inl next.1, g, turns, next.2.1))
before_wanted nodes masks slot node h here sound (inr (g, turns, inr jumps)) =
    let next = behind_to nodes masks node.jumps_to g sound jumps in
    (suc next.2.0, (node, here, next.0, inr next.1, g, turns, next.2.1))

-- ---- what is wanted before an instruction, as masks

-- what is behind an instruction, and what it leaves of that, with what it wants itself
pub record IsLeft (masks : List HomeMask) (node : Node) (behind left : HomeMask) : Type 0 where
  pub has_behind : (h : Home) → HasHome behind h ↔ IsWantedBehind masks node h
  pub has_left : (h : Home) → HasHome left h
      ↔ (HasHome node.wants h ⊎ (HasHome behind h × (HasHome node.writes h → ⊥)))

-- put together from what is behind, where control falls to and where it jumps to
pub left_of_both : (masks : List HomeMask) (node : Node)
    (fallen jumped behind stays left : HomeMask)
    → ((h : Home) → HasHome fallen h ↔ HasBehind masks node.falls_to h)
    → ((h : Home) → HasHome jumped h ↔ HasBehind masks node.jumps_to h)
    → ((h : Home) → HasHome behind h ↔ (HasHome fallen h ⊎ HasHome jumped h))
    → ((h : Home) → HasHome stays h ↔ (HasHome behind h × (HasHome node.writes h → ⊥)))
    → ((h : Home) → HasHome left h ↔ (HasHome node.wants h ⊎ HasHome stays h))
    → IsLeft masks node behind left
left_of_both masks node fallen jumped behind stays left falls jumps both less more = record {
  has_behind = λ h. (
    λ has. elim ((both h).0 has) [
      | inl x ↦ inl ((falls h).0 x)
      | inr x ↦ inr ((jumps h).0 x)
    ],
    λ wanted. (both h).1 (elim wanted [
      | inl x ↦ inl ((falls h).1 x)
      | inr x ↦ inr ((jumps h).1 x)
    ]),
  );
  has_left = λ h. (
    λ has. elim ((more h).0 has) [ inl x ↦ inl x | inr x ↦ inr ((less h).0 x) ],
    λ wanted. (more h).1 (elim wanted [ inl x ↦ inl x | inr x ↦ inr ((less h).1 x) ]),
  );
}

-- what is left is wanted, if nothing is passed on
left_wanted : (masks : List HomeMask) (node : Node) (behind left : HomeMask) (h : Home)
    → IsLeft masks node behind left → HasHome left h → IsWantedBefore masks node h
left_wanted masks node behind left h is has = elim ((is.has_left h).0 has) [
  | inl wants ↦ inl wants
  | inr stays ↦ inr (h, inl (refl, stays.1), (is.has_behind h).0 stays.0)
]

-- what is wanted behind and stays is left
stays_left : (masks : List HomeMask) (node : Node) (behind left : HomeMask) (h g : Home)
    → IsLeft masks node behind left → g ≡ h → (HasHome node.writes h → ⊥)
    → IsWantedBehind masks node g → HasHome left h
stays_left masks node behind left h g is same keeps wanted =
    (is.has_left h).1 (inr (subst (HasHome behind) same ((is.has_behind g).1 wanted), keeps))

-- nothing is passed on, if none of those to which it would be is wanted behind
pub wanted_passing_none : (masks : List HomeMask) (node : Node) (behind left : HomeMask)
    → IsLeft masks node behind left
    → ((g : Home) × HasHome behind g × HasHome node.into g → ⊥)
    → (h : Home) → HasHome left h ↔ IsWantedBefore masks node h
wanted_passing_none masks node behind left is none h =
    (λ has. left_wanted masks node behind left h is has, from) where
      from : IsWantedBefore masks node h → HasHome left h
      from (inl wants) = (is.has_left h).1 (inl wants)
      from (inr (g, inl (same, keeps), wanted)) =
          stays_left masks node behind left h g is same keeps wanted
      from (inr (g, inr (passes, into), wanted)) =
          absurd (none (g, (is.has_behind g).1 wanted, into))

-- what is passed on is wanted, if one of those to which it is passed on is wanted behind
pub wanted_passing : (masks : List HomeMask) (node : Node) (behind left all : HomeMask)
    → IsLeft masks node behind left → (g : Home) × HasHome behind g × HasHome node.into g
    → ((h : Home) → HasHome all h ↔ (HasHome left h ⊎ HasHome node.from h))
    → (h : Home) → HasHome all h ↔ IsWantedBefore masks node h
wanted_passing masks node behind left all is some both h = (to, from) where
  to : HasHome all h → IsWantedBefore masks node h
  to has = elim ((both h).0 has) [
    | inl kept ↦ left_wanted masks node behind left h is kept
    | inr passes ↦ inr (some.0, inr (passes, some.2), (is.has_behind some.0).0 some.1)
  ]

  from : IsWantedBefore masks node h → HasHome all h
  from (inl wants) = (both h).1 (inl ((is.has_left h).1 (inl wants)))
  from (inr (g, inl (same, keeps), wanted)) =
      (both h).1 (inl (stays_left masks node behind left h g is same keeps wanted))
  from (inr (g, inr (passes, into), wanted)) = (both h).1 (inr passes)

-- ---- what `add_wanted` finds at a slot

abbrev IsMaskUpdate : List Node → ℕ → Node → List HomeMask → HomeMask → HomeMask → Type 0
IsMaskUpdate nodes n node masks before mask =
    (slice_get nodes n ≡ Some node) × ((r : Home) → HasHome before r ↔ IsWantedBefore masks node r)
    × ((r : Home) → HasHome mask r ↔ (HasHome (mask_at masks n) r ⊎ HasHome before r))

-- masks that a test tells apart
pub masks_apart : (a b : HomeMask)
    → (eqb a.registers.bits b.registers.bits && eqb a.slots.bits b.slots.bits) ≡ false → a ≡ b → ⊥
masks_apart a b apart same =
    let registers =
    eq-eqb a.registers.bits b.registers.bits (ap (λ (m : HomeMask). m.registers.bits) same) in
    let slots = eq-eqb a.slots.bits b.slots.bits (ap (λ (m : HomeMask). m.slots.bits) same) in
    absurd cc

-- the mask with these bits
abbrev made : ℕ → ℕ → HomeMask
made registers slots =
    record { registers = record { bits = registers }; slots = record { bits = slots } }

same_mask : (a b : HomeMask) → a.registers.bits ≡ b.registers.bits → a.slots.bits ≡ b.slots.bits
    → b ≡ a
same_mask a b rs js =
    ap (λ (x : ℕ). made x b.slots.bits) (sym rs) ∙ ap (λ (y : ℕ). made a.registers.bits y) (sym js)

-- a mask that grew has less room
less_room : (a b : HomeMask) → b.registers.bits < 2 ^ 16 → b.slots.bits < 2 ^ 64
    → a.registers.bits ≤ b.registers.bits → a.slots.bits ≤ b.slots.bits
    → (b ≡ a → ⊥) → room_in b < room_in a
less_room a b fits wide up more other = elim (cases_eq a.registers.bits b.registers.bits) [
  | inl rs ↦ elim (cases_eq a.slots.bits b.slots.bits) [
    | inl js ↦ absurd (other (same_mask a b rs js))
    | inr apart ↦ omega arith
  ]
  | inr apart ↦ omega arith
]

-- the mask of the slot grows
pub mask_grown : (nodes : List Node) (n : ℕ) (node : Node) (masks : List HomeMask)
    (before mask : HomeMask) → IsMaskUpdate nodes n node masks before mask
    → n < length masks → mask.registers.bits < 2 ^ 16 → mask.slots.bits < 2 ^ 64
    → (mask_at masks n).registers.bits ≤ mask.registers.bits
    → (mask_at masks n).slots.bits ≤ mask.slots.bits → (mask ≡ mask_at masks n → ⊥)
    → AddsAt nodes n masks (set masks n mask) true
mask_grown nodes n node masks before mask (here, adds, both) inside fits wide up more other =
    let is : mask_at (set masks n mask) n ≡ mask = get_or-set_same masks n mask no_homes inside in
    record {
      same = length-set masks n mask;
      sound = λ sound r slot h. elim (cases_eq slot n) [
        | inl e ↦
            let has : HasHome mask r =
            subst (λ x. HasHome x r) (ap (mask_at (set masks n mask)) e ∙ is) h in
            subst (λ (k : ℕ). IsWanted nodes r k) (sym e) (elim ((both r).0 has) [
              | inl had ↦ sound r n had
              | inr wanted ↦ before_wanted nodes masks n node r here sound ((adds r).0 wanted)
            ])
        | inr elsewhere ↦
            sound r slot
            (subst (λ x. HasHome x r) (get_or-set_other masks n slot mask no_homes elsewhere) h)
      ];
      kept = λ r h. subst (λ x. HasHome x r) (sym is) ((both r).1 (inl h));
      added = λ x there r wanted.
          let one : x ≡ node = same_Some x node (sym there ∙ here) in
          subst (λ y. HasHome y r) (sym is)
          ((both r).1
          (inr ((adds r).1 (subst (λ (y : Node). IsWantedBefore masks y r) one wanted))));
      others = λ k elsewhere. get_or-set_other masks n k mask no_homes elsewhere;
      still = λ e. absurd cc;
      less = λ e.
          let moved = sum_by-set room_in masks n mask no_homes inside in
          let less = less_room (mask_at masks n) mask fits wide up more other in
          omega (arith, moved, less);
    }
