-- Fronts of abstract states: the loops that make one, when one covers another state, and where a
-- front that covers it ends.
use Rattle.explanations.proofs.Common.{◌≡◌, ◌<◌, ◌≤◌, ◌+◌, ◌++◌, ℕ, List, length, map, get_or, set, take, drop, refl, sym, ap, ◌∙◌, subst, arith, inl, inr, Bool, false, IsTrue, max, State, AreKnownFrom, slot_at, frame_slots, marks_of, abstract_frame_at, depth, frames_of, kind_at, kinds_of, no_frame, stack_slots_of, AreFirstSlots, FrontCovers, FrontEncloses, FrontIsOpen, IsFront, IsFrontOf, count_in}
use Rattle.std.specs.List.{refill}
use Rattle.std.proofs.Math.Seq.{take-append_seam}
use Rattle.std.proofs.lemmas.Bool.{cases_eq, cases_lt}
use Rattle.std.proofs.lemmas.Bool.Decides.{nat_tests}
use Rattle.std.proofs.lemmas.Nat.Bits.{bit_at-zero}
use Rattle.std.proofs.lemmas.List.{length-set, length-map, ext_get_or, get_or_past, get_or-set_same, get_or-set_other, get_or_default, get_or-map}
use Rattle.reg_state.specs.declared.kinds.Kind.{Kind}
use Rattle.reg_state.specs.declared.kinds.Kind.TheVariants.{Unset}
use Rattle.reg_state.specs.KindCover.{KindEncloses}
use Rattle.stack_state.specs.declared.slots.StackSlot.{StackSlot}
use Rattle.stack_state.specs.declared.slots.StackSlot.TheVariants.{Written}
use Rattle.stack_state.specs.declared.states.AbstractFrame.{AbstractFrame}
use Rattle.stack_state.proofs.MeaningLaws.{abstract_frame_at-caller, abstract_frame_at-innermost, length-frames_of}
use Rattle.state_cover.specs.FrameCover.{AreAmong, SlotEncloses, StateEncloses}

-- ---- the loop through registers

-- nothing is known of those from one on and before index n; the first ones are as before
pub record KindsKeptTo (count n : ℕ) (old new : List Kind) : Type 0 where
  pub ten : length new ≡ 10
  pub kept : (k : ℕ) → k < count → kind_at new k ≡ kind_at old k
  pub others : (k : ℕ) → count ≤ k → k < n → kind_at new k ≡ Unset

-- ---- the loop through stack slots

pub record SlotsKeptTo (count n : ℕ) (old new : List StackSlot) : Type 0 where
  pub all : length new ≡ frame_slots
  pub kept : (k : ℕ) → k < count → slot_at new k ≡ slot_at old k
  pub others : (k : ℕ) → count ≤ k → k < n → slot_at new k ≡ Written 0

-- nothing is known of those before `known`
pub slots_begun : (count known n : ℕ) (old : List StackSlot) → AreKnownFrom known old
    → n ≡ max known count → SlotsKeptTo count n old old
slots_begun count known n old blank from = record {
  all = blank.wide;
  kept = λ k low. refl;
  others = λ k high low. blank.blank k (omega arith);
}

pub slots_more : (count n : ℕ) (old new : List StackSlot) → count ≤ n → n < frame_slots
    → SlotsKeptTo count n old new → SlotsKeptTo count (n + 1) old (set new n (Written 0))
slots_more count n old new from below h = record {
  all = length-set new n (Written 0) ∙ h.all;
  kept = λ k low.
      get_or-set_other new n k (Written 0) (Written 0) (λ e. absurd (omega arith)) ∙ h.kept k low;
  others = λ k high low. elim (cases_eq k n) [
    | inl e ↦
        ap (slot_at (set new n (Written 0))) e
        ∙ get_or-set_same new n (Written 0) (Written 0) (let all = h.all in omega arith)
    | inr apart ↦
        get_or-set_other new n k (Written 0) (Written 0) apart ∙ h.others k high (omega arith)
  ];
}

pub slots_done : (count n : ℕ) (old new : List StackSlot) → frame_slots ≤ n
    → SlotsKeptTo count n old new → AreFirstSlots count old new
slots_done count n old new whole h = record {
  kept = h.kept;
  others = λ k high. elim (cases_lt k n) [
    | inl low ↦ h.others k high low
    | inr past ↦ get_or_past new k (Written 0) (let all = h.all in omega arith)
  ];
}

-- ---- the loop through call frames

-- of this frame the new one has what is in the front
abbrev IsPart : (last registers slots j : ℕ) → (old new : AbstractFrame) → Type 0
IsPart last registers slots j old new =
    IsFrontOf (count_in last registers 10 j) (count_in last slots frame_slots j) old new

-- the frames of callers before index i are done, and the rest of the state is as before
pub record FrontTo (e : State) (last registers slots i : ℕ) (front : State) : Type 0 where
  pub slot_is : front.slot ≡ e.slot
  pub as_many : length front.callers.items ≡ length e.callers.items
  pub innermost : front.innermost ≡ e.innermost
  pub done : (j : ℕ) → j < i → IsPart last registers slots j
      (get_or e.callers.items j no_frame) (get_or front.callers.items j no_frame)
  pub rest : (j : ℕ) → i ≤ j
      → get_or front.callers.items j no_frame ≡ get_or e.callers.items j no_frame

pub front_begun : (e : State) (last registers slots : ℕ) → FrontTo e last registers slots 0 e
front_begun e last registers slots = record {
  slot_is = refl;
  as_many = refl;
  innermost = refl;
  done = λ j low. absurd (omega arith);
  rest = λ j high. refl;
}

pub front_more : (e front : State) (last registers slots i : ℕ) (d f : AbstractFrame)
    → i < length e.callers.items
    → IsPart last registers slots i (get_or front.callers.items i d) f
    → FrontTo e last registers slots i front
    → FrontTo e last registers slots (i + 1)
    (record front { callers = record { items = set front.callers.items i f } })
front_more e front last registers slots i d f below made h =
    let inside : i < length front.callers.items = let many = h.as_many in omega arith in record {
      slot_is = h.slot_is;
      as_many = length-set front.callers.items i f ∙ h.as_many;
      innermost = h.innermost;
      done = λ j low. elim (cases_eq j i) [
        | inl same ↦
            let own : get_or (set front.callers.items i f) j no_frame ≡ f =
            ap (λ (n : ℕ). get_or (set front.callers.items i f) n no_frame) same
            ∙ get_or-set_same front.callers.items i f no_frame inside in
            let was : get_or front.callers.items i d ≡ get_or e.callers.items i no_frame =
            get_or_default front.callers.items i d no_frame inside ∙ h.rest i (omega arith) in
            subst (λ x. IsPart last registers slots j (get_or e.callers.items j no_frame) x)
            (sym own)
            (subst (λ (n : ℕ). IsPart last registers slots n (get_or e.callers.items n no_frame) f)
            (sym same) (subst (λ x. IsPart last registers slots i x f) was made))
        | inr apart ↦
            subst (λ x. IsPart last registers slots j (get_or e.callers.items j no_frame) x)
            (sym (get_or-set_other front.callers.items i j f no_frame apart))
            (h.done j (omega arith))
      ];
      rest = λ j high.
          get_or-set_other front.callers.items i j f no_frame (λ same. absurd (omega arith))
          ∙ h.rest j (omega arith);
    }

pub front_done : (e front : State) (last registers slots i : ℕ) (f : AbstractFrame)
    → i ≡ length e.callers.items → IsPart last registers slots i front.innermost f
    → FrontTo e last registers slots i front
    → IsFront e last registers slots (record front { innermost = f })
front_done e front last registers slots i f whole made h =
    let after : State = record front { innermost = f } in record {
      slot_is = h.slot_is;
      as_many = h.as_many;
      frames = λ j below. elim (cases_lt j i) [
        | inl low ↦
            let many = h.as_many in
            subst (λ x. IsPart last registers slots j x (abstract_frame_at after j))
            (sym (abstract_frame_at-caller e j (omega arith)))
            (subst (λ x. IsPart last registers slots j (get_or e.callers.items j no_frame) x)
            (sym (abstract_frame_at-caller after j (omega arith)))
            (h.done j low))
        | inr high ↦
            let many = h.as_many in
            let here : j ≡ length e.callers.items = omega arith in
            let there : j ≡ length after.callers.items = omega arith in
            let old : abstract_frame_at e j ≡ front.innermost =
            ap (abstract_frame_at e) here ∙ abstract_frame_at-innermost e ∙ sym h.innermost in
            let new : abstract_frame_at after j ≡ f =
            ap (abstract_frame_at after) there ∙ abstract_frame_at-innermost after in
            let same : i ≡ j = omega arith in
            subst (λ x. IsPart last registers slots j x (abstract_frame_at after j)) (sym old)
            (subst (λ x. IsPart last registers slots j front.innermost x) (sym new)
            (subst (λ (n : ℕ). IsPart last registers slots n front.innermost f) same made))
      ];
    }

refill_whole : (xs ws : List AbstractFrame) → length ws ≡ length xs
    → refill (length xs) xs ws ≡ ws
refill_whole xs ws same =
    ap (λ (n : ℕ). take n (ws ++ drop (length ws) xs)) (sym same)
    ∙ take-append_seam ws (drop (length ws) xs)

-- one turn, where the frame at index i is left as f
pub front_turn : (e front : State) (last registers slots i m n : ℕ) (ds : List AbstractFrame)
    (d f : AbstractFrame) → ds ≡ front.callers.items → i < length e.callers.items
    → m ≡ count_in last registers 10 i → n ≡ count_in last slots frame_slots i
    → IsFrontOf m n (get_or ds i d) f → FrontTo e last registers slots i front
    → FrontTo e last registers slots (i + 1)
    (record front {
      callers = record {
        items = refill (length front.callers.items) front.callers.items (set ds i f);
      };
    })
front_turn e front last registers slots i m n ds d f same below few some made h =
    let items = front.callers.items in
    let there : get_or ds i d ≡ get_or items i d = ap (λ xs. get_or xs i d) same in
    let at : IsPart last registers slots i (get_or items i d) f =
    subst (λ (x : ℕ). IsFrontOf x (count_in last slots frame_slots i) (get_or items i d) f) few
    (subst (λ (x : ℕ). IsFrontOf m x (get_or items i d) f) some
    (subst (λ x. IsFrontOf m n x f) there made)) in
    let whole : refill (length items) items (set ds i f) ≡ set items i f =
    refill_whole items (set ds i f) (length-set ds i f ∙ ap length same)
    ∙ ap (λ xs. set xs i f) same in
    subst (λ xs. FrontTo e last registers slots (i + 1)
    (record front { callers = record { items = xs } })) (sym whole)
    (front_more e front last registers slots i d f below at h)

-- after the last turn, where the innermost frame is left as f
pub front_whole : (e front : State) (last registers slots i k m n : ℕ) (f : AbstractFrame)
    → k ≡ i → k ≡ length e.callers.items → m ≡ count_in last registers 10 k
    → n ≡ count_in last slots frame_slots k → IsFrontOf m n front.innermost f
    → FrontTo e last registers slots i front
    → IsFront e last registers slots (record front { innermost = f })
front_whole e front last registers slots i k m n f same all few some made h =
    front_done e front last registers slots k f all
    (subst (λ (x : ℕ). IsFrontOf x (count_in last slots frame_slots k) front.innermost f) few
    (subst (λ (x : ℕ). IsFrontOf m x front.innermost f) some made))
    (subst (λ (x : ℕ). FrontTo e last registers slots x front) (sym same) h)

-- ---- what a front covers

front_depth : (e front : State) (last registers slots : ℕ) → IsFront e last registers slots front
    → depth front ≡ depth e
front_depth e front last registers slots is = ap (λ (n : ℕ). n + 1) is.as_many

front_returns : (e front : State) (last registers slots : ℕ)
    → IsFront e last registers slots front
    → map (λ f. f.return_slot) (frames_of front) ≡ map (λ f. f.return_slot) (frames_of e)
front_returns e front last registers slots is =
    let slot : AbstractFrame → ℕ = λ f. f.return_slot in
    let long : length (frames_of front) ≡ length (frames_of e) =
    length-frames_of front ∙ front_depth e front last registers slots is
    ∙ sym (length-frames_of e) in
    ext_get_or 0 (map slot (frames_of front)) (map slot (frames_of e))
    (length-map (frames_of front) slot ∙ long ∙ sym (length-map (frames_of e) slot))
    (λ i below.
    let within : i < length (frames_of front) =
    let same = length-map (frames_of front) slot in omega (arith, below, same) in
    let inside : i < depth e =
    let same = length-frames_of front in
    let deep = front_depth e front last registers slots is in
    omega (arith, within, same, deep) in
    let there : i < length (frames_of e) = omega (arith, within, long) in
    get_or-map slot (frames_of front) i no_frame 0 within ∙ (is.frames i inside).returns
    ∙ sym (get_or-map slot (frames_of e) i no_frame 0 there))

past_frames : (front : State) (j : ℕ) → depth front ≤ j → abstract_frame_at front j ≡ no_frame
past_frames front j past =
    let same = length-frames_of front in
    get_or_past (frames_of front) j no_frame (omega (arith, past, same))

no_marks : (b : StackSlot) → AreAmong 0 (marks_of b)
no_marks b = λ i low one. let zero = bit_at-zero i in absurd (omega (arith, zero, one))

-- each register of the front covers the same one
front_kind : (packet null : ℕ → ℕ) (e a front : State) (last registers slots : ℕ) (j k : ℕ)
    → IsFront e last registers slots front
    → FrontEncloses packet null e a last registers slots
    → KindEncloses packet null (kind_at (kinds_of front j) k) (kind_at (kinds_of a j) k)
front_kind packet null e a front last registers slots j k is h =
    let there : Kind = kind_at (kinds_of a j) k in
    elim (cases_lt j (depth e)) [
      | inl below ↦ elim (cases_lt k (count_in last registers 10 j)) [
        | inl low ↦
            subst (λ x. KindEncloses packet null x there)
            (sym ((is.frames j below).registers_are.kept k low)) (h.kinds j k low)
        | inr high ↦
            let free : KindEncloses packet null Unset there = tt in
            subst (λ x. KindEncloses packet null x there)
            (sym ((is.frames j below).registers_are.others k high)) free
      ]
      | inr past ↦
          let deep = front_depth e front last registers slots is in
          let free : KindEncloses packet null (kind_at no_frame.registers k) there = tt in
          subst (λ (x : AbstractFrame). KindEncloses packet null (kind_at x.registers k) there)
          (sym (past_frames front j (omega (arith, past, deep)))) free
    ]

front_slot : (packet null : ℕ → ℕ) (e a front : State) (last registers slots : ℕ) (j k : ℕ)
    → IsFront e last registers slots front
    → FrontEncloses packet null e a last registers slots
    → SlotEncloses packet null (slot_at (stack_slots_of front j) k) (slot_at (stack_slots_of a j) k)
front_slot packet null e a front last registers slots j k is h =
    let there : StackSlot = slot_at (stack_slots_of a j) k in
    elim (cases_lt j (depth e)) [
      | inl below ↦ elim (cases_lt k (count_in last slots frame_slots j)) [
        | inl low ↦
            subst (λ x. SlotEncloses packet null x there)
            (sym ((is.frames j below).slots_are.kept k low)) (h.stack_slots j k low)
        | inr high ↦
            let free : SlotEncloses packet null (Written 0) there = no_marks there in
            subst (λ x. SlotEncloses packet null x there)
            (sym ((is.frames j below).slots_are.others k high)) free
      ]
      | inr past ↦
          let deep = front_depth e front last registers slots is in
          let free : SlotEncloses packet null (slot_at no_frame.stack.slots k) there =
          no_marks there in
          subst (λ (x : AbstractFrame). SlotEncloses packet null (slot_at x.stack.slots k) there)
          (sym (past_frames front j (omega (arith, past, deep)))) free
    ]

-- if the registers and stack slots of the front cover those of a, so do those of the state that has
-- the front alone
pub front_encloses : (packet null : ℕ → ℕ) (e a front : State) (last registers slots : ℕ)
    → IsFront e last registers slots front
    → FrontEncloses packet null e a last registers slots → StateEncloses packet null front a
front_encloses packet null e a front last registers slots is h = record {
  none = h.none;
  slot = is.slot_is ∙ h.slot;
  returns = front_returns e front last registers slots is ∙ h.returns;
  registers = λ j k. front_kind packet null e a front last registers slots j k is h;
  slots = λ j k. front_slot packet null e a front last registers slots j k is h;
}

-- a test that finds all that registers and stack slots show did not find it
pub front_open : (e a front : State) (last registers slots : ℕ) (found : Bool) → found ≡ false
    → IsFront e last registers slots front
    → ((packet null : ℕ → ℕ) → StateEncloses packet null front a → IsTrue found)
    → FrontIsOpen e a last registers slots
front_open e a front last registers slots found fails is finds = λ packet null h.
    let yes = finds packet null (front_encloses packet null e a front last registers slots is h) in
    absurd (cc (fails, yes))

-- ---- the next frame

count_next : (last all j : ℕ) → count_in last all all j ≡ count_in (last + 1) 0 all j
count_next last all j = elim (cases_lt j last) [
  | inl low ↦ grind (arith, nat_tests)
  | inr high ↦ elim (cases_eq j last) [
    | inl same ↦ grind (arith, nat_tests)
    | inr apart ↦ grind (arith, nat_tests)
  ]
]

-- a whole frame is covered, and nothing is known of the next one
pub front_next : (e a : State) (last : ℕ) → FrontCovers e a last 10 frame_slots
    → FrontCovers e a (last + 1) 0 0
front_next e a last h = record {
  front = h.front;
  is =
      record {
        slot_is = h.is.slot_is;
        as_many = h.is.as_many;
        frames = λ j below.
            subst (λ (m : ℕ). IsFrontOf m (count_in (last + 1) 0 frame_slots j)
            (abstract_frame_at e j) (abstract_frame_at h.front j)) (count_next last 10 j)
            (subst (λ (n : ℕ). IsFrontOf (count_in last 10 10 j) n (abstract_frame_at e j)
            (abstract_frame_at h.front j)) (count_next last frame_slots j)
            (h.is.frames j below));
      };
  covers = h.covers;
}
