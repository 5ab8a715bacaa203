use Rattle.kept_states.proofs.Common.{rules, ◌≡◌, ◌++◌, ◌∙◌, Option, None, option_to_list, length, ap, sym, append-nil, Part, unset_frame, all_written, parts_of, register_parts, slot_parts, all_written-parts_of, whole, constant_of, others_of, few_of, groups_of}
use Rattle.kept_states.proofs.kept_frames.KeptFrame.is_frame.Goals as goal

pub returns : goal.returns
unfolding parts_of
returns c = λ yes.
    let frame = c.args.frame.now in
    let slot : c.self.inside.return_slot ≡ frame.return_slot = search rules in
    let none : constant_of c.self.inside.parts ≡ None = sym c.constant.ensures ∙ c.in-None.is in
    let all : few_of c.self.inside.parts ++ whole (groups_of c.self.inside.parts) ≡ parts_of frame =
    ap (λ (o : Option Part). (option_to_list o ++ others_of c.self.inside.parts)
    ++ whole (groups_of c.self.inside.parts)) none
    ∙ sym c.of-rest.ensures
    ∙ c.are_registers.ensures.same c.if-not-are_registers.false
    ∙ ap (λ l. register_parts 0 frame.registers ++ l)
    (c.are_slots.ensures.same c.if-not-are_slots.false
    ∙ ap (λ l. slot_parts 0 c.slots.result.now ++ l) (c.is_empty.ensures yes)
    ∙ append-nil (slot_parts 0 c.slots.result.now)
    ∙ ap (slot_parts 0) c.slots.ensures) in
    sym c.self.view_is
    ∙ ap (λ n. all_written (unset_frame n)
    (few_of c.self.inside.parts ++ whole (groups_of c.self.inside.parts))) slot
    ∙ all_written-parts_of frame
    (few_of c.self.inside.parts ++ whole (groups_of c.self.inside.parts))
    c.are_registers.ensures.ten
    (sym (ap length c.slots.ensures) ∙ c.are_slots.ensures.wide) all
