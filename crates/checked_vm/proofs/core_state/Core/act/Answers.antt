use Rattle.checked_vm.proofs.Common.{◌≡◌, length, sym, ap, ◌∙◌, FitsSigned, w32, rules, arith, to_z-of_z, max_call_frames, Next, act, state_of}
use Rattle.checked_vm.proofs.Acts.{stays_running, performs_in, performs_apart, calls_enter}
use Rattle.checked_vm.proofs.core_state.Core.act.Goals as goal

pub returns-in-Alu-clause-done : goal.returns-in-Alu-clause-done
returns-in-Alu-clause-done c =
    performs_apart c.args.slots _ c.args.insn.now c.do_alu.result c.args.self.now c.do_alu.new.self
    c.args.packet.now c.in-Alu.is c.do_alu.ensures.done

pub returns-in-Neg-clause-done : goal.returns-in-Neg-clause-done
returns-in-Neg-clause-done c =
    performs_apart c.args.slots _ c.args.insn.now c.do_neg.result c.args.self.now c.do_neg.new.self
    c.args.packet.now c.in-Neg.is c.do_neg.ensures.done

pub returns-in-MovSx-clause-done : goal.returns-in-MovSx-clause-done
returns-in-MovSx-clause-done c =
    performs_apart c.args.slots _ c.args.insn.now c.do_mov_sx.result c.args.self.now
    c.do_mov_sx.new.self c.args.packet.now c.in-MovSx.is c.do_mov_sx.ensures.done

pub returns-in-ByteSwap-clause-done : goal.returns-in-ByteSwap-clause-done
returns-in-ByteSwap-clause-done c =
    performs_apart c.args.slots _ c.args.insn.now c.do_byte_swap.result c.args.self.now
    c.do_byte_swap.new.self c.args.packet.now c.in-ByteSwap.is c.do_byte_swap.ensures.done

pub returns-in-Load-clause-done : goal.returns-in-Load-clause-done
returns-in-Load-clause-done c =
    performs_in c.args.slots _ c.args.insn.now c.do_load.result c.args.self.now c.args.packet.now
    c.do_load.new.self c.args.packet.now c.in-Load.is c.do_load.ensures.done

pub returns-in-LoadSx-clause-done : goal.returns-in-LoadSx-clause-done
returns-in-LoadSx-clause-done c =
    performs_in c.args.slots _ c.args.insn.now c.do_load_sx.result c.args.self.now c.args.packet.now
    c.do_load_sx.new.self c.args.packet.now c.in-LoadSx.is c.do_load_sx.ensures.done

pub returns-in-StoreConstant-clause-done : goal.returns-in-StoreConstant-clause-done
returns-in-StoreConstant-clause-done c =
    let fits : FitsSigned w32 c.in-StoreConstant.k = search rules in
    let done = simp to_z-of_z at c.do_store_constant.ensures.done in
    performs_in c.args.slots _ c.args.insn.now c.do_store_constant.result c.args.self.now
    c.args.packet.now c.do_store_constant.new.self c.do_store_constant.new.packet
    c.in-StoreConstant.is done

pub returns-in-Store-clause-done : goal.returns-in-Store-clause-done
returns-in-Store-clause-done c =
    performs_in c.args.slots _ c.args.insn.now c.do_store.result c.args.self.now c.args.packet.now
    c.do_store.new.self c.do_store.new.packet c.in-Store.is c.do_store.ensures.done

pub returns-in-Atomic-clause-done : goal.returns-in-Atomic-clause-done
returns-in-Atomic-clause-done c =
    performs_in c.args.slots _ c.args.insn.now c.do_atomic.result c.args.self.now c.args.packet.now
    c.do_atomic.new.self c.do_atomic.new.packet c.in-Atomic.is c.do_atomic.ensures.done

pub returns-in-Exchange-clause-done : goal.returns-in-Exchange-clause-done
returns-in-Exchange-clause-done c =
    performs_in c.args.slots _ c.args.insn.now c.do_exchange.result c.args.self.now
    c.args.packet.now c.do_exchange.new.self c.do_exchange.new.packet c.in-Exchange.is
    c.do_exchange.ensures.done

pub returns-in-CompareExchange-clause-done : goal.returns-in-CompareExchange-clause-done
returns-in-CompareExchange-clause-done c =
    performs_in c.args.slots _ c.args.insn.now c.do_compare_exchange.result c.args.self.now
    c.args.packet.now c.do_compare_exchange.new.self c.do_compare_exchange.new.packet
    c.in-CompareExchange.is c.do_compare_exchange.ensures.done

pub returns-else-depth-eq-MAX_CALL_FRAMES-clause-done : goal.returns-else-depth-eq-MAX_CALL_FRAMES-clause-done
unfolding act
returns-else-depth-eq-MAX_CALL_FRAMES-clause-done c = λ p clock count.
    let fits : FitsSigned w32 c.in-CallLocal.by = search rules in
    let leads = simp to_z-of_z at c.destination.ensures in
    let few : length c.args.self.now.frames.items ≡ max_call_frames → ⊥ =
    λ full. c.if-depth-eq-MAX_CALL_FRAMES.false (c.depth.ensures.frames ∙ full) in
    rw c.in-CallLocal.is
    (calls_enter
    (state_of c.args.self.now c.args.packet.now) p c.in-CallLocal.by c.args.slots
    c.destination.result count leads few
    ∙ ap Next (sym (c.enter.ensures.state c.args.packet.now)))

pub returns-in-Alu-clause-stays : goal.returns-in-Alu-clause-stays
returns-in-Alu-clause-stays c =
    stays_running c.args.self.now c.do_alu.new.self c.do_alu.ensures.kept c.requires.running

pub returns-in-Neg-clause-stays : goal.returns-in-Neg-clause-stays
returns-in-Neg-clause-stays c =
    stays_running c.args.self.now c.do_neg.new.self c.do_neg.ensures.kept c.requires.running

pub returns-in-MovSx-clause-stays : goal.returns-in-MovSx-clause-stays
returns-in-MovSx-clause-stays c =
    stays_running c.args.self.now c.do_mov_sx.new.self c.do_mov_sx.ensures.kept c.requires.running

pub returns-in-ByteSwap-clause-stays : goal.returns-in-ByteSwap-clause-stays
returns-in-ByteSwap-clause-stays c =
    stays_running c.args.self.now c.do_byte_swap.new.self c.do_byte_swap.ensures.kept
    c.requires.running

pub returns-in-Load-clause-stays : goal.returns-in-Load-clause-stays
returns-in-Load-clause-stays c =
    stays_running c.args.self.now c.do_load.new.self c.do_load.ensures.kept c.requires.running

pub returns-in-LoadSx-clause-stays : goal.returns-in-LoadSx-clause-stays
returns-in-LoadSx-clause-stays c =
    stays_running c.args.self.now c.do_load_sx.new.self c.do_load_sx.ensures.kept c.requires.running

pub returns-in-StoreConstant-clause-stays : goal.returns-in-StoreConstant-clause-stays
returns-in-StoreConstant-clause-stays c =
    stays_running c.args.self.now c.do_store_constant.new.self c.do_store_constant.ensures.kept
    c.requires.running

pub returns-in-Store-clause-stays : goal.returns-in-Store-clause-stays
returns-in-Store-clause-stays c =
    stays_running c.args.self.now c.do_store.new.self c.do_store.ensures.kept c.requires.running

pub returns-in-Atomic-clause-stays : goal.returns-in-Atomic-clause-stays
returns-in-Atomic-clause-stays c =
    stays_running c.args.self.now c.do_atomic.new.self c.do_atomic.ensures.kept c.requires.running

pub returns-in-Exchange-clause-stays : goal.returns-in-Exchange-clause-stays
returns-in-Exchange-clause-stays c =
    stays_running c.args.self.now c.do_exchange.new.self c.do_exchange.ensures.kept
    c.requires.running

pub returns-in-CompareExchange-clause-stays : goal.returns-in-CompareExchange-clause-stays
returns-in-CompareExchange-clause-stays c =
    stays_running c.args.self.now c.do_compare_exchange.new.self c.do_compare_exchange.ensures.kept
    c.requires.running

pub returns-in-JumpIf-clause-stays : goal.returns-in-JumpIf-clause-stays
returns-in-JumpIf-clause-stays c =
    stays_running c.args.self.now c.do_jump_if.new.self c.do_jump_if.ensures.kept c.requires.running

pub enter-requires-clause-few : goal.enter-requires-clause-few
enter-requires-clause-few c =
    let few = c.requires.running.few in
    let count = c.depth.ensures.len in
    let not_full = c.if-depth-eq-MAX_CALL_FRAMES.false in
    omega arith
