use Rattle.word_machine.proofs.Common.{◌≡◌, ◌∙◌, ℕ, List, ap, sym, subst, take, map_at, Updated, R4, word_at, words_of}
use Rattle.isa_model.specs.declared.map_defs.MapDef.{MapDef}
use Rattle.maps.specs.declared.calls.Answer.{Answer}
use Rattle.maps.specs.Calls.{IsNumberAnswer}
use Rattle.word_machine.proofs.Arguments.{key_copied, value_kept, updates}
use Rattle.word_machine.proofs.helping.update.Goals as goal

pub returns-clause-updates : goal.returns-clause-updates
returns-clause-updates g c =
    let w = words_of 0 c.args.regs.now c.args.memory.now c.args.packet.now 0 in
    let m = c.map_named-map.result in
    let same = c.map_named-map.ensures in
    let size = c.from-size.ensures ∙ ap (λ (row : MapDef). row.key_size) c.row-row.ensures in
    let value_size = ap (λ (row : MapDef). row.value_size) c.row-row.ensures in
    let key = key_copied w m same c.as_slice-frames.result.now c.as_slice-frames.ensures.value _
    c.copy.new.to c.bytes.result.now c.from-size.result c.copy.ensures c.bytes.ensures.bytes
    c.bytes.ensures.size size in
    let front = subst (λ n. c.front-value.result.now ≡ take n c.keep.new.self.bytes.items)
    (sym c.bytes-2.ensures.size) c.front-value.ensures.front in
    let value = front ∙ c.keep.ensures
    ∙ value_kept w m same c.as_slice-frames.result.now c.as_slice-frames.ensures.value
    c.bytes-2.result.now _ c.bytes-2.ensures.bytes value_size in
    let given : List ℕ = take c.from-size.result c.copy.new.to in
    let answer = c.call-answer.ensures.answer in
    let Is : Answer → Type 0 =
    λ a. IsNumberAnswer a
    (λ n. Updated given c.front-value.result.now (word_at w R4) n
    (map_at c.args.memory.now.maps m) (map_at c.call-answer.new.maps m)) in
    updates w m same c.call-answer.new.maps c.say_fits.ensures c.requires.key.map answer.1
    _ c.front-value.result.now c.number.result key value (subst Is c.number.ensures answer.0)
