use Rattle.word_machine.proofs.Common.{◌∙◌, ℕ, List, ap, subst, take, map_at, Deleted, words_of}
use Rattle.isa_model.specs.declared.map_defs.MapDef.{MapDef}
use Rattle.maps.specs.declared.calls.Answer.{Answer}
use Rattle.maps.specs.Calls.{IsNumberAnswer}
use Rattle.word_machine.proofs.Arguments.{key_copied, deletes}
use Rattle.word_machine.proofs.helping.delete.Goals as goal

pub returns-clause-deletes : goal.returns-clause-deletes
returns-clause-deletes g c =
    let w = words_of 0 c.args.regs.now c.args.memory.now c.args.packet.now 0 in
    let m = c.map_named-map.result in
    let same = c.map_named-map.ensures in
    let size = c.from-size.ensures ∙ ap (λ (row : MapDef). row.key_size) c.row.ensures in
    let key = key_copied w m same c.as_slice-frames.result.now c.as_slice-frames.ensures.value _
    c.copy.new.to c.bytes.result.now c.from-size.result c.copy.ensures c.bytes.ensures.bytes
    c.bytes.ensures.size size in
    let given : List ℕ = take c.from-size.result c.copy.new.to in
    let answer = c.call-answer.ensures.answer in
    let Is : Answer → Type 0 =
    λ a. IsNumberAnswer a
    (λ n. Deleted given n (map_at c.args.memory.now.maps m)
    (map_at c.call-answer.new.maps m)) in
    deletes w m same c.call-answer.new.maps c.say_fits.ensures c.requires.map answer.1
    _ c.number.result key (subst Is c.number.ensures answer.0)
