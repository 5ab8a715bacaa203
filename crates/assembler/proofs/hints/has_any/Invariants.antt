use Rattle.assembler.proofs.Common.{◌≡◌, drop, map, has_any, lent_word}
use Rattle.assembler.proofs.hints.has_any.Given as goal

abbrev pub invariant-loop-word : goal.invariant-loop-word
invariant-loop-word l =
    has_any l.sought (map lent_word l.words) l.front l.back
    ≡ has_any l.sought (map lent_word (drop l.word-index l.words)) l.front l.back
