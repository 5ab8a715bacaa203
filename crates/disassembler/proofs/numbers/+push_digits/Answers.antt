use Rattle.std.proofs.Common.{sym, append-nil, append_assoc, arith}
use Rattle.disassembler.specs.Hexadecimal.{hex_digits}
use Rattle.disassembler.proofs.HexadecimalLaws.{hex_digits_last, hex_digits_more}
use Rattle.disassembler.proofs.numbers.+push_digits.Goals as goal
use Rattle.disassembler.proofs.numbers.+push_digits.Goals.{then-before-ne0, else-before-ne0}

pub returns-then-count-eq0-clause-bytes : goal.returns-then-count-eq0-clause-bytes
unfolding hex_digits
returns-then-count-eq0-clause-bytes t c =
    rw c.if-count-eq0.true (sym (append-nil c.args.line.now.bytes))

pub returns-clause-bytes : goal.returns-clause-bytes
returns-clause-bytes t c = elim c.if-before-ne0.branch [
  | then-before-ne0 w ↦
      let more = hex_digits_more c.args.count c.args.number
      (omega (arith, c.if-count-eq0.false)) w.if-before-ne0.true in
      grind (arith, append_assoc, more)
  | else-before-ne0 w ↦
      let last = hex_digits_last c.args.count c.args.number
      (omega (arith, c.if-count-eq0.false)) w.if-before-ne0.false in
      grind (arith, append_assoc, last)
]
