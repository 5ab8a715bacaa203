use Rattle.commands.proofs.Common.{◌≡◌, ◌++◌, sym, subst, take, rules, arith, Consumes}
use Rattle.std.proofs.KnownBytes.{Consumes-trans}
use Rattle.std.proofs.lemmas.Grind.{common_steps}
use Rattle.table_entries.specs.Settled.{IsTableSettled}
use Rattle.commands.proofs.SettledBytes.{settled_held}
use Rattle.commands.proofs.reading.read_settled.Goals as goal

pub returns-then-is_settled : goal.returns-then-is_settled
returns-then-is_settled g c =
    let p = c.args.image.now in
    let bytes = c.extend_from_slice.new.self.items in
    let more : bytes ≡ c.parts.bytes.items ++ take c.in_ok-count.count c.read.new.buf =
    search rules in
    let settled : IsTableSettled p bytes =
    subst (IsTableSettled p) c.as_slice.ensures.value
    (c.is_settled.ensures.settled c.if-is_settled.true) in
    settled_held p _ _ bytes
    (subst (Consumes _ _) (sym more)
    (Consumes-trans _ _ _ _ _ c.parts.invariant c.in_ok-count.ensures.bytes.0)) settled

pub parts-preserved : goal.parts-preserved
parts-preserved g c = grind (arith, common_steps)
