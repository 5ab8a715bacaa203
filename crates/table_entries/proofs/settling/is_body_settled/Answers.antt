use Rattle.table_entries.proofs.Common.{◌≡◌, ◌++◌, ◌∷◌, [], ◌∙◌, sym, length, drop, arith, Bool, true, false, not, IsTrue, refl, Short, Meaningless, entry_in}
use Rattle.table_entries.proofs.EntryOrder.{entries-begins, entries-goes_on, entries-stops, entries-done}
use Rattle.table_entries.proofs.Extending.{settled-stopped, settled-long, open-short, open-whole}
use Rattle.table_entries.proofs.PassedLaws.{ArePassed-none}
use Rattle.table_entries.proofs.Seen.{read-seen, stop-seen}
use Rattle.table_entries.proofs.settling.is_body_settled.Goals as goal

not_false : (b : Bool) → IsTrue (not b) → b ≡ false
not_false true h = sym h
not_false false h = refl

not_true : (b : Bool) → not b ≡ false → b ≡ true
not_true true h = refl
not_true false h = sym h

pub loop-index-init : goal.loop-index-init
loop-index-init c =
    record {
      so_far = (
        [],
        rw c.skip-rest.ensures
            (entries-begins c.args.image.now c.args.count (drop 8 c.args.front.now)),
      );
      passed =
          ArePassed-none (length c.args.image.now.maps) c.new-passing.result.frames.items
          c.new-passing.ensures;
    }

pub loop-index-preserved : goal.loop-index-preserved
loop-index-preserved c =
    let p = c.args.image.now in
    let rest = c.loop-index.rest.now in
    let (read, so_far) = c.loop-index.invariant.so_far in
    let found = read-seen (entry_in p rest) _ _ c.in-Ok.ensures.read in
    record {
      so_far = (
        read ++ found.0 ∷ [],
        entries-goes_on p read c.args.count c.loop-index.index rest found.0 _ _ (omega arith)
            found.1 so_far,
      );
      passed = c.pass_entry.ensures.passed;
    }

pub returns-in-Err-Short-clause-open : goal.returns-in-Err-Short-clause-open
returns-in-Err-Short-clause-open c same =
    let p = c.args.image.now in
    let rest = c.loop-index.rest.now in
    let (read, so_far) = c.loop-index.invariant.so_far in
    let stopped = rw c.in-Err-Short.field-0-is at c.in-Err-Short.ensures.read in
    open-short p c.args.front.now c.args.count c.requires.counted
    (entries-stops p read c.args.count c.loop-index.index rest Short _ (omega arith)
    (stop-seen (entry_in p rest) Short stopped) so_far)

pub returns-in-Err-Meaningless-clause-settled : goal.returns-in-Err-Meaningless-clause-settled
returns-in-Err-Meaningless-clause-settled c holds =
    let p = c.args.image.now in
    let rest = c.loop-index.rest.now in
    let (read, so_far) = c.loop-index.invariant.so_far in
    let stopped = rw c.in-Err-Meaningless.field-0-is at c.in-Err-Meaningless.ensures.read in
    settled-stopped p c.args.front.now c.args.count c.loop-index.index c.requires.long
    c.requires.counted
    (entries-stops p read c.args.count c.loop-index.index rest Meaningless _ (omega arith)
    (stop-seen (entry_in p rest) Meaningless stopped) so_far)

pub returns-clause-settled : goal.returns-clause-settled
returns-clause-settled c some =
    let p = c.args.image.now in
    let rest = c.loop-index.rest.now in
    let (read, so_far) = c.loop-index.invariant.so_far in
    settled-long p c.args.front.now c.args.count read rest c.requires.long c.requires.counted
    (entries-done p read c.args.count c.loop-index.index rest _ (omega arith) so_far)
    (sym c.is_empty.ensures ∙ not_false c.is_empty.result some)

pub returns-clause-open : goal.returns-clause-open
returns-clause-open c none =
    let p = c.args.image.now in
    let rest = c.loop-index.rest.now in
    let (read, so_far) = c.loop-index.invariant.so_far in
    open-whole p c.args.front.now c.args.count read rest c.requires.counted
    (entries-done p read c.args.count c.loop-index.index rest _ (omega arith) so_far)
    (sym c.is_empty.ensures ∙ not_true c.is_empty.result none)
