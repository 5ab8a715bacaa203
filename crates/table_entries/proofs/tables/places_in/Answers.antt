use Rattle.table_entries.proofs.Common.{◌≡◌, ◌-◌, ◌++◌, ◌∷◌, [], ◌∙◌, ap, sym, Ok, length, map, drop, arith, inr, ℕ, Option, Bool, err_from_is_err_and, is_some, Entry, entry_in, length-map, entry_from, first_none, earlier, to_the_end}
use Rattle.table_entries.proofs.Seen.{read-seen, stop-seen}
use Rattle.table_entries.proofs.Ends.{IsEnd-more, entry_in-end}
use Rattle.table_entries.proofs.EntryOrder.{entries-begins, entries-goes_on, entries-stops, entries-done, places-more, length-more, end-empty, end-long, earlier-more}
use Rattle.table_entries.proofs.PassedLaws.{ArePassed-none}
use Rattle.table_entries.proofs.tables.places_in.Goals as goal

pub loop-index-init : goal.loop-index-init
loop-index-init c =
    record {
      so_far =
          rw (c.new-places.ensures.items, c.skip-rest.ensures)
          (entries-begins c.args.image.now c.args.count (drop 8 c.args.bytes.now));
      first_is = rw c.new-places.ensures.items;
      long = rw c.new-places.ensures.items;
      is_end = (8, c.skip-rest.ensures);
      passed =
          ArePassed-none (length c.args.image.now.maps) c.new-passing.result.frames.items
          c.new-passing.ensures;
    }

pub loop-index-preserved : goal.loop-index-preserved
loop-index-preserved c =
    let p = c.args.image.now in
    let bytes = c.args.bytes.now in
    let rest = c.loop-index.rest.now in
    let after = c.in_ok-allowed.after.now in
    let places = c.loop-index.places.items in
    let front = map (entry_from p bytes) places in
    let found =
    read-seen (entry_in p rest) c.in_ok-allowed.allowed after c.in_ok-allowed.ensures.read in
    let e : Option Entry = found.0 in
    let read : entry_in p rest ≡ Ok (e, after) = found.1 in
    let items = c.in_ok-push_place.ensures.ok in
    let more : map (entry_from p bytes) c.push_place.new.places.items ≡ front ++ e ∷ [] =
    ap (map (entry_from p bytes)) items
    ∙ places-more p bytes rest places e after c.loop-index.invariant.is_end read in
    record {
      so_far =
          rw more (entries-goes_on p front c.args.count c.loop-index.index rest e after _
          (omega arith) read c.loop-index.invariant.so_far);
      first_is =
          c.earlier-first.ensures
          ∙ ap (λ (b : Bool). earlier c.loop-index.first b c.loop-index.index) (sym found.2)
          ∙ ap (λ (o : Option ℕ). earlier o (is_some e) c.loop-index.index)
          c.loop-index.invariant.first_is
          ∙ earlier-more front c.loop-index.index e
          (length-map places (entry_from p bytes) ∙ c.loop-index.invariant.long)
          ∙ ap (first_none 0) (sym more);
      long =
          ap length items ∙ length-more places
          (length bytes - length rest) c.loop-index.index c.loop-index.invariant.long;
      is_end =
          IsEnd-more bytes rest after c.loop-index.invariant.is_end
          (entry_in-end p rest e after read);
      passed = c.pass_or_refuse.ensures.passed;
    }

pub returns-in_err-allowed : goal.returns-in_err-allowed
returns-in_err-allowed c =
    let p = c.args.image.now in
    let s = c.in_err-allowed.ensures.read in
    let given =
    err_from_is_err_and c.from_residual-in_err-allowed.result
    c.from_residual-in_err-allowed.ensures.1 in
    rw (given.1, given.2, s.2)
    (inr (ap to_the_end
    (entries-stops p
    (map (entry_from p c.args.bytes.now) c.loop-index.places.items) c.args.count
    c.loop-index.index c.loop-index.rest.now s.0 _
    (omega arith) (stop-seen (entry_in p c.loop-index.rest.now) s.0 s.1)
    c.loop-index.invariant.so_far)))

pub returns-then-is_empty : goal.returns-then-is_empty
returns-then-is_empty c =
    let p = c.args.image.now in
    let front = map (entry_from p c.args.bytes.now) c.loop-index.places.items in
    let rest = c.loop-index.rest.now in
    record {
      body =
          ap to_the_end (entries-done p front c.args.count c.loop-index.index rest _
          (omega arith) c.loop-index.invariant.so_far)
          ∙ end-empty front rest (sym c.is_empty.ensures ∙ c.if-is_empty.true);
      first_is = c.loop-index.invariant.first_is;
    }

pub returns-else-is_empty : goal.returns-else-is_empty
returns-else-is_empty c =
    let p = c.args.image.now in
    let front = map (entry_from p c.args.bytes.now) c.loop-index.places.items in
    let rest = c.loop-index.rest.now in
    inr (ap to_the_end
    (entries-done p front c.args.count c.loop-index.index rest _
    (omega arith) c.loop-index.invariant.so_far)
    ∙ end-long front rest (sym c.is_empty.ensures ∙ c.if-is_empty.false))
