use Rattle.map_texts.proofs.Common.{◌∙◌, arith, Appends-nil}
use Rattle.maps.specs.Listing.{listed_key_values}
use Rattle.map_texts.proofs.Listing.{none_past, value_short, pair_written, pair_failed, all_lines}
use Rattle.map_texts.proofs.listings.write_key_values.Goals as goal

pub loop-k-init : goal.loop-k-init
loop-k-init g c = Appends-nil _

pub put_key_value-requires-clause-value : goal.put_key_value-requires-clause-value
put_key_value-requires-clause-value g c =
    value_short c.args.row
    (listed_key_values c.args.key_values.now) c.loop-k.k _ c.requires c.in-Some.ensures.value

pub loop-k-preserved : goal.loop-k-preserved
loop-k-preserved g c =
    pair_written c.args.index c.args.row
    (listed_key_values c.args.key_values.now) c.loop-k.k _ _ _ c.requires c.in-Some.ensures.value
    c.in-Some.ensures.key _ _ _ _ (c.as_slice.ensures.value ∙ c.put_key_value.ensures)
    c.loop-k.invariant c.in-Ok.ensures.ok

pub returns-in-Err-clause-err : goal.returns-in-Err-clause-err
returns-in-Err-clause-err g c =
    pair_failed c.args.index c.args.row
    (listed_key_values c.args.key_values.now) c.loop-k.k _ _ _ c.requires c.in-Some.ensures.value
    c.in-Some.ensures.key _ _ _ _ (c.as_slice.ensures.value ∙ c.put_key_value.ensures)
    c.loop-k.invariant c.in-Err.ensures.err

pub returns-in-None-clause-ok : goal.returns-in-None-clause-ok
returns-in-None-clause-ok g c =
    all_lines c.args.index (listed_key_values c.args.key_values.now) c.loop-k.k _ _
    (none_past (listed_key_values c.args.key_values.now) c.loop-k.k c.in-None.ensures.value)
    c.loop-k.invariant

pub returns-clause-ok : goal.returns-clause-ok
returns-clause-ok g c =
    all_lines c.args.index (listed_key_values c.args.key_values.now) c.loop-k.k _ _
    (let room = c.requires.room in omega arith) c.loop-k.invariant
