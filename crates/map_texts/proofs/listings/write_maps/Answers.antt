use Rattle.map_texts.proofs.Common.{rules, ◌<◌, length, refl, arith, Appends-nil}
use Rattle.map_texts.proofs.Listing.{FitListing-map_at, map_written, map_failed, maps_whole}
use Rattle.map_texts.proofs.ReadBackTexts.{maps_read_back}
use Rattle.map_texts.proofs.listings.write_maps.Goals as goal

pub loop-i-init : goal.loop-i-init
loop-i-init g c = (Appends-nil _, refl)

pub write_key_values-requires : goal.write_key_values-requires
write_key_values-requires g c =
    let ms = c.args.maps.now in
    let inside : c.loop-i.i < length ms = omega arith in
    rw (c.row-row.ensures, c.order.ensures.pairs, c.loop-i.invariant.1)
    (FitListing-map_at ms c.loop-i.i inside c.count-i-end.ensures.maps)

pub loop-i-preserved : goal.loop-i-preserved
loop-i-preserved g c =
    let ms = c.args.maps.now in
    let inside : c.loop-i.i < length ms = omega arith in (
      map_written ms c.loop-i.maps c.loop-i.i inside _ c.order.ensures.pairs
          c.loop-i.invariant.1 _ _ _ c.loop-i.invariant.0 c.in-Ok.ensures.ok,
      search rules,
    )

pub returns-in-Err-clause-err : goal.returns-in-Err-clause-err
returns-in-Err-clause-err g c =
    let ms = c.args.maps.now in
    let inside : c.loop-i.i < length ms = omega arith in
    map_failed ms c.loop-i.maps c.loop-i.i inside _ c.order.ensures.pairs c.loop-i.invariant.1
    _ _ _ c.loop-i.invariant.0 c.in-Err.ensures.err

pub returns-clause-ok : goal.returns-clause-ok
returns-clause-ok g c =
    maps_whole c.args.maps.now c.loop-i.i _ _ (omega arith) c.loop-i.invariant.0

pub returns-in-Err-clause-read_back : goal.returns-in-Err-clause-read_back
returns-in-Err-clause-read_back g c =
    maps_read_back c.args.maps.now c.count-i-end.ensures.maps
    (let n = c.count-i-end.ensures.count in omega arith)

pub returns-clause-read_back : goal.returns-clause-read_back
returns-clause-read_back g c =
    maps_read_back c.args.maps.now c.count-i-end.ensures.maps
    (let n = c.count-i-end.ensures.count in omega arith)
