use Rattle.live_maps.proofs.Common.{ℕ, sym, subst, ◌∙◌, arith, serials_in, AreLive}
use Rattle.live_maps.proofs.ContentLaws.{key_values_of-live_contents}
use Rattle.live_maps.proofs.NumberingLaws.{AreLive-numbered}
use Rattle.live_maps.proofs.live.LiveMaps.new.Goals as goal

pub invariant_of-result : goal.invariant_of-result
invariant_of-result c =
    let maps = c.args.maps in
    let all = serials_in c.number_all-next.new.all.items in
    let done = c.number_all-next.ensures in
    let few = c.requires in (
      omega arith,
      done.room ∙ c.in_ok-serials.ensures.room,
      subst (λ (n : ℕ). AreLive n maps all) (sym done.numbered.counted)
          (AreLive-numbered maps all done.maps done.numbered.are),
      done.kept,
    )

pub returns-clause-contents : goal.returns-clause-contents
returns-clause-contents c =
    key_values_of-live_contents c.args.maps (serials_in c.number_all-next.new.all.items)
    c.number_all-next.ensures.numbered.are.long
