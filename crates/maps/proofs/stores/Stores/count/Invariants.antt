use Rattle.maps.proofs.Common.{take, All, AreBytes}
use Rattle.maps.proofs.AllMaps.{EitherStore}
use Rattle.maps.proofs.stores.Stores.count.Given as goal

abbrev pub invariant-loop-store : goal.invariant-loop-store
invariant-loop-store l =
    All (λ (s : EitherStore). AreBytes s.values.items) (take l.store-index l.self.all.items)
