-- Values about which no fact says anything.
use Rattle.stack_state.proofs.Common.{◌≡◌, true, refl, Kind, Packet, MapValueOrNull, Stack, learned, is_plain}
use Rattle.stack_state.specs.declared.facts.Fact.{Fact}
use Rattle.stack_state.specs.declared.facts.Fact.TheVariants.{Proved, Tested, Ended}

pub learned-plain : (fact : Fact) (k : Kind) → is_plain k ≡ true → learned fact k ≡ k
learned-plain (Proved i n) (Packet fixed identity least greatest proved) h = absurd (cc)
learned-plain (Proved i n) k h = refl
learned-plain (Tested i null zero) (MapValueOrNull m identity) h = absurd (cc)
learned-plain (Tested i null zero) k h = refl
learned-plain (Ended frame) (Stack into offset) h = absurd (cc)
learned-plain (Ended frame) k h = refl
