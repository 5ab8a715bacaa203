use Rattle.reg_state.proofs.Common.{ℕ, Kind, Number, KindCovers, KindEncloses, IsNoNumber}
use Rattle.reg_state.proofs.kinds.Kind.covers.Goals as goal

-- the two differ in numbers only
covers_other : (packet null : ℕ → ℕ) (a b : Kind) → IsNoNumber a → KindEncloses packet null a b
    → KindCovers packet null a b
covers_other packet null (Number numbers) b other e = absurd other
covers_other packet null a b other e = e

pub returns-in-Packet-clause-encloses : goal.returns-in-Packet-clause-encloses
returns-in-Packet-clause-encloses c = λ packet null called e.
    let other : IsNoNumber c.args.self = rw c.in-Packet.is tt in
    c.covers_packet.ensures.no packet null called
    (covers_other packet null c.args.self c.args.other other e)

pub returns-in-Number-other-clause-yes : goal.returns-in-Number-other-clause-yes
returns-in-Number-other-clause-yes c = λ t packet null called.
    rw (c.in-Number.is, c.in-Number-other.is) (c.covers.ensures.yes t)
