use Rattle.captures.proofs.Common.{◌≢◌, PacketEnd, FindsPacket, Past, Unread, bytes_left}
use Rattle.captures.proofs.reader.CaptureReader.next.Given as goal

-- nothing was found yet, by a reader that was before a record
abbrev pub invariant-loop : goal.invariant-loop
invariant-loop g l =
    FindsPacket l.initial.self.position (bytes_left g.R.Source.remaining l.initial.self)
    l.self.position (bytes_left g.R.Source.remaining l.self) Unread
    × ((stop : PacketEnd) → l.initial.self.position ≢ Past stop)
