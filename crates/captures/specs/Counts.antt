-- How many packets a capture's frame stream does not say whole.
use Rattle.std.specs.Prelude.{◌≡◌, ℕ, ◌+◌, ◌-◌, ◌^◌, Bool, true, false, List, [], ◌∷◌, length, min, nat_lt, if◌then◌else◌, Option, Some, None}
use Rattle.isa_model.specs.Code.Limits.{max_packet}
use Rattle.captures.specs.declared.counts.CaptureCounts.{CaptureCounts}
use Rattle.captures.specs.Pcap.{CapturedPacket}
use Rattle.captures.specs.Reading.{CapturePosition, packets_left}

abbrev pub none_counted : CaptureCounts
none_counted = record { cut = 0; long = 0 }

-- one more, up to the largest number of 64 bits
abbrev pub counted : Bool → ℕ → ℕ
counted is_one count = if is_one then min (count + 1) (2 ^ 64 - 1) else count

-- the counts after one more packet: it is cut where fewer bytes were captured than it had on the
-- wire, and long where a record does not take its frame
abbrev pub counts_after : CaptureCounts → CapturedPacket → CaptureCounts
counts_after counts packet = record {
  cut = counted (nat_lt packet.captured packet.original) counts.cut;
  long = counted (nat_lt max_packet (length packet.body)) counts.long;
}

-- the counts after these packets
abbrev pub counts_with : CaptureCounts → List CapturedPacket → CaptureCounts
counts_with counts [] = counts
counts_with counts (packet ∷ later) = counts_with (counts_after counts packet) later

-- the counts once all packets that a reader has left are found; none are after the end was given
abbrev pub counts_rest : CaptureCounts → Bool → CapturePosition → List ℕ → CaptureCounts
counts_rest counts true position bytes = counts
counts_rest counts false position bytes = counts_with counts (packets_left position bytes).0

-- Exactly the packets that were found are counted: what the counts will be once all that are left
-- are found stays the same, where it is known.
abbrev pub KeepsCounts : Option CaptureCounts → Option CaptureCounts → Type 0
KeepsCounts None new = Unit {0}
KeepsCounts (Some counts) new = new ≡ Some counts
