-- What is wrong with a capture whose packets end by a fault, and where.
use Rattle.std.specs.Prelude.{◌≡◌, List, Option, Some, None, ℕ, IfOk, option_map}
use Rattle.captures.specs.declared.forms.Reasons.{Reasons}
use Rattle.captures.specs.declared.packets.CaptureDamage.{CaptureDamage}
use Rattle.captures.specs.declared.packets.PacketEnd.{PacketEnd}
use Rattle.captures.specs.declared.packets.PacketEnd.TheVariants as ending
use Rattle.captures.specs.Captured.{captured}
use Rattle.captures.specs.Reading.{CapturePosition, Before, Past, packets_left}

-- the fault in the record that begins at an offset in bytes
abbrev pub damage_of : PacketEnd → Option CaptureDamage
damage_of ending.End = None
damage_of (ending.Fault fault offset) = Some (record { fault = fault; offset = offset })

-- that which a reader at a position has met
abbrev pub damage_met : CapturePosition → Option CaptureDamage
damage_met (Before format interfaces offset) = None
damage_met (Past stop) = damage_of stop

-- how the packets end that a reader with these bytes left will find
abbrev pub end_by : CapturePosition → Option (List ℕ) → Option PacketEnd
end_by position left = option_map (λ bytes. (packets_left position bytes).1) left

-- it stays the same, where it is known
abbrev pub KeepsEnd : Option PacketEnd → Option PacketEnd → Type 0
KeepsEnd None new = Unit {0}
KeepsEnd (Some stop) new = new ≡ Some stop

-- it is the end of a capture's packets, where its bytes are known
abbrev pub IsEndOf : Reasons → Option (List ℕ) → Option PacketEnd → Type 0
IsEndOf reasons None stop = Unit {0}
IsEndOf reasons (Some bytes) stop =
    IfOk (captured reasons bytes) (λ found. stop ≡ Some found.1)
