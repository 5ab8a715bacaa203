-- The lines that say where a capture is damaged, and what is not kept of the frames that are read
-- or written.
use Rattle.std.specs.Prelude.{◌≡◌, ℕ, ◌==◌, List, [], ◌++◌, Option, Some, None, String, IfSome, codes, decimal, if◌then◌else◌}
use Rattle.std.specs.declared.alloc.Global.{Global}
use Rattle.std.specs.String.{string_bytes}
use Rattle.captures.specs.declared.losing.Lost.{Lost}
use Rattle.captures.specs.declared.losing.Lost.TheVariants.{Nothing, Capture, Stream}
use Rattle.captures.specs.declared.losing.Unsaid.{Unsaid}
use Rattle.captures.specs.declared.counts.CaptureCounts.{CaptureCounts}
use Rattle.captures.specs.declared.packets.CaptureDamage.{CaptureDamage}
use Rattle.captures.specs.declared.packets.PacketFault.{PacketFault}
use Rattle.captures.specs.declared.packets.PacketFault.TheVariants.{TruncatedRecord, TooLong, TruncatedPacket, BadBlock, UnknownInterface, UnknownInterfaceLink, TooManyInterfaces}
use Rattle.captures.specs.declared.kinds.CaptureKind.{CaptureKind}
use Rattle.captures.specs.declared.kinds.CaptureKind.TheVariants.{Pcap, Pcapng}
use Rattle.captures.specs.declared.kinds.LostCounts.{LostCounts}
use Rattle.captures.specs.declared.frame_forms.CopyCounts.{CopyCounts}

-- a line with a count, unless it is 0
abbrev pub lost_line : List ℕ → ℕ → List ℕ
lost_line words count =
    if count == 0 then []
    else codes "frames without " ++ (words ++ (codes ": " ++ (decimal count ++ codes "\n")))

abbrev pub interface_words : CaptureKind → List ℕ
interface_words Pcap = codes "their interface, which a pcap has not, and a pcapng has"
interface_words Pcapng = codes "their interface, since it is 4,096 or more"

-- what a capture that was written does not say of its frames
abbrev pub lost_text : CaptureKind → LostCounts → List ℕ
lost_text kind lost =
    lost_line (interface_words kind) lost.interfaces
    ++ (lost_line (codes "their queue, which a capture has not") lost.queues
    ++ (lost_line (codes "their reason, which a pcap has not, and a pcapng has") lost.reasons
    ++ lost_line (codes "their time, which a pcap has up to 2106") lost.times))

-- a line with a count, unless it is 0
abbrev pub count_line : List ℕ → ℕ → List ℕ
count_line words count =
    if count == 0 then [] else words ++ (codes ": " ++ (decimal count ++ codes "\n"))

-- what the stream that a capture becomes does not say
abbrev pub captured_text : CaptureCounts → List ℕ
captured_text counts =
    count_line (codes "frames that were cut when they were captured") counts.cut
    ++ count_line (codes "frames of over 9,216 bytes, which no stream takes") counts.long

-- what a stream does not say of the frames that were copied to it
abbrev pub left_text : CopyCounts → List ℕ
left_text counts =
    count_line
    (codes "frames left out, since XPF1 takes up to 4,096 bytes, and XPF2 (--reasons) up to 9,216")
    counts.left_out
    ++ lost_line (codes "their reason, which XPF1 has not, and XPF2 (--reasons) has")
    counts.unreasoned

-- what the output does not say of the frames
abbrev pub lost_of : Lost → List ℕ
lost_of Nothing = []
lost_of (Capture loss) = lost_text loss.kind loss.counts
lost_of (Stream counts) = left_text counts

-- what is wrong with a record of a capture
abbrev pub damage_words : PacketFault → List ℕ
damage_words TruncatedRecord = codes "a record that ends within its head"
damage_words TooLong = codes "a packet or a block that is too long"
damage_words TruncatedPacket = codes "a record of which the end is missing"
damage_words BadBlock = codes "a block whose lengths or whose byte-order magic are wrong"
damage_words UnknownInterface = codes "a packet of an interface that is not described"
damage_words UnknownInterfaceLink = codes "a packet of an interface with another link type"
damage_words TooManyInterfaces = codes "a section with more than 4,096 interfaces"

-- where a capture is damaged, if it is: at which byte the record begins
abbrev pub damage_text : Option CaptureDamage → List ℕ
damage_text None = []
damage_text (Some damage) =
    codes "at byte "
    ++ (decimal damage.offset ++ (codes ": " ++ (damage_words damage.fault ++ codes "\n")))

-- where a capture is damaged, and what is not kept of the frames
abbrev pub unsaid_text : Unsaid → List ℕ
unsaid_text unsaid =
    damage_text unsaid.damage ++ (captured_text unsaid.captured ++ lost_of unsaid.lost)

-- the lines at the end of the message, if there was memory for them
abbrev pub TellsUnsaid : Unsaid → Option (String Global) → Type 0
TellsUnsaid unsaid why = IfSome why (λ text. string_bytes text ≡ unsaid_text unsaid)
