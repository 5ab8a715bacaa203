-- What is read of a capture that was written.
use Rattle.std.specs.Prelude.{ℕ, ◌+◌, ◌*◌, ◌%◌, ◌^◌, List, length, filter}
use Rattle.isa_model.specs.Reporting.Streams.{PacketFrame}
use Rattle.captures.specs.declared.forms.Reasons.{Reasons}
use Rattle.captures.specs.declared.forms.Reasons.TheVariants.{Ignored, Read}
use Rattle.captures.specs.Pcap.{CapturedPacket}
use Rattle.captures.specs.declared.kinds.CaptureKind.{CaptureKind}
use Rattle.captures.specs.declared.kinds.CaptureKind.TheVariants.{Pcap, Pcapng}
use Rattle.captures.specs.declared.kinds.CaptureForm.{CaptureForm}
use Rattle.captures.specs.CaptureBytes.{is_kept, named_interface, pcap_second}

-- the reason that is read of a pcapng where one was written
abbrev pub reason_back : Reasons → ℕ → ℕ
reason_back Ignored reason = 0
reason_back Read reason = reason

-- The packet that is read where a frame was written: all of its bytes, its time, of which a pcap
-- has the seconds modulo 2^32, and in a pcapng the interface that its block names, and its reason
-- if reasons are read.
abbrev pub read_back : Reasons → CaptureKind → PacketFrame → CapturedPacket
read_back reasons Pcap f = record {
  head =
      record {
        time = pcap_second f.head.time * 10 ^ 9 + f.head.time % 10 ^ 9;
        interface = 0;
        queue = 0;
      };
  body = f.body;
  captured = length f.body;
  original = length f.body;
  reason = 0;
}
read_back reasons Pcapng f = record {
  head =
      record { time = f.head.time; interface = named_interface f.head.interface; queue = 0 };
  body = f.body;
  captured = length f.body;
  original = length f.body;
  reason = reason_back reasons f.reason;
}

-- the frames that are written
abbrev pub kept_frames : CaptureForm → List PacketFrame → List PacketFrame
kept_frames form frames = filter (λ f. is_kept form f.reason) frames
