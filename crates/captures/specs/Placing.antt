-- Where frames came in by, in place of what they say.
use Rattle.std.specs.Prelude.{unwrap_or}
use Rattle.isa_model.specs.declared.frames.FrameHead.{FrameHead}
use Rattle.isa_model.specs.Reporting.Streams.{PacketFrame}
use Rattle.captures.specs.declared.placing.Placing.{Placing}

-- a head with this interface and this queue, where they are given
abbrev pub placed_head : Placing → FrameHead → FrameHead
placed_head placing head = record {
  time = head.time;
  interface = unwrap_or placing.interface head.interface;
  queue = unwrap_or placing.queue head.queue;
}

-- the same of a frame
abbrev pub placed : Placing → PacketFrame → PacketFrame
placed placing f = record {
  head = placed_head placing f.head;
  body = f.body;
  reason = f.reason;
}
