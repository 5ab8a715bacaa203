use Rattle.xdpvm.proofs.Common.{subst, inl, inr, behind, held, waiting}
use Rattle.std.proofs.KnownBytes.{Keeps-refl}
use Rattle.image.specs.Images.{IsImage}
use Rattle.proof_table.specs.Writing.{entries_for, table_length}
use Rattle.proof_table.proofs.WritingLaws.{BeginsTable-nothing}
use Rattle.xdpvm.proofs.Sizes.{all_delivered}
use Rattle.xdpvm.proofs.proving.store_table.Goals as goal

pub returns-in-Err : goal.returns-in-Err
returns-in-Err g c = record {
  handed = held g.W3.Write.contents c.args.file.now;
  ends = inr (inr (
    record {
      begins =
          BeginsTable-nothing c.args.verified.now.program _
          (subst IsImage c.image.ensures.program c.recall.ensures);
      said = inl c.in-Err.ensures.unsaid;
    },
    (waiting c.args.file.now, Keeps-refl (held g.W3.Write.contents c.args.file.now)),
    (c.in-Err.error, c.say_unwritten.ensures),
  ));
}

pub returns-in-Ok-flush : goal.returns-in-Ok-flush
returns-in-Ok-flush g c = record {
  handed = held g.W3.Write.contents c.write_explored.new.writer;
  ends = inl (
    record {
      entries = entries_for c.in-Ok.explored;
      gains = c.in-Ok-write_explored.ensures.ok;
      said = c.in-Ok.ensures.said;
    },
    all_delivered _ (g.W3.Write.contents (behind c.flush.new.self)) (waiting c.flush.new.self)
        c.flush.ensures.bytes c.in-Ok-flush.ensures.ok,
    c.say_line.ensures.said,
  );
}

pub returns : goal.returns
returns g c = record {
  handed = held g.W3.Write.contents c.write_explored.new.writer;
  ends = inr (inr (
    record {
      begins = c.in-Err-write_explored.ensures.err;
      said =
          inr (
            table_length (entries_for c.in-Ok.explored),
            c.in-Ok.ensures.size,
            c.in-Ok.ensures.said,
          );
    },
    (
      waiting c.write_explored.new.writer,
      Keeps-refl (held g.W3.Write.contents c.write_explored.new.writer),
    ),
    (c.in-Err-write_explored.error, c.say_unwritten-in-Err-write_explored.ensures),
  ));
}
