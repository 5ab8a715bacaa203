use Rattle.frames.proofs.Common.{arith, take, ap, ◌∙◌, length, le_refl, take-take, reader_buffer}
use Rattle.frames.proofs.BuffersLaws.{reader_consumes}
use Rattle.frames.proofs.buffers.BufferedRead.read.Goals as goal

pub returns-clause-bytes : goal.returns-clause-bytes
returns-clause-bytes g c =
    let size = length c.args.buffer.now in (
      reader_consumes g.R.Read.remaining c.args.self.now.reader c.consume.new.self size _
          (ap (take size) (c.copy_from_slice.ensures.after ∙ ap (take size) c.buffer-held.ensures)
          ∙ take-take size size (reader_buffer c.args.self.now.reader) (le_refl size))
          c.consume.ensures.buffer c.consume.ensures.inner c.consume.ensures.capacity,
      λ none some. absurd (omega arith),
    )
