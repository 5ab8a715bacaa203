use Rattle.captures.proofs.Common.{◌≡◌, ◌++◌, Ok, length, take, drop, sym, ap, subst, ◌∙◌, arith, length-take-le, take_at, CaptureFormat, first_offset, IsRecordPart}
use Rattle.captures.specs.declared.forms.CaptureFormat.TheVariants as formats
use Rattle.captures.proofs.OpeningLaws.{begun_part}
use Rattle.captures.proofs.reader.take_first.Goals as goal

pub copy_from_slice-requires : goal.copy_from_slice-requires
copy_from_slice-requires c =
    let long = length-take-le 24 c.args.block.now c.requires.room in
    omega (arith, long, c.told-head)

pub returns-in-Pcapng-clause-front : goal.returns-in-Pcapng-clause-front
returns-in-Pcapng-clause-front c =
    let long = length-take-le 24 c.args.block.now c.requires.room in
    let self = c.copy_from_slice.new.self in
    let size : length self ≡ 24 = omega (arith, long, c.copy_from_slice.ensures.len) in
    take_at self (drop 24 c.args.block.now) 24 size
    ∙ c.copy_from_slice.ensures.after
    ∙ ap (λ (f : CaptureFormat). drop (first_offset f) c.args.head.now) (sym c.in-Pcapng.is)

pub returns-in-Pcapng-clause-part : goal.returns-in-Pcapng-clause-part
returns-in-Pcapng-clause-part c =
    let long = length-take-le 24 c.args.block.now c.requires.room in
    let self = c.copy_from_slice.new.self in
    let size : length self ≡ 24 = omega (arith, long, c.copy_from_slice.ensures.len) in
    let same : take 24 (self ++ drop 24 c.args.block.now) ≡ c.args.head.now =
    take_at self (drop 24 c.args.block.now) 24 size ∙ c.copy_from_slice.ensures.after in
    subst (λ (f : CaptureFormat). IsRecordPart f (take 24 (self ++ drop 24 c.args.block.now)))
    (sym c.in-Pcapng.is)
    (subst (IsRecordPart (formats.Pcapng c.in-Pcapng.field-0)) (sym same)
    (begun_part c.requires.head.0 c.args.head.now c.in-Pcapng.field-0 c.told-head c.fits-head
    (c.requires.head.1 ∙ ap (λ f. Ok f) c.in-Pcapng.is)))
