use Rattle.captures.proofs.Common.{◌≡◌, arith, ◌∙◌, rules, little_from, One, Two, head_bytes}
use Rattle.isa_model.specs.Code.EachByte.{EachByte}
use Rattle.frames.proofs.HeadNumbers.{little_from-behind, little_bytes-four, little_bytes-five}
use Rattle.captures.proofs.taking.head_of.Goals as goal

pub returns-in-One : goal.returns-in-One
unfolding head_bytes
returns-in-One c =
    let xs = c.args.part.now in
    let small : EachByte xs = λ j. omega (arith, c.type_inv.part j) in
    let interface : c.read_u32.result ≡ little_from 8 4 xs =
    c.read_u32.ensures ∙ little_from-behind 4 8 xs in
    let queue : c.read_u32-2.result ≡ little_from 12 4 xs =
    c.read_u32-2.ensures ∙ little_from-behind 4 12 xs in
    let size : c.read_u32-size.result ≡ little_from 16 4 xs =
    c.read_u32-size.ensures ∙ little_from-behind 4 16 xs in
    let one : c.args.version ≡ One = search rules in
    rw (one, c.read_u64.ensures, interface, queue, size) (little_bytes-four xs small (search rules))

pub returns-in-Two : goal.returns-in-Two
unfolding head_bytes
returns-in-Two c =
    let xs = c.args.part.now in
    let small : EachByte xs = λ j. omega (arith, c.type_inv.part j) in
    let interface : c.read_u32.result ≡ little_from 8 4 xs =
    c.read_u32.ensures ∙ little_from-behind 4 8 xs in
    let queue : c.read_u32-2.result ≡ little_from 12 4 xs =
    c.read_u32-2.ensures ∙ little_from-behind 4 12 xs in
    let size : c.read_u32-size.result ≡ little_from 16 4 xs =
    c.read_u32-size.ensures ∙ little_from-behind 4 16 xs in
    let reason : c.read_u32-in-Two.result ≡ little_from 20 4 xs =
    c.read_u32-in-Two.ensures ∙ little_from-behind 4 20 xs in
    let two : c.args.version ≡ Two = search rules in
    rw (two, c.read_u64.ensures, interface, queue, size, reason)
    (little_bytes-five xs small (search rules))
