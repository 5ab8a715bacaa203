use Rattle.commands.proofs.Common.{◌≡◌, ◌++◌, sym, subst, take, refl, rules, false, is_err, KeptText}
use Rattle.commands.proofs.TextsLaws.{IsReadAs, read-more, read-shortened, on-ok}
use Rattle.commands.proofs.reading.read_accepted.Goals as goal
use Rattle.commands.proofs.reading.read_accepted.Goals.{then-len-enough+else-is_err-2+else-is_refused, else-len-enough}

pub loop-part-preserved : goal.loop-part-preserved
loop-part-preserved g c =
    let is : c.extend_from_slice.new.self.items
    ≡ c.loop-part.text.bytes.items ++ take c.in_ok-count.count c.read.new.buf = search rules in
    let longer : KeptText = record {
      bytes = c.extend_from_slice.new.self;
      gaps = c.loop-part.text.gaps;
    } in
    let more : IsReadAs (g.S.Read.remaining c.args.source) (g.S.Read.remaining c.read.new.self)
    longer =
    read-more _ _ _ c.loop-part.text longer (take c.in_ok-count.count c.read.new.buf)
    c.loop-part.invariant c.in_ok-count.ensures.bytes.0 refl is in
    elim c.if-len-enough.branch [
      | then-len-enough+else-is_err-2+else-is_refused w ↦
          let done : is_err w.shorten.result ≡ false = search rules in
          subst (λ (t : KeptText). IsReadAs (g.S.Read.remaining c.args.source)
          (g.S.Read.remaining c.read.new.self) t) (sym w.text-is)
          (read-shortened _ _ longer w.shorten.new.self more
          (on-ok _ w.shorten.result w.shorten.ensures done))
      | else-len-enough w ↦
          subst (λ (t : KeptText). IsReadAs (g.S.Read.remaining c.args.source)
          (g.S.Read.remaining c.read.new.self) t) (sym w.text-is) more
    ]
