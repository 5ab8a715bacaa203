use Rattle.table_entries.proofs.Common.{◌≡◌, arith, length, sym, subst, count_of, Grown}
use Rattle.table_entries.proofs.GrowingLaws.{Grows-same}
use Rattle.table_entries.proofs.PassedLaws.{ArePassed-none}
use Rattle.table_entries.proofs.growing.Growing.pass_to.Goals as goal

pub returns-clause-there : goal.returns-clause-there
returns-clause-there c = λ t. omega arith

pub loop-init : goal.loop-init
loop-init c = record {
  grows = Grows-same c.args.image.now c.args.self.now;
  placed =
      subst (λ (v : Grown). count_of v.table ≡ c.len-counter.result) c.self.view_is
      (sym c.len-counter.ensures);
  passed =
      ArePassed-none (length c.args.image.now.maps) c.new-passing.result.frames.items
      c.new-passing.ensures;
}
