use Rattle.coverage.proofs.Common.{◌≡◌, ℕ, ◌+◌, List, [], length, replicate, refl, sym, ap, ◌∙◌, subst, length-replicate, Program, KeyValues, CountsModulo, takes, ends_by}
use Rattle.checked_vm.specs.Machines.{LoadedProgram}
use Rattle.coverage.specs.Found.{HasCountedStream}
use Rattle.coverage.proofs.CountedLaws.{CountsModulo-none}
use Rattle.coverage.proofs.HitsLaws.{CountsFrames-few}
use Rattle.coverage.proofs.stream_hits.hits.Goals as goal

pub count_frames-finish-requires-clause-none : goal.count_frames-finish-requires-clause-none
count_frames-finish-requires-clause-none g c = record {
  slots =
      c.in_ok-hits.ensures.slots _
      (ap (λ (m : LoadedProgram). length m.program.insns) c.in-Ok.ensures.made
      ∙ sym c.slots.ensures.count);
  taken_len =
      ap (λ (l : List ℕ). length l) c.in_ok-hits.ensures.taken ∙ length-replicate {A = ℕ} _ 0;
  taken =
      subst (CountsModulo (takes c.args.limit) []) (sym c.in_ok-hits.ensures.taken)
      (CountsModulo-none (takes c.args.limit) (c.args.limit + 1));
  ended_len = ap (λ (l : List ℕ). length l) c.in_ok-hits.ensures.ended ∙ length-replicate {A = ℕ} _ 0;
  ended =
      subst (CountsModulo ends_by []) (sym c.in_ok-hits.ensures.ended)
      (CountsModulo-none ends_by 8);
  ran = c.in_ok-hits.ensures.ran;
  skipped = c.in_ok-hits.ensures.skipped;
}

pub returns : goal.returns
returns g c =
    let t = subst (λ (m : LoadedProgram). HasCountedStream m.program c.args.limit m.contents
    (record { bytes = g.R.Source.remaining c.args.source; may_fail = g.R.Source.may_fail })
    c.count_frames-finish.new.hits c.count_frames-finish.result) c.in-Ok.ensures.made
    c.count_frames-finish.ensures in
    let exact = CountsFrames-few c.args.image c.args.limit _ t.found.frames
    c.count_frames-finish.new.hits c.requires.most t.are_open.few t.counted in
    record {
      found = t.found;
      are_open = t.are_open;
      read = t.read;
      finish = t.finish_is;
      counted = record {
        runs_len = exact.runs_len;
        jumped_len = exact.jumped_len;
        fell_len = exact.fell_len;
        taken_len = exact.taken_len;
        runs = exact.runs;
        jumped = exact.jumped;
        fell = exact.fell;
        taken = exact.taken;
        ended_len = exact.ended_len;
        ended = exact.ended;
        ran = exact.ran;
        skipped = exact.skipped;
      };
    }
