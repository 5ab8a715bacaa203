use Rattle.std.proofs.Common.{◌≡◌, Some, None, slice_index_or, rules}
use Rattle.image.proofs.ImageLaws.{NamesRows-fetch}
use Rattle.checked_vm.specs.Stops.{stop_of}
use Rattle.checked_vm.proofs.Acts.{fetch_at}
use Rattle.checked_vm.proofs.checked.Checked.run_watched.Goals as goal

pub run-end-requires-clause-named : goal.run-end-requires-clause-named
run-end-requires-clause-named g c = λ slot i found.
    let image = c.self.inside.image in
    let there : slice_index_or image.insns slot None ≡ Some i = rw c.code.ensures at found in
    let named = NamesRows-fetch image slot i c.recall.ensures (fetch_at image slot i there) in
    rw c.self.invariant.1 named

pub returns-clause-stop : goal.returns-clause-stop
unfolding stop_of
returns-clause-stop g c = search rules
