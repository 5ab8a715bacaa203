use Rattle.std.proofs.Common.{refl}
use Rattle.xdpvm.proofs.requests.serve.Goals as goal

pub returns-in-Trace : goal.returns-in-Trace
returns-in-Trace g c = rw c.in-Trace.is (c.trace.ensures, refl)

pub returns-in-Run : goal.returns-in-Run
returns-in-Run g c = rw c.in-Run.is (c.run.ensures, refl)

pub returns-in-Verify : goal.returns-in-Verify
returns-in-Verify g c = rw c.in-Verify.is (c.verify_file.ensures, refl)

pub returns-in-Prove : goal.returns-in-Prove
returns-in-Prove g c = rw c.in-Prove.is c.prove_file.ensures

pub returns-in-Recheck : goal.returns-in-Recheck
returns-in-Recheck g c = rw c.in-Recheck.is (c.recheck_file.ensures, refl)

pub returns-in-Assemble : goal.returns-in-Assemble
returns-in-Assemble g c = rw c.in-Assemble.is (c.assemble_file.ensures, refl)
