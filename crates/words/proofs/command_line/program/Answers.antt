use Rattle.words.specs.CommandLine as line
use Rattle.words.proofs.Words.{command-added}
use Rattle.words.proofs.command_line.program.Goals as goal

pub returns : goal.returns
unfolding line.program line.asm line.dis line.verify line.run line.trace line.prove line.recheck
    line.explain
returns c =
    let with-asm =
    command-added _ _ _ line.asm c.with_command-with_asm.ensures c.empty_program-empty.ensures in
    let with-dis = command-added _ _ _ line.dis c.with_command-with_dis.ensures with-asm in
    let with-verify = command-added _ _ _ line.verify c.with_command-with_verify.ensures with-dis in
    let with-run = command-added _ _ _ line.run c.with_running-with_run.ensures with-verify in
    let with-trace = command-added _ _ _ line.trace c.with_running-with_trace.ensures with-run in
    let with-prove = command-added _ _ _ line.prove c.with_command-with_prove.ensures with-trace in
    let with-recheck =
    command-added _ _ _ line.recheck c.with_command-with_recheck.ensures with-prove in
    command-added _ _ _ line.explain c.with_command.ensures with-recheck
