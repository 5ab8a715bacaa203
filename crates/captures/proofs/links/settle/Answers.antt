use Rattle.captures.proofs.Common.{◌++◌, slice_range, sym, ap, ◌∙◌, LinkType, ethernet_frame, ethernet_head, null_type, loop_type}
use Rattle.captures.proofs.LinkLaws.{length-range, frame_settled, behind_family}
use Rattle.captures.proofs.links.settle.Goals as goal

pub returns-in-Cooked-clause-frame : goal.returns-in-Cooked-clause-frame
returns-in-Cooked-clause-frame c =
    let start = c.args.start in
    let end = c.args.end in
    let block = c.args.block.now in
    frame_settled start end c.settle_cooked.result block c.settle_cooked.new.packet
    c.requires.ordered
    c.requires.inside
    (c.settle_cooked.auto.packet
    ∙ length-range start end block c.requires.ordered c.requires.inside)
    c.settle_cooked.ensures.inside
    ∙ c.settle_cooked.ensures.frame
    ∙ ap (λ (l : LinkType). ethernet_frame l (slice_range block start end)) (sym c.in-Cooked.is)

pub returns-in-Cooked2-clause-frame : goal.returns-in-Cooked2-clause-frame
returns-in-Cooked2-clause-frame c =
    let start = c.args.start in
    let end = c.args.end in
    let block = c.args.block.now in
    frame_settled start end c.settle_cooked2.result block c.settle_cooked2.new.packet
    c.requires.ordered
    c.requires.inside
    (c.settle_cooked2.auto.packet
    ∙ length-range start end block c.requires.ordered c.requires.inside)
    c.settle_cooked2.ensures.inside
    ∙ c.settle_cooked2.ensures.frame
    ∙ ap (λ (l : LinkType). ethernet_frame l (slice_range block start end)) (sym c.in-Cooked2.is)

pub returns-in-Null-clause-frame : goal.returns-in-Null-clause-frame
returns-in-Null-clause-frame c =
    let start = c.args.start in
    let end = c.args.end in
    let block = c.args.block.now in
    c.headed-in-Null.ensures.frame
    ∙ ap (λ n. ethernet_head n ++ slice_range block c.min.result end) c.null_type-kind.ensures
    ∙ ap (λ l. ethernet_head (null_type (slice_range block start end)) ++ l)
    (ap (λ n. slice_range block n end) c.min.ensures
    ∙ behind_family start end block c.requires.ordered c.requires.inside)
    ∙ ap (λ (l : LinkType). ethernet_frame l (slice_range block start end)) (sym c.in-Null.is)

pub returns-in-Loop-clause-frame : goal.returns-in-Loop-clause-frame
returns-in-Loop-clause-frame c =
    let start = c.args.start in
    let end = c.args.end in
    let block = c.args.block.now in
    c.headed-in-Loop.ensures.frame
    ∙ ap (λ n. ethernet_head n ++ slice_range block c.min-in-Loop.result end)
    c.loop_type-kind.ensures
    ∙ ap (λ l. ethernet_head (loop_type (slice_range block start end)) ++ l)
    (ap (λ n. slice_range block n end) c.min-in-Loop.ensures
    ∙ behind_family start end block c.requires.ordered c.requires.inside)
    ∙ ap (λ (l : LinkType). ethernet_frame l (slice_range block start end)) (sym c.in-Loop.is)
