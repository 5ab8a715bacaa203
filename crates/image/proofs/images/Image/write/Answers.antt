use Rattle.image.proofs.Common.{◌≡◌, ℕ, List, ◌++◌, subst, length, rules, Option, OnOk, OnErr, flat_map, Appends, MapDef, Insn, Program, AppendsBeginning, row_bytes, code_bytes}
use Rattle.exact_io.proofs.TransferLaws.{AppendsBeginning-first, AppendsBeginning-second, both_written, second_fails}
use Rattle.image.proofs.ImageSpelling.{image_bytes-written}
use Rattle.image.proofs.Writing.{on_err}
use Rattle.image.proofs.images.Image.write.Goals as goal

pub returns-in_err-write_bytes-clause-err : goal.returns-in_err-write_bytes-clause-err
returns-in_err-write_bytes-clause-err g c =
    let p : Program = record {
      insns = c.self.inside.slots.items;
      maps = c.self.inside.maps.items;
      version = c.self.inside.version;
    } in
    let head = c.head_of-head.result in
    let rows = flat_map row_bytes p.maps in
    let code = code_bytes p.insns in
    let maps_are : c.len.result ≡ length p.maps = search rules in
    let slots_are : c.len-2.result ≡ length p.insns = search rules in
    let same = image_bytes-written p c.args.self.now head c.len.result c.len-2.result c.self.view_is
    c.head_of-head.ensures maps_are slots_are in
    on_err _ c.from_residual.result
    (subst (λ (l : List ℕ). AppendsBeginning (g.W.Write.contents c.args.writer.now)
    (g.W.Write.contents c.write_bytes.new.writer) l) same
    (AppendsBeginning-first _ _ head (rows ++ code) c.in_err-write_bytes.ensures.err))

pub returns-in_err-write_rows-clause-err : goal.returns-in_err-write_rows-clause-err
returns-in_err-write_rows-clause-err g c =
    let p : Program = record {
      insns = c.self.inside.slots.items;
      maps = c.self.inside.maps.items;
      version = c.self.inside.version;
    } in
    let head = c.head_of-head.result in
    let rows = flat_map row_bytes p.maps in
    let code = code_bytes p.insns in
    let maps_are : c.len.result ≡ length p.maps = search rules in
    let slots_are : c.len-2.result ≡ length p.insns = search rules in
    let same = image_bytes-written p c.args.self.now head c.len.result c.len-2.result c.self.view_is
    c.head_of-head.ensures maps_are slots_are in
    let part = subst
    (λ (l : List MapDef). AppendsBeginning (g.W.Write.contents c.write_bytes.new.writer)
    (g.W.Write.contents c.write_rows.new.writer)
    (flat_map row_bytes l)) c.deref.ensures.value c.in_err-write_rows.ensures.err in
    on_err _ c.from_residual-in_err-write_rows.result
    (subst (λ (l : List ℕ). AppendsBeginning (g.W.Write.contents c.args.writer.now)
    (g.W.Write.contents c.write_rows.new.writer) l) same
    (AppendsBeginning-second _ _ _ head (rows ++ code) c.in_ok-write_bytes.ensures.ok
    (AppendsBeginning-first _ _ rows code part)))

pub returns-clause-ok : goal.returns-clause-ok
returns-clause-ok g c =
    let p : Program = record {
      insns = c.self.inside.slots.items;
      maps = c.self.inside.maps.items;
      version = c.self.inside.version;
    } in
    let head = c.head_of-head.result in
    let rows = flat_map row_bytes p.maps in
    let code = code_bytes p.insns in
    let maps_are : c.len.result ≡ length p.maps = search rules in
    let slots_are : c.len-2.result ≡ length p.insns = search rules in
    let same = image_bytes-written p c.args.self.now head c.len.result c.len-2.result c.self.view_is
    c.head_of-head.ensures maps_are slots_are in
    let first = subst
    (λ (l : List MapDef). Appends (g.W.Write.contents c.write_bytes.new.writer)
    (g.W.Write.contents c.write_rows.new.writer)
    (flat_map row_bytes l)) c.deref.ensures.value c.in_ok-write_rows.ensures.ok in
    let last = subst
    (λ (xs : List (Option Insn)). OnOk c.write_code.result
    (Appends (g.W.Write.contents c.write_rows.new.writer)
    (g.W.Write.contents c.write_code.new.writer)
    (code_bytes xs))) c.deref-2.ensures.value c.write_code.ensures.ok in
    subst (λ (l : List ℕ). OnOk c.write_code.result
    (Appends (g.W.Write.contents c.args.writer.now)
    (g.W.Write.contents c.write_code.new.writer) l)) same
    (both_written c.write_code.result _ _ _ head (rows ++ code) c.in_ok-write_bytes.ensures.ok
    (both_written c.write_code.result _ _ _ rows code first last))

pub returns-clause-err : goal.returns-clause-err
returns-clause-err g c =
    let p : Program = record {
      insns = c.self.inside.slots.items;
      maps = c.self.inside.maps.items;
      version = c.self.inside.version;
    } in
    let head = c.head_of-head.result in
    let rows = flat_map row_bytes p.maps in
    let code = code_bytes p.insns in
    let maps_are : c.len.result ≡ length p.maps = search rules in
    let slots_are : c.len-2.result ≡ length p.insns = search rules in
    let same = image_bytes-written p c.args.self.now head c.len.result c.len-2.result c.self.view_is
    c.head_of-head.ensures maps_are slots_are in
    let first = subst
    (λ (l : List MapDef). Appends (g.W.Write.contents c.write_bytes.new.writer)
    (g.W.Write.contents c.write_rows.new.writer)
    (flat_map row_bytes l)) c.deref.ensures.value c.in_ok-write_rows.ensures.ok in
    let last = subst
    (λ (xs : List (Option Insn)). OnErr c.write_code.result
    (AppendsBeginning (g.W.Write.contents c.write_rows.new.writer)
    (g.W.Write.contents c.write_code.new.writer)
    (code_bytes xs))) c.deref-2.ensures.value c.write_code.ensures.err in
    subst (λ (l : List ℕ). OnErr c.write_code.result
    (AppendsBeginning (g.W.Write.contents c.args.writer.now)
    (g.W.Write.contents c.write_code.new.writer) l)) same
    (second_fails c.write_code.result _ _ _ head (rows ++ code) c.in_ok-write_bytes.ensures.ok
    (second_fails c.write_code.result _ _ _ rows code first last))
