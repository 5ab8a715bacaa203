use Rattle.table_entries.proofs.Common.{◌∙◌, arith, length-set, Unset}
use Rattle.table_entries.proofs.ForgettingLaws.{IsWeakerList-same, IsWeakerList-set}
use Rattle.table_entries.proofs.forgetting.forget_registers.Goals as goal

pub loop-index-init : goal.loop-index-init
loop-index-init c =
    record { weaker = IsWeakerList-same Unset c.args.registers.now; long = omega arith }

pub loop-index-preserved : goal.loop-index-preserved
loop-index-preserved c =
    let ys = c.loop-index.registers in
    let y = c.forget_register-rest.new.register in
    record {
      weaker =
          IsWeakerList-set Unset c.args.registers.now ys c.loop-index.index
          c.index-registers-index.result y (omega arith)
          c.forget_register-rest.ensures c.loop-index.invariant.weaker;
      long = length-set ys c.loop-index.index y ∙ c.loop-index.invariant.long;
    }
