use Rattle.transfer.proofs.Common.{Some, subst, Size, IsLoad}
use Rattle.isa_model.specs.declared.sizes.Extension.{Extension}
use Rattle.reg_state.specs.Arithmetic.{IsSignExtended}
use Rattle.transfer.proofs.stacks.loaded_signed.Goals as goal

pub returns-in-Some : goal.returns-in-Some
returns-in-Some c = (
  c.in-Some.numbers,
  subst (λ (z : Size). IsLoad c.args.stack.now.slots c.args.at z (Some c.in-Some.numbers))
      c.unsigned_size.ensures c.in-Some.ensures.exact,
  subst (λ (x : Extension). IsSignExtended x c.in-Some.numbers c.sign_extend.result)
      c.size_extension.ensures record {
        contains = c.sign_extend.ensures.contains;
        exact = c.sign_extend.ensures.exact;
        fits = c.sign_extend.ensures.fits;
        small = c.sign_extend.ensures.small;
        kept = c.sign_extend.ensures.kept;
        low_signed = c.sign_extend.ensures.low_signed;
        low_kept = c.sign_extend.ensures.low_kept;
        sharp = c.sign_extend.ensures.sharp;
      },
)
