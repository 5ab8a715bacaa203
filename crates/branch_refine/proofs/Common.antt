-- The names that most proofs of this crate cite, passed on from one place. Declares nothing.
pub use Rattle.std.proofs.Common.{◌≡◌, ℕ, ◌<◌, ◌==◌, ℤ, pos, negsuc, ◌+ℤ◌, ◌≤ℤ◌, Bool, true, false, int_lt, int_le, if◌then◌else◌, Option, Some, None, Result, Ok, sym, ◌∙◌, subst, arith, ◌≢◌, ◌^◌, ap, inl, inr, zero, suc, max, not, IsTrue}
pub use Rattle.std.specs.Prelude.{refl}
pub use Rattle.isa_model.specs.Code.Instructions.{Program}
pub use Rattle.isa_model.specs.Machine.Steps.{tested, test_of, operand_value}
pub use Rattle.isa_model.specs.declared.instructions.Cond.{Cond}
pub use Rattle.isa_model.specs.declared.instructions.Operand.{Operand}
pub use Rattle.isa_model.specs.declared.instructions.Operand.TheVariants.{Constant, Register}
pub use Rattle.isa_model.specs.declared.sizes.Width.{Width}
pub use Rattle.reg_state.specs.Kinds.{Assigned, Allows, AllowsOrNull, IsProved}
pub use Rattle.reg_state.specs.declared.kinds.Kind.{Kind}
pub use Rattle.reg_state.specs.declared.kinds.Kind.TheVariants.{Number, Packet, PacketEnd, MapValue, MapValueOrNull}
pub use Rattle.stack_state.specs.Meaning.{MeansBy}
pub use Rattle.stack_state.specs.Places.{kind_of, with_register}
pub use Rattle.stack_state.specs.declared.states.State.{State}
