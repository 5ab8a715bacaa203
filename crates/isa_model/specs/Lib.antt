pub mod Code
pub mod Machine
pub mod Running
pub mod Reporting
pub mod Text
pub mod MustAccept
pub mod Worked
-- Names that many crates import, so that `use Rattle.isa_model.specs.{Program, fetch}` is enough.
pub use Rattle.isa_model.specs.Code.Instructions.{Program, fetch, slots_filled}
pub use Rattle.isa_model.specs.Code.Registers.{reg_number}
pub use Rattle.isa_model.specs.Code.Sizes.{width_bits, span_bits}
pub use Rattle.isa_model.specs.Machine.States.{KeyValues}
pub use Rattle.isa_model.specs.Code.Limits.{max_packet}
pub use Rattle.isa_model.specs.Reporting.Streams.{PacketFrame}
