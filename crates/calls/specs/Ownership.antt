-- What a session owns.
use Rattle.std.specs.Prelude.{◌≡◌, Option, None, Some}
use base.Fml.{Fml, ftrue, fex}
use denote.RawPtr.{Ptr, null_ptr}
use Rattle.std.specs.declared.alloc.Global.{Global}
use Rattle.std.specs.contracts.impls.GlobalAllocator.TheImpl.{ghosts}
use Rattle.std.specs.Box.Ownership.{box_owns}
use Rattle.machine.specs.Running.{Running}
use Rattle.machine.specs.contracts.machines.Machine.{the_row}

-- nothing, at null; or the machine that the pointer points to, and the right to free its block
abbrev pub session_owns : Option Running → Ptr → Fml
session_owns None p = fex (p ≡ null_ptr) (λ _. ftrue)
session_owns (Some r) p = fex Global (λ heap. box_owns (ghosts.dealloc_token heap) the_row p r)
