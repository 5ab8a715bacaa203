-- The limits of programs, maps, packets and runs, each once. docs/FORMATS.md, docs/MEANING.md;
-- Linux's where it is named.
use Rattle.std.specs.Prelude.{ℕ, ◌^◌}
use Rattle.isa_model.specs.declared.versions.Version.{Version}
use Rattle.isa_model.specs.declared.versions.Version.TheVariants.{One, Two}

-- ---- programs

-- slots of a program. Linux, BPF_MAXINSNS
abbrev pub max_slots : ℕ
max_slots = 4096

-- bytes of a packet that the test of a guarded program may ask for (specs/MustAccept/Guarded)
abbrev pub max_guarded_length : ℕ
max_guarded_length = 4096

-- ---- maps

-- map rows of a program
abbrev pub max_maps : ℕ
max_maps = 16

-- bytes of a hash map's key
abbrev pub max_key_size : ℕ
max_key_size = 64

-- bytes of a map's value
abbrev pub max_value_size : ℕ
max_value_size = 4096

-- keys of a map
abbrev pub max_map_entries : ℕ
max_map_entries = 65536

-- bytes of all keys and values together, each map with as many keys as it can have
abbrev pub max_map_room : ℕ
max_map_room = 16777216

-- ---- memory

-- bytes of stack of a call frame. Linux, MAX_BPF_STACK
abbrev pub stack_size : ℕ
stack_size = 512

-- live call frames. Linux, MAX_CALL_FRAMES
abbrev pub max_call_frames : ℕ
max_call_frames = 8

-- a pointer's offset lies between minus this and this. Linux, BPF_MAX_VAR_OFF
abbrev pub offset_limit : ℕ
offset_limit = 2 ^ 29

-- ---- packets

-- bytes of a packet of a stream of the version
abbrev pub max_body : Version → ℕ
max_body One = 4096
max_body Two = 9216

-- bytes of a packet of any stream
abbrev pub max_packet : ℕ
max_packet = 9216

-- ---- runs

-- instructions that a run may execute
abbrev pub max_steps : ℕ
max_steps = 1000000

-- instructions that the verifier explores. Linux, BPF_COMPLEXITY_LIMIT_INSNS
abbrev pub max_explored : ℕ
max_explored = 1000000
