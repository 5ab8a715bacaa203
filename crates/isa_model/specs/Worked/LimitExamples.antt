-- Worked examples: the limits of src/limits are those of specs/Code/Limits.
use Rattle.std.specs.Prelude.{◌≡◌, pos, [], ◌∷◌, refl}
use Rattle.isa_model.specs.declared.limits.TheConstants.{MAX_SLOTS, MAX_MAPS, MAX_KEY_SIZE, MAX_VALUE_SIZE, MAX_MAP_ENTRIES, MAX_MAP_ROOM, STACK_SIZE, MAX_CALL_FRAMES, OFFSET_LIMIT, MAX_PACKET, MAX_SHORT_PACKET, MAX_STEPS, MAX_EXPLORED}
use Rattle.isa_model.specs.declared.versions.Version.TheVariants.{One, Two}
use Rattle.isa_model.specs.Code.Limits.{max_slots, max_maps, max_key_size, max_value_size, max_map_entries, max_map_room, stack_size, max_call_frames, offset_limit, max_packet, max_body, max_steps, max_explored}

pub programs : MAX_SLOTS ∷ MAX_MAPS ∷ MAX_KEY_SIZE ∷ MAX_VALUE_SIZE ∷ MAX_MAP_ENTRIES ∷ MAX_MAP_ROOM
    ∷ []
    ≡ max_slots ∷ max_maps ∷ max_key_size ∷ max_value_size ∷ max_map_entries ∷ max_map_room ∷ []
programs = refl

pub runs : STACK_SIZE ∷ MAX_CALL_FRAMES ∷ MAX_PACKET ∷ MAX_PACKET ∷ MAX_SHORT_PACKET ∷ MAX_STEPS
    ∷ MAX_EXPLORED ∷ []
    ≡ stack_size ∷ max_call_frames ∷ max_packet ∷ max_body Two ∷ max_body One ∷ max_steps
    ∷ max_explored ∷ []
runs = refl

pub pointers : OFFSET_LIMIT ≡ pos offset_limit
pointers = refl
