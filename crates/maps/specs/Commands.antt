-- Lists of commands on one map: the replies of a finite map with a greatest count of keys, and the
-- content that they leave.
use Rattle.std.specs.Prelude.{◌≡◌, ℕ, List, [], ◌∷◌, length, Option, Some, None}
use Rattle.isa_model.specs.declared.map_defs.MapDef.{MapDef}
use Rattle.isa_model.specs.Machine.States.{KeyValues}
use Rattle.isa_model.specs.Machine.MapContents.{at_key, update_answer, delete_answer, after_update, after_delete}
use Rattle.maps.specs.declared.commands.MapCommand.{MapCommand}
use Rattle.maps.specs.declared.commands.MapCommand.TheVariants.{Lookup, Update, Delete}
use Rattle.maps.specs.declared.commands.Reply.{Reply}
use Rattle.maps.specs.declared.commands.Reply.TheVariants as reply

-- the reply to a look-up is the value, if the key has one, and that to another command is a number
pub data Said : Type 0 where
  Found : Option (List ℕ) → Said
  Number : ℕ → Said

abbrev pub said : Reply → Said
said (reply.Value bytes) = Found (Some bytes.items)
said reply.Absent = Found None
said (reply.Number n) = Number n

abbrev pub reply_to : MapDef → KeyValues → MapCommand → Said
reply_to row content (Lookup key) = Found (at_key key.now content)
reply_to row content (Update key value flags) = Number (update_answer row content key.now flags)
reply_to row content (Delete key) = Number (delete_answer row content key.now)

abbrev pub content_after : MapDef → KeyValues → MapCommand → KeyValues
content_after row content (Lookup key) = content
content_after row content (Update key value flags) =
    after_update row content key.now value.now flags
content_after row content (Delete key) = after_delete row content key.now

abbrev pub replies_of : MapDef → KeyValues → List MapCommand → List Said
replies_of row content [] = []
replies_of row content (command ∷ commands) =
    reply_to row content command ∷ replies_of row (content_after row content command) commands

abbrev pub content_left : MapDef → KeyValues → List MapCommand → KeyValues
content_left row content [] = content
content_left row content (command ∷ commands) =
    content_left row (content_after row content command) commands

-- keys and values have the sizes of the row
abbrev pub Fits : MapDef → MapCommand → Type 0
Fits row (Lookup key) = length key.now ≡ row.key_size
Fits row (Update key value flags) =
    (length key.now ≡ row.key_size) × (length value.now ≡ row.value_size)
Fits row (Delete key) = length key.now ≡ row.key_size
