-- How clap's walk reads a command's name and plain words.
use Rattle.words.proofs.Common.{◌≡◌, ℕ, ◌==◌, ◌++◌, Bool, true, false, not, nat_lt, List, [], ◌∷◌, Option, Some, None, codes, find, fold, option_map, refl, ap, ap₂, ◌∙◌, append_assoc, append-nil, Kinds, or_else, built_fault, check_fault, defaults_fault, level_fault, positional_fault, settle_fault, stray_fault, turn_fault, walk_fault}
use Rattle.std.specs.Option.{option_map_or}
use Rattle.std.specs.Str.{bytes_eq}
use Rattle.clap.specs.Lexer.{long_of}
use Rattle.clap.specs.Walk.{Held, Names, Rule, Text, Walk, answers_to, arg_by_id, arg_by_index, arg_by_long, finished, idle, most_values, nothing_held, option, pending_count, pushed, rows_after, settled, stop_after, subcommand_met, takes_values, to_positional, walk, walk_from, walked}
use Rattle.clap.specs.Simple.{App, Shape, entered, label_of, names_of, rows_at}

-- clap's walk is at a positional, after no option
abbrev pub walk_at : Held → ℕ → Walk
walk_at h p = record { held = h; waiting = idle; position = p; is_trailing = false; stopped = None }

-- the words after a command belong to it
walked-stopped : (rules : List Rule) (names : Names) (h : Held) (p : ℕ) (name : Text)
    (before rest : List Text)
    → fold (walked rules names)
    (record {
      held = h;
      waiting = idle;
      position = p;
      is_trailing = false;
      stopped = Some (name, before);
    }) rest
    ≡ record {
      held = h;
      waiting = idle;
      position = p;
      is_trailing = false;
      stopped = Some (name, before ++ rest);
    }
unfolding walked
walked-stopped rules names h p name before [] = rw append-nil refl
walked-stopped rules names h p name before (w ∷ ws) =
    walked-stopped rules names h p name (before ++ w ∷ []) ws ∙ rw append_assoc refl

walk_fault-stopped : (s : Shape) (names : Names) (h : Held) (p : ℕ) (name : Text)
    (before rest : List Text)
    → walk_fault s names
    (record {
      held = h;
      waiting = idle;
      position = p;
      is_trailing = false;
      stopped = Some (name, before);
    }) rest ≡ []
unfolding walked walk_fault
walk_fault-stopped s names h p name before [] = refl
walk_fault-stopped s names h p name before (w ∷ ws) =
    walk_fault-stopped s names h p name (before ++ w ∷ []) ws

-- a command's name stops clap's walk
walked-command : (rules : List Rule) (names : Names) (command : Text)
    → subcommand_met names idle command ≡ Some command
    → walked rules names (walk_from nothing_held) command
    ≡ record {
      held = nothing_held;
      waiting = idle;
      position = 1;
      is_trailing = false;
      stopped = Some (command, []);
    }
unfolding walked
walked-command rules names command met = simp met

pub walk-command : (rules : List Rule) (names : Names) (command : Text) (rest : List Text)
    → subcommand_met names idle command ≡ Some command
    → walk rules names nothing_held (command ∷ rest)
    ≡ record {
      held = nothing_held;
      waiting = idle;
      position = 1;
      is_trailing = false;
      stopped = Some (command, rest);
    }
walk-command rules names command rest met =
    ap (λ (w : Walk). fold (walked rules names) w rest) (walked-command rules names command met)
    ∙ walked-stopped rules names nothing_held 1 command [] rest

-- a command's name is no error, nor are the words after it an error of the program
walk_fault-command : (s : Shape) (names : Names) (command : Text) (rest : List Text)
    → subcommand_met names idle command ≡ Some command → bytes_eq command (codes "help") ≡ false
    → walk_fault s names (walk_from nothing_held) (command ∷ rest) ≡ []
unfolding walk_fault walked
walk_fault-command s names command rest met apart =
    simp (met, apart) (walk_fault-stopped s names nothing_held 1 command [] rest)

-- no other error
or_else-none : (k : Kinds) → or_else k [] ≡ k
or_else-none [] = refl
or_else-none (x ∷ xs) = refl

-- after a command's name, the errors are those in the words after it
pub fault-command : (a : App) (command : Text) (rest : List Text) (s : Shape)
    → subcommand_met (names_of a) idle command ≡ Some command
    → bytes_eq command (codes "help") ≡ false
    → find (λ t. answers_to command (label_of t)) a.subs ≡ Some s
    → or_else (settle_fault a.top.rules a.top.args_override_self nothing_held)
    (or_else (defaults_fault (settled a.top.rules nothing_held).rows a.top.rules)
    (check_fault a.top (finished a.top.rules nothing_held) true)) ≡ []
    → built_fault a nothing_held (command ∷ rest) ≡ level_fault s [] nothing_held rest false []
fault-command a command rest s met apart found quiet =
    rw (
      walk-command a.top.rules (names_of a) command rest met,
      found,
      walk_fault-command a.top
          (names_of a) command rest met apart,
      quiet,
    ) (or_else-none _)

-- the command that is found is the one of that name, with the words after it
pub met-command : (a : App) (command : Text) (rest : List Text) (s : Shape)
    → subcommand_met (names_of a) idle command ≡ Some command
    → find (λ t. answers_to command (label_of t)) a.subs ≡ Some s
    → entered a (stop_after a.top.rules (names_of a) (command ∷ rest))
    ≡ Some (s.name, rows_after s.rules [] rest)
met-command a command rest s met found =
    ap (λ (w : Walk). entered a w.stopped) (walk-command a.top.rules (names_of a) command rest met)
    ∙ ap (option_map (λ t. rows_at t rest)) found

-- ---- the words after a command

-- clap's walk over the words ends there, and none of them is an error
unfoldable pub ReadsTo : Shape → Walk → List Text → Walk → Type 0
ReadsTo s w words end =
    (fold (walked s.rules []) w words ≡ end) × (walk_fault s [] w words ≡ [])

-- no word is left
pub reads-none : (s : Shape) (w : Walk) → ReadsTo s w [] w
unfolding walk_fault ReadsTo
reads-none s w = (refl, refl)

-- there is one more word
reads-more : (s : Shape) (w next end : Walk) (word : Text) (rest : List Text)
    → walked s.rules [] w word ≡ next → turn_fault s [] w word ≡ [] → ReadsTo s next rest end
    → ReadsTo s w (word ∷ rest) end
unfolding walk_fault ReadsTo
reads-more s w next end word rest leads quiet reads = (
  ap (λ (x : Walk). fold (walked s.rules []) x rest) leads ∙ reads.0,
  ap₂ or_else quiet (ap (λ (x : Walk). walk_fault s [] x rest) leads ∙ reads.1),
)

-- the word is not an option: it has a first byte, which is not a hyphen
abbrev pub is_plain : List ℕ → Bool
is_plain [] = false
is_plain (c ∷ cs) = not (c == 45)

-- a truth value whose negation is true is false
no-hyphen : (b : Bool) → not b ≡ true → b ≡ false
no-hyphen false h = refl
no-hyphen true h = cc

-- a plain word is the value of the next positional
walked-plain : (rules : List Rule) (h : Held) (p c : ℕ) (cs : List ℕ) → (c == 45) ≡ false
    → walked rules [] (walk_at h p) (c ∷ cs)
    ≡ to_positional rules (arg_by_index rules p) (c ∷ cs) (walk_at h p) h
unfolding walked
walked-plain rules h p c cs apart = simp apart

-- it is an error if no positional is left, or if what was pending is an error
turn_fault-plain : (s : Shape) (h : Held) (p c : ℕ) (cs : List ℕ) → (c == 45) ≡ false
    → turn_fault s [] (walk_at h p) (c ∷ cs)
    ≡ option_map_or (λ a. positional_fault s.rules s.args_override_self a h)
    (arg_by_index s.rules p) (stray_fault s)
turn_fault-plain s h p c cs apart = simp apart

pub reads-plain : (s : Shape) (h : Held) (p : ℕ) (word : Text) (rest : List Text) (a : Rule)
    (end : Walk) → is_plain word ≡ true → arg_by_index s.rules p ≡ Some a
    → positional_fault s.rules s.args_override_self a h ≡ []
    → ReadsTo s (to_positional s.rules (Some a) word (walk_at h p) h) rest end
    → ReadsTo s (walk_at h p) (word ∷ rest) end
reads-plain s h p [] rest a end plain found quiet reads = cc
reads-plain s h p (c ∷ cs) rest a end plain found quiet reads =
    let apart : (c == 45) ≡ false = no-hyphen _ plain in
    reads-more s (walk_at h p) _ end (c ∷ cs) rest
    (walked-plain s.rules h p c cs apart
    ∙ ap (λ (o : Option Rule). to_positional s.rules o (c ∷ cs) (walk_at h p) h) found)
    (turn_fault-plain s h p c cs apart
    ∙ (ap (λ (o : Option Rule). option_map_or
    (λ b. positional_fault s.rules s.args_override_self b h) o (stray_fault s)) found ∙ quiet))
    reads

-- ---- an option

-- clap's walk is at a positional, after the option with this id
abbrev pub option_at : Text → Held → ℕ → Walk
option_at id h p = record {
  held = h;
  waiting = option id;
  position = p;
  is_trailing = false;
  stopped = None;
}

-- an option waits for its value
pub reads-option : (s : Shape) (h : Held) (p : ℕ) (word name : Text) (rest : List Text) (a : Rule)
    (end : Walk) → bytes_eq word (codes "--") ≡ false → long_of word ≡ Some (name, None)
    → arg_by_long s.rules name ≡ Some a → takes_values a ≡ true
    → settle_fault s.rules s.args_override_self h ≡ []
    → ReadsTo s (option_at a.id (record (settled s.rules h) { pending = Some (a.id, []) }) p) rest
    end
    → ReadsTo s (walk_at h p) (word ∷ rest) end
unfolding walked
reads-option s h p word name rest a end apart long found takes quiet reads =
    reads-more s (walk_at h p) _ end word rest (simp (apart, long, found, takes))
    (simp (apart, long, found, takes, quiet)) reads

-- a plain word after it is that value
pub reads-value : (s : Shape) (h : Held) (p : ℕ) (id word : Text) (rest : List Text) (a : Rule)
    (end : Walk) → is_plain word ≡ true → arg_by_id s.rules id ≡ Some a
    → nat_lt (pending_count a (pushed id word h).pending) (most_values a) ≡ false
    → ReadsTo s (walk_at (pushed id word h) p) rest end
    → ReadsTo s (option_at id h p) (word ∷ rest) end
unfolding walked
reads-value s h p id [] rest a end plain found last reads = cc
reads-value s h p id (c ∷ cs) rest a end plain found last reads =
    let apart : (c == 45) ≡ false = no-hyphen _ plain in
    reads-more s (option_at id h p) _ end (c ∷ cs) rest (simp (apart, found, last)) (simp apart)
    reads

-- ---- after the words

-- the errors that are found when all words are read
abbrev pub end_fault : Shape → Held → Kinds
end_fault s h = or_else (settle_fault s.rules s.args_override_self h)
    (or_else (defaults_fault (settled s.rules h).rows s.rules)
    (check_fault s (finished s.rules h) false))

-- the words are no error, nor is what they leave out
pub level_fault-read : (s : Shape) (words : List Text) (end : Walk)
    → ReadsTo s (walk_from nothing_held) words end → end_fault s end.held ≡ []
    → level_fault s [] nothing_held words false [] ≡ []
unfolding ReadsTo
level_fault-read s words end reads quiet =
    ap₂ or_else reads.1 (ap (λ (w : Walk). end_fault s w.held) reads.0 ∙ quiet)
