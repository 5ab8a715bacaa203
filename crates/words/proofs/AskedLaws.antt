-- What each command asks for with any paths, as its help says it.
use Rattle.words.proofs.Common.{◌≡◌, ℕ, true, false, List, [], ◌∷◌, Some, None, codes, find, option_map, refl, ap, ap₂, ◌∙◌, Shape, argument_words, built, built_leaf, entered, label_of, names_of, or_else, built_fault, check_fault, defaults_fault, level_fault, settle_fault, max_steps, program, asm, dis, verify, run, trace, prove, recheck, explain, Assemble, Disassemble, Explain, Prove, Recheck, Run, Trace, Verify, asked, limit_of, request_by, request_met, unless_wrong}
use Rattle.std.specs.Str.{bytes_eq}
use Rattle.clap.specs.Walk.{Text, Walk, answers_to, finished, idle, nothing_held, rows_after, settled, stop_after, subcommand_met, walk_from}
use Rattle.clap.proofs.OnLiterals.{clap_on_literals}
use Rattle.words.proofs.WalkLaws.{ReadsTo, end_fault, fault-command, is_plain, level_fault-read, met-command, reads-none, reads-option, reads-plain, reads-value}

-- the words after the program's name
words-program : (name : Text) (rest : List Text) → argument_words program (name ∷ rest) ≡ rest
unfolding program
words-program name rest = refl

-- no argument of the program itself is missing
quiet-program : or_else
    (settle_fault (built program).top.rules (built program).top.args_override_self nothing_held)
    (or_else (defaults_fault (settled (built program).top.rules nothing_held).rows
    (built program).top.rules)
    (check_fault (built program).top (finished (built program).top.rules nothing_held) true))
    ≡ []
unfolding clap_on_literals program asm dis verify run trace prove recheck explain
quiet-program = refl

-- what a command asks for with the words after it
pub asked-command : (name command : Text) (rest : List Text) (s : Shape)
    → subcommand_met (names_of (built program)) idle command ≡ Some command
    → bytes_eq command (codes "help") ≡ false
    → find (λ t. answers_to command (label_of t)) (built program).subs ≡ Some s
    → asked (name ∷ command ∷ rest)
    ≡ unless_wrong (level_fault s [] nothing_held rest false [])
    (request_by s.name (rows_after s.rules [] rest))
unfolding asked
asked-command name command rest s met apart found =
    ap₂ unless_wrong
    (ap (built_fault (built program) nothing_held) (words-program name (command ∷ rest))
    ∙ fault-command (built program) command rest s met apart found quiet-program)
    (ap request_met
    (ap (λ (ws : List Text). entered (built program)
    (stop_after (built program).top.rules (names_of (built program)) ws))
    (words-program name (command ∷ rest))
    ∙ met-command (built program) command rest s met found))

-- what it asks for if clap reads these words to their end
asked-read : (name command : Text) (words : List Text) (s : Shape) (end : Walk)
    → subcommand_met (names_of (built program)) idle command ≡ Some command
    → bytes_eq command (codes "help") ≡ false
    → find (λ t. answers_to command (label_of t)) (built program).subs ≡ Some s
    → ReadsTo s (walk_from nothing_held) words end → end_fault s end.held ≡ []
    → asked (name ∷ command ∷ words) ≡ request_by s.name (finished s.rules end.held)
unfolding ReadsTo
asked-read name command words s end met apart found reads quiet =
    asked-command name command words s met apart found
    ∙ ap₂ unless_wrong (level_fault-read s words end reads quiet)
    (ap (λ (w : Walk). request_by s.name (finished s.rules w.held)) reads.0)

-- ---- the commands, on plain paths

-- `xdpvm verify IMAGE` asks for a verdict on the image
pub asked-verify : (name image : List ℕ) → is_plain image ≡ true
    → asked (name ∷ codes "verify" ∷ image ∷ []) ≡ Some (Verify image)
unfolding clap_on_literals program asm dis verify run trace prove recheck explain
asked-verify name image h =
    asked-read name (codes "verify") (image ∷ []) (built_leaf verify.top) _ refl refl refl
    (reads-plain _ _ _ image _ _ _ h refl refl (reads-none _ _)) refl

-- `xdpvm dis IMAGE` asks for the image's text
pub asked-dis : (name image : List ℕ) → is_plain image ≡ true
    → asked (name ∷ codes "dis" ∷ image ∷ []) ≡ Some (Disassemble image)
unfolding clap_on_literals program asm dis verify run trace prove recheck explain
asked-dis name image h =
    asked-read name (codes "dis") (image ∷ []) (built_leaf dis.top) _ refl refl refl
    (reads-plain _ _ _ image _ _ _ h refl refl (reads-none _ _)) refl

-- `xdpvm explain CODE` asks for what the code means
pub asked-explain : (name code : List ℕ) → is_plain code ≡ true
    → asked (name ∷ codes "explain" ∷ code ∷ []) ≡ Some (Explain code)
unfolding clap_on_literals program asm dis verify run trace prove recheck explain
asked-explain name code h =
    asked-read name (codes "explain") (code ∷ []) (built_leaf explain.top) _ refl refl refl
    (reads-plain _ _ _ code _ _ _ h refl refl (reads-none _ _)) refl

-- `xdpvm asm TEXT IMAGE` asks for the text's image
pub asked-asm : (name text image : List ℕ) → is_plain text ≡ true → is_plain image ≡ true
    → asked (name ∷ codes "asm" ∷ text ∷ image ∷ []) ≡ Some (Assemble text image)
unfolding clap_on_literals program asm dis verify run trace prove recheck explain
asked-asm name text image h i =
    asked-read name (codes "asm") (text ∷ image ∷ []) (built_leaf asm.top) _ refl refl refl
    (reads-plain _ _ _ text _ _ _ h refl refl
    (reads-plain _ _ _ image _ _ _ i refl refl (reads-none _ _))) refl

-- `xdpvm prove IMAGE TABLE` asks for a proof table of the image's program
pub asked-prove : (name image table : List ℕ) → is_plain image ≡ true → is_plain table ≡ true
    → asked (name ∷ codes "prove" ∷ image ∷ table ∷ [])
    ≡ Some (Prove (record { image = image; table = table }))
unfolding clap_on_literals program asm dis verify run trace prove recheck explain
asked-prove name image table h i =
    asked-read name (codes "prove") (image ∷ table ∷ []) (built_leaf prove.top) _ refl refl refl
    (reads-plain _ _ _ image _ _ _ h refl refl
    (reads-plain _ _ _ table _ _ _ i refl refl (reads-none _ _))) refl

-- `xdpvm recheck IMAGE TABLE` asks for a test of the table
pub asked-recheck : (name image table : List ℕ) → is_plain image ≡ true → is_plain table ≡ true
    → asked (name ∷ codes "recheck" ∷ image ∷ table ∷ [])
    ≡ Some (Recheck (record { image = image; table = table }))
unfolding clap_on_literals program asm dis verify run trace prove recheck explain
asked-recheck name image table h i =
    asked-read name (codes "recheck") (image ∷ table ∷ []) (built_leaf recheck.top) _ refl refl refl
    (reads-plain _ _ _ image _ _ _ h refl refl
    (reads-plain _ _ _ table _ _ _ i refl refl (reads-none _ _))) refl

-- `xdpvm run IMAGE FRAMES OUT` asks for runs of the accepted program
pub asked-run : (name image frames out : List ℕ) → is_plain image ≡ true → is_plain frames ≡ true
    → is_plain out ≡ true
    → asked (name ∷ codes "run" ∷ image ∷ frames ∷ out ∷ [])
    ≡ Some (Run (record { image = image; frames = frames; out = out }) None)
unfolding clap_on_literals program asm dis verify run trace prove recheck explain
asked-run name image frames out h i j =
    asked-read name (codes "run") (image ∷ frames ∷ out ∷ []) (built_leaf run.top) _ refl refl refl
    (reads-plain _ _ _ image _ _ _ h refl refl
    (reads-plain _ _ _ frames _ _ _ i refl refl
    (reads-plain _ _ _ out _ _ _ j refl refl (reads-none _ _)))) refl

-- `xdpvm trace IMAGE FRAMES OUT` asks for runs with checks, of at most 1,000,000 steps each
pub asked-trace : (name image frames out : List ℕ) → is_plain image ≡ true → is_plain frames ≡ true
    → is_plain out ≡ true
    → asked (name ∷ codes "trace" ∷ image ∷ frames ∷ out ∷ [])
    ≡ Some (Trace (record { image = image; frames = frames; out = out }) max_steps)
unfolding clap_on_literals program asm dis verify run trace prove recheck explain
asked-trace name image frames out h i j =
    asked-read name (codes "trace") (image ∷ frames ∷ out ∷ []) (built_leaf trace.top) _
    refl refl refl
    (reads-plain _ _ _ image _ _ _ h refl refl
    (reads-plain _ _ _ frames _ _ _ i refl refl
    (reads-plain _ _ _ out _ _ _ j refl refl (reads-none _ _)))) refl

-- ---- an option after the files

-- `xdpvm trace IMAGE FRAMES OUT --limit N` asks for runs of at most N steps each, if N is a limit,
-- and else for nothing
pub asked-trace-limit : (name image frames out value : List ℕ) → is_plain image ≡ true
    → is_plain frames ≡ true → is_plain out ≡ true → is_plain value ≡ true
    → asked (name ∷ codes "trace" ∷ image ∷ frames ∷ out ∷ codes "--limit" ∷ value ∷ [])
    ≡ option_map (Trace (record { image = image; frames = frames; out = out })) (limit_of value)
unfolding clap_on_literals program asm dis verify run trace prove recheck explain
asked-trace-limit name image frames out value h i j k =
    asked-read name (codes "trace") (image ∷ frames ∷ out ∷ codes "--limit" ∷ value ∷ [])
    (built_leaf trace.top) _ refl refl refl
    (reads-plain _ _ _ image _ _ _ h refl refl
    (reads-plain _ _ _ frames _ _ _ i refl refl
    (reads-plain _ _ _ out _ _ _ j refl refl
    (reads-option _ _ _ (codes "--limit") (codes "limit") _ _ _ refl refl refl refl refl
    (reads-value _ _ _ _ value _ _ _ k refl refl (reads-none _ _)))))) refl

-- `xdpvm run IMAGE FRAMES OUT --table TABLE` asks for runs of the program after a test of the
-- table, in place of verifying the program
pub asked-run-table : (name image frames out table : List ℕ) → is_plain image ≡ true
    → is_plain frames ≡ true → is_plain out ≡ true → is_plain table ≡ true
    → asked (name ∷ codes "run" ∷ image ∷ frames ∷ out ∷ codes "--table" ∷ table ∷ [])
    ≡ Some (Run (record { image = image; frames = frames; out = out }) (Some table))
unfolding clap_on_literals program asm dis verify run trace prove recheck explain
asked-run-table name image frames out table h i j k =
    asked-read name (codes "run") (image ∷ frames ∷ out ∷ codes "--table" ∷ table ∷ [])
    (built_leaf run.top) _ refl refl refl
    (reads-plain _ _ _ image _ _ _ h refl refl
    (reads-plain _ _ _ frames _ _ _ i refl refl
    (reads-plain _ _ _ out _ _ _ j refl refl
    (reads-option _ _ _ (codes "--table") (codes "table") _ _ _ refl refl refl refl refl
    (reads-value _ _ _ _ table _ _ _ k refl refl (reads-none _ _)))))) refl
