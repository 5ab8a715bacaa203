-- From what the loop over a stream tells, and the end of the report, to what a run shows.
use Rattle.host.proofs.Common.{◌≡◌, ℕ, ◌+◌, ◌==◌, if◌then◌else◌, Bool, true, false, List, [], ◌∷◌, length, Result, Ok, Err, IfOk, refl, ap, ◌∙◌, Some, None, MapDef, Finish, Version, Program, KeyValues, PacketFrame, Stream, turn_on, contents_left, contents_after, Bounded, MapState, rows_of, contents_of, Origin, StreamEnded, HostError, Totals, no_totals, with_end, end_of, totals_after, Noted, Noting, noted_of, noted_on, noted_after, checked_notes, AreMaps, tally_of, rule_of, RunnerState, TakesWhole, Outputs}
use Rattle.checked_vm.specs.Machines.{LoadedProgram as Checking}
use Rattle.host.specs.declared.tallies.Tally.{Tally}
use Rattle.host.specs.declared.traced.Traced.{Traced}
use Rattle.host.specs.Counting.{counting_notes}

-- ---- what the end of a report returns

abbrev pub Shows : List MapDef → Noted → List KeyValues → Stream → Traced → Type 0
Shows rows noted last found traced =
    (traced.tally ≡ tally_of (length found.frames) found.finish)
    × (noted_of traced.stops ≡ noted) × AreMaps rows last traced.maps

pub shows : (N : Type 0) (source : Origin) (before : Outputs) (old : RunnerState N) (mid : Outputs)
    (new : RunnerState N) (ended : StreamEnded) (t : TakesWhole source before old mid new ended)
    (maps : List MapState) (stops noted : Noted) (rows : List MapDef) (last : List KeyValues)
    (result : Result Traced HostError)
    → IfOk result (λ traced. traced.tally ≡ tally_of ended.frames ended.finish)
    → IfOk result (λ traced. noted_of traced.stops ≡ stops)
    → IfOk result (λ traced. traced.maps ≡ maps)
    → stops ≡ noted → rows_of maps ≡ rows → contents_of maps ≡ last
    → IfOk result (Shows rows noted last t.found)
shows N source before old mid new ended t maps stops noted rows last (Ok traced) tally told are
    none rows_are held = (
      tally ∙ ap (λ n. tally_of n ended.finish) t.count
          ∙ ap (λ (f : Finish). tally_of (length t.found.frames) f) t.finish,
      told ∙ none,
      (
        ap rows_of are ∙ rows_are,
        ap contents_of are ∙ held,
      ),
    )
shows N source before old mid new ended t maps stops noted rows last (Err e) tally told are none
    rows_are held = tt

-- ---- counts

abbrev both : (N : Type 0) → N → Totals → N × Totals
both N noted c = (noted, c)

-- frames of which each is noted and counted
pub counted_after : (N : Type 0) (a : Bounded) (notes : Noting N) (noted : N) (c : Totals)
    (number : ℕ) (contents : List KeyValues) (frames : List PacketFrame)
    → noted_after (counting_notes a.program.version a notes) (rule_of a) (both N noted c) number
    contents frames
    ≡ both N (noted_after notes (rule_of a) noted number contents frames)
    (totals_after a.program.version (rule_of a) c contents frames)
counted_after N a notes noted c number contents [] = refl
counted_after N a notes noted c number contents (f ∷ frames) =
    let rule = rule_of a in
    let v = a.program.version in
    let next = contents_left contents (turn_on rule contents f) in
    ap (λ (x : N × Totals). noted_after (counting_notes v a notes) rule x (number + 1) next frames)
    (one (f.reason == 0))
    ∙ counted_after N a notes (noted_on notes noted number contents f)
    (with_end v c (end_of (turn_on rule contents f))) (number + 1) next frames
  where
    one : (b : Bool)
        → (if b
        then both N (notes.run noted number f.head f.body contents)
        (with_end a.program.version c (Some (rule_of a f.head f.body contents).ends))
        else both N (notes.skip noted) (with_end a.program.version c None))
        ≡ both N
        (if b then notes.run noted number f.head f.body contents else notes.skip noted)
        (with_end a.program.version c
        (end_of (if b then Some (rule_of a f.head f.body contents) else None)))
    one true = refl
    one false = refl

-- what is noted and counted of a machine that is the same at the start
pub counts_shown : (N : Type 0) (a b : Bounded) (contents k : List KeyValues) (notes : Noting N)
    (v : Version) (n m : N) (c d : Totals) (frames : List PacketFrame)
    → v ≡ a.program.version → b ≡ a → k ≡ contents → c ≡ no_totals
    → both N m d ≡ noted_after (counting_notes v b notes) (rule_of b) (both N n c) 0 k frames
    → both N m d
    ≡ both N (noted_after notes (rule_of a) n 0 contents frames)
    (totals_after a.program.version (rule_of a) no_totals contents frames)
counts_shown N a b contents k notes v n m c d frames version_is a_is contents_are none e =
    e
    ∙ ap (λ (w : Version). noted_after (counting_notes w b notes) (rule_of b) (both N n c) 0 k
    frames) version_is
    ∙ ap (λ (x : Bounded). noted_after (counting_notes a.program.version x notes) (rule_of x)
    (both N n c) 0 k frames) a_is
    ∙ ap (λ (x : List KeyValues). noted_after (counting_notes a.program.version a notes) (rule_of a)
    (both N n c) 0 x frames) contents_are
    ∙ ap (λ (x : Totals). noted_after (counting_notes a.program.version a notes) (rule_of a)
    (both N n x) 0 contents frames) none
    ∙ counted_after N a notes n no_totals 0 contents frames

pub noted_shown : (N : Type 0) (a b : Bounded) (contents k : List KeyValues)
    (start notes : Noting N) (first n m : N) (frames : List PacketFrame)
    → b ≡ a → k ≡ contents → notes ≡ start → n ≡ first
    → m ≡ noted_after notes (rule_of b) n 0 k frames
    → m ≡ noted_after start (rule_of a) first 0 contents frames
noted_shown N a b contents k start notes first n m frames a_is contents_are notes_are none e =
    e
    ∙ ap (λ (x : Bounded). noted_after notes (rule_of x) n 0 k frames) a_is
    ∙ ap (λ (x : List KeyValues). noted_after notes (rule_of a) n 0 x frames) contents_are
    ∙ ap (λ (x : Noting N). noted_after x (rule_of a) n 0 contents frames) notes_are
    ∙ ap (λ (x : N). noted_after start (rule_of a) x 0 contents frames) none

-- ---- checked machines

abbrev pub bounded_by : Program → ℕ → Bounded
bounded_by p limit = record { program = p; bound = limit }

-- a checked machine that was made of a program and of maps
pub checked_start : (m : Checking) (l : ℕ) (p : Program) (contents : List KeyValues) (limit : ℕ)
    → m ≡ record { program = p; contents = contents } → l ≡ limit
    → (bounded_by m.program l ≡ bounded_by p limit) × (m.contents ≡ contents)
    × (checked_notes m.program l ≡ checked_notes p limit)
checked_start m l p contents limit made is = (
  ap (λ (x : Checking). bounded_by x.program l) made ∙ ap (λ (n : ℕ). bounded_by p n) is,
  ap (λ (x : Checking). x.contents) made,
  ap (λ (x : Checking). checked_notes x.program l) made ∙ ap (λ (n : ℕ). checked_notes p n) is,
)

-- the contents that frames leave of a machine that is the same at the start
pub contents_left_by : (a b : Bounded) (contents k left : List KeyValues)
    (frames : List PacketFrame) → b ≡ a → k ≡ contents → left ≡ contents_after (rule_of b) k frames
    → left ≡ contents_after (rule_of a) contents frames
contents_left_by a b contents k left frames a_is contents_are e =
    e ∙ ap (λ (x : Bounded). contents_after (rule_of x) k frames) a_is
    ∙ ap (λ (x : List KeyValues). contents_after (rule_of a) x frames) contents_are

pub shows_tally : (N : Type 0) (source : Origin) (before : Outputs) (old : RunnerState N) (mid : Outputs)
    (new : RunnerState N) (ended : StreamEnded) (t : TakesWhole source before old mid new ended)
    (result : Result Tally HostError)
    → IfOk result (λ tally. tally ≡ tally_of ended.frames ended.finish)
    → IfOk result (λ tally. tally ≡ tally_of (length t.found.frames) t.found.finish)
shows_tally N source before old mid new ended t (Ok tally) is =
    is ∙ ap (λ n. tally_of n ended.finish) t.count
    ∙ ap (λ (f : Finish). tally_of (length t.found.frames) f) t.finish
shows_tally N source before old mid new ended t (Err e) is = tt
