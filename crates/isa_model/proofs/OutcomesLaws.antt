-- Laws of the definitions in specs/Running/Outcomes.
use Rattle.isa_model.proofs.Common.{ℕ, zero, suc, ◌≤◌, List, map, subst, sym, refl, FrameHead, Program, KeyValues, key_values_of, start_state, Runs, Outcome, HasOutcome, FitRows, IsProgram, IsClock, IsGiven}
use Rattle.isa_model.specs.Running.Ends.{Ends}
use Rattle.isa_model.proofs.EndsLaws.{Runs-Ends}
use Rattle.isa_model.proofs.StepLaws.{progress_keeps, start_is_state}
use Rattle.isa_model.specs.Running.Outcomes.{StartsEnd}

-- a run on a packet exits within n steps
pub record ExitsWithin (p : Program) (n : ℕ) (head : FrameHead) (packet : List ℕ)
    (contents : List KeyValues) (clock : ℕ → ℕ) : Type 0 where
  pub outcome : Outcome
  pub found : HasOutcome p head packet contents clock outcome
  pub few : outcome.steps ≤ n

-- what ends within n steps has an outcome
pub ExitsWithin-Ends : (p : Program) (n : ℕ) (head : FrameHead) (packet : List ℕ)
    (contents : List KeyValues) (clock : ℕ → ℕ)
    → Ends p clock (start_state head packet contents) n → ExitsWithin p n head packet contents clock
ExitsWithin-Ends p n head packet contents clock h =
    let (m, a, within, runs) = Runs-Ends p clock (start_state head packet contents) n h in
    exit m a within runs
  where
    exit : (m a : ℕ) → m ≤ n → Runs p clock (start_state head packet contents) m a
        → ExitsWithin p n head packet contents clock
    exit zero a within runs = absurd runs
    exit (suc m) a within runs =
        let (last, reached, exits) = runs in
        record {
          outcome = record {
            number = a;
            packet = last.packet;
            contents = map key_values_of last.maps;
            steps = suc m;
            clock_calls = last.clock_calls;
          };
          found = record {
            before = m;
            last = last;
            reached = reached;
            exits = exits;
            steps_are = refl;
            packet_is = refl;
            contents_are = refl;
            clock_calls_are = refl;
          };
          few = within;
        }

-- every run of a program whose runs exit within n steps has an outcome
pub ExitsWithin-StartsEnd : (p : Program) (n : ℕ) (head : FrameHead) (packet : List ℕ)
    (contents : List KeyValues) (clock : ℕ → ℕ)
    → StartsEnd p n → IsClock clock → IsGiven p head packet contents
    → ExitsWithin p n head packet contents clock
unfolding StartsEnd
ExitsWithin-StartsEnd p n head packet contents clock h answers given =
    ExitsWithin-Ends p n head packet contents clock (h clock head packet contents answers given)

-- the contents that an outcome leaves fit the rows
pub FitRows-HasOutcome : (p : Program) (head : FrameHead) (packet : List ℕ)
    (contents : List KeyValues) (clock : ℕ → ℕ) (o : Outcome)
    → IsProgram p → IsClock clock → IsGiven p head packet contents
    → HasOutcome p head packet contents clock o → FitRows p.maps o.contents
FitRows-HasOutcome p head packet contents clock o program answers given h =
    let s = start_state head packet contents in
    let last = progress_keeps p clock s h.last h.before program answers
    (start_is_state p head packet contents given) h.reached in
    subst (FitRows p.maps) (sym h.contents_are) last.maps
