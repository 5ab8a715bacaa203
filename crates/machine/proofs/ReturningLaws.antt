-- Laws of the definitions in specs/Returning.
use Rattle.machine.proofs.Common.{◌≡◌, ℕ, suc, ◌<◌, List, [], ◌∷◌, length, map, refl, sym, ap, ◌∙◌, arith, slice_index_or, entries, FrameHead, Program, State, Content, key_values_of, IsState, changed, length-rows_of, MapState, map_at, rows_of, content_in, contents_of, Words, EndsSafely, Exits, Layout, by_serial, by_place, RepresentsMap, Related, start_of}
use Rattle.isa_model.proofs.StepLaws.{start_is_state}
use Rattle.isa_model.specs.Running.Runs.{start_state}
use Rattle.isa_model.specs.Running.Outcomes.{StartsEnd}
use Rattle.isa_model.specs.Running.Ends.{Ends as ModelEnds}
use Rattle.machine.proofs.TrackingLaws.{related_Ends, related_Exits}
use Rattle.machine.proofs.StartingLaws.{start_layout, start_related}
use Rattle.machine.proofs.LiveValues.{contents_are}
use Rattle.machine.specs.Returning.{ReturnsAsModel, IsStart}

changed-twice : {X Y Z : Type 0} (g : Y → Z) (f : X → Y) (es : List (List ℕ × X))
    → changed g (changed f es) ≡ changed (λ x. g (f x)) es
changed-twice g f [] = refl
changed-twice g f (e ∷ es) = λ i. (e.0, g (f e.1)) ∷ changed-twice g f es i

abbrev bytes_there : (ℕ × List ℕ) → List ℕ
bytes_there x = x.1

-- a map that represents a content has its keys and values
pub content_same : (a : Layout) (m : ℕ) (content : Content) (state : MapState)
    → RepresentsMap a m content state → key_values_of content ≡ content_in state
content_same a m content state shown =
    sym (changed-twice bytes_there (by_serial a m) content) ∙ ap (changed bytes_there) shown.same
    ∙ changed-twice bytes_there (by_place state.row.value_size state.block) (entries state.places)

same_each : (contents : List Content) (states : List MapState) → length contents ≡ length states
    → ((m : ℕ) → m < length states
    → key_values_of (slice_index_or contents m []) ≡ content_in (map_at states m))
    → map key_values_of contents ≡ contents_of states
same_each [] [] e h = refl
same_each [] (t ∷ states) e h = absurd (omega arith)
same_each (c ∷ contents) [] e h = absurd (omega arith)
same_each (c ∷ contents) (t ∷ states) e h =
    λ i. h 0 (omega arith) i
    ∷ same_each contents states (omega arith) (λ m l. h (suc m) (omega arith)) i

-- related words have the contents of the state
pub contents_same : (p : Program) (a : Layout) (s : State) (w : Words) → Related p a s w
    → IsState p s → map key_values_of s.maps ≡ contents_of w.maps
contents_same p a s w R K =
    let rows = sym (length-rows_of w.maps) ∙ ap length R.maps.rows in
    let many = contents_are p s K in
    same_each s.maps w.maps (omega arith)
    (λ m l. content_same a m (slice_index_or s.maps m []) (map_at w.maps m)
    (R.maps.maps m (omega arith)))

module _ (p : Program) (clock : ℕ → ℕ) (n : ℕ) (head : FrameHead) (packet frames : List ℕ)
    (maps : List MapState) (h : IsStart p clock n head packet frames maps) where
  abbrev first : State
  first = start_state head packet (contents_of maps)

  related : Related p (start_layout packet maps) first (start_of head packet frames maps)
  related = start_related p head packet frames maps h.few h.given.short h.whole h.are_maps h.rows

  is_state : IsState p first
  is_state = start_is_state p head packet (contents_of maps) h.given

  in_time : ModelEnds p clock first n
  unfolding StartsEnd
  in_time = h.ends clock head packet (contents_of maps) h.answers h.given

  -- the run of words ends within n moves
  pub start_ends : EndsSafely p clock (start_of head packet frames maps) n
  start_ends =
      related_Ends p clock h.is_program h.answers n (start_layout packet maps) first
      (start_of head packet frames maps) related is_state in_time

  -- and what it leaves is the outcome
  pub start_returns : (number steps : ℕ) (v : Words)
      → Exits p clock (start_of head packet frames maps) number steps v
      → ReturnsAsModel p clock n head packet maps number steps v
  start_returns number steps v e =
      let F = related_Exits p clock h.is_program h.answers n (start_layout packet maps) first
      (start_of head packet frames maps) v number steps related is_state in_time e in
      let last : State = F.follows.state in
      record {
        outcome = record {
          number = number;
          packet = last.packet;
          contents = map key_values_of last.maps;
          steps = suc F.before;
          clock_calls = last.clock_calls;
        };
        found = record {
          before = F.before;
          last = last;
          reached = F.follows.reached;
          exits = F.exits;
          steps_are = refl;
          packet_is = refl;
          contents_are = refl;
          clock_calls_are = refl;
        };
        few = let c = F.counted in let t = F.in_time in omega arith;
        number_is = refl;
        steps_are = F.counted;
        packet_is = F.follows.related.packet;
        contents_are = sym (contents_same p F.follows.layout last v F.follows.related F.follows.is);
        clock_calls_are = F.follows.related.clock_calls;
        whole = F.follows.related.frames.whole;
        back = e.outer;
        rows = F.follows.related.maps.rows;
      }
