-- Laws of the definitions in specs/Starts.
use Rattle.stack_state.proofs.Common.{ℕ, zero, suc, ◌<◌, pos, List, [], ◌∷◌, None, length, replicate, arith, refl, length-replicate, stack_size, Value, Unwritten, Program, KeyValues, value_at, new_call_frame, call_frame_at, IsProgram, IsGiven, Assigned, Allows, kind_at, stack_slots_of, MeansBy, Means, StackMeans}
use Rattle.isa_model.specs.declared.frames.FrameHead.{FrameHead}
use Rattle.isa_model.specs.Running.Runs.{count_map_values, numbered_maps, start_regs, start_state}
use Rattle.isa_model.proofs.StepLaws.{start_is_state}
use Rattle.stack_state.proofs.StackLaws.{StackMeans-new}
use Rattle.stack_state.specs.Starts.{first_registers, start}

-- nothing has an identity yet
abbrev pub at_start : List ℕ → List KeyValues → Assigned
at_start packet contents =
    record {
      offset = λ identity. pos 0;
      map_value = λ identity. None;
      packet_length = length packet;
      frames = count_map_values contents ∷ [];
      maps = numbered_maps 0 contents;
    }

first_allowed : (e : Assigned) (serial k : ℕ)
    → Allows e (kind_at first_registers k) (value_at (start_regs serial) k)
first_allowed e serial zero = tt
first_allowed e serial (suc zero) = refl
first_allowed e serial (suc (suc zero)) = tt
first_allowed e serial (suc (suc (suc zero))) = tt
first_allowed e serial (suc (suc (suc (suc zero)))) = tt
first_allowed e serial (suc (suc (suc (suc (suc zero))))) = tt
first_allowed e serial (suc (suc (suc (suc (suc (suc zero)))))) = tt
first_allowed e serial (suc (suc (suc (suc (suc (suc (suc zero))))))) = tt
first_allowed e serial (suc (suc (suc (suc (suc (suc (suc (suc zero)))))))) = tt
first_allowed e serial (suc (suc (suc (suc (suc (suc (suc (suc (suc zero))))))))) = tt
first_allowed e serial (suc (suc (suc (suc (suc (suc (suc (suc (suc (suc k)))))))))) = tt

-- all bytes of the first call frame are unwritten
first_stack : (e : Assigned) (serial j : ℕ) (saved : List Value) → j < 1
    → StackMeans e (stack_slots_of start j)
    (call_frame_at (new_call_frame serial 0 saved ∷ []) j).cells
unfolding start new_call_frame
first_stack e serial zero saved below =
    StackMeans-new e (replicate stack_size Unwritten) (length-replicate stack_size Unwritten)
first_stack e serial (suc j) saved below = absurd (omega arith)

-- it means every machine state in which a run begins
pub Means-start : (p : Program) (head : FrameHead) (packet : List ℕ) (contents : List KeyValues)
    → IsProgram p
    → IsGiven p head packet contents → Means p start (start_state head packet contents)
unfolding Means start start_state new_call_frame
Means-start p head packet contents program given = (at_start packet contents, means)
  where
    means : MeansBy p (at_start packet contents) start (start_state head packet contents)
    means = record {
      is_state = start_is_state p head packet contents given;
      assigned = record { none = refl; length_is = refl; serials = refl; contents = refl };
      slot_is = refl;
      returns = refl;
      pointer = refl;
      registers = λ k. first_allowed (at_start packet contents) (count_map_values contents) k;
      kept = λ j k below within. absurd (omega arith);
      stacks =
          λ j below.
          first_stack (at_start packet contents) (count_map_values contents) j _ below;
    }
