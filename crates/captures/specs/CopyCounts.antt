-- How many frames are written, and of how many not all is written.
use Rattle.std.specs.Prelude.{ℕ, ◌+◌, ◌==◌, Bool, false, ◌&&◌, ◌||◌, not, cond, nat_lt, List, length}
use Rattle.std.specs.List.{count_by}
use Rattle.isa_model.specs.declared.versions.Version.TheVariants.{One}
use Rattle.isa_model.specs.Code.Limits.{max_body}
use Rattle.isa_model.specs.Reporting.Streams.{PacketFrame}
use Rattle.captures.specs.declared.frame_forms.FrameForm.{FrameForm}
use Rattle.captures.specs.declared.frame_forms.FrameForm.TheVariants.{Records, Plain, Reasoned, Text}
use Rattle.captures.specs.declared.frame_forms.CopyCounts.{CopyCounts}

-- the reason of the empty frame that takes the place of one that is too long for any stream
abbrev pub too_long : ℕ
too_long = 4294967295

-- a frame with these bytes and this reason is left out: version 1 does not take it
abbrev pub is_left_out : FrameForm → List ℕ → ℕ → Bool
is_left_out Plain body reason = nat_lt (max_body One) (length body) || (reason == too_long)
is_left_out Records body reason = false
is_left_out Reasoned body reason = false
is_left_out Text body reason = false

-- it is written without its reason
abbrev pub is_unreasoned : FrameForm → List ℕ → ℕ → Bool
is_unreasoned Plain body reason = not (reason == 0) && not (is_left_out Plain body reason)
is_unreasoned Records body reason = false
is_unreasoned Reasoned body reason = false
is_unreasoned Text body reason = false

abbrev pub no_counts : CopyCounts
no_counts = record { frames = 0; left_out = 0; unreasoned = 0 }

-- the counts after one more frame
abbrev pub counts_after : FrameForm → CopyCounts → List ℕ → ℕ → CopyCounts
counts_after form counts body reason = record {
  frames = counts.frames + 1;
  left_out = counts.left_out + cond (is_left_out form body reason) 1 0;
  unreasoned = counts.unreasoned + cond (is_unreasoned form body reason) 1 0;
}

-- the counts of these frames
abbrev pub counts_of : FrameForm → List PacketFrame → CopyCounts
counts_of form frames = record {
  frames = length frames;
  left_out = count_by (λ f. is_left_out form f.body f.reason) frames;
  unreasoned = count_by (λ f. is_unreasoned form f.body f.reason) frames;
}
