-- One more turn of the loop over a stream's frames, and how the loop ends.
use Rattle.captures.proofs.Common.{◌≡◌, ◌∙◌, ℕ, ◌+◌, ◌<◌, ◌≤◌, List, [], ◌∷◌, ◌++◌, Option, Result, length, sym, ap, subst, append_assoc, append-nil, length-append, arith, inl, inr, Bool, cond, count_by, flat_map, Appends, Keeps, Appends-kept, Appends-trans, AppendsBeginning, One, max_body, PacketFrame, max_frames, stream_with}
use Rattle.std.proofs.lemmas.List.Sums.{count_by-le-length, sum_by-append}
use Rattle.std.proofs.lemmas.Grind.{flat_map-append}
use Rattle.exact_io.proofs.TransferLaws.{AppendsBeginning-second}
use Rattle.isa_model.specs.declared.streams.Fault.{Fault}
use Rattle.isa_model.specs.declared.streams.Finish.{Finish}
use Rattle.isa_model.specs.declared.streams.Finish.TheVariants as finish
use Rattle.isa_model.specs.declared.versions.Version.{Version}
use Rattle.frames.specs.Sources.{Origin}
use Rattle.frames.specs.Readers.{Position, Fresh}
use Rattle.frames.specs.Reading.{OpensStream, begun_at, Found, Stopped, Finds}
use Rattle.frames.specs.Inputs.{IsBegunVersion}
use Rattle.frames.proofs.InputsLaws.{HasBegun, HasBegun-opens, HasBegun-found, HasBegun-stopped, HasFound-begins}
use Rattle.captures.specs.declared.frame_forms.CopyCounts.{CopyCounts}
use Rattle.captures.specs.declared.frame_forms.FrameForm.{FrameForm}
use Rattle.captures.specs.declared.frame_forms.StreamEnd.{StreamEnd}
use Rattle.captures.specs.declared.placing.Placing.{Placing}
use Rattle.captures.specs.Placing.{placed}
use Rattle.captures.specs.CopyCounts.{counts_after, counts_of, is_left_out, is_unreasoned, no_counts}
use Rattle.captures.specs.Copies.{CopiesFront, CopiesWhole, frame_as, frames_as, start_as}

-- these frames were found, and were written
pub record CopiedSoFar (form : FrameForm) (placing : Placing) (v : Version) (source : Origin)
    (before : Option (List ℕ)) (frames : List PacketFrame) (known : Option (List ℕ))
    (position : Position) (counts : CopyCounts) (now : Option (List ℕ)) : Type 0 where
  pub begun : HasBegun v frames source known position
  pub counted : counts ≡ counts_of form frames
  pub wrote : Appends before now (frames_as form placing v frames)

-- a reader that was made and then read the magic has begun
pub begun-magic : (v : Version) (source : Origin) (known new : Option (List ℕ))
    (first after : Position) (magic : Result ℕ (Fault × ℕ)) → first ≡ Fresh → known ≡ source.bytes
    → OpensStream source.may_fail first known new after → magic ≡ begun_at after
    → IsBegunVersion magic v → HasBegun v [] source new after
begun-magic v source known new first after magic is same opens begins version =
    HasBegun-opens v source new after
    (subst (λ (k : Option (List ℕ)). OpensStream source.may_fail Fresh k new after) same
    (subst (λ (x : Position). OpensStream source.may_fail x known new after) is opens))
    (subst (λ (b : Result ℕ (Fault × ℕ)). IsBegunVersion b v) begins version)

-- the bytes of one more frame
frames_as-push : (form : FrameForm) (placing : Placing) (v : Version)
    (frames : List PacketFrame) (f : PacketFrame)
    → frames_as form placing v (frames ++ f ∷ [])
    ≡ frames_as form placing v frames ++ frame_as form v (placed placing f)
frames_as-push form placing v frames f =
    let spell : PacketFrame → List ℕ = λ x. frame_as form v (placed placing x) in
    ap (λ (l : List ℕ). start_as form v ++ l)
    (flat_map-append spell frames (f ∷ [])
    ∙ ap (λ (l : List ℕ). flat_map spell frames ++ l) (append-nil (spell f)))
    ∙ sym (append_assoc (start_as form v) (flat_map spell frames) (spell f))

frames_as-none : (form : FrameForm) (placing : Placing) (v : Version)
    → frames_as form placing v [] ≡ start_as form v
frames_as-none form placing v = append-nil (start_as form v)

-- one more frame that is counted, or not
count_by-push : (p : PacketFrame → Bool) (frames : List PacketFrame) (f : PacketFrame)
    → count_by p (frames ++ f ∷ []) ≡ count_by p frames + cond (p f) 1 0
count_by-push p frames f =
    omega (arith, sum_by-append (λ x. cond (p x) 1 0) frames (f ∷ []))

-- the counts of one more frame
counts_of-push : (form : FrameForm) (frames : List PacketFrame) (f : PacketFrame)
    → counts_after form (counts_of form frames) f.body f.reason ≡ counts_of form (frames ++ f ∷ [])
counts_of-push form frames f =
    let long = count_by-push (λ x. is_left_out form x.body x.reason) frames f in
    let bare = count_by-push (λ x. is_unreasoned form x.body x.reason) frames f in
    let all = length-append frames (f ∷ []) in cc

module _ (form : FrameForm) (placing : Placing) (v : Version) (source : Origin)
    (before : Option (List ℕ)) where
  -- before the first turn of the loop
  pub none_copied : (known now : Option (List ℕ)) (p : Position) (counts : CopyCounts)
      → HasBegun v [] source known p → Appends before now (start_as form v) → counts ≡ no_counts
      → CopiedSoFar form placing v source before [] known p counts now
  none_copied known now p counts begun w is = record {
    begun = begun;
    counted = is;
    wrote = subst (Appends before now) (sym (frames_as-none form placing v)) w;
  }

  -- what stands before the frames was written in part
  pub start_failed : (known now : Option (List ℕ)) (p : Position) → HasBegun v [] source known p
      → AppendsBeginning before now (start_as form v) → CopiesFront form placing source before now
  start_failed known now p (inl s) b = record {
    version = v;
    frames = [];
    read = inl (HasFound-begins source.may_fail v [] source.bytes known p s);
    wrote = subst (AppendsBeginning before now) (sym (frames_as-none form placing v)) b;
  }
  start_failed known now p (inr u) b = record {
    version = One;
    frames = [];
    read = inr (finish.Fault u.fault 0, u.read);
    wrote =
        subst (AppendsBeginning before now) (sym (frames_as-none form placing One))
        (subst (λ (x : Version). AppendsBeginning before now (start_as form x)) u.first b);
  }

  module _ (frames : List PacketFrame) (known new : Option (List ℕ)) (p q : Position)
      (counts : CopyCounts)
      (now flushed after : Option (List ℕ))
      (so : CopiedSoFar form placing v source before frames known p counts now)
      (kept : Keeps now flushed) where
    whole_flushed : Appends before flushed (frames_as form placing v frames)
    whole_flushed = Appends-kept before now flushed _ so.wrote kept

    module _ (f : PacketFrame) (h : Finds source.may_fail p known new q (Found f)) where
      -- there is a number for the frame, no count is over it, and its body fits
      pub frame_fits : (counts.frames < max_frames) × (counts.left_out ≤ counts.frames)
          × (counts.unreasoned ≤ counts.frames) × (length f.body ≤ max_body v)
      frame_fits =
          let (found, early, fits) = HasBegun-found v frames source known new p q f so.begun h in
          let all = ap (λ (c : CopyCounts). c.frames) so.counted in
          let long = ap (λ (c : CopyCounts). c.left_out) so.counted in
          let bare = ap (λ (c : CopyCounts). c.unreasoned) so.counted in
          let few = count_by-le-length (λ x. is_left_out form x.body x.reason) frames in
          let fewer = count_by-le-length (λ x. is_unreasoned form x.body x.reason) frames in (
            omega (arith, early, all),
            omega (arith, all, long, few),
            omega (arith, all, bare, fewer),
            fits.short,
          )

      -- one more frame was found and written
      pub one_copied : (next : CopyCounts)
          → Appends flushed after (frame_as form v (placed placing f))
          → next ≡ counts_after form counts f.body f.reason
          → CopiedSoFar form placing v source before (frames ++ f ∷ []) new q next after
      one_copied next w is =
          let (found, early, fits) = HasBegun-found v frames source known new p q f so.begun h in
          record {
            begun = inl found;
            counted =
                is ∙ ap (λ (c : CopyCounts). counts_after form c f.body f.reason) so.counted
                ∙ counts_of-push form frames f;
            wrote =
                subst (Appends before after) (sym (frames_as-push form placing v frames f))
                (Appends-trans before flushed after _ (frame_as form v (placed placing f))
                whole_flushed w);
          }

      -- one more frame was found, and written in part
      pub one_failed : AppendsBeginning flushed after (frame_as form v (placed placing f))
          → CopiesFront form placing source before after
      one_failed w =
          let (found, early, fits) = HasBegun-found v frames source known new p q f so.begun h in
          record {
            version = v;
            frames = frames ++ f ∷ [];
            read =
                inl (HasFound-begins source.may_fail v (frames ++ f ∷ []) source.bytes new q found);
            wrote =
                subst (AppendsBeginning before after) (sym (frames_as-push form placing v frames f))
                (AppendsBeginning-second before flushed after _ (frame_as form v (placed placing f))
                whole_flushed
                w);
          }

    -- the stream stopped
    pub all_copied : (stop : Finish) (ended : StreamEnd)
        → Finds source.may_fail p known new q (Stopped stop)
        → ended ≡ record { counts = counts; finish = stop }
        → CopiesWhole form placing source before flushed ended
    all_copied stop ended h is = record {
      found = stream_with v (frames, stop);
      read = HasBegun-stopped v frames source known new p q stop so.begun h;
      wrote = whole_flushed;
      counts = ap (λ (e : StreamEnd). e.counts) is ∙ so.counted;
      finish = ap (λ (e : StreamEnd). e.finish) is;
    }
