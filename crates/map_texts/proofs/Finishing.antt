-- How filling maps ends: at the end of a text, at a line that is refused, or by the source's error.
use Rattle.map_texts.proofs.Common.{◌≡◌, ℕ, ◌+◌, ◌≤◌, List, [], ◌++◌, length, take, drop, Option, Some, None, Result, Err, unwrap_or, refl, sym, ap, ◌∙◌, subst, append_assoc, append-nil, IfSome, slice_split, Consumes, IsAtEnd, take_at, drop_at, take-append-le, length-take-le, MapDef, KeyValues, ByEnd, ByError, MapState, rows_of, contents_of, MapTextError, ReadFailed, after_line, after_lines, is_line_feed, filled_by, GoesOnReading, StopsFilling, IsPending, HasNoFeed}
use borrow.Rule.Slice.PartMut.{put_mid, post_of}
use lib.Seq.{take-add}
use Rattle.map_texts.specs.Reading.{AreFilledFrom, IsTextFrom, TellsReadFailure, filled_of, error_of}
use Rattle.map_texts.proofs.LineLaws.{allowed_cut}
use Rattle.map_texts.proofs.Splitting.{left_none}

-- bytes that are read behind others
filled_more : (at room count : ℕ) (buffer bytes : List ℕ) → at ≤ length buffer
    → count ≤ length bytes
    → take (at + count) (put_mid at room buffer bytes) ≡ take at buffer ++ take count bytes
filled_more at room count buffer bytes within fits =
    let after = post_of at room buffer in
    let front = length-take-le at buffer within in
    take-add at count (take at buffer ++ (bytes ++ after))
    ∙ ap (λ (l : List ℕ). l ++ take count (drop at (take at buffer ++ (bytes ++ after))))
    (take_at (take at buffer) (bytes ++ after) at front)
    ∙ ap (λ (l : List ℕ). take at buffer ++ take count l)
    (drop_at (take at buffer) (bytes ++ after) at front)
    ∙ ap (λ (l : List ℕ). take at buffer ++ l) (take-append-le count bytes after fits)

-- more bytes are read
more_read : (rows : List MapDef) (first number : ℕ) (contents held : List KeyValues)
    (read pending more : List ℕ)
    → GoesOnReading rows first contents read number held pending
    → GoesOnReading rows first contents (read ++ more) number held (pending ++ more)
more_read rows first number contents held read pending more before ending rest =
    ap (λ (l : List ℕ). after_lines ending rows first contents (slice_split is_line_feed l))
    (append_assoc read more rest)
    ∙ before ending (more ++ rest)
    ∙ ap (λ (l : List ℕ). after_lines ending rows number held (slice_split is_line_feed l))
    (sym (append_assoc pending more rest))

-- what the buffer has after a read, behind what was pending
pub read_on : (rows : List MapDef) (first number : ℕ) (contents held : List KeyValues)
    (read buffer bytes : List ℕ) (at room count : ℕ) → at ≤ length buffer → count ≤ length bytes
    → GoesOnReading rows first contents read number held (take at buffer)
    → GoesOnReading rows first contents (read ++ take count bytes) number held
    (take (at + count) (put_mid at room buffer bytes))
read_on rows first number contents held read buffer bytes at room count within fits before =
    subst (GoesOnReading rows first contents (read ++ take count bytes) number held)
    (sym (filled_more at room count buffer bytes within fits))
    (more_read rows first number contents held read (take at buffer) (take count bytes) before)

-- ---- a text whose whole lines were taken

module _ (rows : List MapDef) (old : List KeyValues) (bytes : List ℕ) where
  -- what is left is its last line
  pub last_line : (number : ℕ) (held : List KeyValues) (line : List ℕ) → HasNoFeed line
      → GoesOnReading rows 1 old bytes number held line
      → after_line rows number held line
      ≡ filled_by rows old (record { bytes = bytes; ending = ByEnd })
  last_line number held line none goes_on =
      sym (left_none rows number held ByEnd line none)
      ∙ ap (λ (l : List ℕ). after_lines ByEnd rows number held (slice_split is_line_feed l))
      (sym (append-nil line))
      ∙ sym (goes_on ByEnd [])
      ∙ ap (λ (l : List ℕ). after_lines ByEnd rows 1 old (slice_split is_line_feed l))
      (append-nil bytes)

  -- or one of them was refused
  pub line_refused : (held : List KeyValues) (error : MapTextError)
      → StopsFilling rows 1 old bytes held error
      → filled_by rows old (record { bytes = bytes; ending = ByEnd })
      ≡ record { contents = held; error = Some error }
  line_refused held error stops =
      ap (λ (l : List ℕ). after_lines ByEnd rows 1 old (slice_split is_line_feed l))
      (sym (append-nil bytes))
      ∙ stops ByEnd []

module _ (source now : Option (List ℕ)) (read : List ℕ) (consumed : Consumes source now read) where
  -- the bytes of a source: those that were read, and those that are left
  known : (P : List ℕ → Type 0)
      → ((ys : List ℕ) → now ≡ Some ys → P (read ++ ys)) → IfSome source P
  known P each =
      elim source as (λ s. Consumes s now read → IfSome s P) [
        | None ↦ λ h. tt
        | Some bytes ↦ λ h.
            elim now as (λ n. now ≡ n → Consumes (Some bytes) n read → P bytes) [
              | None ↦ λ e k. absurd k
              | Some ys ↦ λ e k. subst P (sym k) (each ys e)
            ] refl h
      ] consumed

  module _ (old new : List MapState) (result : Result (Unit {0}) MapTextError)
      (stay : rows_of new ≡ rows_of old) where
    by_end : IsAtEnd now
        → filled_of new result
        ≡ filled_by (rows_of old) (contents_of old) (record { bytes = read; ending = ByEnd })
        → AreFilledFrom source old new result
    by_end end is = record {
      input = record { bytes = read; ending = ByEnd };
      from_source =
          known
          (λ bytes. IsTextFrom bytes (record { bytes = read; ending = ByEnd }) (error_of result))
          (λ ys e. record {
            unread = ys;
            split = refl;
            all = λ _. subst IsAtEnd e end;
            failed = λ no_error. absurd (cc);
          });
      filled = is;
      rows = stay;
    }

    by_error : TellsReadFailure (error_of result)
        → filled_of new result
        ≡ filled_by (rows_of old) (contents_of old) (record { bytes = read; ending = ByError })
        → AreFilledFrom source old new result
    by_error failure is = record {
      input = record { bytes = read; ending = ByError };
      from_source =
          known
          (λ bytes. IsTextFrom bytes (record { bytes = read; ending = ByError }) (error_of result))
          (λ ys e. record {
            unread = ys;
            split = refl;
            all = λ no_end. absurd (cc);
            failed = λ _. failure;
          });
      filled = is;
      rows = stay;
    }

    -- all bytes count, since those that are not read change nothing
    by_refusal : filled_of new result
        ≡ filled_by (rows_of old) (contents_of old)
        (record { bytes = read ++ unwrap_or now []; ending = ByEnd })
        → AreFilledFrom source old new result
    by_refusal is = record {
      input = record { bytes = read ++ unwrap_or now []; ending = ByEnd };
      from_source =
          known (λ bytes. IsTextFrom bytes
          (record { bytes = read ++ unwrap_or now []; ending = ByEnd }) (error_of result))
          (λ ys e. record {
            unread = [];
            split =
                ap (λ (o : Option (List ℕ)). read ++ unwrap_or o []) (sym e)
                ∙ sym (append-nil (read ++ unwrap_or now []));
            all = λ _. refl;
            failed = λ no_error. absurd (cc);
          });
      filled = is;
      rows = stay;
    }

  module _ (old now_maps : List MapState) (number : ℕ) (pending : List ℕ)
      (stay : rows_of now_maps ≡ rows_of old)
      (is_pending : IsPending (rows_of old) pending)
      (goes_on : GoesOnReading (rows_of old) 1 (contents_of old) read number (contents_of now_maps)
      pending) where
    -- at the end of the text its last line is done
    pub at_end : (new : List MapState) (result : Result (Unit {0}) MapTextError) → IsAtEnd now
        → rows_of new ≡ rows_of old
        → filled_of new result
        ≡ after_line (rows_of old) number (contents_of now_maps) pending
        → AreFilledFrom source old new result
    at_end new result end rows is =
        by_end old new result rows end
        (is
        ∙ last_line (rows_of old) (contents_of old) read number (contents_of now_maps) pending
        is_pending.unended goes_on)

    -- the source failed
    pub at_error : (error : MapTextError)
        → error ≡ record { kind = ReadFailed; line = number; column = 1 }
        → AreFilledFrom source old now_maps (Err error)
    at_error error e =
        by_error old now_maps (Err error) stay (ap (λ (x : MapTextError). x.kind) e)
        (ap (λ (x : MapTextError). filled_of now_maps (Err x)) e
        ∙ sym (allowed_cut (rows_of old) number (contents_of now_maps) pending is_pending.allowed)
        ∙ sym (left_none (rows_of old) number (contents_of now_maps) ByError pending
        is_pending.unended)
        ∙ ap (λ (l : List ℕ). after_lines ByError (rows_of old) number (contents_of now_maps)
        (slice_split is_line_feed l)) (sym (append-nil pending))
        ∙ sym (goes_on ByError [])
        ∙ ap (λ (l : List ℕ). after_lines ByError (rows_of old) 1 (contents_of old)
        (slice_split is_line_feed l)) (append-nil read))

  -- a line was refused
  pub at_refusal : (old now_maps new : List MapState) (number : ℕ) (bytes : List ℕ)
      (error : MapTextError) → rows_of new ≡ rows_of old
      → GoesOnReading (rows_of old) 1 (contents_of old) read number (contents_of now_maps) bytes
      → StopsFilling (rows_of old) number (contents_of now_maps) bytes (contents_of new) error
      → AreFilledFrom source old new (Err error)
  at_refusal old now_maps new number bytes error rows goes_on stops =
      by_refusal old new (Err error) rows
      (sym (goes_on ByEnd (unwrap_or now []) ∙ stops ByEnd (unwrap_or now [])))
