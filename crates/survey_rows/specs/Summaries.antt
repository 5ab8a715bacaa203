-- How many images got which verdict, and the status that says so.
use Rattle.std.specs.Prelude.{◌+◌, ◌==◌, ◌-◌, ◌^◌, ℕ, min, if◌then◌else◌}
use Rattle.survey_rows.specs.declared.rows.Judgement.{Judgement}
use Rattle.survey_rows.specs.declared.rows.Judgement.TheVariants as verdict
use Rattle.survey_rows.specs.declared.summaries.Summary.{Summary}

-- 5 if memory ran out, else 4 if a file or a folder was not read in full, else 2 if an image is
-- refused, else 0
abbrev pub status_of : Summary → ℕ
status_of s = if s.unjudged == 0
    then (if s.unreadable == 0 then (if s.refused == 0 then 0 else 2) else 4) else 5

-- the next count in 64 bits; after the greatest count it is the same
abbrev pub one_more : ℕ → ℕ
one_more count = min (count + 1) (2 ^ 64 - 1)

-- with one more image, which was judged so
abbrev pub with_image : Summary → Judgement → Summary
with_image s verdict.Accepted = record s { accepted = one_more s.accepted }
with_image s (verdict.Refused code) = record s { refused = one_more s.refused }
with_image s verdict.Unreadable = record s { unreadable = one_more s.unreadable }
with_image s verdict.NoMemory = record s { unjudged = one_more s.unjudged }
