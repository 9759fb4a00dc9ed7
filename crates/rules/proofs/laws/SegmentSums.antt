-- The segments of a job and their two sums, one segment at a time.
use Rattle.std.specs.Prelude.{ℕ, ◌+◌, ◌*◌, ◌≤◌, ◌<◌, ◌≡◌, ◌∷◌, eqb}
use Rattle.std.proofs.Common.{mul-suc, arith}
use Rattle.std.proofs.Math.Numerals.{add-one}
use Rattle.arith.specs.Cases.{pick, by_eqb}
use Rattle.memory.specs.declared.Task.{Task}
use Rattle.segment.specs.laws.CutLaws.{cut_next}
use Rattle.segment.specs.Segments.{segments_from, spans, spans_after, own_sum, below_sum}
use Rattle.segment.specs.declared.Segment.{Segment}

-- every segment that begins inside the job has a byte
module _ (next : ℕ → Segment) (t : Task) (some : (x : ℕ) → x < t.length → 1 ≤ (next x).length) where
  module _ (x : ℕ) (h : x < t.length) where
    -- the segments from x on are the one at x and those behind it
    segments_next : segments_from next t x ≡ next x ∷ segments_from next t (x + (next x).length)
    segments_next = cut_next next t some x h

    module _ (limit : ℕ → ℕ) where
      -- the bound on own, with the segment at x apart
      pub own_next : own_sum limit (segments_from next t x)
          ≡ limit (next x).device + (limit (next x).device * (next x).retries + own_sum limit (segments_from next t (x + (next x).length)))
      unfolding own_sum
      own_next = rw (segments_next, add-one, mul-suc) (omega arith)

      -- the bound on below: the segment at x begins a span where its device is not the one before
      pub below_next : (d : ℕ) → below_sum limit (spans_after d (segments_from next t x))
          ≡ pick (eqb d (next x).device) 0 (limit (next x).device)
          + below_sum limit (spans_after (next x).device (segments_from next t (x + (next x).length)))
      unfolding spans_after below_sum
      below_next d = rw segments_next (by_eqb d (next x).device (λ e f. rw (e, f) (omega arith)) (λ e f. rw e))

      -- the segment at x begins the first span
      pub below_first : below_sum limit (spans (segments_from next t x))
          ≡ limit (next x).device + below_sum limit (spans_after (next x).device (segments_from next t (x + (next x).length)))
      unfolding spans below_sum
      below_first = rw segments_next
