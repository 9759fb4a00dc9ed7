-- The segments that an admitted job is cut into, joined, are its mapped bytes, each once.
use Prim.Native.Nat.{ℕ, zero, suc, ◌+◌, ◌-◌, ◌≤◌, ◌<◌}
use Rattle.std.specs.Prelude.{◌≡◌, List, [], ◌∷◌, ◌++◌}
use Rattle.std.proofs.Common.{sym, ◌∙◌, append_assoc, append-nil, zero-add, le_refl}
use Rattle.std.proofs.Math.Path.{ap}
use Rattle.std.proofs.Math.Nat.{add_assoc}
use native.Mathlib.Omega.{arith}
use Rattle.arith.specs.Cases.{by_ltb}
use Rattle.memory.specs.declared.Task.{Task}
use Rattle.plan.specs.Questions.{sub_area_of}
use Rattle.plan.specs.WellFormed.{WellFormed}
use Rattle.plan.specs.declared.records.Plan.{Plan}
use Rattle.segment.specs.Bytes.{bytes_of, joined, mapped_byte, mapped_bytes}
use Rattle.segment.specs.laws.CutLaws.{Cut, at_end, segments_end}
use Rattle.arith.specs.Listed.{listed, listed_append, listed_same}
use Rattle.segment.specs.laws.MappingLaws.{Place, place_mapped, place_inside, one_address}
use Rattle.segment.specs.laws.SegmentLaws.{Admitted, segment_good, job_place, segment_is, segment_some, segments_next, segment_inside}
use Rattle.segment.specs.Segments.{segment_at, segments_from}
use Rattle.segment.specs.declared.Segment.{Segment}

-- one segment more, its bytes behind the others
pub joined_more : (l : List Segment) (s : Segment) → joined (l ++ (s ∷ [])) ≡ joined l ++ bytes_of s
unfolding joined
joined_more [] s = append-nil _
joined_more (r ∷ l) s = rw (joined_more l s) (sym (append_assoc (bytes_of r) (joined l) (bytes_of s)))

module _ (p : Plan) (a : ℕ) (t : Task) where
  -- n bytes of a job, and the m behind them
  pub mapped_append : (x n m : ℕ) → mapped_bytes p a t x (n + m) ≡ mapped_bytes p a t x n ++ mapped_bytes p a t (x + n) m
  unfolding mapped_bytes
  mapped_append x n m = listed_append (mapped_byte p a t) x n m

  -- the bytes that are done, and those of one segment more
  pub mapped_more : (x n : ℕ) → mapped_bytes p a t 0 (x + n) ≡ mapped_bytes p a t 0 x ++ mapped_bytes p a t x n
  mapped_more x n = rw zero-add at (mapped_append 0 x n)

  -- a byte of a job lies at its place
  mapped_byte_lem : (x : ℕ) {i y : ℕ} → Place p a (t.address.0 + x) i y → mapped_byte p a t x ≡ (sub_area_of p.sub_areas i).start + y
  unfolding mapped_byte
  mapped_byte_lem x h = rw (place_mapped p a h)

  -- from the job's end on there are no segments and no bytes
  joined_end : (x : ℕ) → t.length ≤ x → joined (segments_from (segment_at p a t) t x) ≡ mapped_bytes p a t x (t.length - x)
  unfolding joined mapped_bytes listed
  joined_end x h = let e : t.length - x ≡ 0 = omega arith in rw (segments_end (segment_at p a t) t x h, e)

module _ (p : Plan) (w : WellFormed p) (a : ℕ) (t : Task) (f : Admitted p a t) where
  -- a job's bytes are mapped to different ones
  pub mapped_once : (x y : ℕ) → x < t.length → y < t.length → mapped_byte p a t x ≡ mapped_byte p a t y → x ≡ y
  mapped_once x y h l e =
      let (i, u, g) = job_place f x h in
      let (j, v, k) = job_place f y l in
      omega (arith, (one_address p w g k (sym (mapped_byte_lem p a t x g) ∙ e ∙ mapped_byte_lem p a t y k)).1)

  -- a segment's bytes are the mapped ones
  pub segment_bytes : {x : ℕ} → Cut (segment_at p a t) t x → x < t.length →
      bytes_of (segment_at p a t x) ≡ mapped_bytes p a t x (segment_at p a t x).length
  unfolding bytes_of mapped_bytes
  segment_bytes {x} c h =
      let (i, y, g) = job_place f x h in
      let inside = segment_inside p w a t f c h g in
      listed_same _ _ _ _ _ λ k l.
      let e = mapped_byte_lem p a t (x + k) (rw add_assoc at (place_inside p a k g (omega arith))) in
      omega (arith, ap (λ s. s.start.0) (segment_is p a t x g))

  -- where at most n bytes are left: the segments from a cut on, joined, are these bytes
  joined_from : (n x : ℕ) → t.length - x ≤ n → Cut (segment_at p a t) t x →
      joined (segments_from (segment_at p a t) t x) ≡ mapped_bytes p a t x (t.length - x)
  unfolding joined
  joined_from zero x h c = joined_end p a t x (omega arith)
  joined_from (suc n) x h c =
      by_ltb x t.length
      (λ _ l.
      let g : 1 ≤ (segment_at p a t x).length = segment_some p w a t f x l in
      let m = (segment_good p w a t f c l).length_most in
      let e : t.length - x ≡ (segment_at p a t x).length + (t.length - (x + (segment_at p a t x).length)) = omega arith in
      rw (segments_next p w a t f x l, segment_bytes c l, joined_from n _ (omega arith) (at_end c l), e, mapped_append))
      (λ _ l. joined_end p a t x l)

  -- from every cut on the segments, joined, are the job's mapped bytes
  pub segments_joined : {x : ℕ} → Cut (segment_at p a t) t x → joined (segments_from (segment_at p a t) t x) ≡ mapped_bytes p a t x (t.length - x)
  segments_joined {x} c = joined_from (t.length - x) x (le_refl _) c
