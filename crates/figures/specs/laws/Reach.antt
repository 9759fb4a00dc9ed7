-- The ranges of an admitted job hold its mapped bytes, and no others.
use Prim.Native.Nat.{ℕ, zero, suc, ◌+◌, ◌-◌, ◌≤◌, ◌<◌}
use Rattle.std.specs.Prelude.{List, [], ◌∷◌, ◌⊎◌, ◌↔◌, ◌≡◌, eqb}
use Rattle.std.proofs.Common.{inl, inr, ◌∙◌, arith, eqb-true}
use Rattle.std.proofs.Math.Logic.Iff
use Rattle.std.proofs.Math.Path.{refl, sym, ap}
use Rattle.std.proofs.Math.ListN.{get_or}
use Rattle.arith.specs.Cases.{by_bool, by_ltb, and_elim}
use Rattle.arith.specs.Listed.{listed_at}
use Rattle.memory.specs.declared.Task.{Task}
use Rattle.plan.specs.WellFormed.{Among}
use Rattle.plan.specs.declared.records.Plan.{Plan}
use Rattle.segment.specs.Bytes.{bytes_of, mapped_byte, mapped_bytes}
use Rattle.segment.specs.Segments.{segment_at, segments_from}
use Rattle.segment.specs.declared.Segment.{Segment}
use Rattle.segment.specs.laws.BytesLaws.{segment_bytes}
use Rattle.segment.specs.laws.CutLaws.{Cut, at_start, segments_end}
use Rattle.figures.specs.Figures.{Audited}
use Rattle.figures.specs.Ranges.{range_of, adjoins, with_segment, ranges_after, ranges_of, Inside, RangesExact}
use Rattle.figures.specs.declared.Range.{Range}
use Rattle.figures.specs.laws.BoundLaws.{segment_some, segment_fits_lem, next_cut_lem, next_segments}

-- byte x lies in one of the segments
unfoldable InSegments : List Segment → ℕ → Type 0
InSegments [] x = ⊥
InSegments (s ∷ l) x = Among s.start.0 s.length x ⊎ InSegments l x

-- n bytes and the m behind them
two_parts : {P : Type 0} (s n v m x : ℕ) → s + n ≡ v → (Among s (n + m) x ⊎ P) ↔ (Among s n x ⊎ Among v m x ⊎ P)
two_parts {P} s n v m x e = (apart, together)
  where
    apart : Among s (n + m) x ⊎ P → Among s n x ⊎ Among v m x ⊎ P
    apart (inl h) = by_ltb x v (λ _ l. inl (h.0, omega arith)) (λ _ l. inr (inl (l, omega arith)))
    apart (inr g) = inr (inr g)

    together : Among s n x ⊎ Among v m x ⊎ P → Among s (n + m) x ⊎ P
    together (inl h) = inl (h.0, omega arith)
    together (inr (inl h)) = inl (omega arith, omega arith)
    together (inr (inr g)) = inr g

-- either of two, the second said in another way
or_same : {A B C : Type 0} → B ↔ C → (A ⊎ B) ↔ (A ⊎ C)
or_same {A} {B} {C} e = (there, back)
  where
    there : A ⊎ B → A ⊎ C
    there (inl a) = inl a
    there (inr b) = inr (e.0 b)

    back : A ⊎ C → A ⊎ B
    back (inl a) = inl a
    back (inr c) = inr (e.1 c)

-- the ranges behind a range hold its bytes and those of the segments
after_segments : (r : Range) (l : List Segment) (x : ℕ) → Inside (ranges_after r l) x ↔ (Among r.start r.length x ⊎ InSegments l x)
unfolding ranges_after Inside InSegments
after_segments r [] x = (λ h. h, λ h. h)
after_segments r (s ∷ l) x =
    by_bool (adjoins r s)
    (λ e.
    let ends = eqb-true (r.start + r.length) s.start.0 (and_elim (eqb r.device s.device) _ e).1 in
    rw e (Iff.trans (after_segments (with_segment r s) l x) (two_parts r.start r.length s.start.0 s.length x ends)))
    (λ e. rw e (or_same (after_segments (range_of s) l x)))

-- the ranges hold the bytes of the segments
ranges_segments : (l : List Segment) (x : ℕ) → Inside (ranges_of l) x ↔ InSegments l x
unfolding ranges_of Inside InSegments
ranges_segments [] x = (λ h. h, λ h. h)
ranges_segments (s ∷ l) x = after_segments (range_of s) l x

module _ (p : Plan) (a : ℕ) (t : Task) (f : Audited p a t) where
  -- byte j of a segment is the mapped one
  byte_at : {x : ℕ} → Cut (segment_at p a t) t x → x < t.length → (j : ℕ) → j < (segment_at p a t x).length →
      (segment_at p a t x).start.0 + j ≡ mapped_byte p a t (x + j)
  unfolding bytes_of mapped_bytes
  byte_at {x} c h j l =
      sym (listed_at 0 (λ y. y) (segment_at p a t x).start.0 (segment_at p a t x).length j l)
      ∙ ap (λ b. get_or b j 0) (segment_bytes p f.plan a t f.job c h)
      ∙ listed_at 0 (mapped_byte p a t) x (segment_at p a t x).length j l

  -- q is the mapped byte of one of the job's bytes from x on
  abbrev Reached : ℕ → ℕ → Type 0
  Reached x q = (k : ℕ) × (x ≤ k) × (k < t.length) × (mapped_byte p a t k ≡ q)

  -- the bytes from a cut on: those of its segment, and those behind it
  one_more : {x : ℕ} → Cut (segment_at p a t) t x → x < t.length → (q : ℕ) →
      (Among (segment_at p a t x).start.0 (segment_at p a t x).length q ⊎ Reached (x + (segment_at p a t x).length) q) ↔ Reached x q
  one_more {x} c h q = (reached, held)
    where
      reached : Among (segment_at p a t x).start.0 (segment_at p a t x).length q ⊎ Reached (x + (segment_at p a t x).length) q → Reached x q
      reached (inl g) =
          let j = q - (segment_at p a t x).start.0 in
          let l : j < (segment_at p a t x).length = omega arith in
          (x + j, omega arith, omega (arith, segment_fits_lem p a t f x c h _ refl), omega (arith, byte_at c h j l))
      reached (inr (k, l, m, e)) = (k, omega arith, m, e)

      held : Reached x q → Among (segment_at p a t x).start.0 (segment_at p a t x).length q ⊎ Reached (x + (segment_at p a t x).length) q
      held (k, l, m, e) =
          by_ltb k (x + (segment_at p a t x).length)
          (λ _ g.
          let b = byte_at c h (k - x) (omega arith) in
          let z : x + (k - x) ≡ k = omega arith in
          let is = b ∙ ap (mapped_byte p a t) z ∙ e in
          inl (omega arith, omega arith))
          (λ _ g. inr (k, g, m, e))

  -- from the job's end on there are no segments and no bytes
  none_left : (x : ℕ) → t.length ≤ x → (q : ℕ) → InSegments (segments_from (segment_at p a t) t x) q ↔ Reached x q
  unfolding InSegments
  none_left x h q = rw (segments_end (segment_at p a t) t x h) (λ z. absurd z, λ w. omega arith)

  -- where at most n bytes are left: the segments from a cut on hold the mapped ones of these bytes
  segments_from_lem : (n x : ℕ) → t.length - x ≤ n → Cut (segment_at p a t) t x → (q : ℕ) →
      InSegments (segments_from (segment_at p a t) t x) q ↔ Reached x q
  unfolding InSegments
  segments_from_lem zero x h c q = none_left x (omega arith) q
  segments_from_lem (suc n) x h c q =
      by_ltb x t.length
      (λ _ l.
      let g = segment_some p a t f x c l _ refl in
      let rest = segments_from_lem n (x + (segment_at p a t x).length) (omega arith) (next_cut_lem p a t f x c l _ refl) q in
      rw (next_segments p a t f x c l _ refl) (Iff.trans (or_same rest) (one_more c l q)))
      (λ _ l. none_left x l q)

-- a byte lies in a range of an admitted job exactly when it is a mapped byte of the job
pub ranges_exact : RangesExact
ranges_exact p a t f x =
    let both = Iff.trans (ranges_segments _ x) (segments_from_lem p a t f t.length 0 (omega arith) at_start x) in
    (λ h. let (k, _, l, e) = both.0 h in (k, l, e), λ w. both.1 (w.0, omega arith, w.1, w.2))
