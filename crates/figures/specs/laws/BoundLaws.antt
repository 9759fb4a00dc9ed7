-- The bounds of a job, one segment at a time.
use Rattle.std.specs.Prelude.{ℕ, ◌+◌, ◌-◌, ◌*◌, ◌≤◌, ◌<◌, Bool, true, false, List, [], ◌∷◌, ◌≡◌, refl, eqb, length, get_or}
use Rattle.std.proofs.Common.{sym, ap, ◌∙◌, mul-le-mul, add-zero, arith, ne_eqb}
use Rattle.std.specs.Prelude.{Some, None}
use Rattle.std.specs.Option.{option_eq}
use Rattle.std.specs.declared.option.Option.{Option}
use Rattle.arith.specs.Cases.{pick, by_eqb}
use Rattle.memory.specs.declared.Task.{Task}
use Rattle.plan.specs.Questions.{device_of}
use Rattle.plan.specs.declared.records.Plan.{Plan}
use Rattle.rules.specs.Layout.{layout_of, most_below}
use Rattle.rules.proofs.laws.Requests.{device_end_lem}
use Rattle.segment.specs.Segments.{is_lock, span_most, segment_at, segments_from, spans_after, spans, own_sum, below_sum, own_bound, below_bound}
use Rattle.segment.specs.declared.Segment.{Segment}
use Rattle.segment.specs.laws.CutLaws.{Cut, at_end, segments_end}
use Rattle.segment.specs.laws.SegmentLaws.{Good, segments_next, segment_good, segment_device}
use Rattle.figures.specs.Figures.{Audited, bounds_of, device_or_none}
use Rattle.figures.specs.declared.Bounds.{Bounds}

abbrev pub no_bounds : Bounds
no_bounds = record { own = 0; below = 0; segments = 0; spans = 0 }

-- one segment more
abbrev pub bounds_more : Bool → ℕ → ℕ → Bounds → Bounds
bounds_more same rounds most b =
    record { own = b.own + rounds; below = b.below + pick same 0 most; segments = b.segments + 1; spans = b.spans + pick same 0 1 }

-- it adds at most so much
pub more_few : (same : Bool) (rounds most : ℕ) (b e : Bounds) → e ≡ bounds_more same rounds most b →
    (e.own ≡ b.own + rounds) × (e.below ≤ b.below + most) × (e.segments ≡ b.segments + 1) × (e.spans ≤ b.spans + 1)
more_few true rounds most b e q = rw q (refl, omega arith, refl, omega arith)
more_few false rounds most b e q = rw q (refl, omega arith, refl, omega arith)

abbrev pub with_next : Plan → ℕ → Segment → Bounds → Bounds
with_next p last s b =
    bounds_more (eqb last s.device) ((layout_of p).limit s.device * (s.retries + 1)) (most_below (layout_of p) s.device) b

-- all segments, behind one on device `last`
unfoldable pub bounds_after : Plan → ℕ → List Segment → Bounds → Bounds
bounds_after p last [] b = b
bounds_after p last (s ∷ l) b = bounds_after p s.device l (with_next p last s b)

unfoldable pub all_bounds : Plan → List Segment → Bounds
all_bounds p l = bounds_after p 256 l no_bounds

pub same_bounds : {a b c d u v x y : ℕ} → a ≡ u → b ≡ v → c ≡ x → d ≡ y →
    ◌≡◌ {A = Bounds} (record { own = a; below = b; segments = c; spans = d }) (record { own = u; below = v; segments = x; spans = y })
same_bounds e f g h = λ i. record { own = e i; below = f i; segments = g i; spans = h i }

-- they are the sums
sums : (p : Plan) (last : ℕ) (l : List Segment) (b : Bounds) →
    bounds_after p last l b ≡
    record {
      own = b.own + own_sum (layout_of p).limit l;
      below = b.below + below_sum (most_below (layout_of p)) (spans_after last l);
      segments = b.segments + length l;
      spans = b.spans + length (spans_after last l);
    }
unfolding bounds_after own_sum below_sum spans_after
sums p last [] b = simp add-zero
sums p last (s ∷ l) b =
    sums p s.device l (with_next p last s b)
    ∙ by_eqb last s.device
    (λ e q. rw e (rw q (same_bounds (omega arith) (omega arith) (omega arith) (omega arith))))
    (λ e q. rw e (same_bounds (omega arith) (omega arith) (omega arith) (omega arith)))

-- the first segment begins a stretch
first_span : (l : List Segment) → ((s : Segment) (r : List Segment) → l ≡ s ∷ r → 256 ≡ s.device → ⊥) → spans_after 256 l ≡ spans l
unfolding spans_after spans
first_span [] h = refl
first_span (s ∷ r) h = rw (ne_eqb 256 s.device (h s r refl))

-- so the segments of a job that is no lock request have its bounds
pub all_bounds_lem : (p : Plan) (a : ℕ) (t : Task) → is_lock t.kind ≡ false → Audited p a t →
    all_bounds p (segments_from (segment_at p a t) t 0) ≡ bounds_of p a t
unfolding all_bounds bounds_of own_bound below_bound layout_of
all_bounds_lem p a t e f =
    sums p 256 _ no_bounds
    ∙ rw (e, first_span (segments_from (segment_at p a t) t 0) some)
    (same_bounds (omega arith) (omega arith) (omega arith) (omega arith))
  where
    some : (s : Segment) (r : List Segment) → segments_from (segment_at p a t) t 0 ≡ s ∷ r → 256 ≡ s.device → ⊥
    some s r q m =
        let is = ap (λ l. (get_or l 0 s).device) (sym q ∙ segments_next p f.plan a t f.job 0 f.job.length_some) in
        omega (arith, is, segment_device p f.plan a t f.job 0 f.job.length_some, f.plan.device_most)

-- a lock request has those of its stretch
pub lock_bounds : (p : Plan) (a : ℕ) (t : Task) (n : ℕ) → is_lock t.kind ≡ true → n ≡ most_below (layout_of p) (segment_at p a t 0).device →
    record { own = 0; below = n; segments = 0; spans = 1 } ≡ bounds_of p a t
unfolding bounds_of own_bound below_bound below_sum layout_of
lock_bounds p a t n e q = rw e (same_bounds refl (omega (arith, q)) refl refl)

-- the stretch goes on where the segment's device is the last one's
pub same_last : (last : Option ℕ) (d : ℕ) → d < 4 → option_eq eqb last (Some d) ≡ eqb (device_or_none last) d
same_last None d h = sym (ne_eqb 256 d (λ e. omega (arith, e)))
same_last (Some e) d h = refl

-- a poll limit of 16 bits and retries of 8
pub rounds_fit : {a b : ℕ} → a < 65536 → b < 256 → a * (b + 1) ≤ 16776960
rounds_fit {a} {b} h k =
    let h' : a ≤ 65535 = omega arith in
    let k' : b + 1 ≤ 256 = omega arith in
    mul-le-mul h' k'

-- patience 0 leaves nothing
pub span_none : (can : Bool) (n : ℕ) → n < 1 → 0 ≡ span_most can n
span_none true n h = omega arith
span_none false n h = omega arith

-- the next segment of an admitted job
module _ (p : Plan) (a : ℕ) (t : Task) (f : Audited p a t) (x : ℕ) (c : Cut (segment_at p a t) t x) (h : x < t.length) (s : Segment) (is : s ≡ segment_at p a t x) where
  good : Good p a t s (t.length - x)
  good = rw is (segment_good p f.plan a t f.job c h)

  pub device_few : s.device < 4
  device_few = rw is (omega (arith, segment_device p f.plan a t f.job x h, f.plan.device_most))

  pub segment_some : 1 ≤ s.length
  segment_some = good.length_some

  pub segment_fits_lem : x + s.length ≤ t.length
  segment_fits_lem = omega (arith, good.length_most)

  pub next_cut_lem : Cut (segment_at p a t) t (x + s.length)
  next_cut_lem = rw is (at_end c h)

  pub next_segments : segments_from (segment_at p a t) t x ≡ s ∷ segments_from (segment_at p a t) t (x + s.length)
  next_segments = rw is (segments_next p f.plan a t f.job x h)

  -- it lies in the image
  pub inside_image : s.start.0 + s.length ≤ 16777216
  inside_image =
      let known : s.device < p.device_count = rw is (segment_device p f.plan a t f.job x h) in
      omega (arith, good.before_device_end, device_end_lem p f.plan s.device known, f.plan.length_sum_lem)

  pub bounds_turn : (last : ℕ) (b e : Bounds) (rounds most : ℕ) → rounds ≡ (device_of p.devices s.device).poll_limit * (s.retries + 1) →
      most ≡ span_most (device_of p.devices s.device).suspends (device_of p.devices s.device).poll_limit →
      e ≡ bounds_more (eqb last s.device) rounds most b →
      bounds_after p last (segments_from (segment_at p a t) t x) b ≡ bounds_after p s.device (segments_from (segment_at p a t) t (x + s.length)) e
  unfolding bounds_after layout_of
  bounds_turn last b e rounds most r m q = rw next_segments (rw (q, r, m) refl)

-- behind the last one
pub bounds_end : (p : Plan) (a : ℕ) (t : Task) (x last : ℕ) (b : Bounds) → t.length ≤ x → bounds_after p last (segments_from (segment_at p a t) t x) b ≡ b
unfolding bounds_after
bounds_end p a t x last b h = rw (segments_end (segment_at p a t) t x h)
