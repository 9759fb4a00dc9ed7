-- The segments of an admitted job are the pieces that document 01 cuts it into.
use Rattle.std.specs.Prelude.{ℕ, zero, suc, ◌+◌, ◌-◌, ◌≤◌, ◌<◌, min, ◌&&◌, ◌⊎◌, ◌≡◌, refl, leb}
use Rattle.std.proofs.Common.{inl, inr, sym, subst, arith}
use Rattle.arith.specs.Cases.{by_bool, by_ltb, and_elim, and_intro}
use Rattle.arith.specs.Multiples.{multiple}
use Rattle.arith.specs.Plain.{leb_plain, multiple_plain}
use Rattle.memory.specs.declared.JobType.{JobType}
use Rattle.memory.specs.declared.JobType.TheVariants.{Write, Read, Compare, Erase, BlankCheck}
use Rattle.memory.specs.declared.Task.{Task}
use Rattle.plan.specs.Questions.{sub_area_of, size_of}
use Rattle.plan.specs.WellFormed.{WellFormed}
use Rattle.plan.specs.declared.records.Granularity.{Granularity}
use Rattle.plan.specs.declared.records.Plan.{Plan}
use Rattle.plan.specs.declared.records.SubAreaRecord.{SubAreaRecord}
use Rattle.segment.specs.laws.CutLaws.{Cut, at_start, at_end, segments_end}
use Rattle.segment.specs.laws.MappingLaws.{address_in, place_mapped}
use Rattle.segment.specs.laws.SegmentLaws.{Admitted, job_place, segment_is, segment_good, segments_next}
use Rattle.segment.specs.Segments.{burst_or_unit, segment_length, segment_at, segments_from}
use Rattle.rules.proofs.laws.JobLaws.{plan_retries_at}
use Rattle.rules.specs.statements.Pieces.{BurstOrUnit, PieceAt, PiecesFrom}

-- a burst, or a unit
burst_rule : (g : Granularity) (x n : ℕ) → BurstOrUnit g x n (burst_or_unit g x n)
unfolding burst_or_unit
burst_rule g x n =
    record {
      burst = λ h. rw (and_intro ((multiple_plain g.burst x).1 h.0) ((leb_plain g.burst n).1 h.1));
      unit = λ h.
          by_bool (multiple g.burst x && leb g.burst n)
          (λ e. let both = and_elim (multiple g.burst x) (leb g.burst n) e in
          absurd (h ((multiple_plain g.burst x).0 both.0, (leb_plain g.burst n).0 both.1)))
          (λ e. rw e);
    }

-- what an erase and a write take
erase_rule : (k : JobType) (s : SubAreaRecord) (a n : ℕ) → k ≡ Erase → segment_length k s a n ≡ burst_or_unit s.erase a n
erase_rule k s a n e = rw e refl

write_rule : (k : JobType) (s : SubAreaRecord) (a n : ℕ) → k ≡ Write → segment_length k s a n ≡ burst_or_unit s.write a n
write_rule k s a n e = rw e refl

-- what a read takes
read_rule : (k : JobType) (s : SubAreaRecord) (a n : ℕ) → (k ≡ Read) ⊎ ((k ≡ Compare) ⊎ (k ≡ BlankCheck)) → segment_length k s a n ≡ min n s.read.burst
read_rule k s a n (inl e) = rw e refl
read_rule k s a n (inr (inl e)) = rw e refl
read_rule k s a n (inr (inr e)) = rw e refl

module _ (p : Plan) (w : WellFormed p) (a : ℕ) (t : Task) (f : Admitted p a t) where
  -- the segment at a byte is a piece
  piece_at : (x : ℕ) → x < t.length → PieceAt p a t x (segment_at p a t x)
  piece_at x h =
      let (i, y, g) = job_place f x h in
      let s = sub_area_of p.sub_areas i in
      let n = min (t.length - x) (size_of s - y) in
      rw (segment_is p a t x g)
      (record {
        place = record { sub_area = i; offset = y; physical = address_in p i y; found = place_mapped p a g };
        device = refl;
        start = refl;
        left = n;
        left_is = refl;
        erase = λ e. subst (BurstOrUnit s.erase (s.start + y) n) (sym (erase_rule t.kind s (s.start + y) n e)) (burst_rule s.erase (s.start + y) n);
        write = λ e. subst (BurstOrUnit s.write (s.start + y) n) (sym (write_rule t.kind s (s.start + y) n e)) (burst_rule s.write (s.start + y) n);
        read = λ e. read_rule t.kind s (s.start + y) n e;
        retries = plan_retries_at p a t x g;
      })

  pieces_from : (n x : ℕ) → t.length - x ≤ n → x ≤ t.length → Cut (segment_at p a t) t x → PiecesFrom p a t x (segments_from (segment_at p a t) t x)
  pieces_from zero x h l c = rw (segments_end (segment_at p a t) t x (omega arith)) (omega arith)
  pieces_from (suc n) x h l c =
      by_ltb x t.length
      (λ _ k.
      let good = segment_good p w a t f c k in
      let some = good.length_some in
      let most = good.length_most in
      rw (segments_next p w a t f x k) (piece_at x k, pieces_from n (x + (segment_at p a t x).length) (omega arith) (omega arith) (at_end c k)))
      (λ _ k. rw (segments_end (segment_at p a t) t x k) (omega arith))

  -- all of them
  pub pieces_are : PiecesFrom p a t 0 (segments_from (segment_at p a t) t 0)
  pieces_are = pieces_from t.length 0 (omega arith) (omega arith) at_start
