-- What an accepted plan and an admitted job give the machine.
use Rattle.std.specs.Prelude.{ℕ, ◌+◌, ◌<◌, ◌≡◌, refl, Bool, true, not, Some}
use Rattle.std.specs.Int.{◌∣◌}
use Rattle.std.proofs.Math.Nat.{one-dvd}
use Rattle.std.proofs.Common.{eqb-true}
use Rattle.arith.specs.Plain.{plain, and_plain}
use Rattle.memory.specs.declared.JobType.{JobType}
use Rattle.memory.specs.declared.JobType.TheVariants.{NoJob, Write, Read, Compare, Erase, BlankCheck, Lock}
use Rattle.memory.specs.declared.LogicalAddress.{LogicalAddress}
use Rattle.memory.specs.declared.Task.{Task}
use Rattle.plan.specs.Questions.{sub_area_of}
use Rattle.plan.specs.WellFormed.{WellFormed}
use Rattle.plan.specs.declared.records.Plan.{Plan}
use Rattle.plan.specs.declared.records.SubAreaRecord.{SubAreaRecord}
use Rattle.segment.specs.Mapping.{mapped}
use Rattle.segment.specs.laws.MappingLaws.{place_mapped}
use Rattle.segment.specs.laws.SegmentLaws.{Admitted, segment_some, segment_device}
use Rattle.segment.specs.Segments.{is_lock, unit_of, segment_at}
use Rattle.segment.specs.laws.SpanLaws.{one_device}
use Rattle.segment.specs.declared.FoundByte.{FoundByte}
use Rattle.rules.specs.Admission.{is_inside, is_aligned, lock_task, on_one_device, range_device, if_asked, admits}
use Rattle.rules.proofs.laws.Laws.{Laws}
use Rattle.rules.specs.Layout.{priority_of, layout_of, layout_at}
use Rattle.rules.proofs.laws.RankLaws.{AgesApart, ranks_chain, ranks_differ}

-- question 13 is asked of the jobs; a lock request is on its unit anywhere
on_unit : (k : JobType) (s : SubAreaRecord) (y : ℕ) (answer : Bool) → if_asked (not (is_lock k)) answer ≡ true →
    (answer ≡ true → unit_of k s ∣ y) → unit_of k s ∣ y
on_unit Lock s y answer e f = one-dvd y
on_unit NoJob s y answer e f = one-dvd y
on_unit Write s y answer e f = f e
on_unit Read s y answer e f = f e
on_unit Compare s y answer e f = f e
on_unit Erase s y answer e f = f e
on_unit BlankCheck s y answer e f = f e

-- the plain facts of questions 12 and 13
pub range_admitted : (p : Plan) (a : ℕ) (t : Task) → a < p.area_count → is_inside p a t.address t.length ≡ true →
    if_asked (not (is_lock t.kind)) (is_aligned p a t) ≡ true → Admitted p a t
unfolding is_inside is_aligned
range_admitted p a t h e f =
    let facts = simp plain at e in
    record {
      known = h;
      length_some = facts.0;
      after_start = facts.1.0;
      before_end = facts.1.1;
      starts_on_unit_lem = λ i y g. on_unit t.kind _ y _ f (λ q. (simp plain at (rw (place_mapped p a g) at q)).0);
      ends_on_unit_lem = λ i y g. on_unit t.kind _ (y + 1) _ f (λ q. (simp plain at (rw (place_mapped p a g) at q)).1);
    }

-- an admitted job has them
pub admitted : (p : Plan) (a : ℕ) (t : Task) → a < p.area_count → admits p a t ≡ true → Admitted p a t
unfolding admits
admitted p a t h e =
    let facts = simp and_plain at e in
    range_admitted p a t h facts.0 facts.1.0

-- an accepted plan has the laws that the machine's theorems need, in whatever order its jobs were accepted
pub plan_laws : (p : Plan) → WellFormed p → (ages : ℕ → ℕ) → AgesApart ages → Laws (layout_at p ages) (admits p)
unfolding layout_of admits is_inside
plan_laws p w ages apart =
    record {
      limit_some = w.poll_limit_some;
      ranks_chain = ranks_chain (priority_of p) ages;
      ranks_differ = ranks_differ (priority_of p) ages apart;
      length_some = λ a t e. (simp plain at e).0.0;
      segment_some = λ a t x h e. segment_some p w a t (admitted p a t h e) x;
      segment_device = λ a t x h e. segment_device p w a t (admitted p a t h e) x;
    }

-- question 15: every byte of the range lies on the device of the first
pub range_on_device : (p : Plan) → WellFormed p → (a : ℕ) (address : LogicalAddress) (n : ℕ) → a < p.area_count → is_inside p a address n ≡ true →
    on_one_device p a address n ≡ true → (x : ℕ) → x < n → (byte : FoundByte) →
    mapped p a (record { 0 = address.0 + x }) ≡ Some byte → (sub_area_of p.sub_areas byte.sub_area).device ≡ range_device p a address n
unfolding on_one_device range_device segment_at
range_on_device p w a address n h e o x l byte q =
    rw q at (one_device p w a (lock_task address n) (range_admitted p a (lock_task address n) h e refl) (eqb-true _ 1 o) x l)
