-- What is asked and handed back where a call changes an area, by its parts.
use Rattle.std.specs.Prelude.{ℕ, false, List, ◌≡◌, Ok, Err, refl, eqb, leb, get_or}
use Rattle.std.proofs.Common.{ap, ◌∙◌, arith, ne_eqb}
use Rattle.arith.specs.Cases.{pick}
use Rattle.arith.specs.Tables.{table}
use Rattle.devices.specs.Arrays.{device_in}
use Rattle.machine.specs.Sound.{is_sound}
use Rattle.memory.specs.Numbers.{Answer, admission_number, refusal_number}
use Rattle.memory.specs.laws.NumberLaws.{refusal_some}
use Rattle.memory.specs.declared.Refusal.{Refusal}
use Rattle.memory.specs.declared.Task.{Task}
use Rattle.plan.specs.declared.records.Plan.{Plan}
use Rattle.rules.specs.Layout.{layout_of}
use Rattle.rules.specs.Machine.{begun_with, begun, cancel}
use Rattle.rules.specs.Ranks.{ages_after}
use Rattle.segment.specs.Segments.{segment_at}
use Rattle.state.specs.Ages.{age_in}
use Rattle.state.specs.Fresh.{no_waits, fresh_area, free_device}
use Rattle.state.specs.declared.Area.{Area}
use Rattle.state.specs.declared.Device.{Device}
use Rattle.state.specs.declared.Job.{Job}
use Rattle.state.specs.declared.Waits.{Waits}
use Rattle.changes.specs.Accepted.{if_accepted}
use Rattle.changes.specs.declared.AskedArea.{AskedArea}
use Rattle.changes.specs.declared.Change.{Change}

-- where an area's entry is, or any
abbrev pub place_of : ℕ → ℕ
place_of a = pick (leb 8 a) 0 a

abbrev pub asked_area : Plan → List Area → List Device → ℕ → AskedArea
asked_area p areas devices a = record { sound = is_sound p areas devices; number = place_of a; area = get_or areas (place_of a) fresh_area }

abbrev pub unchanged : List Area → List Device → List ℕ → Answer → Change
unchanged areas devices ages x =
    record { area_number = 0; area = get_or areas 0 fresh_area; device_number = 0; device = get_or devices 0 free_device; ages = ages; answer = x }

-- a job of the range's answer x
abbrev pub begun_change : Answer → Plan → AskedArea → Device → List ℕ → Task → Change
begun_change x p asked d ages t =
    record {
      area_number = asked.number;
      area = if_accepted (admission_number x) (record { job = begun (layout_of p) asked.number t asked.area.job; waits = no_waits }) asked.area;
      device_number = 0;
      device = d;
      ages = if_accepted (admission_number x) (table 8 (ages_after asked.number (age_in ages)) 0 8) ages;
      answer = x;
    }

-- the job of a cancelled area, from that job alone
abbrev pub stopped_job : Plan → ℕ → Job → List Device → Job
stopped_job p a j devices = (cancel (layout_of p) a (record { jobs = λ _. j; devices = device_in devices })).jobs a

abbrev pub stopped_change : Plan → AskedArea → List Device → List ℕ → Change
stopped_change p asked devices ages =
    record {
      area_number = asked.number;
      area = record { job = stopped_job p asked.number asked.area.job devices; waits = asked.area.waits };
      device_number = 0;
      device = get_or devices 0 free_device;
      ages = ages;
      answer = Ok tt;
    }

-- a call that is refused, with that number
pub refused_some : (x : Answer) (q : Refusal) → x ≡ Err q → (n : ℕ) → admission_number x ≡ n → eqb n 0 ≡ false
refused_some x q e n f = ne_eqb n 0 (λ z. omega (arith, refusal_some q, ap admission_number e, f, z))

-- the job of an accepted task, whose first segment may take r retries
pub begun_first : (p : Plan) (a : ℕ) (t : Task) (j : Job) (r : ℕ) → r ≡ (segment_at p a t 0).retries → begun_with r t j ≡ begun (layout_of p) a t j
unfolding layout_of
begun_first p a t j r is = ap (λ k. begun_with k t j) is

-- what the range's answer makes of the area
module _ (p : Plan) (asked : AskedArea) (d : Device) (ages : List ℕ) (t : Task) where
  pub begun_refused : (q : Refusal) →
      record { area_number = asked.number; area = asked.area; device_number = 0; device = d; ages = ages; answer = Err q } ≡ begun_change (Err q) p asked d ages t
  begun_refused q = rw (refused_some (Err q) q refl (refusal_number q) refl)

  pub begun_accepted : (j : Job) (r : ℕ) (w : Waits) (g : List ℕ) →
      j ≡ begun_with r t asked.area.job → r ≡ (segment_at p asked.number t 0).retries → w ≡ no_waits → g ≡ table 8 (ages_after asked.number (age_in ages)) 0 8 →
      record { area_number = asked.number; area = record { job = j; waits = w }; device_number = 0; device = d; ages = g; answer = Ok tt } ≡ begun_change (Ok tt) p asked d ages t
  begun_accepted j r w g is first none next =
      let job = is ∙ begun_first p asked.number t asked.area.job r first in
      λ i. record { area_number = asked.number; area = record { job = job i; waits = none i }; device_number = 0; device = d; ages = next i; answer = Ok tt }
