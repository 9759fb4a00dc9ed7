-- The second half of a round, as the code goes: the devices that the jobs need are found once.
use Rattle.std.specs.Prelude.{ℕ, zero, suc, ◌+◌, ◌<◌, Bool, true, false, ◌&&◌, List, ◌≡◌, ltb, eqb, get_or, Option, None, Some}
use Rattle.std.proofs.Common.{◌∙◌, add-one}
use Rattle.arith.specs.Cases.{pick}
use Rattle.devices.specs.Arrays.{job_in}
use Rattle.memory.specs.declared.JobType.{JobType}
use Rattle.plan.specs.Questions.{area_of}
use Rattle.plan.specs.declared.records.AreaRecord.{AreaRecord}
use Rattle.rules.specs.Machine.{is_pending, ended, doing, displaces}
use Rattle.rules.specs.Ranks.{rank_above}
use Rattle.segment.specs.Segments.{is_lock, is_erase}
use Rattle.state.specs.Ages.{age_in}
use Rattle.state.specs.laws.AgesLaws.{age_at}
use Rattle.state.specs.declared.Area.{Area}
use Rattle.state.specs.declared.Device.{Device}
use Rattle.state.specs.declared.DeviceState.{DeviceState}
use Rattle.state.specs.declared.DeviceState.TheVariants.{Free, Runs, LockedFor}
use Rattle.state.specs.declared.SuspendedErase.{SuspendedErase}
use Rattle.picks.specs.declared.Ranked.{Ranked}
use Rattle.picks.specs.declared.Slot.{Slot}
use Rattle.picks.specs.declared.Slot.TheVariants as Slots
use Rattle.picks.specs.declared.Start.{Start}

-- area a with its priority and age
abbrev pub ranked_in : List AreaRecord → List ℕ → ℕ → Ranked
ranked_in records ages a = record { area = a; priority = (area_of records a).priority; age = age_in ages a }

-- an area, or the best so far
abbrev pub better_of : Ranked → Option Ranked → Option Ranked
better_of r None = Some r
better_of r (Some o) = pick (rank_above r.priority r.age o.priority o.age) (Some r) (Some o)

-- what a device has for the jobs that need it, where nothing runs
abbrev pub free_slot : Option SuspendedErase → Slot
free_slot None = Slots.Free
free_slot (Some s) = Slots.Erase s.area s.polls

-- where it runs a request of a job of type k, and in all. Test: can it suspend?
abbrev pub running_slot : JobType → ℕ → ℕ → Option SuspendedErase → Slot
running_slot k b q None = pick (ltb b 8 && is_erase k) (Slots.Erase b q) Slots.Taken
running_slot k b q (Some s) = Slots.Taken

abbrev pub slot_of : Bool → JobType → DeviceState → Option SuspendedErase → Slot
slot_of can k Free s = free_slot s
slot_of can k (LockedFor a) s = Slots.Taken
slot_of can k (Runs b q) s = pick can (running_slot k b q s) Slots.Taken

abbrev pub is_taken : Slot → Bool
is_taken Slots.Taken = true
is_taken Slots.Free = false
is_taken (Slots.Erase b q) = false

-- the highest ranked of the areas below n that are ready, with its priority and age
unfoldable pub best_to : List AreaRecord → List ℕ → (ℕ → Bool) → ℕ → Option Ranked
best_to records ages ready zero = None
best_to records ages ready (suc a) = pick (ready a) (better_of (ranked_in records ages a) (best_to records ages ready a)) (best_to records ages ready a)

abbrev pub ready_in : List ℕ → List Area → ℕ → ℕ → Bool
ready_in needs areas d a = is_pending (job_in areas a) && eqb (get_or needs a 0) d

-- the area chosen
abbrev pub chosen_in : Option Ranked → ℕ
chosen_in None = 0
chosen_in (Some r) = pick (ltb r.area 8) r.area 0

-- area and device after the choice
abbrev pub start_of : ℕ → Area → Device → Start
start_of a x y =
    pick (is_lock x.job.task.kind)
    (record { area = record { job = ended 0 x.job; waits = x.waits }; device = doing (LockedFor a) y })
    (record { area = x; device = doing (Runs a 0) y })

abbrev pub start_free : Option Ranked → Area → Device → Start
start_free None x y = record { area = x; device = y }
start_free (Some r) x y = start_of r.area x y

-- area b's erase goes on or resumes
abbrev pub erase_on : ℕ → ℕ → Device
erase_on b q = record { state = Runs b q; suspended = None }

-- or gives way to a choice that displaces it, of a job of type k
abbrev pub erase_with : ℕ → ℕ → JobType → Option Ranked → Device
erase_with b q k None = erase_on b q
erase_with b q k (Some r) = pick (displaces k) (record { state = Runs r.area 0; suspended = Some (record { area = b; polls = q }) }) (erase_on b q)

abbrev pub start_with : Slot → Option Ranked → Area → Device → Start
start_with Slots.Taken best x y = record { area = x; device = y }
start_with Slots.Free best x y = start_free best x y
start_with (Slots.Erase b q) best x y = record { area = x; device = erase_with b q x.job.task.kind best }

-- a turn of the loop over the areas
pub best_turn : (records : List AreaRecord) (ages : List ℕ) (ready : ℕ → Bool) (a : ℕ) → a < 8 → (t : Bool) (best next : Option Ranked) →
    best ≡ best_to records ages ready a → t ≡ ready a →
    next ≡ pick t (better_of (record { area = a; priority = (area_of records a).priority; age = get_or ages a 0 }) best) best →
    next ≡ best_to records ages ready (a + 1)
unfolding best_to
best_turn records ages ready a h t best next e f g =
    rw add-one (g ∙ (λ i. pick (f i) (better_of (record { area = a; priority = (area_of records a).priority; age = age_at ages a h i }) (e i)) (e i)))
