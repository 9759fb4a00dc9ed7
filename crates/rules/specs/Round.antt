-- document 01, "A round": its first half with the lent memory
use Rattle.std.specs.Prelude.{ℕ, zero, suc, ◌+◌, Bool, List, [], ◌∷◌, ◌++◌, get_or}
use Rattle.arith.specs.Cases.{pick}
use Rattle.arith.specs.Parts.{upd}
use Rattle.memory.specs.declared.DeviceAnswer.{DeviceAnswer}
use Rattle.memory.specs.declared.DeviceAnswer.TheVariants as Answers
use Rattle.memory.specs.declared.JobType.{JobType}
use Rattle.plan.specs.Questions.{area_of, device_of}
use Rattle.plan.specs.declared.records.Plan.{Plan}
use Rattle.segment.specs.Segments.{is_erase}
use Rattle.segment.specs.declared.Segment.{Segment}
use Rattle.state.specs.declared.DeviceState.{DeviceState}
use Rattle.state.specs.declared.DeviceState.TheVariants.{Free, Runs, LockedFor}
use Rattle.state.specs.declared.Job.{Job}
use Rattle.rules.specs.Layout.{layout_of, layout_at}
use Rattle.rules.specs.Machine.{Core, Verdict, goes_on, finished, differs, failed, due, take_answer, second_half}
use Rattle.rules.specs.Memory.{Memory, verdict_of, answered_memory}

-- "A round takes the four answers of its devices, one each"
abbrev pub answer_for : List DeviceAnswer → ℕ → DeviceAnswer
answer_for l d = get_or l d Answers.Pending

-- "Window bytes are those of this moment, at the processed length from the window's start"
abbrev pub window_place : Plan → ℕ → Job → ℕ
window_place p a j = (area_of p.areas a).window.start + j.processed

-- document 02, 03: "On NOR flash a write can turn a bit from 1 to 0 and never back."
abbrev pub clears_only : Plan → ℕ → Bool
clears_only p d = (device_of p.devices d).clears

-- Beside jobs, devices and memory, the first half keeps for each area the requests of its latest job that were done.
pub record Half : Type 0 where
  pub core : Core
  pub memory : Memory
  pub done : ℕ → List Segment

abbrev pub verdict_on : Plan → DeviceState → DeviceAnswer → (ℕ → Job) → Memory → Verdict
verdict_on p Free x jobs mem = goes_on
verdict_on p (LockedFor a) x jobs mem = goes_on
verdict_on p (Runs a polls) x jobs mem =
    let s = due (layout_of p) a (jobs a) in
    verdict_of x (jobs a).task.kind s.start.0 (window_place p a (jobs a)) s.length mem

abbrev pub memory_on : Plan → ℕ → DeviceState → DeviceAnswer → (ℕ → Job) → Memory → Memory
memory_on p d Free x jobs mem = mem
memory_on p d (LockedFor a) x jobs mem = mem
memory_on p d (Runs a polls) x jobs mem =
    let s = due (layout_of p) a (jobs a) in
    answered_memory (clears_only p d) x (jobs a).task.kind s.start.0 (window_place p a (jobs a)) s.length mem

abbrev pub add_done : Verdict → ℕ → Segment → (ℕ → List Segment) → ℕ → List Segment
add_done finished a s done = upd done a (done a ++ (s ∷ []))
add_done goes_on a s done = done
add_done differs a s done = done
add_done failed a s done = done

abbrev pub done_on : Plan → DeviceState → Verdict → (ℕ → Job) → (ℕ → List Segment) → ℕ → List Segment
done_on p Free v jobs done = done
done_on p (LockedFor a) v jobs done = done
done_on p (Runs a polls) v jobs done = add_done v a (due (layout_of p) a (jobs a)) done

-- what device d's answer comes to
abbrev pub verdict_in : Plan → ℕ → DeviceAnswer → Half → Verdict
verdict_in p d x h = verdict_on p (h.core.devices d).state x h.core.jobs h.memory

-- one device takes its answer
unfoldable pub take_in : Plan → ℕ → DeviceAnswer → Half → Half
take_in p d x h =
    let state = (h.core.devices d).state in
    let v = verdict_in p d x h in
    record {
      core = take_answer (layout_of p) d v h.core;
      memory = memory_on p d state x h.core.jobs h.memory;
      done = done_on p state v h.core.jobs h.done;
    }

-- the devices below n have taken their answers
unfoldable pub take_all : Plan → List DeviceAnswer → ℕ → Half → Half
take_all p answers zero h = h
take_all p answers (suc n) h = take_in p n (answer_for answers n) (take_all p answers n h)

-- document 02, 05: "Each done erase": where an answer finishes an erase, its segment is put before these
abbrev pub add_erase : Verdict → JobType → Segment → List Segment → List Segment
add_erase finished k s l = pick (is_erase k) (s ∷ l) l
add_erase goes_on k s l = l
add_erase differs k s l = l
add_erase failed k s l = l

abbrev pub erases_on : Plan → DeviceState → Verdict → (ℕ → Job) → List Segment → List Segment
erases_on p Free v jobs l = l
erases_on p (LockedFor a) v jobs l = l
erases_on p (Runs a polls) v jobs l = add_erase v (jobs a).task.kind (due (layout_of p) a (jobs a)) l

-- the erases that the answers of the devices below n finish, the newest first
unfoldable pub erases_to : Plan → List DeviceAnswer → ℕ → Half → List Segment
erases_to p answers zero h = []
erases_to p answers (suc n) h =
    let before = take_all p answers n h in
    erases_on p (before.core.devices n).state (verdict_in p n (answer_for answers n) before) before.core.jobs (erases_to p answers n h)

-- the erases done in a round
abbrev pub round_erases : Plan → List DeviceAnswer → Half → List Segment
round_erases p answers h = erases_to p answers p.device_count h

-- both halves, when the areas have these ages
unfoldable pub round_halves : Plan → (ℕ → ℕ) → List DeviceAnswer → Half → Half
round_halves p ages answers h =
    let first = take_all p answers p.device_count h in
    record { core = second_half (layout_at p ages) p.device_count first.core; memory = first.memory; done = first.done }
