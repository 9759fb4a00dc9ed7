-- document 01, "Questions at the door": questions 10 to 19
use Rattle.std.specs.Prelude.{ℕ, zero, suc, ◌+◌, ◌-◌, Bool, true, false, not, ◌&&◌, List, [], ◌∷◌, Some, None, ltb, leb, eqb, length}
use Rattle.std.specs.declared.option.Option.{Option}
use Rattle.arith.specs.Bounded.{every}
use Rattle.arith.specs.Cases.{pick}
use Rattle.arith.specs.FirstNo.{first_no}
use Rattle.arith.specs.Multiples.{multiple}
use Rattle.memory.specs.declared.JobType.{JobType}
use Rattle.memory.specs.declared.JobType.TheVariants.{NoJob, Write, Read, Compare, Erase, BlankCheck, Lock}
use Rattle.memory.specs.declared.LogicalAddress.{LogicalAddress}
use Rattle.memory.specs.declared.Task.{Task}
use Rattle.plan.specs.Questions.{area_of, sub_area_of, area_size, window_end, length_sum}
use Rattle.plan.specs.declared.records.Plan.{Plan}
use Rattle.plan.specs.declared.records.SubAreaRecord.{SubAreaRecord}
use Rattle.segment.specs.Mapping.{mapped}
use Rattle.segment.specs.Segments.{is_lock, unit_of, segment_at, segments_from, spans}
use Rattle.segment.specs.declared.FoundByte.{FoundByte}
use Rattle.state.specs.declared.DeviceState.{DeviceState}
use Rattle.state.specs.declared.DeviceState.TheVariants.{Free, Runs, LockedFor}
use Rattle.rules.specs.Machine.{Core, is_pending}

-- 10. "Is the area known?"
abbrev pub is_known : Plan → ℕ → Bool
is_known p a = ltb a p.area_count

-- 11. "Is the area idle?"
abbrev pub is_idle : Core → ℕ → Bool
is_idle c a = not (is_pending (c.jobs a))

-- 12. "Length at least 1 and the range inside the area?"
unfoldable pub is_inside : Plan → ℕ → LogicalAddress → ℕ → Bool
is_inside p a address n =
    leb 1 n
    && (leb (area_of p.areas a).start.0 address.0
    && leb (address.0 + n) ((area_of p.areas a).start.0 + area_size p.sub_areas p.sub_area_count a))

-- 13. "Is the offset in the first sub-area, and the end in the last, a multiple of the unit there?"
abbrev pub starts_on_unit : JobType → List SubAreaRecord → Option FoundByte → Bool
starts_on_unit k l None = false
starts_on_unit k l (Some byte) = multiple (unit_of k (sub_area_of l byte.sub_area)) byte.offset

-- the end is one past the last byte, which the place is of
abbrev pub ends_on_unit : JobType → List SubAreaRecord → Option FoundByte → Bool
ends_on_unit k l None = false
ends_on_unit k l (Some byte) = multiple (unit_of k (sub_area_of l byte.sub_area)) (byte.offset + 1)

unfoldable pub is_aligned : Plan → ℕ → Task → Bool
is_aligned p a t =
    starts_on_unit t.kind p.sub_areas (mapped p a t.address)
    && ends_on_unit t.kind p.sub_areas (mapped p a (record { 0 = t.address.0 + t.length - 1 }))

-- 14. "(write, read, compare) Length at most the window?"
abbrev pub uses_window : JobType → Bool
uses_window Write = true
uses_window Read = true
uses_window Compare = true
uses_window Erase = false
uses_window BlankCheck = false
uses_window Lock = false
uses_window NoJob = false

unfoldable pub fits_window : Plan → ℕ → Task → Bool
fits_window p a t = leb t.length (area_of p.areas a).window.length

-- 15. "Does the range lie on one device?" The range of a lock is cut at the borders of sub-areas only.
abbrev pub lock_task : LogicalAddress → ℕ → Task
lock_task address n = record { kind = Lock; address = address; length = n }

unfoldable pub on_one_device : Plan → ℕ → LogicalAddress → ℕ → Bool
on_one_device p a address n = eqb (length (spans (segments_from (segment_at p a (lock_task address n)) (lock_task address n) 0))) 1

-- the device of the first byte of a range
unfoldable pub range_device : Plan → ℕ → LogicalAddress → ℕ → ℕ
range_device p a address n = (segment_at p a (lock_task address n) 0).device

-- 16. "(release) Does this area hold that device's lock?"
abbrev pub holds_lock : ℕ → DeviceState → Bool
holds_lock a Free = false
holds_lock a (Runs b polls) = false
holds_lock a (LockedFor b) = eqb a b

-- A question that is not asked of a call is answered "yes".
abbrev pub if_asked : Bool → Bool → Bool
if_asked asked answer = pick asked answer true

-- n questions that are not asked of a call, before those that are
abbrev pub skip : ℕ → List Bool → List Bool
skip zero questions = questions
skip (suc n) questions = true ∷ skip n questions

-- five jobs and lock: 12 to 15, which are of the plan alone, and 10 to 15
abbrev pub range_questions : Plan → ℕ → Task → List Bool
range_questions p a t =
    is_inside p a t.address t.length
    ∷ if_asked (not (is_lock t.kind)) (is_aligned p a t)
    ∷ if_asked (uses_window t.kind) (fits_window p a t)
    ∷ if_asked (is_lock t.kind) (on_one_device p a t.address t.length)
    ∷ []

unfoldable pub job_questions : Plan → Core → ℕ → Task → List Bool
job_questions p c a t = is_known p a ∷ is_idle c a ∷ range_questions p a t

-- release: 10, 12, 15, 16
unfoldable pub release_questions : Plan → Core → ℕ → LogicalAddress → ℕ → List Bool
release_questions p c a address n =
    is_known p a
    ∷ skip 1
    (is_inside p a address n
    ∷ skip 2
    (on_one_device p a address n
    ∷ holds_lock a (c.devices (range_device p a address n)).state
    ∷ []))

-- cancel: 10, 17 "Is a job pending?"
unfoldable pub cancel_questions : Plan → Core → ℕ → List Bool
cancel_questions p c a = is_known p a ∷ skip 6 (is_pending (c.jobs a) ∷ [])

-- status, result, processed length, job info: 10; memory info: 10, and 12 "with length 1"
unfoldable pub info_questions : Plan → ℕ → List Bool
info_questions p a = is_known p a ∷ []

unfoldable pub memory_info_questions : Plan → ℕ → LogicalAddress → List Bool
memory_info_questions p a address = is_known p a ∷ skip 1 (is_inside p a address 1 ∷ [])

-- 18. "Is the image's length exactly the sum of the device lengths?" 19. "Does the store reach the furthest window end?"
unfoldable pub image_fits : Plan → List ℕ → Bool
image_fits p image = eqb (length image) (length_sum p.devices p.device_count)

unfoldable pub store_reaches : Plan → List ℕ → Bool
store_reaches p store = every (λ a. leb (window_end (area_of p.areas a)) (length store)) p.area_count

-- "The first 'no' gives its number."
unfoldable pub job_number : Plan → Core → ℕ → Task → ℕ
job_number p c a t = first_no 10 (job_questions p c a t)

unfoldable pub release_number : Plan → Core → ℕ → LogicalAddress → ℕ → ℕ
release_number p c a address n = first_no 10 (release_questions p c a address n)

unfoldable pub cancel_number : Plan → Core → ℕ → ℕ
cancel_number p c a = first_no 10 (cancel_questions p c a)

unfoldable pub info_number : Plan → ℕ → ℕ
info_number p a = first_no 10 (info_questions p a)

unfoldable pub memory_info_number : Plan → ℕ → LogicalAddress → ℕ
memory_info_number p a address = first_no 10 (memory_info_questions p a address)

unfoldable pub round_number : Plan → List ℕ → List ℕ → ℕ
round_number p image store = first_no 18 (image_fits p image ∷ store_reaches p store ∷ [])

-- questions 12 to 15 in one
unfoldable pub admits : Plan → ℕ → Task → Bool
admits p a t =
    is_inside p a t.address t.length
    && (if_asked (not (is_lock t.kind)) (is_aligned p a t)
    && (if_asked (uses_window t.kind) (fits_window p a t)
    && if_asked (is_lock t.kind) (on_one_device p a t.address t.length)))
