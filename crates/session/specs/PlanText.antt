-- document 01, "A printed session": "A refused plan prints only its number; a plan above that sum, over 4,096 bytes or
-- unreadable prints only '?'." An accepted plan prints nothing.
use Rattle.std.specs.Prelude.{ℕ, List, [], Result, Ok, Err, ltb, length}
use Rattle.arith.specs.Cases.{pick}
use Rattle.manager.specs.declared.Manager.{Manager}
use Rattle.plan.specs.Records.{plan_of}
use Rattle.plan.specs.Questions.{length_sum, load_number}
use Rattle.texts.specs.Texts.{number_line, question_line}
use Rattle.session.specs.declared.Closed.{Closed}
use Rattle.session.specs.declared.Opened.{Opened}

-- "device sum at most 65,536"
abbrev pub device_sum_of : List ℕ → ℕ
device_sum_of l = length_sum (plan_of l).devices (plan_of l).device_count

unfoldable pub plan_text : List ℕ → List ℕ
plan_text l =
    pick (ltb 4096 (length l)) question_line
    (pick (ltb 0 (load_number l)) (number_line (load_number l))
    (pick (ltb 65536 (device_sum_of l)) question_line []))

-- what is printed of the plan into a buffer of `room` bytes: nothing where the longest answer has no room
unfoldable pub open_text : ℕ → List ℕ → List ℕ
open_text room l = pick (ltb room 338) [] (plan_text l)

-- "image all 255" has as many bytes as the devices together; there is none where the session does not go on
unfoldable pub image_length_of : ℕ → List ℕ → ℕ
image_length_of room l = pick (ltb room 338) 0 (pick (ltb (length (plan_text l)) 1) (device_sum_of l) 0)

-- the parts of what the opening answers, whether the session goes on or not
abbrev pub manager_in : Result Opened Closed → Manager
manager_in (Ok o) = o.manager
manager_in (Err c) = c.manager

abbrev pub written_in : Result Opened Closed → ℕ
written_in (Ok o) = 0
written_in (Err c) = c.written

abbrev pub image_length_in : Result Opened Closed → ℕ
image_length_in (Ok o) = o.image_length
image_length_in (Err c) = 0
