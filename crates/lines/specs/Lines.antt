-- document 01, "A printed session": what a line asks for, and which lines print "?"
use Rattle.std.specs.Prelude.{ℕ, Bool, Option, Some, None, ◌&&◌, List, [], ◌∷◌, ltb, eqb, length, get_or}
use Rattle.arith.specs.Cases.{pick}
use Rattle.memory.specs.declared.DeviceAnswer.{DeviceAnswer}
use Rattle.memory.specs.declared.DeviceAnswer.TheVariants.{Pending, Done, Failed}
use Rattle.memory.specs.declared.JobType.{JobType}
use Rattle.memory.specs.declared.JobType.TheVariants.{NoJob, Write, Read, Compare, Erase, BlankCheck, Lock}
use Rattle.lines.specs.Fields.{fields_of, rest, is_last}
use Rattle.lines.specs.Number.{number_of}
use Rattle.lines.specs.declared.LineCall.TheVariants as Calls
use Rattle.lines.specs.declared.Line.{Line}
use Rattle.lines.specs.declared.Line.TheVariants.{Call, Info, Round}
use Rattle.lines.specs.declared.Target.{Target}

-- the first field as a number; a field that is missing is none
abbrev pub first_number : List (List ℕ) → Option ℕ
first_number [] = None
first_number (f ∷ fs) = number_of f

-- one number and no other field
unfoldable pub only_number : List (List ℕ) → Option ℕ
only_number fs = pick (is_last (rest fs)) (first_number fs) None

abbrev pub target_in : Option ℕ → Option ℕ → Option ℕ → Option Target
target_in None x n = None
target_in (Some a) None n = None
target_in (Some a) (Some x) None = None
target_in (Some a) (Some x) (Some n) = Some (record { area = a; address = x; length = n })

-- "area address length": three numbers and no other field
unfoldable pub target_of : List (List ℕ) → Option Target
target_of fs =
    pick (is_last (rest (rest (rest fs))))
    (target_in (first_number fs) (first_number (rest fs)) (first_number (rest (rest fs))))
    None

-- "one answer per device (p, d, or k)": "p" is 112, and "d" is 100
abbrev pub is_letter : ℕ → List ℕ → Bool
is_letter letter f = eqb (length f) 1 && eqb (get_or f 0 0) letter

abbrev pub failed_after : Option ℕ → Option DeviceAnswer
failed_after None = None
failed_after (Some k) = Some (Failed k)

unfoldable pub answer_word : List ℕ → Option DeviceAnswer
answer_word f = pick (is_letter 112 f) (Some Pending) (pick (is_letter 100 f) (Some Done) (failed_after (number_of f)))

abbrev pub first_answer : List (List ℕ) → Option DeviceAnswer
first_answer [] = None
first_answer (f ∷ fs) = answer_word f

-- a device beyond the plan's takes no field: "The answer for a device with nothing running is ignored."
abbrev pub answer_for : ℕ → ℕ → List (List ℕ) → Option DeviceAnswer
answer_for devices d fs = pick (ltb d devices) (first_answer fs) (Some Pending)

abbrev pub rest_for : ℕ → ℕ → List (List ℕ) → List (List ℕ)
rest_for devices d fs = pick (ltb d devices) (rest fs) fs

abbrev pub round_in : Option DeviceAnswer → Option DeviceAnswer → Option DeviceAnswer → Option DeviceAnswer → Option Line
round_in None b c d = None
round_in (Some a) None c d = None
round_in (Some a) (Some b) None d = None
round_in (Some a) (Some b) (Some c) None = None
round_in (Some a) (Some b) (Some c) (Some d) = Some (Round a b c d)

-- one answer for each device and no other field
abbrev pub answers_of : ℕ → List (List ℕ) → Option Line
answers_of n fs =
    let fs1 = rest_for n 0 fs in
    let fs2 = rest_for n 1 fs1 in
    let fs3 = rest_for n 2 fs2 in
    pick (is_last (rest_for n 3 fs3)) (round_in (answer_for n 0 fs) (answer_for n 1 fs1) (answer_for n 2 fs2) (answer_for n 3 fs3)) None

-- no plan has more than four devices
unfoldable pub round_line : ℕ → List (List ℕ) → Option Line
round_line devices fs = pick (ltb 4 devices) None (answers_of devices fs)

-- "Job types are those of 000"; 5 is left out
unfoldable pub kind_of : ℕ → JobType
kind_of t =
    pick (eqb t 1) Write
    (pick (eqb t 2) Read
    (pick (eqb t 3) Compare
    (pick (eqb t 4) Erase
    (pick (eqb t 6) BlankCheck
    (pick (eqb t 7) Lock NoJob)))))

abbrev pub job_in : JobType → Target → Option Line
job_in NoJob t = None
job_in Write t = Some (Call (Calls.Write t))
job_in Read t = Some (Call (Calls.Read t))
job_in Compare t = Some (Call (Calls.Compare t))
job_in Erase t = Some (Call (Calls.Erase t))
job_in BlankCheck t = Some (Call (Calls.BlankCheck t))
job_in Lock t = Some (Call (Calls.Lock t))

abbrev pub job_line : JobType → Option Target → Option Line
job_line k None = None
job_line k (Some t) = job_in k t

abbrev pub release_line : Option Target → Option Line
release_line None = None
release_line (Some t) = Some (Call (Calls.Release t))

abbrev pub cancel_line : Option ℕ → Option Line
cancel_line None = None
cancel_line (Some a) = Some (Call (Calls.Cancel a))

abbrev pub info_line : Option ℕ → Option Line
info_line None = None
info_line (Some a) = Some (Info a)

-- "'type area address length' is a job or lock, 8 with these a release, '9 area' a cancel, '10 area' job info"; "'0' and one
-- answer per device is a round"
abbrev pub line_of_type : ℕ → Option ℕ → List (List ℕ) → Option Line
line_of_type devices None fs = None
line_of_type devices (Some t) fs =
    pick (eqb t 0) (round_line devices fs)
    (pick (eqb t 8) (release_line (target_of fs))
    (pick (eqb t 9) (cancel_line (only_number fs))
    (pick (eqb t 10) (info_line (only_number fs))
    (job_line (kind_of t) (target_of fs)))))

-- "A line of another type, word or field count, with a number above 4,294,967,295, or over 4,096 bytes prints '?'."
unfoldable pub line_of : ℕ → List ℕ → Option Line
line_of devices l = pick (ltb 4096 (length l)) None (line_of_type devices (first_number (fields_of l)) (rest (fields_of l)))
