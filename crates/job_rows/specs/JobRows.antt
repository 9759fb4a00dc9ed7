-- What the audit says of a job: its head, the bytes that it reaches, how it is cut, and how long it waits at most.
use Rattle.std.specs.Prelude.{ℕ, ◌+◌, ◌-◌, ◌*◌, min, not, ◌||◌, List, [], ◌∷◌, ◌++◌, ltb, eqb}
use Rattle.arith.specs.Cases.{pick}
use Rattle.figures.specs.Figures.{factor_of}
use Rattle.figures.specs.Ranges.{ranges_of}
use Rattle.figures.specs.declared.Range.{Range}
use Rattle.memory.specs.declared.JobType.{JobType}
use Rattle.memory.specs.declared.JobType.TheVariants as Kind
use Rattle.memory.specs.declared.Task.{Task}
use Rattle.plan.specs.Questions.{area_of, device_of}
use Rattle.plan.specs.declared.records.Plan.{Plan}
use Rattle.rows.specs.Rows.{row_of}
use Rattle.rows.specs.declared.Form.TheVariants.{OfJob, OfReach, OfWait}
use Rattle.rows.specs.declared.JobForm.{JobForm}
use Rattle.rows.specs.declared.JobForm.TheVariants as Job
use Rattle.rows.specs.declared.ReachForm.{ReachForm}
use Rattle.rows.specs.declared.ReachForm.TheVariants as Reach
use Rattle.rows.specs.declared.WaitForm.TheVariants as Wait
use Rattle.rows.specs.declared.Row.{Row}
use Rattle.rules.specs.Layout.{layout_of, most_below}
use Rattle.segment.specs.Segments.{is_lock, segment_at, segments_from}
use Rattle.segment.specs.declared.Segment.{Segment}
use Rattle.job_rows.specs.declared.JobFacts.{JobFacts}

abbrev pub head_form : JobType → JobForm
head_form Kind.Write = Job.Write
head_form Kind.Read = Job.Read
head_form Kind.Compare = Job.Compare
head_form Kind.Erase = Job.Erase
head_form Kind.BlankCheck = Job.BlankCheck
head_form Kind.Lock = Job.Lock
head_form Kind.NoJob = Job.Unreadable

abbrev pub head_row : ℕ → Task → Row
head_row a t = row_of (OfJob (head_form t.kind)) a t.address.0 t.length 0 0 0 0 0

abbrev pub refused_row : ℕ → Row
refused_row n = row_of (OfJob Job.Refused) n 0 0 0 0 0 0 0

-- "Done write: the image part becomes the window bytes. Done erase: 255 throughout." The other jobs only look at the image; a lock request does not.
abbrev pub image_form : JobType → ReachForm
image_form Kind.Write = Reach.ImageChanged
image_form Kind.Erase = Reach.ImageChanged
image_form Kind.Read = Reach.ImageRead
image_form Kind.Compare = Reach.ImageRead
image_form Kind.BlankCheck = Reach.ImageRead
image_form Kind.Lock = Reach.ImageNone
image_form Kind.NoJob = Reach.ImageNone

-- a range with its first and last byte
abbrev pub image_row : JobType → Range → Row
image_row k r = row_of (OfReach (image_form k)) r.device r.start (r.start + r.length - 1) 0 0 0 0 0

unfoldable pub image_rows : JobType → List Range → List Row
image_rows k [] = []
image_rows k (r ∷ l) = image_row k r ∷ image_rows k l

abbrev pub no_image_row : Row
no_image_row = row_of (OfReach Reach.ImageNone) 0 0 0 0 0 0 0 0

-- "Done read: the window part becomes the image bytes." A write and a compare look at the window.
abbrev pub window_form : JobType → ReachForm
window_form Kind.Read = Reach.WindowChanged
window_form Kind.Write = Reach.WindowRead
window_form Kind.Compare = Reach.WindowRead
window_form Kind.Erase = Reach.WindowNone
window_form Kind.BlankCheck = Reach.WindowNone
window_form Kind.Lock = Reach.WindowNone
window_form Kind.NoJob = Reach.WindowNone

-- the first bytes of the window, as many as the job has
abbrev pub window_row : Plan → ℕ → Task → Row
window_row p a t =
    let start = (area_of p.areas a).window.start in
    row_of (OfReach (window_form t.kind)) start (start + t.length - 1) 0 0 0 0 0 0

-- stretch n, on device d, with the most rounds that lower requests can stand before it
abbrev pub stretch_row : Plan → ℕ → ℕ → Row
stretch_row p n d =
    let r = device_of p.devices d in
    row_of (OfReach Reach.Stretch) n d (factor_of r.suspends) r.poll_limit (most_below (layout_of p) d) 0 0 0

-- segment n with its first and last byte, its tries, and its rounds: patience times (retries + 1)
abbrev pub segment_row : Plan → ℕ → Segment → Row
segment_row p n s =
    let limit = (layout_of p).limit s.device in
    let tries = s.retries + 1 in
    row_of (OfReach Reach.Segment) n s.device s.start.0 (s.start.0 + s.length - 1) tries limit tries (limit * tries)

-- the segments behind n others and m stretches, the last of them on device d
unfoldable pub cut_rows : Plan → ℕ → ℕ → ℕ → List Segment → List Row
cut_rows p d n m [] = []
cut_rows p d n m (s ∷ l) =
    pick (eqb d s.device)
    (segment_row p (n + 1) s ∷ cut_rows p s.device (n + 1) m l)
    (stretch_row p (m + 1) s.device ∷ segment_row p (n + 1) s ∷ cut_rows p s.device (n + 1) (m + 1) l)

-- no device has the number 256: the first segment begins a stretch
abbrev pub no_device : ℕ
no_device = 256

-- figures from here on do not fit 64 bits
abbrev pub too_large : ℕ
too_large = 18446744073709551615

-- own + above + below + 1, or too large
abbrev pub rounds_most : JobFacts → ℕ
rounds_most f = min (f.bounds.own + f.above + f.bounds.below + 1) too_large

abbrev pub above_row : JobFacts → Row
above_row f = pick (ltb f.above too_large) (row_of (OfWait Wait.Above) f.above 0 0 0 0 0 0 0) (row_of (OfWait Wait.AboveOver) 0 0 0 0 0 0 0 0)

abbrev pub locked_row : JobFacts → Row
locked_row f = pick f.locks (row_of (OfWait Wait.LockedSome) 0 0 0 0 0 0 0 0) (row_of (OfWait Wait.LockedNone) 0 0 0 0 0 0 0 0)

abbrev pub rounds_row : JobFacts → Row
rounds_row f =
    pick (f.locks || not (ltb (rounds_most f) too_large))
    (row_of (OfWait Wait.RoundsNone) 0 0 0 0 0 0 0 0)
    (row_of (OfWait Wait.Rounds) f.bounds.own f.above f.bounds.below (rounds_most f) 0 0 0 0)

abbrev pub foot_rows : JobFacts → List Row
foot_rows f =
    row_of (OfReach Reach.Counts) f.bounds.segments f.bounds.spans 0 0 0 0 0 0
    ∷ row_of (OfWait Wait.Own) f.bounds.own 0 0 0 0 0 0 0
    ∷ row_of (OfWait Wait.Below) f.bounds.below 0 0 0 0 0 0 0
    ∷ above_row f
    ∷ locked_row f
    ∷ rounds_row f
    ∷ []

-- a job's segments with their stretches: a lock request has one stretch and no segment
abbrev pub segment_rows : Plan → ℕ → Task → List Row
segment_rows p a t =
    pick (is_lock t.kind)
    (stretch_row p 1 (segment_at p a t 0).device ∷ [])
    (cut_rows p no_device 0 0 (segments_from (segment_at p a t) t 0))

-- the image bytes of a job: none of a lock request
abbrev pub reach_rows : Plan → ℕ → Task → List Row
reach_rows p a t = pick (is_lock t.kind) (no_image_row ∷ []) (image_rows t.kind (ranges_of (segments_from (segment_at p a t) t 0)))

abbrev pub admitted_rows : Plan → ℕ → Task → JobFacts → List Row
admitted_rows p a t f = reach_rows p a t ++ (window_row p a t ∷ (segment_rows p a t ++ foot_rows f))

-- what is said of a job that a fresh manager answers with f's number
unfoldable pub job_rows : Plan → ℕ → Task → JobFacts → List Row
job_rows p a t f = head_row a t ∷ pick (eqb f.number 0) (admitted_rows p a t f) (refused_row f.number ∷ [])
