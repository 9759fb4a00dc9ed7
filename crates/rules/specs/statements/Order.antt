-- document 00, demand 2: "Each job is [..] ordered [..] by the rules of document 01"; document 02, 01 and 02. Core c is that between the two halves
-- of a round, core e that after them.
use Rattle.std.specs.Prelude.{ℕ, ◌+◌, ◌<◌, Bool, true, false, not, ◌&&◌, ◌≢◌, ◌≡◌, eqb, None, Some}
use Rattle.memory.specs.declared.DeviceAnswer.{DeviceAnswer}
use Rattle.segment.specs.Segments.{is_erase, is_lock}
use Rattle.state.specs.Fresh.{free_device}
use Rattle.state.specs.declared.Device.{Device}
use Rattle.state.specs.declared.DeviceState.TheVariants.{Free, Runs, LockedFor}
use Rattle.rules.specs.Layout.{Layout}
use Rattle.rules.specs.Machine.{Core, ready, doing}
use Rattle.rules.specs.statements.Jobs.{is_over}

-- What device x comes to in the first half with its answer, when its poll limit is this: "First every device with a running request takes its
-- answer."
pub record AnswerTaken (limit : ℕ) (answer : DeviceAnswer) (x y : Device) : Type 0 where
  -- "Pending adds 1 to the request's polls"
  pub goes_on : (a polls : ℕ) → x.state ≡ Runs a polls → is_over limit polls answer ≡ false → y ≡ doing (Runs a (polls + 1)) x
  -- done, failed, or "the driver has dropped it"
  pub over : (a polls : ℕ) → x.state ≡ Runs a polls → is_over limit polls answer ≡ true → y ≡ doing Free x
  -- "The answer for a device with nothing running is ignored."
  pub ignored : ((a polls : ℕ) → x.state ≢ Runs a polls) → y ≡ x

-- area a is the highest ranked of those that are ready
pub record Highest (p : Layout) (is_ready : ℕ → Bool) (a : ℕ) : Type 0 where
  pub known : a < p.areas
  pub ready_itself : is_ready a ≡ true
  pub above_others : (i : ℕ) → i < p.areas → is_ready i ≡ true → i ≢ a → p.outranks a i ≡ true

-- device d in the second half: "Then every unlocked device with nothing running picks the highest ranked area whose next piece lies on it, or whose
-- lock request names it."
pub record Picks (p : Layout) (c e : Core) (d : ℕ) : Type 0 where
  -- "A piece becomes the running request with 0 polls."
  pub starts : (a : ℕ) → c.devices d ≡ free_device → Highest p (ready p c d) a → is_lock (c.jobs a).task.kind ≡ false →
      e.devices d ≡ record { state = Runs a 0; suspended = None }
  -- "A lock request locks the device for that area"
  pub gives_lock : (a : ℕ) → c.devices d ≡ free_device → Highest p (ready p c d) a → is_lock (c.jobs a).task.kind ≡ true →
      e.devices d ≡ record { state = LockedFor a; suspended = None }
  -- nobody is ready
  pub nobody : c.devices d ≡ free_device → ((a : ℕ) → a < p.areas → ready p c d a ≡ false) → e.devices d ≡ free_device
  -- "A locked device starts nothing, also for the holder."
  pub locked : (b : ℕ) → (c.devices d).state ≡ LockedFor b → e.devices d ≡ c.devices d

-- document 02, 02: "the highest ranked ready job there (next piece or lock request on it, none of its own running or parked)": area a, on
-- device d, which has area b's erase
abbrev pub ready_beside : Layout → Core → ℕ → ℕ → ℕ → Bool
ready_beside p c d b a = ready p c d a && not (eqb a b)

-- it "outranks the running erase's area and its next piece is no erase"; "A lock request has no piece and parks nothing."
pub record Qualifies (p : Layout) (c : Core) (d b a : ℕ) : Type 0 where
  pub highest : Highest p (ready_beside p c d b) a
  pub above : p.outranks a b ≡ true
  pub no_erase : is_erase (c.jobs a).task.kind ≡ false
  pub no_lock : is_lock (c.jobs a).task.kind ≡ false

-- area b's erase, with its polls, runs on device d, whose chip can pause, and none is suspended there; or it is suspended, and nothing runs
pub data Erasing (p : Layout) (c : Core) (d b polls : ℕ) : Type 0 where
  running : c.devices d ≡ record { state = Runs b polls; suspended = None } → p.suspends d ≡ true → is_erase (c.jobs b).task.kind ≡ true →
      Erasing p c d b polls
  suspended : c.devices d ≡ record { state = Free; suspended = Some (record { area = b; polls = polls }) } → Erasing p c d b polls

-- device d "in a round's second half"
pub record GivesWay (p : Layout) (c e : Core) (d : ℕ) : Type 0 where
  -- "the erase is parked with its polls kept and that piece starts"
  pub gives_way : (b polls a : ℕ) → Erasing p c d b polls → Qualifies p c d b a → e.devices d ≡ record { state = Runs a 0; suspended = Some (record { area = b; polls = polls }) }
  -- "After each piece the parked erase resumes, unless the highest ranked ready job again qualifies."
  pub goes_on : (b polls : ℕ) → Erasing p c d b polls → ((a : ℕ) → Qualifies p c d b a → ⊥) →
      e.devices d ≡ record { state = Runs b polls; suspended = None }
  -- "no lock is given meanwhile": no job there changes
  pub jobs : (b polls a : ℕ) → Erasing p c d b polls → ready p c d a ≡ true → e.jobs a ≡ c.jobs a
  -- "One erase is parked per chip", and on other chips nothing gives way: whatever else runs goes on
  pub runs_on : (b polls : ℕ) → (c.devices d).state ≡ Runs b polls → (Erasing p c d b polls → ⊥) → e.devices d ≡ c.devices d
