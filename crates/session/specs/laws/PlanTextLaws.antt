-- The plan's text by the cases that the code takes apart.
use Rattle.std.specs.Prelude.{ℕ, ◌≤◌, ◌<◌, List, [], ◌≡◌, length}
use borrow.Author.Tests.{eq-eqb, lt-ltb, le-ltb}
use Rattle.std.proofs.Common.{length-append, arith}
use Rattle.manager.specs.Load.{fresh_manager, loaded_manager}
use Rattle.manager.specs.declared.Manager.{Manager}
use Rattle.plan.proofs.laws.Accepted.{accepted}
use Rattle.plan.specs.Records.{plan_of}
use Rattle.plan.specs.Questions.{length_sum, load_number}
use Rattle.texts.specs.Texts.{number_line, question_line}
use Rattle.session.specs.PlanText.{device_sum_of, plan_text, open_text, image_length_of}

-- an accepted load keeps the plan that the bytes hold
module _ (l : List ℕ) (m : Manager) (e : m ≡ loaded_manager l) (zero : load_number l ≡ 0) where
  pub kept_plan : m.plan ≡ plan_of l
  unfolding loaded_manager fresh_manager
  kept_plan = rw (e, eq-eqb (load_number l) 0 zero)

  pub kept_sum : length_sum m.plan.devices m.plan.device_count ≡ device_sum_of l
  kept_sum = rw kept_plan

  pub few_devices : m.plan.device_count ≤ 4
  few_devices = rw kept_plan ((accepted l).0 zero).1.device_most

pub number_some : (n : ℕ) → 1 ≤ length (number_line n)
unfolding number_line
number_some n = simp length-append (omega arith)

-- the cases of the text
module _ (l : List ℕ) where
  pub text_long : 4096 < length l → question_line ≡ plan_text l
  unfolding plan_text
  text_long h = rw (lt-ltb _ _ h)

  pub text_refused : length l ≤ 4096 → (n : ℕ) → n ≡ load_number l → 0 < n → number_line n ≡ plan_text l
  unfolding plan_text
  text_refused h n e k = rw (le-ltb _ _ h, ← e, lt-ltb _ _ k)

  pub text_sum : length l ≤ 4096 → load_number l ≡ 0 → 65536 < device_sum_of l → question_line ≡ plan_text l
  unfolding plan_text
  text_sum h e k = rw (le-ltb _ _ h, e, lt-ltb _ _ k)

  pub text_accepted : length l ≤ 4096 → load_number l ≡ 0 → device_sum_of l ≤ 65536 → [] ≡ plan_text l
  unfolding plan_text
  text_accepted h e k = rw (le-ltb _ _ h, e, le-ltb _ _ k)

-- what is printed into a buffer of `room` bytes, and how long the image is
module _ (l : List ℕ) (room : ℕ) where
  module _ (h : room < 338) where
    pub nothing_fits : [] ≡ open_text room l
    unfolding open_text
    nothing_fits = rw (lt-ltb room 338 h)

    pub no_image : 0 ≡ image_length_of room l
    unfolding image_length_of
    no_image = rw (lt-ltb room 338 h)

  module _ (h : 338 ≤ room) {text : List ℕ} (t : text ≡ plan_text l) where
    pub text_fits : text ≡ open_text room l
    unfolding open_text
    text_fits = rw (le-ltb room 338 h) t

    pub image_closed : 1 ≤ length text → 0 ≡ image_length_of room l
    unfolding image_length_of
    image_closed k = rw (le-ltb room 338 h, ← t, le-ltb _ _ k)

    pub image_open : text ≡ [] → (n : ℕ) → n ≡ device_sum_of l → n ≡ image_length_of room l
    unfolding image_length_of
    image_open e n g = rw (le-ltb room 338 h, ← t, e) g
