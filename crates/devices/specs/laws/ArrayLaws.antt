-- The manager's arrays as maps: an entry that is set, and past the end.
use Rattle.std.specs.Prelude.{ℕ, ◌≤◌, ◌<◌, List, ◌≡◌, length, get_or, set}
use Rattle.std.proofs.Common.{sym, ap, get_or-set_same, get_or-set_other}
use Rattle.std.proofs.Math.Path.{fun_ext}
use Rattle.std.proofs.Math.ListN.{get_or-eq_default}
use Rattle.arith.specs.Parts.{upd, upd_same, upd_other, same_or}
use Rattle.state.specs.Fresh.{no_job, fresh_area, free_device}
use Rattle.state.specs.declared.Area.{Area}
use Rattle.state.specs.declared.Device.{Device}
use Rattle.state.specs.declared.DeviceState.TheVariants.{Free}
use Rattle.devices.specs.Arrays.{job_in, device_in, state_in}

-- a view of a list with one entry set is the view with that place changed
pub view_set : {A B : Type 0} (f : A → B) (l : List A) (z : A) (a : ℕ) (x : A) → a < length l → (b : ℕ) →
    f (get_or (set l a x) b z) ≡ upd (λ k. f (get_or l k z)) a (f x) b
view_set f l z a x h b =
    same_or (λ b. f (get_or (set l a x) b z) ≡ upd (λ k. f (get_or l k z)) a (f x) b) a b
    (rw upd_same (ap f (get_or-set_same l a x z h)))
    (λ e. rw upd_other (ap f (get_or-set_other l a b x z (λ g. e (sym g)))))

-- jobs, devices
pub job_set : (l : List Area) (a : ℕ) (x : Area) → a < length l → job_in (set l a x) ≡ upd (job_in l) a x.job
job_set l a x h = fun_ext (view_set (λ y. y.job) l fresh_area a x h)

pub device_set : (l : List Device) (d : ℕ) (x : Device) → d < length l → device_in (set l d x) ≡ upd (device_in l) d x
device_set l d x h = fun_ext (view_set (λ y. y) l free_device d x h)

-- past the end nothing is pending, and nothing runs, is suspended or locked
pub job_past : (l : List Area) (a : ℕ) → length l ≤ a → job_in l a ≡ no_job
job_past l a h = ap (λ x. x.job) (get_or-eq_default l fresh_area h)

pub device_past : (l : List Device) (d : ℕ) → length l ≤ d → device_in l d ≡ free_device
device_past l d h = get_or-eq_default l free_device h

pub state_past : (l : List Device) (d : ℕ) → length l ≤ d → state_in l d ≡ Free
state_past l d h = ap (λ x. x.state) (device_past l d h)
