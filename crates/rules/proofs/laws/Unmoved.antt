-- In a round the bytes of a request are those of the lent memory until its device takes its answer.
use Rattle.std.specs.Prelude.{ℕ, ◌+◌, ◌<◌, true, List, ◌≡◌, refl, eqb, get_or}
use Rattle.std.proofs.Common.{subst, arith}
use Rattle.arith.specs.Bounded.{every_same}
use Rattle.memory.specs.declared.DeviceAnswer.{DeviceAnswer}
use Rattle.memory.specs.declared.JobType.{JobType}
use Rattle.memory.specs.declared.JobType.TheVariants.{NoJob, Write, Read, Compare, Erase, BlankCheck, Lock}
use Rattle.plan.specs.WellFormed.{WellFormed}
use Rattle.plan.specs.declared.records.Plan.{Plan}
use Rattle.state.specs.declared.DeviceState.TheVariants.{Runs}
use Rattle.rules.specs.Admission.{uses_window, admits, round_number}
use Rattle.rules.specs.History.{History, lent}
use Rattle.rules.specs.Layout.{layout_of}
use Rattle.rules.specs.Memory.{Memory, agrees}
use Rattle.rules.specs.statements.Reach.{request_of}
use Rattle.rules.proofs.laws.Reachable.{Reachable}
use Rattle.rules.proofs.laws.RequestBytes.{Apart, image_own, store_own}
use Rattle.rules.proofs.laws.Requests.{AtCuts, request_for, request_on, request_at, requests_apart, running_known}
use Rattle.rules.specs.statements.Jobs.{agrees_due}
use Rattle.rules.specs.Round.{answer_for, window_place, take_all}
use Rattle.rules.proofs.laws.TakeLaws.{taken}

-- the same bytes agree alike
agrees_same : (t : JobType) (x y n : ℕ) (e m : Memory) → ((k : ℕ) → k < n → get_or e.image (x + k) 0 ≡ get_or m.image (x + k) 0) →
    (uses_window t ≡ true → (k : ℕ) → k < n → get_or e.store (y + k) 0 ≡ get_or m.store (y + k) 0) → agrees t x y n e ≡ agrees t x y n m
agrees_same Compare x y n e m f g = every_same _ _ n (λ k l i. eqb (f k l i) (g refl k l i))
agrees_same BlankCheck x y n e m f g = every_same _ _ n (λ k l i. eqb (f k l i) 255)
agrees_same NoJob x y n e m f g = refl
agrees_same Write x y n e m f g = refl
agrees_same Read x y n e m f g = refl
agrees_same Erase x y n e m f g = refl
agrees_same Lock x y n e m f g = refl

module _ (p : Plan) (w : WellFormed p) (h : History) (r : Reachable (layout_of p) (admits p) h.core) (cuts : AtCuts p h.core) where
  -- the bytes of a request are those of the lent memory until its device takes its answer
  pub unmoved_bytes : (answers : List DeviceAnswer) (m : Memory) → round_number p m.image m.store ≡ 0 → (d a q : ℕ) → (h.core.devices d).state ≡ Runs a q →
      (k : ℕ) → k < (request_of p h.core a).length →
      let e = (take_all p answers d (lent m h)).memory in
      (get_or e.image ((request_of p h.core a).start.0 + k) 0 ≡ get_or m.image ((request_of p h.core a).start.0 + k) 0)
      × (uses_window (h.core.jobs a).task.kind ≡ true →
      get_or e.store (window_place p a (h.core.jobs a) + k) 0 ≡ get_or m.store (window_place p a (h.core.jobs a) + k) 0)
  unmoved_bytes answers m accepted d a q runs k l =
      let known = running_known p w h.core r d a q runs in
      let all = taken p w h.core r cuts answers m accepted h.done d (omega arith) in
      let apart : (i : ℕ) → i < d → Apart (request_at p h.core i) (request_for p d a (h.core.jobs a))
      = λ i g. subst (λ s. Apart (request_at p h.core i) (request_on p d s h.core.jobs)) runs (requests_apart p w h.core r cuts i d (λ f. absurd (omega arith))) in (
        all.image.outside _ (λ i g u. (apart i g).image _ (image_own (answer_for answers i) (request_at p h.core i) _ u) (omega arith)),
        λ uses. all.store.outside _ (λ i g u.
            let own = store_own (answer_for answers i) (request_at p h.core i) _ u in
            (apart i g).store own.0 uses _ own.1 (omega arith)),
      )

  -- so it agrees or not as in the lent memory
  pub agrees_lent : (answers : List DeviceAnswer) (m : Memory) → round_number p m.image m.store ≡ 0 → (d a q : ℕ) → (h.core.devices d).state ≡ Runs a q →
      agrees_due p a (h.core.jobs a) (take_all p answers d (lent m h)).memory ≡ agrees_due p a (h.core.jobs a) m
  agrees_lent answers m accepted d a q runs =
      agrees_same (h.core.jobs a).task.kind _ _ _ (take_all p answers d (lent m h)).memory m
      (λ k l. (unmoved_bytes answers m accepted d a q runs k l).0)
      (λ u k l. (unmoved_bytes answers m accepted d a q runs k l).1 u)
