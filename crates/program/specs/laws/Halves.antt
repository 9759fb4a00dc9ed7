-- What a round's halves leave alone.
use Prim.Native.Nat.{ℕ, zero, suc, ◌≤◌}
use Rattle.std.specs.Prelude.{false, List, ◌≡◌}
use Rattle.std.proofs.Common.{true≢false, sym, ap, ◌∙◌, le_refl}
use Rattle.std.proofs.Math.Path.{refl}
use Rattle.arith.specs.Parts.{upd_case}
use Rattle.memory.specs.declared.DeviceAnswer.{DeviceAnswer}
use Rattle.plan.specs.declared.records.Plan.{Plan}
use Rattle.rules.specs.Admission.{admits}
use Rattle.rules.proofs.laws.Best.{ready_plain}
use Rattle.rules.specs.Layout.{Layout, layout_of, layout_at}
use Rattle.rules.specs.Machine.{Core, is_pending, second_half}
use Rattle.rules.proofs.laws.Reachable.{Reachable}
use Rattle.rules.proofs.laws.Requests.{running_on}
use Rattle.rules.specs.Round.{Half, answer_for, take_all, round_halves}
use Rattle.rules.proofs.laws.StepLaws.{take_case, untouched, start_case, earlier_turns}

-- the second half leaves an area that is not pending
starts_leave_job : (p : Layout) (n : ℕ) (c : Core) (a : ℕ) → is_pending (c.jobs a) ≡ false → (second_half p n c).jobs a ≡ c.jobs a
unfolding second_half
starts_leave_job p zero c a idle = refl
starts_leave_job p (suc n) c a idle =
    let e = second_half p n c in
    let ih = starts_leave_job p n c a idle in
    start_case (λ x. x.jobs a ≡ c.jobs a) p n e ih
    (λ b _ r _. upd_case (λ j. j ≡ c.jobs a) e.jobs b a _
    (λ g. absurd (true≢false (sym ((ready_plain p e n b).0 r).0 ∙ ap (λ i. is_pending (e.jobs i)) g ∙ ap is_pending ih ∙ idle)))
    (λ _. ih))
    (λ b _. ih)

module _ (p : Plan) (ages : ℕ → ℕ) (answers : List DeviceAnswer) (h : Half) (reach : Reachable (layout_of p) (admits p) h.core) where
  -- the first half leaves an area that is not pending
  answers_leave_job : (n a : ℕ) → is_pending (h.core.jobs a) ≡ false → (take_all p answers n h).core.jobs a ≡ h.core.jobs a
  unfolding take_all
  answers_leave_job zero a idle = refl
  answers_leave_job (suc n) a idle =
      take_case p n (answer_for answers n) (take_all p answers n h) a (λ j _. j ≡ h.core.jobs a)
      (λ q e. absurd (true≢false (sym (running_on reach (sym (ap (λ x. x.state) (untouched p answers h reach n n (le_refl n)).device) ∙ e)).pending ∙ idle)))
      (answers_leave_job n a idle)

  -- so a round leaves an area that is not pending
  pub round_leaves_job : (a : ℕ) → is_pending (h.core.jobs a) ≡ false → (round_halves p ages answers h).core.jobs a ≡ h.core.jobs a
  unfolding round_halves
  round_leaves_job a idle =
      let e = answers_leave_job p.device_count a idle in
      starts_leave_job (layout_at p ages) p.device_count _ a (ap is_pending e ∙ idle) ∙ e

  -- and a device that the plan does not have
  pub round_leaves_device : (d : ℕ) → p.device_count ≤ d → (round_halves p ages answers h).core.devices d ≡ h.core.devices d
  unfolding round_halves
  round_leaves_device d l =
      (earlier_turns (layout_at p ages) d _ p.device_count l).device ∙ (untouched p answers h reach p.device_count d l).device
