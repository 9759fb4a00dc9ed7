-- A round over memory is a round of the machine, at the verdicts that the memory gives on the way.
use Prim.Native.Nat.{ℕ, zero, suc}
use Rattle.std.specs.Prelude.{List, Bool, ◌≡◌}
use Rattle.std.proofs.Math.Bool.{true, false}
use Rattle.std.proofs.Math.Path.{refl, ap}
use Rattle.std.proofs.Common.{◌∙◌}
use Rattle.state.specs.declared.DeviceState.{DeviceState}
use Rattle.state.specs.declared.DeviceState.TheVariants.{Free, Runs, LockedFor}
use Rattle.memory.specs.declared.DeviceAnswer.{DeviceAnswer}
use Rattle.plan.specs.declared.records.Plan.{Plan}
use Rattle.rules.specs.Layout.{Layout, layout_of, ranked, layout_at}
use Rattle.rules.specs.Machine.{Core, Verdict, goes_on, finished, differs, failed, job_finished, take_running, take_on, take_answer, first_half, second_half}
use Rattle.rules.specs.Round.{Half, answer_for, verdict_on, take_in, take_all, round_halves}

-- the first half does not ask for ranks
module _ (p : Layout) (r : ℕ → ℕ → Bool) where
  take_ranked : (d : ℕ) (v : Verdict) (c : Core) → take_answer p d v c ≡ take_answer (ranked r p) d v c
  unfolding take_answer job_finished
  take_ranked d v c = go (c.devices d).state
    where
      taken : (a q : ℕ) (v : Verdict) (t : Bool) → take_running p d a q v t c ≡ take_running (ranked r p) d a q v t c
      taken a q goes_on true = refl
      taken a q goes_on false = refl
      taken a q finished t = refl
      taken a q differs t = refl
      taken a q failed t = refl

      go : (x : DeviceState) → take_on p d v x c ≡ take_on (ranked r p) d v x c
      go Free = refl
      go (LockedFor a) = refl
      go (Runs a q) = taken a q v _

  first_ranked : (v : ℕ → Verdict) (c : Core) (n : ℕ) → first_half p v n c ≡ first_half (ranked r p) v n c
  unfolding first_half
  first_ranked v c zero = refl
  first_ranked v c (suc n) = ap (take_answer p n (v n)) (first_ranked v c n) ∙ take_ranked n (v n) (first_half (ranked r p) v n c)

module _ (p : Plan) (answers : List DeviceAnswer) (h : Half) where
  -- the verdict for device d, once the devices before it have taken their answers
  abbrev pub verdict_at : ℕ → Verdict
  verdict_at d =
      let before = take_all p answers d h in
      verdict_on p (before.core.devices d).state (answer_for answers d) before.core.jobs before.memory

  -- the first half
  pub take_core : (n : ℕ) → (take_all p answers n h).core ≡ first_half (layout_of p) verdict_at n h.core
  unfolding take_all take_in first_half
  take_core zero = refl
  take_core (suc n) = ap (take_answer (layout_of p) n (verdict_at n)) (take_core n)

  -- the same with the rank of a moment
  pub take_ranked_core : (ages : ℕ → ℕ) (n : ℕ) → (take_all p answers n h).core ≡ first_half (layout_at p ages) verdict_at n h.core
  take_ranked_core ages n = take_core n ∙ first_ranked (layout_of p) _ verdict_at h.core n

  -- both halves
  pub round_core : (ages : ℕ → ℕ) → let l = layout_at p ages in
      (round_halves p ages answers h).core ≡ second_half l l.devices (first_half l verdict_at l.devices h.core)
  unfolding round_halves layout_of
  round_core ages = ap (second_half (layout_at p ages) p.device_count) (take_ranked_core ages p.device_count)
