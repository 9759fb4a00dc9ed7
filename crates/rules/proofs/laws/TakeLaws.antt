-- The first half of a round, device by device: each finds its own state and its area's job as they were before the round.
use Prim.Native.Nat.{ℕ, zero, suc, ◌≤◌, ◌<◌}
use Rattle.std.specs.Prelude.{Bool, true, false, List, ◌≡◌}
use Rattle.std.proofs.Math.Path.{refl, ap, subst}
use Rattle.std.proofs.Common.{sym, ◌∙◌, le_refl, arith}
use Rattle.arith.specs.Parts.{upd_other}
use Rattle.memory.specs.declared.DeviceAnswer.{DeviceAnswer}
use Rattle.plan.specs.WellFormed.{WellFormed}
use Rattle.plan.specs.declared.records.Plan.{Plan}
use Rattle.segment.specs.declared.Segment.{Segment}
use Rattle.state.specs.declared.DeviceState.{DeviceState}
use Rattle.state.specs.declared.DeviceState.TheVariants.{Free, Runs, LockedFor}
use Rattle.state.specs.declared.Job.{Job}
use Rattle.rules.specs.Admission.{round_number, admits}
use Rattle.rules.proofs.laws.Changes.{all_none}
use Rattle.rules.specs.Layout.{Layout, layout_of}
use Rattle.rules.specs.Machine.{Core, Verdict, goes_on, finished, differs, failed, set_both, take_running, take_on, take_answer}
use Rattle.rules.specs.Memory.{Memory}
use Rattle.rules.proofs.laws.Reachable.{Reachable}
use Rattle.rules.proofs.laws.RequestBytes.{answered, After, after_more}
use Rattle.rules.proofs.laws.Requests.{AtCuts, request_for, request_on, request_at, memory_on_lem, one_device, request_fits_lem, requests_apart}
use Rattle.rules.specs.Round.{answer_for, Half, take_in, take_all}

-- core e is core c but for device d and the job of the area that it runs
record Others (d : ℕ) (c e : Core) : Type 0 where
  devices : (k : ℕ) → (d ≡ k → ⊥) → e.devices k ≡ c.devices k
  jobs : (b : ℕ) → ((q : ℕ) → (c.devices d).state ≡ Runs b q → ⊥) → e.jobs b ≡ c.jobs b

-- a device that takes its answer leaves the others so
take_others : (p : Layout) (d : ℕ) (v : Verdict) (c : Core) → Others d c (take_answer p d v c)
unfolding take_answer
take_others p d v c = on (c.devices d).state refl
  where
    both : (a q : ℕ) (j : Job) → (c.devices d).state ≡ Runs a q → Others d c (set_both a j d Free c)
    both a q j e =
        record {
          devices = λ k f. upd_other c.devices d k _ f;
          jobs = λ b f. upd_other c.jobs a b j (λ i. f q (e ∙ ap (λ n. Runs n q) i));
        }

    running : (a q : ℕ) (v : Verdict) (t : Bool) → (c.devices d).state ≡ Runs a q → Others d c (take_running p d a q v t c)
    running a q goes_on true e = record { devices = λ k f. upd_other c.devices d k _ f; jobs = λ b f. refl }
    running a q goes_on false e = both a q _ e
    running a q finished t e = both a q _ e
    running a q differs t e = both a q _ e
    running a q failed t e = both a q _ e

    on : (s : DeviceState) → (c.devices d).state ≡ s → Others d c (take_on p d v s c)
    on Free e = record { devices = λ k f. refl; jobs = λ b f. refl }
    on (LockedFor a) e = record { devices = λ k f. refl; jobs = λ b f. refl }
    on (Runs a q) e = running a q v _ e

-- no two of the devices below n run one area
abbrev pub Alone : ℕ → Core → Type 0
Alone n c = (d e a q r : ℕ) → d < n → e < n → (c.devices d).state ≡ Runs a q → (c.devices e).state ≡ Runs a r → d ≡ e

-- the devices from n on, and the jobs of the areas that those below `most` run, are in core e as in core c
record Rest (most n : ℕ) (c e : Core) : Type 0 where
  devices : (d : ℕ) → n ≤ d → e.devices d ≡ c.devices d
  jobs : (d a q : ℕ) → n ≤ d → d < most → (c.devices d).state ≡ Runs a q → e.jobs a ≡ c.jobs a

-- so is the request of device n
same_request : (p : Plan) (most n : ℕ) (c e : Core) → n < most → Rest most n c e → request_at p e n ≡ request_at p c n
same_request p most n c e l r = ap (λ s. request_on p n s.state e.jobs) (r.devices n (le_refl n)) ∙ go (c.devices n).state refl
  where
    go : (s : DeviceState) → (c.devices n).state ≡ s → request_on p n s e.jobs ≡ request_on p n s c.jobs
    go Free u = refl
    go (LockedFor a) u = refl
    go (Runs a q) u = ap (request_for p n a) (r.jobs n a q (le_refl n) l u)

-- one device more has taken its answer
rest_more : {most n : ℕ} {c e f : Core} → n < most → Alone most c → Rest most n c e → Others n e f → Rest most (suc n) c f
rest_more {n = n} l alone r o =
    record {
      devices = λ d h. o.devices d (λ i. omega arith) ∙ r.devices d (omega arith);
      jobs = λ d a q h k u.
          o.jobs a (λ s g. omega (arith, alone n d a s q l k (sym (ap (λ x. x.state) (r.devices n (le_refl n))) ∙ g) u))
          ∙ r.jobs d a q (omega arith) k u;
    }

-- From core c and memory m, the devices below n take their answers.
module _ (p : Plan) (c : Core) (alone : Alone p.device_count c) (answers : List DeviceAnswer) (m : Memory) (done : ℕ → List Segment) where
  abbrev half : ℕ → Half
  half n = take_all p answers n (record { core = c; memory = m; done = done })

  rest : (n : ℕ) → n ≤ p.device_count → Rest p.device_count n c (half n).core
  unfolding take_all take_in
  rest zero l = record { devices = λ d h. refl; jobs = λ d a q h k u. refl }
  rest (suc n) l = rest_more (omega arith) alone (rest n (omega arith)) (take_others (layout_of p) n _ (half n).core)

  -- each does with the memory what its request of before the round does
  pub turn_memory_lem : (n : ℕ) → n < p.device_count → (half (suc n)).memory ≡ answered (answer_for answers n) (request_at p c n) (half n).memory
  unfolding take_all take_in
  turn_memory_lem n l =
      memory_on_lem p n ((half n).core.devices n).state (answer_for answers n) (half n).core.jobs (half n).memory
      ∙ ap (λ r. answered (answer_for answers n) r (half n).memory) (same_request p p.device_count n c (half n).core l (rest n (omega arith)))

module _ (p : Plan) (w : WellFormed p) (c : Core) (reach : Reachable (layout_of p) (admits p) c) (cuts : AtCuts p c)
    (answers : List DeviceAnswer) (m : Memory) (accepted : round_number p m.image m.store ≡ 0) (done : ℕ → List Segment) where
  -- in a state that calls lead to
  pub reached_alone : Alone p.device_count c
  reached_alone d e a q r _ _ u v = one_device reach u v

  -- the requests of the devices below n have been answered
  pub taken : (n : ℕ) → n ≤ p.device_count →
      After (request_at p c) (answer_for answers) m n (take_all p answers n (record { core = c; memory = m; done = done })).memory
  unfolding take_all
  taken zero l = record { image = all_none _ _; store = all_none _ _ }
  taken (suc n) l =
      subst (After (request_at p c) (answer_for answers) m (suc n))
      (sym (turn_memory_lem p c reached_alone answers m done n (omega arith)))
      (after_more _ _ m (request_fits_lem p w c reach cuts m accepted) (requests_apart p w c reach cuts) n _ (taken n (omega arith)))
