-- A request that is done has moved all of its bytes.
use Rattle.std.specs.Prelude.{ℕ, ◌+◌, ◌-◌, ◌<◌, List, ◌≡◌, get_or}
use Rattle.std.proofs.Common.{ap, ◌∙◌, arith}
use Rattle.memory.specs.declared.DeviceAnswer.{DeviceAnswer}
use Rattle.memory.specs.declared.DeviceAnswer.TheVariants as Answers
use Rattle.memory.specs.declared.JobType.TheVariants.{Write, Read, Erase}
use Rattle.plan.specs.declared.records.Plan.{Plan}
use Rattle.state.specs.declared.DeviceState.TheVariants.{Runs}
use Rattle.rules.specs.Admission.{round_number}
use Rattle.rules.specs.Answers.{call_memory}
use Rattle.rules.specs.History.{round, History}
use Rattle.rules.specs.Memory.{Memory, written_byte}
use Rattle.rules.specs.Round.{answer_for, window_place, clears_only}
use Rattle.rules.specs.statements.Moments.{moment_of}
use Rattle.rules.specs.statements.Reach.{acted_bytes, brought_bytes, image_bytes, window_bytes, acted_byte, request_of}
use Rattle.rules.specs.statements.Statements.{RoundChanges, Demand1}

module _ (p : Plan) (h : History) (first : Demand1 p (moment_of p h)) (answers : List DeviceAnswer) (m : Memory)
    (accepted : round_number p m.image m.store ≡ 0) (d a polls : ℕ) (known : d < p.device_count)
    (runs : (h.core.devices d).state ≡ Runs a polls) (done : answer_for answers d ≡ Answers.Done) where
  -- the changes that the round makes
  changes : RoundChanges p h.core answers m (call_memory p (round answers m) h m)
  changes = first.rounds answers m accepted

  -- a write that is done has acted on all of its bytes
  pub write_done : (h.core.jobs a).task.kind ≡ Write → (k : ℕ) → k < (request_of p h.core a).length →
      get_or (call_memory p (round answers m) h m).image ((request_of p h.core a).start.0 + k) 0
      ≡ written_byte (clears_only p d) (get_or m.image ((request_of p h.core a).start.0 + k) 0) (get_or m.store (window_place p a (h.core.jobs a) + k) 0)
  write_done e k l =
      let s = request_of p h.core a in
      let x = s.start.0 + k in
      let all = ap (λ y. acted_bytes y (h.core.jobs a).task.kind s.length) done ∙ ap (λ t. image_bytes t s.length) e in
      let offset : x - s.start.0 ≡ k = omega arith in
      changes.image_acted x d (record { known = known; area = a; polls = polls; runs = runs; inside = omega (arith, all) })
      ∙ ap (λ t. acted_byte (clears_only p d) t (get_or m.image x 0) (get_or m.store (window_place p a (h.core.jobs a) + (x - s.start.0)) 0)) e
      ∙ ap (λ i. written_byte (clears_only p d) (get_or m.image x 0) (get_or m.store (window_place p a (h.core.jobs a) + i) 0)) offset

  -- so has an erase
  pub erase_done : (h.core.jobs a).task.kind ≡ Erase → (k : ℕ) → k < (request_of p h.core a).length →
      get_or (call_memory p (round answers m) h m).image ((request_of p h.core a).start.0 + k) 0 ≡ 255
  erase_done e k l =
      let s = request_of p h.core a in
      let x = s.start.0 + k in
      let all = ap (λ y. acted_bytes y (h.core.jobs a).task.kind s.length) done ∙ ap (λ t. image_bytes t s.length) e in
      changes.image_acted x d (record { known = known; area = a; polls = polls; runs = runs; inside = omega (arith, all) })
      ∙ ap (λ t. acted_byte (clears_only p d) t (get_or m.image x 0) (get_or m.store (window_place p a (h.core.jobs a) + (x - s.start.0)) 0)) e

  -- a read that is done has brought all of them
  pub read_done : (h.core.jobs a).task.kind ≡ Read → (k : ℕ) → k < (request_of p h.core a).length →
      get_or (call_memory p (round answers m) h m).store (window_place p a (h.core.jobs a) + k) 0
      ≡ get_or m.image ((request_of p h.core a).start.0 + k) 0
  read_done e k l =
      let s = request_of p h.core a in
      let x = window_place p a (h.core.jobs a) + k in
      let all = ap (λ y. brought_bytes y (h.core.jobs a).task.kind s.length) done ∙ ap (λ t. window_bytes t s.length) e in
      let offset : x - window_place p a (h.core.jobs a) ≡ k = omega arith in
      changes.store_acted x d (record { known = known; area = a; polls = polls; runs = runs; inside = omega (arith, all) })
      ∙ ap (λ i. get_or m.image (s.start.0 + i) 0) offset
