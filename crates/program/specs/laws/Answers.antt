-- A manager in a reachable state passes the soundness test, so that it answers and does with lent memory what the rules say.
use Rattle.std.specs.Prelude.{ℕ, Bool, true, false, List, ◌≡◌, eqb}
use Rattle.std.proofs.Math.Path.{refl}
use Rattle.std.proofs.Common.{sym, ap}
use Rattle.arith.specs.Cases.{pick}
use Rattle.arith.specs.FirstNo.{first_no}
use Rattle.machine.specs.Sound.{is_sound}
use Rattle.machine.specs.laws.SoundLaws.{reached_sound}
use Rattle.manager.specs.Calls.{core_of, sound_number, job_number_of, release_number_of, cancel_number_of, info_number_of, memory_info_number_of, round_number_of, memory_after_round}
use Rattle.manager.specs.declared.Manager.{Manager}
use Rattle.memory.specs.declared.DeviceAnswer.{DeviceAnswer}
use Rattle.plan.specs.WellFormed.{WellFormed}
use Rattle.plan.specs.declared.records.Plan.{Plan}
use Rattle.close.specs.Close.{halves_of}
use Rattle.rules.specs.Admission.{admits, job_number, release_number, cancel_number, info_number, memory_info_number, round_number}
use Rattle.rules.specs.History.{Query, status, result, processed, job_info, memory_info, wear_info, Call, submit, releases, cancels, asks, round, History, lent}
use Rattle.rules.specs.Layout.{layout_of}
use Rattle.rules.specs.Machine.{Core}
use Rattle.rules.specs.Memory.{Memory}
use Rattle.rules.proofs.laws.RankLaws.{AgesApart}
use Rattle.rules.specs.Answers.{query_number, call_number, call_memory}
use Rattle.rules.proofs.laws.Reachable.{Reachable}
use Rattle.rules.proofs.laws.Requests.{AtCuts}
use Rattle.rules.specs.Round.{round_halves}
use Rattle.rounds.specs.laws.Halves.{both, round_bare}
use Rattle.program.specs.Run.{manager_query_number, manager_number, manager_memory}
use Rattle.program.specs.Stands.{ages_of, beside}

-- a manager that does not pass answers 9 to every call
module _ (m : Manager) (e : is_sound m.plan m.areas m.devices ≡ false) where
  unsound_query : (q : Query) → manager_query_number q m ≡ 9
  unfolding info_number_of memory_info_number_of first_no
  unsound_query (status a) = rw e
  unsound_query (result a) = rw e
  unsound_query (processed a) = rw e
  unsound_query (job_info a) = rw e
  unsound_query (memory_info a address) = rw e
  unsound_query (wear_info a address) = rw e

  pub unsound_answer : (k : Call) → manager_number k m ≡ 9
  unfolding job_number_of release_number_of cancel_number_of round_number_of first_no
  unsound_answer (submit a t) = rw e
  unsound_answer (releases a address n) = rw e
  unsound_answer (cancels a) = rw e
  unsound_answer (asks q) = unsound_query q
  unsound_answer (round answers given) = rw e

-- what holds of the jobs, devices and ages of every history of an accepted load
pub record Reached (p : Plan) (c : Core) (ages : ℕ → ℕ) : Type 0 where
  pub well : WellFormed p
  pub reachable : Reachable (layout_of p) (admits p) c
  pub cuts : AtCuts p c
  pub apart : AgesApart ages

-- the halves of a round are the history's
pub halves_are : (m : Manager) (answers : List DeviceAnswer) (given : Memory) (h : History) →
    both (halves_of m.plan m.areas m.devices m.ages answers given) ≡ both (round_halves m.plan (ages_of m) answers (lent given (beside m h)))
unfolding halves_of
halves_are m answers given h = sym (round_bare m.plan answers (ages_of m) (lent given (beside m h)))

module _ (m : Manager) (r : Reached m.plan (core_of m) (ages_of m)) where
  pub sound : is_sound m.plan m.areas m.devices ≡ true
  sound = reached_sound m.plan r.well m.areas m.devices r.reachable r.cuts

  -- question 9 refuses nothing
  number_is : (questions : List Bool) → sound_number m questions ≡ first_no 10 questions
  unfolding first_no
  number_is questions = rw sound

  query_is : (q : Query) → manager_query_number q m ≡ query_number m.plan q
  unfolding info_number_of info_number memory_info_number_of memory_info_number
  query_is (status a) = number_is _
  query_is (result a) = number_is _
  query_is (processed a) = number_is _
  query_is (job_info a) = number_is _
  query_is (memory_info a address) = number_is _
  query_is (wear_info a address) = number_is _

  pub round_is : (given : Memory) → round_number_of m given ≡ round_number m.plan given.image given.store
  unfolding round_number_of
  round_is given = rw sound

  -- every call's number
  pub answer_is : (k : Call) (h : History) → manager_number k m ≡ call_number m.plan k (beside m h)
  unfolding job_number_of job_number release_number_of release_number cancel_number_of cancel_number
  answer_is (submit a t) h = number_is _
  answer_is (releases a address n) h = number_is _
  answer_is (cancels a) h = number_is _
  answer_is (asks q) h = query_is q
  answer_is (round answers given) h = round_is given

  -- the lent memory after a call
  pub memory_is : (k : Call) (mem : Memory) (h : History) → manager_memory k m mem ≡ call_memory m.plan k (beside m h) mem
  unfolding memory_after_round
  memory_is (submit a t) mem h = refl
  memory_is (releases a address n) mem h = refl
  memory_is (cancels a) mem h = refl
  memory_is (asks q) mem h = refl
  memory_is (round answers given) mem h =
      rw (round_is given) (ap (λ x. pick (eqb (round_number m.plan given.image given.store) 0) x.1 given) (halves_are m answers given h))
