-- What each device does in the two halves of a round: all answers first, then all starts, by rank.
use Rattle.std.specs.Prelude.{ℕ, zero, suc, ◌+◌, ◌<◌, Bool, true, false, List, ◌≢◌, ◌≡◌, refl, ltb}
use Rattle.std.proofs.Common.{true≢false, sym, subst, le_refl, arith, lt-ltb, le-ltb, leb-true, leb-false}
use Rattle.arith.specs.Bounded.{below_suc}
use Rattle.arith.specs.Cases.{pick}
use Rattle.arith.specs.Parts.{upd_same}
use Rattle.memory.specs.declared.DeviceAnswer.{DeviceAnswer}
use Rattle.memory.specs.declared.DeviceAnswer.TheVariants as Answers
use Rattle.plan.specs.Questions.{device_of}
use Rattle.plan.specs.declared.records.Plan.{Plan}
use Rattle.state.specs.declared.DeviceState.{DeviceState}
use Rattle.state.specs.declared.DeviceState.TheVariants.{Free, Runs, LockedFor}
use Rattle.rules.specs.Admission.{round_number, admits}
use Rattle.rules.specs.History.{History, lent, round_of}
use Rattle.rules.specs.Layout.{layout_of, layout_at}
use Rattle.rules.specs.Machine.{Core, Verdict, finished, differs, doing, take_running, take_on, take_answer}
use Rattle.rules.specs.Memory.{Memory}
use Rattle.rules.specs.Round.{Half, answer_for, verdict_on, take_in, take_all, round_halves}
use Rattle.rules.proofs.laws.GivesWay.{round_picks}
use Rattle.rules.proofs.laws.JobLaws.{second_job, given_waited, step_round}
use Rattle.rules.proofs.laws.Laws.{Laws}
use Rattle.rules.proofs.laws.RankLaws.{AgesApart}
use Rattle.rules.proofs.laws.Ranked.{reranked}
use Rattle.rules.proofs.laws.Reachable.{Reachable, need_known, passed}
use Rattle.rules.proofs.laws.Runs.{HistoryFits, round_started}
use Rattle.rules.proofs.laws.Suspends.{Busy}
use Rattle.rules.proofs.laws.StepLaws.{take_leaves, untouched}
use Rattle.rules.specs.statements.Jobs.{is_over, agrees_due}
use Rattle.rules.specs.statements.Moments.{moment_of}
use Rattle.rules.specs.statements.Order.{AnswerTaken}
use Rattle.rules.specs.statements.Statements.{FirstCome, RoundOrdered}

-- device d takes its answer
take_device : (p : Plan) (d : ℕ) (x : DeviceAnswer) (e : Half) →
    AnswerTaken (device_of p.devices d).poll_limit x (e.core.devices d) ((take_in p d x e).core.devices d)
unfolding take_in take_answer layout_of
take_device p d x e =
    record {
      goes_on = λ a q s o. rw s (on a q x o);
      over = λ a q s o. rw s (ends a q x o);
      ignored = λ f. rest (e.core.devices d).state refl f;
    }
  where
    c : Core
    c = e.core

    limit : ℕ
    limit = (layout_of p).limit d

    verdict : DeviceAnswer → ℕ → ℕ → Verdict
    verdict y a q = verdict_on p (Runs a q) y e.core.jobs e.memory

    on : (a q : ℕ) (y : DeviceAnswer) → is_over limit q y ≡ false →
        (take_running (layout_of p) d a q (verdict y a q) (ltb (q + 1) limit) c).devices d ≡ doing (Runs a (q + 1)) (c.devices d)
    on a q Answers.Pending o = rw (lt-ltb (q + 1) limit (leb-false limit (q + 1) o)) (upd_same c.devices d _)
    on a q Answers.Done o = absurd (true≢false o)
    on a q (Answers.Failed b) o = absurd (true≢false o)

    done : (a q : ℕ) (t : Bool) →
        (take_running (layout_of p) d a q (pick t finished differs) (ltb (q + 1) limit) c).devices d ≡ doing Free (c.devices d)
    done a q true = upd_same c.devices d _
    done a q false = upd_same c.devices d _

    ends : (a q : ℕ) (y : DeviceAnswer) → is_over limit q y ≡ true →
        (take_running (layout_of p) d a q (verdict y a q) (ltb (q + 1) limit) c).devices d ≡ doing Free (c.devices d)
    ends a q Answers.Pending o = rw (le-ltb (q + 1) limit (leb-true limit (q + 1) o)) (upd_same c.devices d _)
    ends a q Answers.Done o = done a q (agrees_due p a (c.jobs a) e.memory)
    ends a q (Answers.Failed b) o = upd_same c.devices d _

    rest : (y : DeviceState) → (c.devices d).state ≡ y → ((a q : ℕ) → (c.devices d).state ≢ Runs a q) →
        (take_on (layout_of p) d (verdict_on p y x e.core.jobs e.memory) y c).devices d ≡ c.devices d
    rest Free s f = refl
    rest (LockedFor a) s f = refl
    rest (Runs a q) s f = absurd (f a q s)

-- every device below n
first_takes : (p : Plan) (answers : List DeviceAnswer) (h : Half) → Reachable (layout_of p) (admits p) h.core → (n d : ℕ) → d < n →
    AnswerTaken (device_of p.devices d).poll_limit (answer_for answers d) (h.core.devices d) ((take_all p answers n h).core.devices d)
unfolding take_all take_in
first_takes p answers h r zero d g = absurd (omega arith)
first_takes p answers h r (suc n) d g =
    let Taken = AnswerTaken (device_of p.devices d).poll_limit (answer_for answers d) in
    below_suc d n g
    (λ e. subst (λ n. Taken (h.core.devices d) ((take_in p n (answer_for answers n) (take_all p answers n h)).core.devices d)) e
    (subst (λ y. Taken y ((take_in p d (answer_for answers d) (take_all p answers d h)).core.devices d))
    (untouched p answers h r d d (le_refl d)).device (take_device p d (answer_for answers d) (take_all p answers d h))))
    (λ k.
    let before = take_all p answers n h in
    let v = verdict_on p (before.core.devices n).state (answer_for answers n) before.core.jobs before.memory in
    subst (Taken (h.core.devices d)) (sym (take_leaves (layout_of p) n d v before.core (λ f. absurd (omega arith)))) (first_takes p answers h r n d k))

busy : (x : DeviceState) → Busy x → x ≢ Free
busy x b e = subst Busy e b

-- an accepted round of a history
pub round_ordered : (p : Plan) (L : (ages : ℕ → ℕ) → AgesApart ages → Laws (layout_at p ages) (admits p)) (h : History) → HistoryFits p h →
    FirstCome p (moment_of p h) → (answers : List DeviceAnswer) (m : Memory) → round_number p m.image m.store ≡ 0 → RoundOrdered p (moment_of p h) answers m
unfolding round_of round_halves layout_of
round_ordered p L h f order answers m e =
    let l = layout_at p h.ages in
    let r = reranked (layout_of p) (layout_of p).outranks l.outranks (admits p) h.core f.reachable in
    let s = round_started p L answers m h f in
    record {
      answers_in = first_takes p answers (lent m h) f.reachable p.device_count;
      picks = λ d k. (round_picks p L h f order answers m e d k).0;
      gives_way = λ d k. (round_picks p L h f order answers m e d k).1;
      jobs = λ a.
          rw (step_round p h f.reachable a answers m e)
          (given_waited ((take_all p answers p.device_count (lent m h)).core.jobs a) _
          (second_job l (take_all p answers p.device_count (lent m h)).core a p.device_count));
      served = λ a.
          rw (step_round p h f.reachable a answers m e)
          (λ i. busy _ (s.served a i (need_known (L h.ages f.apart) ((passed r s.passes).jobs a i))));
    }
