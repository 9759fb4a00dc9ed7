-- The rounds in which requests were done, and the bytes that they moved.
use Prim.Native.Nat.{ℕ, zero, suc, ◌+◌, ◌-◌, ◌≤◌, ◌<◌}
use Rattle.std.specs.Prelude.{Bool, ◌≡◌, ltb, leb, eqb, length, get_or}
use Rattle.std.proofs.Math.Bool.{true, false}
use mathlib.Core.List.{List, [], ◌∷◌, ◌++◌}
use Rattle.std.proofs.Common.{inl, inr, ap, subst, ◌∙◌, le_refl, arith, length-append}
use Rattle.std.proofs.Math.Path.{refl, sym}
use Rattle.std.proofs.Math.Nat.{add_assoc}
use borrow.Author.Tests.{eq-eqb, ne_eqb, eqb-true}
use Rattle.arith.specs.Bounded.{every_elim}
use Rattle.arith.specs.Cases.{pick, by_eqb, by_ltb}
use Rattle.arith.specs.Parts.{upd, upd_same, upd_other, upd_case, same_or}
use Rattle.memory.specs.declared.DeviceAnswer.{DeviceAnswer}
use Rattle.memory.specs.declared.DeviceAnswer.TheVariants as Answers
use Rattle.memory.specs.declared.JobType.{JobType}
use Rattle.memory.specs.declared.JobType.TheVariants.{Compare, BlankCheck}
use Rattle.memory.specs.declared.Task.{Task}
use Rattle.plan.specs.Questions.{area_of}
use Rattle.plan.specs.WellFormed.{WellFormed}
use Rattle.plan.specs.declared.records.Plan.{Plan}
use Rattle.segment.specs.laws.MappingLaws.{Place, place_mapped, place_inside}
use Rattle.segment.specs.laws.SegmentLaws.{job_place, segment_is, segment_inside}
use Rattle.segment.specs.declared.Segment.{Segment}
use Rattle.state.specs.declared.DeviceState.TheVariants.{Runs}
use Rattle.state.specs.declared.Job.{Job}
use Rattle.rules.specs.Admission.{uses_window, admits, job_number, release_number, cancel_number, round_number}
use Rattle.rules.proofs.laws.Demand1.{demand1, request_byte}
use Rattle.rules.proofs.laws.MovedBytes.{write_done, read_done, erase_done}
use Rattle.rules.proofs.laws.DoneKept.{Fits}
use Rattle.rules.specs.statements.DoneRounds.{DoneRound, with_round, with_call, done_rounds, requests, InOrder, Occurs, byte_device, window_byte, ByteDone, BytesDone}
use Rattle.rules.specs.History.{Call, submit, releases, cancels, asks, round, History, lent, fresh_history, submitted, round_of, step, run}
use Rattle.rules.proofs.laws.JobLaws.{JobGiven, second_job, step_round, taken_task}
use Rattle.rules.specs.Layout.{Layout, layout_of, layout_at}
use Rattle.rules.specs.Machine.{finished, differs, is_cancelling, due, need, holds, begun, after_failed, job_failed, after_finished, job_finished, after_differs, job_differs, cancel_if, cancel, begin, release}
use Rattle.rules.specs.Memory.{Memory, agrees, verdict_of, written_byte}
use Rattle.rules.specs.statements.Reach.{request_of}
use Rattle.rules.proofs.laws.Reachable.{Reachable}
use Rattle.rules.proofs.laws.Requests.{AtCuts, one_device, Placed, placed, running_known, running_on}
use Rattle.rules.specs.statements.Jobs.{agrees_due}
use Rattle.rules.specs.Round.{Half, clears_only, answer_for, window_place, take_all, round_halves}
use Rattle.rules.specs.statements.Moments.{moment_of, rules_run}
use Rattle.rules.specs.Answers.{call_memory}
use Rattle.rules.proofs.laws.StepLaws.{job_taken, done_taken, take_case, untouched, accept_case}
use Rattle.rules.proofs.laws.Unmoved.{unmoved_bytes}

-- the processed length after an answer
failed_at : (j : Job) → (job_failed j).processed ≡ j.processed
unfolding job_failed
failed_at j = go (is_cancelling j.status) (eqb j.retries_left 0)
  where
    go : (s t : Bool) → (after_failed s t j).processed ≡ j.processed
    go true t = refl
    go false true = refl
    go false false = refl

differs_at : (j : Job) → (job_differs j).processed ≡ j.processed
unfolding job_differs
differs_at j = go (is_cancelling j.status)
  where
    go : (s : Bool) → (after_differs s j).processed ≡ j.processed
    go true = refl
    go false = refl

finished_at : (p : Layout) (a : ℕ) (j : Job) → (job_finished p a j).processed ≡ j.processed + (due p a j).length
unfolding job_finished
finished_at p a j = go (is_cancelling j.status) (leb j.task.length x)
  where
    x : ℕ
    x = j.processed + (due p a j).length

    go : (s t : Bool) → (after_finished s t x (p.segment a j.task x).retries j).processed ≡ x
    go true t = refl
    go false true = refl
    go false false = refl

-- The devices below n have taken their answers: area a's job and done requests are as far as they were, or one request further, which a device
-- was done with.
data DoneBy (p : Plan) (answers : List DeviceAnswer) (h : Half) (a n : ℕ) (j : Job) (done : List Segment) : Type 0 where
  same : j.task ≡ (h.core.jobs a).task → j.processed ≡ (h.core.jobs a).processed → done ≡ h.done a → DoneBy p answers h a n j done
  more : (d q : ℕ) → d < n → (h.core.devices d).state ≡ Runs a q → answer_for answers d ≡ Answers.Done →
      agrees_due p a (h.core.jobs a) (take_all p answers d h).memory ≡ true → j.task ≡ (h.core.jobs a).task →
      j.processed ≡ (h.core.jobs a).processed + (request_of p h.core a).length → done ≡ h.done a ++ (request_of p h.core a ∷ []) →
      DoneBy p answers h a n j done

module _ (p : Plan) (answers : List DeviceAnswer) (h : Half) (r : Reachable (layout_of p) (admits p) h.core) (a : ℕ) where
  -- device n takes its answer
  taken_by : (n q : ℕ) → (h.core.devices n).state ≡ Runs a q → (y : DeviceAnswer) → answer_for answers n ≡ y → (t : Bool) →
      let m = (take_all p answers n h).memory in
      let j = h.core.jobs a in
      let s = due (layout_of p) a j in
      let v = verdict_of y j.task.kind s.start.0 (window_place p a j) s.length m in
      DoneBy p answers h a (suc n) (job_taken (layout_of p) a v t j) (done_taken v s (h.done a))
  taken_by n q runs Answers.Pending e true = same refl refl refl
  taken_by n q runs Answers.Pending e false = same (taken_task (layout_of p) a (verdict_of Answers.Pending (h.core.jobs a).task.kind 0 0 0 (take_all p answers n h).memory) false (h.core.jobs a)) (failed_at (h.core.jobs a)) refl
  taken_by n q runs Answers.Done e t = go (agrees_due p a (h.core.jobs a) (take_all p answers n h).memory) refl
    where
      go : (b : Bool) → agrees_due p a (h.core.jobs a) (take_all p answers n h).memory ≡ b → DoneBy p answers h a (suc n) (job_taken (layout_of p) a (pick b finished differs) t (h.core.jobs a))
          (done_taken (pick b finished differs) (due (layout_of p) a (h.core.jobs a)) (h.done a))
      go true u = more n q (omega arith) runs e u (taken_task (layout_of p) a finished t (h.core.jobs a)) (finished_at (layout_of p) a (h.core.jobs a)) refl
      go false u = same (taken_task (layout_of p) a differs t (h.core.jobs a)) (differs_at (h.core.jobs a)) refl
  taken_by n q runs (Answers.Failed b) e t = same (taken_task (layout_of p) a (verdict_of (Answers.Failed b) (h.core.jobs a).task.kind 0 0 0 (take_all p answers n h).memory) t (h.core.jobs a)) (failed_at (h.core.jobs a)) refl

  later : (n : ℕ) {j : Job} {done : List Segment} → DoneBy p answers h a n j done → DoneBy p answers h a (suc n) j done
  later n (same t x e) = same t x e
  later n (more d q l runs x u t y e) = more d q (omega arith) runs x u t y e

  -- the devices below n
  first_done : (n : ℕ) → DoneBy p answers h a n ((take_all p answers n h).core.jobs a) ((take_all p answers n h).done a)
  unfolding take_all
  first_done zero = same refl refl refl
  first_done (suc n) =
      let before = take_all p answers n h in
      let left = untouched p answers h r n n (le_refl n) in
      let ih = first_done n in
      take_case p n (answer_for answers n) before a (DoneBy p answers h a (suc n))
      (λ q e.
      let runs = sym (ap (λ x. x.state) left.device) ∙ e in
      rw (left.job a q runs, unmoved n q runs ih) (taken_by n q runs (answer_for answers n) refl (ltb (q + 1) ((layout_of p).limit n))))
      (later n ih)
    where
      unmoved : (n q : ℕ) → (h.core.devices n).state ≡ Runs a q → {j : Job} {done : List Segment} → DoneBy p answers h a n j done → done ≡ h.done a
      unmoved n q runs (same t x e) = e
      unmoved n q runs (more d k l other x u t y e) = absurd (omega (arith, one_device r runs other))

  -- and the second half
  second_done : (n : ℕ) (j k : Job) {done : List Segment} → JobGiven j k → DoneBy p answers h a n j done → DoneBy p answers h a n k done
  second_done n j k (inl e) f = rw e f
  second_done n j k (inr e) (same t x y) = same (ap (λ j. j.task) e.2 ∙ t) (ap (λ j. j.processed) e.2 ∙ x) y
  second_done n j k (inr e) (more d q l runs y u t x z) = more d q l runs y u (ap (λ j. j.task) e.2 ∙ t) (ap (λ j. j.processed) e.2 ∙ x) z

-- what agreement says of one byte
agreed_compare : (t : JobType) (x y n : ℕ) (m : Memory) → t ≡ Compare → agrees t x y n m ≡ true → (k : ℕ) → k < n → get_or m.image (x + k) 0 ≡ get_or m.store (y + k) 0
agreed_compare t x y n m e f k l =
    eqb-true _ _ (every_elim (λ i. eqb (get_or m.image (x + i) 0) (get_or m.store (y + i) 0)) n (sym (ap (λ t. agrees t x y n m) e) ∙ f) k l)

agreed_blank : (t : JobType) (x y n : ℕ) (m : Memory) → t ≡ BlankCheck → agrees t x y n m ≡ true → (k : ℕ) → k < n → get_or m.image (x + k) 0 ≡ 255
agreed_blank t x y n m e f k l =
    eqb-true _ _ (every_elim (λ i. eqb (get_or m.image (x + i) 0) 255) n (sym (ap (λ t. agrees t x y n m) e) ∙ f) k l)

-- an accepted round
round_done : (p : Plan) (h : History) (r : Reachable (layout_of p) (admits p) h.core) (answers : List DeviceAnswer) (m : Memory) →
    round_number p m.image m.store ≡ 0 → (a : ℕ) → let e = step p (round answers m) h in
    DoneBy p answers (lent m h) a p.device_count (e.core.jobs a) (e.done a)
unfolding round_of round_halves
round_done p h r answers m accepted a =
    rw (step_round p h r a answers m accepted)
    (second_done p answers (lent m h) r a p.device_count ((take_all p answers p.device_count (lent m h)).core.jobs a) _
    (second_job (layout_at p h.ages) (take_all p answers p.device_count (lent m h)).core a p.device_count)
    (first_done p answers (lent m h) r a p.device_count))

-- all of a list
abbrev All : (DoneRound → Type 0) → List DoneRound → Type 0
All P [] = Unit {0}
All P (e ∷ l) = P e × All P l

all_more : (P : DoneRound → Type 0) (l : List DoneRound) (e : DoneRound) → All P l → P e → All P (l ++ (e ∷ []))
all_more P [] e f g = (g, tt)
all_more P (i ∷ l) e f g = (f.0, all_more P l e f.1 g)

all_one : (P : DoneRound → Type 0) (front : List DoneRound) (e : DoneRound) (back : List DoneRound) → All P (front ++ (e ∷ back)) → P e
all_one P [] e back f = f.0
all_one P (i ∷ front) e back f = all_one P front e back f.1

requests_more : (l : List DoneRound) (e : DoneRound) → requests (l ++ (e ∷ [])) ≡ requests l ++ (e.request ∷ [])
requests_more [] e = refl
requests_more (i ∷ l) e = ap (λ k. i.request ∷ k) (requests_more l e)

order_more : (x y : ℕ) (l : List DoneRound) (e : DoneRound) → InOrder x l y → e.from ≡ y → InOrder x (l ++ (e ∷ [])) (y + e.request.length)
order_more x y [] e f g = (g ∙ sym f, ap (λ n. n + e.request.length) f)
order_more x y (i ∷ l) e f g = (f.0, order_more (x + i.request.length) y l e f.1 g)

-- the list for area a, whose latest job has task t and processed length x
record NotesFit (p : Plan) (a : ℕ) (t : Task) (x : ℕ) (done : List Segment) (l : List DoneRound) : Type 0 where
  requests_are : requests l ≡ done
  in_order : InOrder 0 l x
  all : All (λ e. (k : ℕ) → k < e.request.length → ByteDone p a t (e.from + k) e.before e.after) l

-- a byte between two places of the order was done in one round
order_some : (y z : ℕ) (l : List DoneRound) → InOrder y l z → (x : ℕ) → y ≤ x → x < z →
    (e : DoneRound) × Occurs e l × (e.from ≤ x) × (x < e.from + e.request.length)
order_some y z [] f x g h = absurd (omega (arith, f))
order_some y z (i ∷ l) f x g h =
    let q = f.0 in
    by_ltb x (y + i.request.length)
    (λ _ k. (i, record { front = []; back = l; is = refl }, omega (arith, q), omega (arith, q)))
    (λ _ k.
    let (e, o, u, v) = order_some (y + i.request.length) z l f.1 x k h in
    (e, record { front = i ∷ o.front; back = o.back; is = ap (λ l. i ∷ l) o.is }, u, v))

bytes_done : (p : Plan) (h : History) (a : ℕ) (l : List DoneRound) → NotesFit p a (h.core.jobs a).task (h.core.jobs a).processed (h.done a) l →
    BytesDone p h a l
bytes_done p h a l f =
    record {
      requests_are = f.requests_are;
      in_order = f.in_order;
      every = every;
      some = λ x g.
          let (e, o, u, v) = order_some 0 (h.core.jobs a).processed l f.in_order x (omega arith) g in
          let q : e.from + (x - e.from) ≡ x = omega arith in
          (e, o, u, v, subst (λ n. ByteDone p a (h.core.jobs a).task n e.before e.after) q (every e o (x - e.from) (omega arith)));
    }
  where
    every : (e : DoneRound) → Occurs e l → (k : ℕ) → k < e.request.length → ByteDone p a (h.core.jobs a).task (e.from + k) e.before e.after
    every e o =
        all_one (λ e. (k : ℕ) → k < e.request.length → ByteDone p a (h.core.jobs a).task (e.from + k) e.before e.after)
        o.front e o.back (subst (All _) o.is f.all)

-- in every history
abbrev Notes : Plan → History → (ℕ → List DoneRound) → Type 0
Notes p h b = (a : ℕ) → NotesFit p a (h.core.jobs a).task (h.core.jobs a).processed (h.done a) (b a)

module _ (p : Plan) (w : WellFormed p) (h : History) (r : Reachable (layout_of p) (admits p) h.core) (fits : Fits p h) where
  -- byte k of a request lies on its device
  request_device : {a : ℕ} → Placed p h.core a → (k : ℕ) → k < (request_of p h.core a).length →
      byte_device p a (h.core.jobs a).task ((h.core.jobs a).processed + k) ≡ (request_of p h.core a).device
  unfolding layout_of
  request_device {a} g k l =
      let t = (h.core.jobs a).task in
      let x = (h.core.jobs a).processed in
      let (i, y, f) = job_place g.job x g.more in
      let inside = segment_inside p w a t g.job g.cut g.more f in
      let f' : Place p a (t.address.0 + (x + k)) i (y + k) = rw add_assoc at (place_inside p a k f (omega arith)) in
      rw (place_mapped p a f', segment_is p a t x f) refl

  -- a request that is done moves its bytes
  moves : (answers : List DeviceAnswer) (m : Memory) → round_number p m.image m.store ≡ 0 → (d a q : ℕ) → (h.core.devices d).state ≡ Runs a q →
      answer_for answers d ≡ Answers.Done → agrees_due p a (h.core.jobs a) (take_all p answers d (lent m h)).memory ≡ true →
      (k : ℕ) → k < (request_of p h.core a).length →
      ByteDone p a (h.core.jobs a).task ((h.core.jobs a).processed + k) m (call_memory p (round answers m) h m)
  moves answers m accepted d a q runs done agreed k l =
      let cuts : AtCuts p h.core = λ a _. (fits a).cut in
      let first = demand1 p w h r cuts in
      let g = placed p w h.core r cuts runs in
      let known = running_known p w h.core r d a q runs in
      let x = (h.core.jobs a).processed + k in
      let byte = request_byte p w h.core r cuts answers g k l in
      let device = request_device g k l ∙ (running_on r runs).needed in
      let place : window_byte p a x ≡ window_place p a (h.core.jobs a) + k = sym (add_assoc (area_of p.areas a).window.start (h.core.jobs a).processed k) in
      let after = call_memory p (round answers m) h m in
      let unmoved = unmoved_bytes p w h r cuts answers m accepted d a q runs k l in
      record {
        compare = λ e.
            ap (λ n. get_or m.image n 0) byte ∙ sym unmoved.0
            ∙ agreed_compare (h.core.jobs a).task.kind _ _ _ _ e agreed k l ∙ unmoved.1 (ap uses_window e) ∙ ap (λ n. get_or m.store n 0) (sym place);
        blank = λ e. ap (λ n. get_or m.image n 0) byte ∙ sym unmoved.0 ∙ agreed_blank (h.core.jobs a).task.kind _ _ _ _ e agreed k l;
        write = λ e.
            ap (λ n. get_or after.image n 0) byte ∙ write_done p h first answers m accepted d a q known runs done e k l
            ∙ (λ i. written_byte (clears_only p (sym device i)) (get_or m.image (sym byte i) 0) (get_or m.store (sym place i) 0));
        read = λ e.
            ap (λ n. get_or after.store n 0) place ∙ read_done p h first answers m accepted d a q known runs done e k l
            ∙ ap (λ n. get_or m.image n 0) (sym byte);
        erase = λ e. ap (λ n. get_or after.image n 0) byte ∙ erase_done p h first answers m accepted d a q known runs done e k l;
      }

  -- a round
  round_notes : (answers : List DeviceAnswer) (m : Memory) → round_number p m.image m.store ≡ 0 → (a : ℕ) (l : List DoneRound) →
      NotesFit p a (h.core.jobs a).task (h.core.jobs a).processed (h.done a) l → let e = step p (round answers m) h in
      NotesFit p a (e.core.jobs a).task (e.core.jobs a).processed (e.done a) (with_round p (moment_of p h) (round answers m) m a l)
  round_notes answers m accepted a l f = go ((step p (round answers m) h).core.jobs a) ((step p (round answers m) h).done a) (round_done p h r answers m accepted a)
    where
      e : DoneRound
      e = record { request = request_of p h.core a; from = (h.core.jobs a).processed; before = m; after = call_memory p (round answers m) h m }

      go : (j : Job) (done : List Segment) → DoneBy p answers (lent m h) a p.device_count j done →
          NotesFit p a j.task j.processed done (pick (eqb (length done) (length (h.done a))) l (l ++ (e ∷ [])))
      go j done (same t x y) = rw (t, x, y, eq-eqb (length (h.done a)) (length (h.done a)) refl) f
      go j done (more d q g runs z u t x y) =
          let longer : (length (h.done a ++ (request_of p h.core a ∷ [])) ≡ length (h.done a)) → ⊥
          = λ u. absurd (omega (arith, length-append (h.done a) (request_of p h.core a ∷ []))) in
          rw (t, x, y, ne_eqb (length (h.done a ++ (request_of p h.core a ∷ []))) (length (h.done a)) longer)
          (record {
            requests_are = requests_more l e ∙ ap (λ k. k ++ (request_of p h.core a ∷ [])) f.requests_are;
            in_order = order_more 0 (h.core.jobs a).processed l e f.in_order refl;
            all = all_more _ l e f.all (λ k v. moves answers m accepted d a q runs z u k v);
          })

  -- every call
  call_notes : (k : Call) (b : ℕ → List DoneRound) → Notes p h b → Notes p (step p k h) (with_call p (moment_of p h) k b)
  unfolding step with_call submitted begin release cancel
  call_notes (submit c t) b f a =
      by_eqb (job_number p h.core c t) 0
      (λ u _. rw u
      (same_or (λ a. NotesFit p a (upd h.core.jobs c (begun (layout_of p) c t (h.core.jobs c)) a).task
      (upd h.core.jobs c (begun (layout_of p) c t (h.core.jobs c)) a).processed (upd h.done c [] a) (upd b c [] a)) c a
      (simp upd_same (record { requests_are = refl; in_order = refl; all = tt }))
      (λ g. simp upd_other (f a))))
      (λ u _. rw u (f a))
  call_notes (releases c address n) b f a =
      accept_case (λ (e : History). NotesFit p a (e.core.jobs a).task (e.core.jobs a).processed (e.done a) (b a))
      (release_number p h.core c address n) (λ _. f a) (f a)
  call_notes (cancels c) b f a =
      accept_case (λ (e : History). NotesFit p a (e.core.jobs a).task (e.core.jobs a).processed (e.done a) (b a))
      (cancel_number p h.core c) (λ _. go (holds c (h.core.devices (need (layout_of p) c (h.core.jobs c))))) (f a)
    where
      go : (t : Bool) → NotesFit p a ((cancel_if t c h.core).jobs a).task ((cancel_if t c h.core).jobs a).processed (h.done a) (b a)
      go true = upd_case (λ j. NotesFit p a j.task j.processed (h.done a) (b a)) h.core.jobs c a _ (λ e. rw e (f a)) (λ _. f a)
      go false = upd_case (λ j. NotesFit p a j.task j.processed (h.done a) (b a)) h.core.jobs c a _ (λ e. rw e (f a)) (λ _. f a)
  call_notes (asks q) b f a = f a
  call_notes (round answers m) b f a =
      by_eqb (round_number p m.image m.store) 0
      (λ _ e. round_notes answers m e a (b a) (f a))
      (λ u _. rw (u, eq-eqb (length (h.done a)) (length (h.done a)) refl) (f a))

module _ (p : Plan) (w : WellFormed p) where
  -- every list of calls
  run_notes : (cs : List Call) (h : History) (b : ℕ → List DoneRound) →
      ((ds : List Call) → Reachable (layout_of p) (admits p) (run p ds h).core × Fits p (run p ds h)) → Notes p h b → Notes p (run p cs h) (done_rounds p (λ ds. moment_of p (run p ds h)) cs b)
  unfolding run done_rounds
  run_notes [] h b g f = f
  run_notes (k ∷ cs) h b g f = run_notes cs (step p k h) (with_call p (moment_of p h) k b) (λ ds. g (k ∷ ds)) (call_notes p w h (g []).0 (g []).1 k b f)

  start_notes : Notes p fresh_history (λ a. [])
  unfolding fresh_history
  start_notes a = record { requests_are = refl; in_order = refl; all = tt }

  -- from the start
  pub run_bytes : ((cs : List Call) → Reachable (layout_of p) (admits p) (run p cs fresh_history).core × Fits p (run p cs fresh_history)) → (cs : List Call) (a : ℕ) →
      BytesDone p (run p cs fresh_history) a (done_rounds p (rules_run p) cs (λ a. []) a)
  run_bytes g cs a = bytes_done p (run p cs fresh_history) a _ (run_notes cs fresh_history (λ a. []) g start_notes a)
