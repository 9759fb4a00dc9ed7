-- Demand 1 holds in every reachable state.
use Prim.Native.Nat.{ℕ, zero, suc, ◌+◌, ◌-◌, ◌≤◌, ◌<◌}
use Rattle.std.specs.Prelude.{false, List, ◌≢◌, ◌≡◌, refl, eqb}
use Rattle.std.proofs.Common.{true≢false, ap, ◌∙◌, le_refl, arith, ne_eqb}
use Rattle.std.proofs.Math.Path.{sym, subst}
use Rattle.std.proofs.Math.ListN.{get_or}
use Rattle.arith.specs.Cases.{pick}
use Rattle.arith.specs.Listed.{listed_at}
use Rattle.memory.specs.declared.DeviceAnswer.{DeviceAnswer}
use Rattle.memory.specs.declared.DeviceAnswer.TheVariants as Answers
use Rattle.plan.specs.Questions.{area_of}
use Rattle.plan.specs.WellFormed.{Among, WellFormed}
use Rattle.plan.specs.declared.records.Plan.{Plan}
use Rattle.segment.specs.Bytes.{bytes_of, mapped_byte, mapped_bytes}
use Rattle.segment.specs.laws.BytesLaws.{segment_bytes}
use Rattle.segment.specs.declared.Segment.{Segment}
use Rattle.state.specs.declared.DeviceState.TheVariants.{Runs}
use Rattle.rules.specs.Admission.{round_number, admits}
use Rattle.rules.proofs.laws.Changes.{Change, Within, MadeAll, Spared, spared_none, spared_more, changed_by}
use Rattle.rules.specs.History.{Call, submit, releases, cancels, asks, round, History, step}
use Rattle.rules.specs.Layout.{layout_of}
use Rattle.rules.specs.Machine.{Core}
use Rattle.rules.specs.Memory.{Memory}
use Rattle.rules.specs.statements.Reach.{acted_bytes, brought_bytes, request_of, round_memory, ImageActed, image_value, StoreActed, store_value}
use Rattle.rules.specs.Answers.{call_number, call_memory, is_round}
use Rattle.rules.proofs.laws.Reachable.{Reachable}
use Rattle.rules.proofs.laws.RequestBytes.{Request, answered, Fits, image_change, store_change, image_made, store_made, image_own, store_own, After}
use Rattle.rules.proofs.laws.Requests.{AtCuts, request_for, request_on, request_at, empty_request, request_fits_lem, Placed, placed, by_request}
use Rattle.rules.specs.Round.{answer_for, take_all, round_halves}
use Rattle.rules.specs.statements.Moments.{moment_of}
use Rattle.rules.specs.statements.Statements.{RoundInside, RoundChanges, Unchanged, Demand1}
use Rattle.rules.proofs.laws.TakeLaws.{Alone, turn_memory_lem, reached_alone, taken}

-- a number that is not 0 picks what was before
pub pick_refused : {A : Type 0} (n : ℕ) (x y : A) → n ≢ 0 → pick (eqb n 0) x y ≡ y
pick_refused n x y f = rw (ne_eqb n 0 f)

-- "a refused call leaves [..] manager as they were"
refused_keeps : (p : Plan) (k : Call) (h : History) → call_number p k h ≢ 0 → step p k h ≡ h
unfolding step
refused_keeps p (submit a t) h f = pick_refused _ _ h f
refused_keeps p (releases a address n) h f = pick_refused _ _ h f
refused_keeps p (cancels a) h f = pick_refused _ _ h f
refused_keeps p (asks q) h f = refl
refused_keeps p (round answers m) h f = pick_refused _ _ h f

-- a call that is no round leaves image and store
other_memory : (p : Plan) (k : Call) (h : History) (m : Memory) → is_round k ≡ false → call_memory p k h m ≡ m
other_memory p (submit a t) h m e = refl
other_memory p (releases a address n) h m e = refl
other_memory p (cancels a) h m e = refl
other_memory p (asks q) h m e = refl
other_memory p (round answers n) h m e = absurd (true≢false e)

-- where device d runs area a, the changes made are those of area a's request too
made_by : (p : Plan) (c : Core) (change : ℕ → Request → Change) (n : ℕ) (l l' : List ℕ) → MadeAll (λ d. change d (request_at p c d)) n l l' →
    (d a q x : ℕ) → d < n → (c.devices d).state ≡ Runs a q → Within (change d (request_for p d a (c.jobs a))) x →
    get_or l' x 0 ≡ (change d (request_for p d a (c.jobs a))).value x
made_by p c change n l l' all d a q x h e =
    subst (λ s. Within (change d (request_on p d s c.jobs)) x → get_or l' x 0 ≡ (change d (request_on p d s c.jobs)).value x) e (all.inside d h x)

module _ (p : Plan) (c : Core) (answers : List DeviceAnswer) where
  -- the bytes that device d's request changes are bytes that it acts on
  image_by : (m : Memory) (d x : ℕ) → d < p.device_count → Within (image_change (answer_for answers d) (request_at p c d) m) x →
      ImageActed p c answers x d
  image_by m d x h =
      by_request p c (λ r. Within (image_change (answer_for answers d) r m) x → ImageActed p c answers x d) d
      (λ u. absurd (omega (arith, image_own (answer_for answers d) empty_request x u)))
      (λ a q e u. record { known = h; area = a; polls = q; runs = e; inside = u })

  -- the same for the store
  store_by : (m : Memory) (d x : ℕ) → d < p.device_count → Within (store_change (answer_for answers d) (request_at p c d) m) x →
      StoreActed p c answers x d
  store_by m d x h =
      by_request p c (λ r. Within (store_change (answer_for answers d) r m) x → StoreActed p c answers x d) d
      (λ u. absurd (omega (arith, (store_own (answer_for answers d) empty_request x u).1)))
      (λ a q e u. record { known = h; area = a; polls = q; runs = e; inside = u })

  -- "inside requests that the round finishes": the answer to a request that acts on an image byte is not pending
  image_finished : (x d : ℕ) → ImageActed p c answers x d → answer_for answers d ≢ Answers.Pending
  image_finished x d h e = omega (arith, ap (λ y. acted_bytes y (c.jobs h.area).task.kind (request_of p c h.area).length) e)

  -- the same for the store
  store_finished : (x d : ℕ) → StoreActed p c answers x d → answer_for answers d ≢ Answers.Pending
  store_finished x d h e = omega (arith, ap (λ y. brought_bytes y (c.jobs h.area).task.kind (request_of p c h.area).length) e)

-- In any state in which no two devices run one area, and whose requests lie inside image and store: the bytes outside of the requests that are answered stay.
module _ (p : Plan) (c : Core) (alone : Alone p.device_count c) (m : Memory) (fits : (d : ℕ) → d < p.device_count → Fits m (request_at p c d))
    (answers : List DeviceAnswer) (done : ℕ → List Segment) where
  record Bytes (n : ℕ) (m' : Memory) : Type 0 where
    image : Spared (λ d. image_change (answer_for answers d) (request_at p c d) m) n m.image m'.image
    store : Spared (λ d. store_change (answer_for answers d) (request_at p c d) m) n m.store m'.store

  -- device n's request is answered
  bytes_more : (n : ℕ) (m' : Memory) → n < p.device_count → Bytes n m' → Bytes (suc n) (answered (answer_for answers n) (request_at p c n) m')
  bytes_more n m' l b =
      let here : Fits m' (request_at p c n)
      = record {
        image = omega (arith, (fits n l).image, b.image.same_length);
        store = λ e. omega (arith, (fits n l).store e, b.store.same_length);
      } in
      record {
        image = spared_more _ b.image (image_made (answer_for answers n) (request_at p c n) m' here);
        store = spared_more _ b.store (store_made (answer_for answers n) (request_at p c n) m' here);
      }

  bytes_to : (n : ℕ) → n ≤ p.device_count → Bytes n (take_all p answers n (record { core = c; memory = m; done = done })).memory
  unfolding take_all
  bytes_to zero l = record { image = spared_none _ _; store = spared_none _ _ }
  bytes_to (suc n) l = subst (Bytes (suc n)) (sym (turn_memory_lem p c alone answers m done n (omega arith))) (bytes_more n _ (omega arith) (bytes_to n (omega arith)))

  -- what the round may change
  pub round_inside : RoundInside p c answers m (round_memory p c answers m done)
  round_inside =
      let b = bytes_to p.device_count (le_refl p.device_count) in
      record {
        image_length = b.image.same_length;
        store_length = b.store.same_length;
        image_changed = λ x f. let (d, h, u) = changed_by b.image x f in (d, image_by p c answers m d x h u);
        store_changed = λ x f. let (d, h, u) = changed_by b.store x f in (d, store_by p c answers m d x h u);
        image_finished = image_finished p c answers;
        store_finished = store_finished p c answers;
      }

module _ (p : Plan) (w : WellFormed p) (c : Core) (reach : Reachable (layout_of p) (admits p) c) (cuts : AtCuts p c)
    (answers : List DeviceAnswer) where
  -- byte k of a request is the mapped byte that lies k behind the processed ones
  pub request_byte : {a : ℕ} → Placed p c a → (k : ℕ) → k < (request_of p c a).length →
      mapped_byte p a (c.jobs a).task ((c.jobs a).processed + k) ≡ (request_of p c a).start.0 + k
  unfolding layout_of bytes_of mapped_bytes
  request_byte {a} g k h =
      sym (listed_at 0 _ (c.jobs a).processed _ k h)
      ∙ sym (ap (λ l. get_or l k 0) (segment_bytes p w a (c.jobs a).task g.job g.cut g.more))
      ∙ listed_at 0 (λ i. i) _ _ k h

  -- "Which bytes can an update job reach": of the image, the job's mapped bytes
  image-reach : (x d : ℕ) (h : ImageActed p c answers x d) →
      (k : ℕ) × (k < (c.jobs h.area).task.length) × (mapped_byte p h.area (c.jobs h.area).task k ≡ x)
  image-reach x d h =
      let a = h.area in
      let g = placed p w c reach cuts h.runs in
      let own = image_own (answer_for answers d) (request_for p d a (c.jobs a)) x h.inside in
      let k = x - (request_of p c a).start.0 in
      ((c.jobs a).processed + k, omega (arith, g.good.length_most), omega (arith, request_byte g k (omega arith)))

  -- of the store, the part of its window that is as long as the job
  store_reach : (x d : ℕ) (h : StoreActed p c answers x d) →
      Among (area_of p.areas h.area).window.start (c.jobs h.area).task.length x
      × ((c.jobs h.area).task.length ≤ (area_of p.areas h.area).window.length)
  store_reach x d h =
      let g = placed p w c reach cuts h.runs in
      let own = store_own (answer_for answers d) (request_for p d h.area (c.jobs h.area)) x h.inside in
      (omega (arith, g.good.length_most, own.1), g.window own.0)

  module _ (m : Memory) (accepted : round_number p m.image m.store ≡ 0) (done : ℕ → List Segment) where
    -- the round makes the changes of all devices' requests
    round_after : After (request_at p c) (answer_for answers) m p.device_count (round_memory p c answers m done)
    round_after = taken p w c reach cuts answers m accepted done p.device_count (le_refl p.device_count)

    -- an image byte that is acted on becomes what the rules say
    image_acted : (x d : ℕ) (h : ImageActed p c answers x d) → get_or (round_memory p c answers m done).image x 0 ≡ image_value p c m d h.area x
    image_acted x d h =
        made_by p c (λ e r. image_change (answer_for answers e) r m) _ _ _ round_after.image d h.area h.polls x h.known h.runs h.inside

    -- a store byte that is acted on becomes what the rules say
    store_acted : (x d : ℕ) (h : StoreActed p c answers x d) → get_or (round_memory p c answers m done).store x 0 ≡ store_value p c m h.area x
    store_acted x d h =
        made_by p c (λ e r. store_change (answer_for answers e) r m) _ _ _ round_after.store d h.area h.polls x h.known h.runs h.inside

    -- an accepted round, with all of this
    round_changes : RoundChanges p c answers m (round_memory p c answers m done)
    round_changes =
        record {
          inside =
              round_inside p c (reached_alone p w c reach cuts answers m accepted done) m (λ d _. request_fits_lem p w c reach cuts m accepted d)
              answers done;
          image_acted = image_acted;
          store_acted = store_acted;
          image-reach = image-reach;
          store_reach = store_reach;
        }

-- in every state
pub unchanged : (p : Plan) (h : History) → Unchanged (moment_of p h)
unchanged p h =
    record {
      other_calls = λ k m e. other_memory p k h m e;
      refused = λ k f. refused_keeps p k h f;
      refused_round = λ answers m f. pick_refused (round_number p m.image m.store) _ m f;
    }

-- demand 1
pub demand1 : (p : Plan) → WellFormed p → (h : History) → Reachable (layout_of p) (admits p) h.core → AtCuts p h.core → Demand1 p (moment_of p h)
unfolding round_halves
demand1 p w h reach cuts =
    record {
      unchanged = unchanged p h;
      rounds = λ answers m e. rw e (round_changes p w h.core reach cuts answers m e h.done);
    }
