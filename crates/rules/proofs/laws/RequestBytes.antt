-- What the requests of a round do to image and store, byte by byte.
use Rattle.std.specs.Prelude.{ℕ, suc, ◌+◌, ◌-◌, ◌≤◌, ◌<◌, min, Bool, true, ◌≡◌, refl, length, get_or}
use Rattle.std.proofs.Common.{◌∙◌, arith}
use Rattle.std.proofs.lemmas.List.{length-replicate, get_or-replicate}
use Rattle.arith.specs.Listed.{listed_at, length_listed}
use Rattle.arith.specs.Parts.{part_at, length_part}
use Rattle.memory.specs.declared.DeviceAnswer.{DeviceAnswer}
use Rattle.memory.specs.declared.DeviceAnswer.TheVariants as Answers
use Rattle.memory.specs.declared.JobType.{JobType}
use Rattle.memory.specs.declared.JobType.TheVariants.{NoJob, Write, Read, Compare, Erase, BlankCheck, Lock}
use Rattle.plan.specs.WellFormed.{Among}
use Rattle.rules.specs.Admission.{uses_window}
use Rattle.rules.proofs.laws.Changes.{Change, Within, Made, MadeAll, made_none, made_put, made_same, all_more}
use Rattle.rules.specs.Memory.{Memory, written_byte, written, image_after, store_after, answered_memory}
use Rattle.rules.specs.statements.Reach.{image_bytes, window_bytes, acted_bytes, brought_bytes, acted_byte}

-- a request: `length` bytes from `start` on of the image, and from `place` on of the store
pub record Request : Type 0 where
  -- is its device one that only clears bits?
  pub clears : Bool
  pub kind : JobType
  pub start : ℕ
  pub place : ℕ
  pub length : ℕ

-- what it does there with an answer
abbrev pub answered : DeviceAnswer → Request → Memory → Memory
answered x r m = answered_memory r.clears x r.kind r.start r.place r.length m

-- the change to the image, read from memory m
abbrev pub image_change : DeviceAnswer → Request → Memory → Change
image_change x r m =
    record {
      start = r.start;
      count = acted_bytes x r.kind r.length;
      value = λ i. acted_byte r.clears r.kind (get_or m.image i 0) (get_or m.store (r.place + (i - r.start)) 0);
    }

-- the change to the store, read from memory m
abbrev pub store_change : DeviceAnswer → Request → Memory → Change
store_change x r m =
    record {
      start = r.place;
      count = brought_bytes x r.kind r.length;
      value = λ i. get_or m.image (r.start + (i - r.place)) 0;
    }

-- its bytes are bytes of image and store
pub record Fits (m : Memory) (r : Request) : Type 0 where
  pub image : r.start + r.length ≤ length m.image
  pub store : uses_window r.kind ≡ true → r.place + r.length ≤ length m.store

-- two requests have no byte of image or store in common
pub record Apart (q r : Request) : Type 0 where
  pub image : (x : ℕ) → Among q.start q.length x → Among r.start r.length x → ⊥
  pub store : uses_window q.kind ≡ true → uses_window r.kind ≡ true → (x : ℕ) →
      Among q.place q.length x → Among r.place r.length x → ⊥

-- what a write of n bytes at s leaves in byte i of the image
written_at : (c : Bool) (s w n : ℕ) (m : Memory) (i : ℕ) → Among s n i →
    get_or (written c s w n m) (i - s) 0 ≡ written_byte c (get_or m.image i 0) (get_or m.store (w + (i - s)) 0)
written_at c s w n m i u =
    let old : s + (0 + (i - s)) ≡ i = omega arith in
    let new : w + (0 + (i - s)) ≡ w + (i - s) = omega arith in
    listed_at 0 (λ j. written_byte c (get_or m.image (s + j) 0) (get_or m.store (w + j) 0)) 0 n (i - s) (omega arith)
    ∙ (λ j. written_byte c (get_or m.image (old j) 0) (get_or m.store (new j) 0))

-- what a done request of n bytes does to the image, as a change
image_after_lem : (c : Bool) (k : JobType) (s w n : ℕ) (m : Memory) → s + n ≤ length m.image →
    Made (record { start = s; count = image_bytes k n; value = λ i. acted_byte c k (get_or m.image i 0) (get_or m.store (w + (i - s)) 0) })
    m.image (image_after c k s w n m)
image_after_lem c Write s w n m h = made_put _ n _ m.image (length_listed _ 0 n) refl h (written_at c s w n m)
image_after_lem c Erase s w n m h =
    made_put _ n _ m.image (length-replicate n 255) refl h (λ i u. get_or-replicate n (i - s) 255 0 (omega arith))
image_after_lem c Read s w n m h = made_none _ m.image refl
image_after_lem c Compare s w n m h = made_none _ m.image refl
image_after_lem c BlankCheck s w n m h = made_none _ m.image refl
image_after_lem c Lock s w n m h = made_none _ m.image refl
image_after_lem c NoJob s w n m h = made_none _ m.image refl

-- and to the store
store_after_lem : (k : JobType) (s w n : ℕ) (m : Memory) → s + n ≤ length m.image → (uses_window k ≡ true → w + n ≤ length m.store) →
    Made (record { start = w; count = window_bytes k n; value = λ i. get_or m.image (s + (i - w)) 0 }) m.store (store_after k s w n m)
store_after_lem Read s w n m h g =
    made_put _ n _ m.store (length_part s n m.image h) refl (g refl) (λ i u. part_at 0 s n m.image (i - w) (omega arith))
store_after_lem Write s w n m h g = made_none _ m.store refl
store_after_lem Erase s w n m h g = made_none _ m.store refl
store_after_lem Compare s w n m h g = made_none _ m.store refl
store_after_lem BlankCheck s w n m h g = made_none _ m.store refl
store_after_lem Lock s w n m h g = made_none _ m.store refl
store_after_lem NoJob s w n m h g = made_none _ m.store refl

-- with any answer, a request makes the one change to the image
pub image_made : (x : DeviceAnswer) (r : Request) (m : Memory) → Fits m r → Made (image_change x r m) m.image (answered x r m).image
image_made Answers.Pending r m f = made_none _ m.image refl
image_made Answers.Done r m f = image_after_lem r.clears r.kind r.start r.place r.length m f.image
image_made (Answers.Failed b) r m f = image_after_lem r.clears r.kind r.start r.place (min b r.length) m (omega (arith, f.image))

-- and the other to the store
pub store_made : (x : DeviceAnswer) (r : Request) (m : Memory) → Fits m r → Made (store_change x r m) m.store (answered x r m).store
store_made Answers.Pending r m f = made_none _ m.store refl
store_made Answers.Done r m f = store_after_lem r.kind r.start r.place r.length m f.image f.store
store_made (Answers.Failed b) r m f = made_none _ m.store refl

-- a job type acts on no more than the request's bytes
image_few : (k : JobType) (n : ℕ) → image_bytes k n ≤ n
image_few Write n = omega arith
image_few Erase n = omega arith
image_few Read n = omega arith
image_few Compare n = omega arith
image_few BlankCheck n = omega arith
image_few Lock n = omega arith
image_few NoJob n = omega arith

-- with any answer
acted_few : (x : DeviceAnswer) (k : JobType) (n : ℕ) → acted_bytes x k n ≤ n
acted_few Answers.Pending k n = omega arith
acted_few Answers.Done k n = image_few k n
acted_few (Answers.Failed b) k n = omega (arith, image_few k (min b n))

-- an image byte that a request acts on is one of its own
pub image_own : (x : DeviceAnswer) (r : Request) (i : ℕ) → Among r.start (acted_bytes x r.kind r.length) i → Among r.start r.length i
image_own x r i w = omega (arith, acted_few x r.kind r.length)

-- a job type that brings bytes uses the window, and brings no more than the request's bytes
window_few : (k : JobType) (n i : ℕ) → i < window_bytes k n → (uses_window k ≡ true) × (i < n)
window_few Read n i h = (refl, h)
window_few Write n i h = absurd (omega arith)
window_few Erase n i h = absurd (omega arith)
window_few Compare n i h = absurd (omega arith)
window_few BlankCheck n i h = absurd (omega arith)
window_few Lock n i h = absurd (omega arith)
window_few NoJob n i h = absurd (omega arith)

-- with any answer
brought_few : (x : DeviceAnswer) (k : JobType) (n i : ℕ) → i < brought_bytes x k n → (uses_window k ≡ true) × (i < n)
brought_few Answers.Pending k n i h = absurd (omega arith)
brought_few Answers.Done k n i h = window_few k n i h
brought_few (Answers.Failed b) k n i h = absurd (omega arith)

-- a window byte that a request brings is one of its own
pub store_own : (x : DeviceAnswer) (r : Request) (i : ℕ) → Among r.place (brought_bytes x r.kind r.length) i →
    (uses_window r.kind ≡ true) × Among r.place r.length i
store_own x r i w =
    let f = brought_few x r.kind r.length (i - r.place) (omega arith) in
    (f.0, (w.0, omega arith))

-- an image byte becomes the same where it was the same and the window has the same byte
same_byte : (c : Bool) (k : JobType) (o u a b : ℕ) → o ≡ u → (uses_window k ≡ true → a ≡ b) → acted_byte c k o a ≡ acted_byte c k u b
same_byte c Write o u a b e f = λ i. written_byte c (e i) (f refl i)
same_byte c Erase o u a b e f = refl
same_byte c Read o u a b e f = refl
same_byte c Compare o u a b e f = refl
same_byte c BlankCheck o u a b e f = refl
same_byte c Lock o u a b e f = refl
same_byte c NoJob o u a b e f = refl

-- From memory m to m': the requests of the devices below n have been answered. What they change is said by m alone.
pub record After (r : ℕ → Request) (answer : ℕ → DeviceAnswer) (m : Memory) (n : ℕ) (m' : Memory) : Type 0 where
  pub image : MadeAll (λ d. image_change (answer d) (r d) m) n m.image m'.image
  pub store : MadeAll (λ d. store_change (answer d) (r d) m) n m.store m'.store

module _ (r : ℕ → Request) (answer : ℕ → DeviceAnswer) (m : Memory)
    (fits : (d : ℕ) → Fits m (r d)) (apart : (d e : ℕ) → (d ≡ e → ⊥) → Apart (r d) (r e)) (n : ℕ) where
  -- an image byte of device n's request is acted on by no device before it
  image_free : (i : ℕ) → Among (r n).start (r n).length i → (d : ℕ) → d < n → Within (image_change (answer d) (r d) m) i → ⊥
  image_free i own d h w = (apart d n (λ e. omega arith)).image i (image_own (answer d) (r d) i w) own

  -- a window byte is brought by none
  store_free : uses_window (r n).kind ≡ true → (i : ℕ) → Among (r n).place (r n).length i → (d : ℕ) → d < n →
      Within (store_change (answer d) (r d) m) i → ⊥
  store_free e i own d h w =
      let f = store_own (answer d) (r d) i w in
      (apart d n (λ q. omega arith)).store f.0 e i f.1 own

  module _ (m' : Memory) (a : After r answer m n m') where
    -- its bytes are still bytes of image and store
    fits_on : Fits m' (r n)
    fits_on =
        record {
          image = omega (arith, (fits n).image, a.image.same_length);
          store = λ e. omega (arith, (fits n).store e, a.store.same_length);
        }

    -- it finds its image and window bytes as they were
    same_image : (i : ℕ) → Within (image_change (answer n) (r n) m) i →
        (image_change (answer n) (r n) m').value i ≡ (image_change (answer n) (r n) m).value i
    same_image i w =
        let own = image_own (answer n) (r n) i w in
        same_byte (r n).clears (r n).kind _ _ _ _ (a.image.outside i (image_free i own)) (λ e. a.store.outside _ (store_free e _ (omega arith)))

    -- the same for what it brings to the store
    same_store : (i : ℕ) → Within (store_change (answer n) (r n) m) i →
        (store_change (answer n) (r n) m').value i ≡ (store_change (answer n) (r n) m).value i
    same_store i w =
        let own = (store_own (answer n) (r n) i w).1 in
        a.image.outside _ (image_free _ (omega arith))

    -- one request more is answered
    pub after_more : After r answer m (suc n) (answered (answer n) (r n) m')
    after_more =
        record {
          image =
              all_more
              (λ d h i w v. image_free i (image_own (answer n) (r n) i v) d h w)
              a.image
              (made_same _ same_image (image_made (answer n) (r n) m' fits_on));
          store =
              all_more
              (λ d h i w v. let own = store_own (answer n) (r n) i v in store_free own.0 i own.1 d h w)
              a.store
              (made_same _ same_store (store_made (answer n) (r n) m' fits_on));
        }
