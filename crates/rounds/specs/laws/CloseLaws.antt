-- The close of a round, as the code goes.
use Rattle.std.specs.Prelude.{ℕ, ◌+◌, ◌≤◌, ◌<◌, List, [], ◌≡◌, refl, length, get_or, set}
use Rattle.std.proofs.Common.{ap, ◌∙◌, length-set, arith}
use Rattle.arith.specs.Parts.{upd_case}
use Rattle.arith.specs.Tables.{table_whole}
use Rattle.devices.specs.laws.ArrayLaws.{view_set}
use Rattle.devices.specs.Arrays.{job_in, state_in, core_in}
use Rattle.plan.specs.declared.records.AreaRecord.{AreaRecord}
use Rattle.rules.specs.Layout.{Layout}
use Rattle.rules.specs.Machine as Machine
use Rattle.rules.specs.Machine.{Core}
use Rattle.state.specs.Fresh.{fresh_area}
use Rattle.state.specs.declared.Area.{Area}
use Rattle.state.specs.declared.Device.{Device}
use Rattle.state.specs.declared.DeviceState.{DeviceState}
use Rattle.state.specs.declared.DeviceState.TheVariants.{Free, Runs, LockedFor}
use Rattle.close.specs.Close.{closed, waits_in, area_after, areas_after}
use Rattle.close.specs.laws.Waits.{needs_layout, rank_layout, closed_area}

-- what a job waits for, by the layout with the needs
wait_same : (records : List AreaRecord) (ages needs : List ℕ) (a : ℕ) (x : DeviceState) →
    Machine.wait_on (rank_layout records ages) a x ≡ Machine.wait_on (needs_layout records ages 0 [] needs) a x
unfolding Machine.wait_behind needs_layout
wait_same records ages needs a Free = refl
wait_same records ages needs a (LockedFor b) = refl
wait_same records ages needs a (Runs b polls) = refl

pub close_turn : (records : List AreaRecord) (ages needs : List ℕ) (before after : List Area) (devices : List Device) (a : ℕ) (x : DeviceState) →
    x ≡ state_in devices (get_or needs a 0) →
    closed_area records ages a (get_or before a fresh_area) (get_or after a fresh_area) x ≡ area_after (needs_layout records ages 0 [] needs) before (core_in after devices) a
unfolding needs_layout
close_turn records ages needs before after devices a x e =
    ap (λ k. record { job = job_in after a; waits = closed (Machine.is_pending (job_in before a)) (Machine.is_pending (job_in after a)) k (waits_in before a) })
    (ap (Machine.wait_on (rank_layout records ages) a) e ∙ wait_same records ages needs a (state_in devices (get_or needs a 0)))

-- the first n areas are closed, in their place; the others are as the halves left them
abbrev pub ClosedTo : (ℕ → Area) → List Area → ℕ → List Area → Type 0
ClosedTo f after n l =
    (length l ≡ 8) × ((k : ℕ) → k < n → get_or l k fresh_area ≡ f k) × ((k : ℕ) → n ≤ k → get_or l k fresh_area ≡ get_or after k fresh_area)

pub closed_none : (f : ℕ → Area) (after : List Area) → length after ≡ 8 → ClosedTo f after 0 after
closed_none f after e = (e, λ k h. absurd (omega arith), λ k h. refl)

-- one area more
closed_more : (f : ℕ → Area) (after : List Area) (n : ℕ) (l : List Area) (x : Area) → n < 8 → x ≡ f n → ClosedTo f after n l → ClosedTo f after (n + 1) (set l n x)
closed_more f after n l x h e c = (
  rw length-set c.0,
  λ k m. view_set (λ y. y) l fresh_area n x (omega (arith, c.0)) k
      ∙ upd_case (λ y. y ≡ f k) (λ i. get_or l i fresh_area) n k x (λ same. e ∙ ap f same) (λ apart. c.1 k (omega (arith, apart))),
  λ k m. view_set (λ y. y) l fresh_area n x (omega (arith, c.0)) k
      ∙ upd_case (λ y. y ≡ get_or after k fresh_area) (λ i. get_or l i fresh_area) n k x (λ same. absurd (omega (arith, same))) (λ _. c.2 k (omega arith)),
)

-- a turn of the loop over the areas
pub closed_turn : (records : List AreaRecord) (ages needs : List ℕ) (before after : List Area) (devices : List Device) (a : ℕ) (l : List Area) →
    ClosedTo (area_after (needs_layout records ages 0 [] needs) before (core_in after devices)) after a l → a < 8 →
    (x : DeviceState) → x ≡ state_in devices (get_or needs a 0) → (r : Area) → r ≡ closed_area records ages a (get_or before a fresh_area) (get_or l a fresh_area) x →
    ClosedTo (area_after (needs_layout records ages 0 [] needs) before (core_in after devices)) after (a + 1) (set l a r)
closed_turn records ages needs before after devices a l c h x e r f =
    closed_more (area_after (needs_layout records ages 0 [] needs) before (core_in after devices)) after a l r h
    (f ∙ ap (λ y. closed_area records ages a (get_or before a fresh_area) y x) (c.2 a (omega arith)) ∙ close_turn records ages needs before after devices a x e) c

-- all are closed
pub closed_all : (p : Layout) (before after : List Area) (c : Core) (a : ℕ) (l : List Area) → a ≡ 8 → ClosedTo (area_after p before c) after a l → l ≡ areas_after p before c
unfolding areas_after
closed_all p before after c a l e h = table_whole 8 (area_after p before c) fresh_area l h.0 (λ k m. h.1 k (omega (arith, e)))
