-- The close of a round, as the code goes: what an area waits for.
use Rattle.std.specs.Prelude.{ℕ, ◌≤◌, true, false, List, [], ◌≡◌, length, get_or, Option, None, Some}
use Rattle.std.proofs.Common.{sym, ap, eq-eqb, ne_eqb, arith}
use Rattle.std.proofs.Math.ListN.{get_or-eq_default}
use Rattle.plan.specs.Questions.{area_of, device_of}
use Rattle.plan.specs.Records.{no_area}
use Rattle.plan.specs.declared.records.AreaRecord.{AreaRecord}
use Rattle.plan.specs.declared.records.DeviceRecord.{DeviceRecord}
use Rattle.rules.specs.Layout.{Layout}
use Rattle.rules.specs.Machine as Machine
use Rattle.rules.specs.Ranks.{rank_above, ranks_above}
use Rattle.segment.specs.Segments.{no_segment}
use Rattle.state.specs.Ages.{age_in}
use Rattle.state.specs.declared.Area.{Area}
use Rattle.state.specs.declared.DeviceState.{DeviceState}
use Rattle.close.specs.Close.{closed}
use Rattle.close.specs.declared.Wait.{Wait}
use Rattle.close.specs.declared.Wait.TheVariants as Waiting

-- what the second half and the close ask of a plan, with the devices that the jobs need in the place of the segments
unfoldable pub needs_layout : List AreaRecord → List ℕ → ℕ → List DeviceRecord → List ℕ → Layout
needs_layout records ages count holders needs =
    record {
      areas = count;
      devices = 4;
      limit = λ d. 0;
      suspends = λ d. (device_of holders d).suspends;
      outranks = ranks_above (λ a. (area_of records a).priority) (age_in ages);
      segment = λ a t x. record { start = no_segment.start; length = 0; device = get_or needs a 0; retries = 0; sub_area = 0; sector = 0 };
    }

abbrev pub wait_is : Option Wait → Machine.Wait
wait_is None = Machine.none
wait_is (Some Waiting.Own) = Machine.own
wait_is (Some Waiting.Above) = Machine.above
wait_is (Some Waiting.Below) = Machine.below
wait_is (Some Waiting.Locked) = Machine.locked

-- what the rank of areas asks of a plan
abbrev pub rank_layout : List AreaRecord → List ℕ → Layout
rank_layout records ages = needs_layout records ages 0 [] []

-- an area when the round closes, by the state of the device that its job needs
abbrev pub closed_area : List AreaRecord → List ℕ → ℕ → Area → Area → DeviceState → Area
closed_area records ages a before after x =
    record {
      job = after.job;
      waits = closed (Machine.is_pending before.job) (Machine.is_pending after.job) (Machine.wait_on (rank_layout records ages) a x) before.waits;
    }

-- an area that the plan's array has no record of
pub no_priority : (records : List AreaRecord) (a n : ℕ) → length records ≡ n → n ≤ a → 0 ≡ (area_of records a).priority
no_priority records a n e h = sym (ap (λ x. x.priority) (get_or-eq_default records no_area (omega (arith, e, h))))

module _ (records : List AreaRecord) (ages : List ℕ) (a b : ℕ) where
  pub behind_own : b ≡ a → Machine.own ≡ Machine.wait_behind (rank_layout records ages) a b
  unfolding Machine.wait_behind
  behind_own e = rw (eq-eqb b a e)

  module _ (other : b ≡ a → ⊥) (p q : ℕ) (is : p ≡ (area_of records b).priority) (at : q ≡ (area_of records a).priority)
      (x y : ℕ) (old : x ≡ age_in ages b) (young : y ≡ age_in ages a) where
    pub behind_above : rank_above p x q y ≡ true → Machine.above ≡ Machine.wait_behind (rank_layout records ages) a b
    unfolding Machine.wait_behind needs_layout
    behind_above e = rw (ne_eqb b a other, ← is, ← at, ← old, ← young, e)

    pub behind_below : rank_above p x q y ≡ false → Machine.below ≡ Machine.wait_behind (rank_layout records ages) a b
    unfolding Machine.wait_behind needs_layout
    behind_below e = rw (ne_eqb b a other, ← is, ← at, ← old, ← young, e)
