-- The second half of a round.
use Rattle.std.specs.Prelude.{ℕ, zero, suc, ◌≤◌, ◌<◌, Bool}
use Rattle.std.proofs.Common.{arith}
use Rattle.memory.specs.declared.Task.{Task}
use Rattle.rules.specs.Layout.{Layout}
use Rattle.rules.specs.Machine.{Core, second_half}
use Rattle.rules.proofs.laws.Polls.{PolledOn}
use Rattle.rules.proofs.laws.Laws.{Laws}
use Rattle.rules.proofs.laws.Reachable.{Reachable, passed, passes_on}
use Rattle.rules.proofs.laws.Suspends.{Started}
use Rattle.rules.proofs.laws.SecondHalf.{starts}
use Rattle.rules.proofs.laws.Turns.{same_passes}

-- the devices below n pick
pub second_half_lem : (p : Layout) (admits : ℕ → Task → Bool) (L : Laws p admits) (c : Core) → Reachable p admits c →
    ((d : ℕ) → d < p.devices → PolledOn (c.devices d).state) → (n : ℕ) → n ≤ p.devices →
    Started p admits p.devices n c (second_half p n c)
unfolding second_half
second_half_lem p admits L c r polled zero h =
    record { passes = same_passes p admits p.devices c r; served = λ a i l. absurd (omega arith); polled = λ d _. polled d }
second_half_lem p admits L c r polled (suc n) h =
    let i = second_half_lem p admits L c r polled n (omega arith) in
    let s = starts p admits L n h (second_half p n c) (passed r i.passes) i.served i.polled in
    record { passes = passes_on i.passes s.passes; served = s.served; polled = s.polled }
