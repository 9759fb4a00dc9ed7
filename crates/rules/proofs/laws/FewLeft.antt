-- What lower requests can still take of an area.
use Rattle.std.specs.Prelude.{ℕ, ◌+◌, ◌-◌, ◌≤◌, true, Option, None, Some}
use Rattle.std.proofs.Common.{arith}
use Rattle.arith.specs.Cases.{by_bool}
use Rattle.segment.specs.Segments.{span_most}
use Rattle.state.specs.declared.Job.{Job}
use Rattle.state.specs.declared.SuspendedErase.{SuspendedErase}
use Rattle.rules.specs.Layout.{Layout, most_below}
use Rattle.rules.proofs.laws.Potential.{if_below, low_left, by_behind}
use Rattle.rules.proofs.laws.Reachable.{SuspendedFits}

-- a suspended erase has a poll
pub low_few : (p : Layout) (jobs : ℕ → Job) (d a : ℕ) (s : Option SuspendedErase) → SuspendedFits p jobs d s →
    (p.limit d - 1) + low_left p a (p.limit d) s ≤ most_below p d
low_few p jobs d a None f = by_bool (p.suspends d) (λ e. rw e (omega arith)) (λ e. rw e (omega arith))
low_few p jobs d a (Some s) f =
    rw f.can
    (by_behind (λ w. (p.limit d - 1) + if_below w (p.limit d - s.polls) ≤ span_most true (p.limit d)) p a s.area
    (λ _. omega arith)
    (λ _ _. omega arith)
    (λ _ _. let h = f.polled in omega arith))
