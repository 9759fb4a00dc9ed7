use Rattle.std.proofs.Common.{◌-◌, length}
use Rattle.audits.specs.laws.FillLaws.{Filling}
use Rattle.audits.proofs.fill.fill_lines.Given as goal

abbrev pub invariant-loop-place : goal.invariant-loop-place
invariant-loop-place l = Filling l.manager l.input l.fn.place l.initial.page l.page l.place

abbrev pub decreases-loop-place : goal.decreases-loop-place
decreases-loop-place l = length l.input - l.place.next
