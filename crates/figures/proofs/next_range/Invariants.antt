use Rattle.std.proofs.Common.{◌+◌, ◌-◌, ◌≤◌, ◌<◌, ◌≡◌}
use Rattle.figures.specs.Ranges.{ranges_after, ranges_of}
use Rattle.segment.specs.Segments.{segment_at, segments_from}
use Rattle.segment.specs.laws.CutLaws.{Cut}
use Rattle.figures.proofs.next_range.Given as goal

abbrev pub invariant-loop-next : goal.invariant-loop-next
invariant-loop-next l = record {
  further : l.x < l.next;
  within : l.next ≤ l.task.length;
  cut : Cut (segment_at l.plan l.area l.task) l.task l.next;
  ranges : ranges_of (segments_from (segment_at l.plan l.area l.task) l.task l.x) ≡ ranges_after l.range (segments_from (segment_at l.plan l.area l.task) l.task l.next);
  some : 1 ≤ l.range.length;
  inside : l.range.start + l.range.length ≤ 16777216;
  few : l.task.length ≤ 4294967295;
}

abbrev pub decreases-loop-next : goal.decreases-loop-next
decreases-loop-next l = l.task.length - l.next
