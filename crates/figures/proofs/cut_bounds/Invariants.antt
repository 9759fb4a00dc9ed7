use Rattle.std.proofs.Common.{◌-◌, ◌*◌, ◌≤◌, ◌≡◌}
use Rattle.figures.specs.Figures.{device_or_none}
use Rattle.figures.specs.laws.BoundLaws.{bounds_after, all_bounds}
use Rattle.segment.specs.Segments.{segment_at, segments_from}
use Rattle.segment.specs.laws.CutLaws.{Cut}
use Rattle.figures.proofs.cut_bounds.Given as goal

abbrev pub invariant-loop-x : goal.invariant-loop-x
invariant-loop-x l = record {
  within : l.x ≤ l.task.length;
  cut : Cut (segment_at l.plan l.area l.task) l.task l.x;
  bounds : bounds_after l.plan (device_or_none l.last) (segments_from (segment_at l.plan l.area l.task) l.task l.x) l.bounds ≡ all_bounds l.plan (segments_from (segment_at l.plan l.area l.task) l.task 0);
  own : l.bounds.own ≤ 16776960 * l.x;
  below : l.bounds.below ≤ 131068 * l.x;
  segments : l.bounds.segments ≤ l.x;
  spans : l.bounds.spans ≤ l.x;
  few : l.task.length ≤ 4294967295;
}

abbrev pub decreases-loop-x : goal.decreases-loop-x
decreases-loop-x l = l.task.length - l.x
