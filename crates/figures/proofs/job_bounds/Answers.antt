use Rattle.std.proofs.Common.{◌≡◌, sym, ◌∙◌, rules}
use Rattle.figures.specs.laws.BoundLaws.{no_bounds, device_few, lock_bounds, all_bounds_lem}
use Rattle.rules.specs.Layout.{layout_of}
use Rattle.segment.specs.laws.CutLaws.{at_start}
use Rattle.figures.proofs.job_bounds.Goals as goal

pub record_of-requires : goal.record_of-requires
record_of-requires c = let a = c.args in device_few a.plan a.area a.task c.requires 0 at_start c.requires.job.length_some c.segment_at-segment.result c.segment_at-segment.ensures

pub returns-then-is_lock : goal.returns-then-is_lock
returns-then-is_lock c =
    let a = c.args in
    let none : c.default.result ≡ no_bounds = search rules in
    rw none (lock_bounds a.plan a.area a.task _ (sym c.is_lock.ensures ∙ c.if-is_lock.true) (unfold layout_of in rw (← c.segment_at-segment.ensures, ← c.record_of.ensures) c.span_most.ensures.0))

pub returns : goal.returns
returns c = let a = c.args in c.cut_bounds.ensures ∙ all_bounds_lem a.plan a.area a.task (sym c.is_lock.ensures ∙ c.if-is_lock.false) c.requires
