use Rattle.std.specs.Result.{result_unwrap_or}
use Rattle.std.proofs.Common.{◌≡◌, ◌+◌, refl, ap, ap₂, ◌∙◌, rules, arith}
use Rattle.manager.specs.Calls.{no_job_info}
use Rattle.loops.specs.Repeated.{repeated, total, total_more, repeated_query, info_total}
use Rattle.loops.proofs.infos.Goals as goal

pub loop-i-init : goal.loop-i-init
unfolding repeated total
loop-i-init c = (refl, omega arith)

pub loop-i-preserved : goal.loop-i-preserved
loop-i-preserved c =
    let here = c.loop-i in
    let asked = c.job_info-asked.ensures in
    let is : c.map_or-length.result ≡ (result_unwrap_or c.job_info-asked.result no_job_info).task.length = search rules in (
      rw (total_more, repeated_query, ← here.invariant.0) (ap (λ n. here.sum + n) (is ∙ ap (λ info. info.task.length) asked.info_value)),
      omega arith,
    )

pub returns : goal.returns
returns c = c.loop-i.invariant.0 ∙ ap₂ info_total c.busy-manager.ensures (omega arith)
