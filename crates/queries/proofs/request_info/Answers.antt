use Rattle.std.proofs.Common.{sym, ◌∙◌, arith}
use Rattle.devices.specs.Arrays.{job_in}
use Rattle.rules.specs.Layout.{layout_of}
use Rattle.rules.specs.Machine.{due}
use Rattle.queries.specs.laws.QueryLaws.{none_request}
use Rattle.queries.proofs.request_info.Goals as goal

pub returns-else-held_somewhere : goal.returns-else-held_somewhere
returns-else-held_somewhere c =
    let a = c.args in
    c.no_request.ensures
    ∙ none_request a.devices a.area 4 (omega arith) (sym c.held_somewhere.ensures ∙ c.if-held_somewhere.false) (due (layout_of a.plan) a.area (job_in a.areas a.area)) _
