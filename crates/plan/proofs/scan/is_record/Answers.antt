use Rattle.std.proofs.Common.{rules, ◌≡◌, ◌+◌, ◌≤◌, ◌∙◌, length, get_or}
use Rattle.plan.proofs.laws.RecordLaws.{among_seconds, record_second}
use Rattle.plan.proofs.scan.is_record.Goals as goal

pub returns-then-bytes-at : goal.returns-then-bytes-at
returns-then-bytes-at c =
    let a = c.args in
    let three : length a.format.seconds ≡ 3 = search rules in
    let fits : a.at + a.format.size ≤ length a.bytes.now = search rules in
    let first : get_or a.bytes.now a.at 0 ≡ a.format.first = search rules in
    c.contains.ensures.value ∙ among_seconds (get_or a.bytes.now (a.at + 1) 0) a.format.seconds three ∙ record_second a.format a.bytes.now a.at fits first
