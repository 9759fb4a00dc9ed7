use Rattle.std.proofs.Common.{◌<◌, ◌++◌, [], refl, arith, rules, ap, ◌∙◌, append_assoc, take}
use Rattle.std.proofs.KnownBytes.{Appends-nil, Appends-trans}
use Rattle.streams.proofs.Moving.{wrote_on, wrote_all}
use Rattle.rows.specs.Rows.{rows_text}
use Rattle.audits.specs.Audits.{audit_left}
use Rattle.audits.specs.laws.FillLaws.{all_left, finished_all}
use Rattle.audit_run.proofs.write_rows.Goals as goal

pub loop-init : goal.loop-init
loop-init g c =
    (rw c.first-place.ensures (record { rows = omega arith; line = refl }), refl, [], Appends-nil _, rw c.first-place.ensures (ap rows_text (all_left c.args.manager c.args.input.now)))

pub returns-then-is_err-clause-written : goal.returns-then-is_err-clause-written
returns-then-is_err-clause-written g c =
    let (_, _, bs, before, parts) = c.loop.invariant in
    wrote_on _ _ _ _ bs _ _ _ before parts c.fill-filled.ensures.written.bytes c.write_all.ensures.wrote (λ (v : 0 < 0). absurd (omega arith))

pub loop-preserved : goal.loop-preserved
loop-preserved g c =
    let (_, _, bs, before, parts) = c.loop.invariant in
    let fill = c.fill-filled in
    let part = take fill.result.end fill.new.out in
    let left = rows_text (audit_left c.args.manager c.args.input.now fill.result.place) in (
      fill.ensures.fits,
      search rules,
      bs ++ part,
      Appends-trans _ _ _ bs part before (wrote_all _ _ part c.write_all.ensures.wrote (search rules)),
      append_assoc bs part left ∙ ap (λ l. bs ++ l) fill.ensures.written.bytes ∙ parts,
    )

pub returns-then-is_finished-clause-written : goal.returns-then-is_finished-clause-written
unfolding rows_text
returns-then-is_finished-clause-written g c =
    let (_, _, bs, before, parts) = c.loop.invariant in
    let fill = c.fill-filled in
    wrote_on _ _ _ _ bs _ _ _ before parts fill.ensures.written.bytes c.write_all.ensures.wrote
    (λ _. (ap rows_text (finished_all c.args.manager c.args.input.now fill.result.place fill.ensures.fits (search rules)), search rules))

pub returns-clause-written : goal.returns-clause-written
returns-clause-written g c =
    let (_, _, bs, before, parts) = c.loop.invariant in
    record { front = bs; rest = _; appended = before; parts = parts; all = λ (v : 0 < 0). absurd (omega arith) }
