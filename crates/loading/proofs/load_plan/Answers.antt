use Rattle.std.proofs.Common.{sym, ap, ◌∙◌, ◌≡◌, Err, rules, arith}
use Rattle.memory.specs.laws.NumberLaws.{refusal_some}
use Rattle.loading.specs.laws.LoadLaws.{not_whole, too_many, read_counts, by_record, by_wear, kept, not_kept}
use Rattle.arith.specs.FirstNo.{ask}
use Rattle.plan.proofs.laws.RecordLaws.{layout_steps}
use Rattle.plan.proofs.laws.SizeLaws.{counts}
use Rattle.loading.proofs.load_plan.Goals as goal

pub returns-then-layout-bytes : goal.returns-then-layout-bytes
returns-then-layout-bytes c =
    let e = not_whole _ _ c.record_layout-layout.ensures.value c.if-layout-bytes.true in
    record { answer_value = sym e; plan_value = sym (not_kept _ 1 e (omega arith)) }

pub returns-then-not-counts_fit : goal.returns-then-not-counts_fit
returns-then-not-counts_fit c =
    let e = too_many _ _ c.record_layout-layout.ensures.value c.if-layout-bytes.false (sym c.counts_fit.ensures ∙ c.if-not-counts_fit.true) in
    record { answer_value = sym e; plan_value = sym (not_kept _ 2 e (omega arith)) }

pub read-plan-requires-clause-device_count_bound : goal.read-plan-requires-clause-device_count_bound
read-plan-requires-clause-device_count_bound c =
    let few = counts _ _ _ (sym c.counts_fit.ensures ∙ c.if-not-counts_fit.false) in
    (omega arith, omega arith, omega arith)

pub admission-requires : goal.admission-requires
admission-requires c = read_counts _ _ c.record_layout-layout.ensures.value _ c.read-plan.ensures (sym c.counts_fit.ensures ∙ c.if-not-counts_fit.false)

pub returns-in_err-admission : goal.returns-in_err-admission
returns-in_err-admission c =
    let q = c.in_err-admission.field-0.0 in
    let is : c.from_residual.result ≡ Err q = search rules in
    let some = refusal_some q in
    let e = by_record _ _ c.record_layout-layout.ensures.value c.if-layout-bytes.false (sym c.counts_fit.ensures ∙ c.if-not-counts_fit.false)
    _ c.read-plan.ensures _ (sym c.in_err-admission.ensures) some in
    rw is (record { answer_value = sym e; plan_value = sym (not_kept _ _ e some) })

pub wear_fits-requires : goal.wear_fits-requires
wear_fits-requires c =
    let k = layout_steps _ _ c.record_layout-layout.ensures.value in
    omega (arith, c.record_layout-layout.ensures.end_in_bounds)

pub returns-then-not-wear_fits : goal.returns-then-not-wear_fits
unfolding ask
returns-then-not-wear_fits c =
    let e = by_wear _ _ c.record_layout-layout.ensures.value c.if-layout-bytes.false (sym c.counts_fit.ensures ∙ c.if-not-counts_fit.false)
    _ c.read-plan.ensures (sym c.in_ok-admission.ensures) c.wear_fits.result c.wear_fits.ensures ∙ ap (ask 20) c.if-not-wear_fits.true in
    record { answer_value = sym e; plan_value = sym (not_kept _ 20 e (omega arith)) }

pub returns : goal.returns
unfolding ask
returns c =
    let e = by_wear _ _ c.record_layout-layout.ensures.value c.if-layout-bytes.false (sym c.counts_fit.ensures ∙ c.if-not-counts_fit.false)
    _ c.read-plan.ensures (sym c.in_ok-admission.ensures) c.wear_fits.result c.wear_fits.ensures ∙ ap (ask 20) c.if-not-wear_fits.false in
    record { answer_value = sym e; plan_value = c.read-plan.ensures ∙ kept _ e }
