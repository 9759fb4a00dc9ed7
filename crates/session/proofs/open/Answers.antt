use Rattle.std.proofs.Common.{rules, ◌≡◌, ◌∙◌, refl, sym, arith}
use Rattle.plan.specs.Questions.{load_number}
use Rattle.texts.specs.laws.AppendLaws.{append_none, append_same}
use Rattle.texts.specs.laws.PageLaws.{prints_none, left_printed}
use Rattle.session.specs.laws.PlanTextLaws.{kept_sum, few_devices, number_some, text_long, text_refused, text_sum, text_accepted, nothing_fits, no_image, text_fits, image_closed, image_open}
use Rattle.session.proofs.open.Goals as goal

pub returns-then-out-lt338-clause-appended : goal.returns-then-out-lt338-clause-appended
returns-then-out-lt338-clause-appended c =
    let a = c.args in
    (append_same (nothing_fits a.plan.now _ c.if-out-lt338.true) (append_none a.out.now 0), omega arith)

pub returns-then-out-lt338-clause-image_length_value : goal.returns-then-out-lt338-clause-image_length_value
returns-then-out-lt338-clause-image_length_value c = (no_image c.args.plan.now _ c.if-out-lt338.true, omega arith)

pub returns-then-plan-gt4096-clause-appended : goal.returns-then-plan-gt4096-clause-appended
returns-then-plan-gt4096-clause-appended c =
    let a = c.args in
    let t = text_fits a.plan.now _ c.if-out-lt338.false (text_long a.plan.now c.if-plan-gt4096.true) in
    (left_printed c.new-page.ensures.empty (search rules) c.written.ensures t c.question_line.ensures)

pub returns-then-plan-gt4096-clause-image_length_value : goal.returns-then-plan-gt4096-clause-image_length_value
returns-then-plan-gt4096-clause-image_length_value c =
    let l = c.args.plan.now in
    (image_closed l _ c.if-out-lt338.false (text_long l c.if-plan-gt4096.true) (omega arith), omega arith)

pub returns-then-number-gt0-clause-appended : goal.returns-then-number-gt0-clause-appended
returns-then-number-gt0-clause-appended c =
    let l = c.args.plan.now in
    let n = c.answer_number-number.ensures ∙ c.load-loaded.ensures.answer_value in
    let t = text_fits l _ c.if-out-lt338.false (text_refused l c.if-plan-gt4096.false _ n c.if-number-gt0.true) in
    (left_printed c.new-page.ensures.empty (search rules) c.written-then-number-gt0.ensures t c.number_line.ensures)

pub returns-then-number-gt0-clause-image_length_value : goal.returns-then-number-gt0-clause-image_length_value
returns-then-number-gt0-clause-image_length_value c =
    let l = c.args.plan.now in
    let n = c.answer_number-number.ensures ∙ c.load-loaded.ensures.answer_value in
    let t = text_refused l c.if-plan-gt4096.false _ n c.if-number-gt0.true in
    (image_closed l _ c.if-out-lt338.false t (number_some _), omega arith)

pub device_sum-sum-requires : goal.device_sum-sum-requires
device_sum-sum-requires c =
    let n = c.answer_number-number.ensures ∙ c.load-loaded.ensures.answer_value in
    few_devices _ _ c.load-loaded.ensures.manager_value (omega (arith, n, c.if-number-gt0.false))

pub returns-then-sum-gt65536-clause-appended : goal.returns-then-sum-gt65536-clause-appended
returns-then-sum-gt65536-clause-appended c =
    let l = c.args.plan.now in
    let n = c.answer_number-number.ensures ∙ c.load-loaded.ensures.answer_value in
    let zero : load_number l ≡ 0 = omega (arith, n, c.if-number-gt0.false) in
    let s = c.device_sum-sum.ensures.0 ∙ kept_sum _ _ c.load-loaded.ensures.manager_value zero in
    let t = text_fits l _ c.if-out-lt338.false (text_sum l c.if-plan-gt4096.false zero (omega (arith, s, c.if-sum-gt65536.true))) in
    (left_printed c.new-page.ensures.empty (search rules) c.written-then-sum-gt65536.ensures t c.question_line-then-sum-gt65536.ensures)

pub returns-then-sum-gt65536-clause-image_length_value : goal.returns-then-sum-gt65536-clause-image_length_value
returns-then-sum-gt65536-clause-image_length_value c =
    let l = c.args.plan.now in
    let n = c.answer_number-number.ensures ∙ c.load-loaded.ensures.answer_value in
    let zero : load_number l ≡ 0 = omega (arith, n, c.if-number-gt0.false) in
    let s = c.device_sum-sum.ensures.0 ∙ kept_sum _ _ c.load-loaded.ensures.manager_value zero in
    let t = text_sum l c.if-plan-gt4096.false zero (omega (arith, s, c.if-sum-gt65536.true)) in
    (image_closed l _ c.if-out-lt338.false t (omega arith), omega arith)

pub returns-clause-appended : goal.returns-clause-appended
returns-clause-appended c =
    let l = c.args.plan.now in
    let n = c.answer_number-number.ensures ∙ c.load-loaded.ensures.answer_value in
    let zero : load_number l ≡ 0 = omega (arith, n, c.if-number-gt0.false) in
    let s = c.device_sum-sum.ensures.0 ∙ kept_sum _ _ c.load-loaded.ensures.manager_value zero in
    let t = text_fits l _ c.if-out-lt338.false (text_accepted l c.if-plan-gt4096.false zero (omega (arith, s, c.if-sum-gt65536.false))) in
    left_printed {p = c.new-page.result} c.new-page.ensures.empty (search rules) (sym c.new-page.ensures.empty.1) t (prints_none c.new-page.result)

pub returns-clause-image_length_value : goal.returns-clause-image_length_value
returns-clause-image_length_value c =
    let l = c.args.plan.now in
    let n = c.answer_number-number.ensures ∙ c.load-loaded.ensures.answer_value in
    let zero : load_number l ≡ 0 = omega (arith, n, c.if-number-gt0.false) in
    let s = c.device_sum-sum.ensures.0 ∙ kept_sum _ _ c.load-loaded.ensures.manager_value zero in
    let t = text_accepted l c.if-plan-gt4096.false zero (omega (arith, s, c.if-sum-gt65536.false)) in
    (image_open l _ c.if-out-lt338.false t refl _ s, c.if-sum-gt65536.false)

pub returns-then-out-lt338-clause-refused_text : goal.returns-then-out-lt338-clause-refused_text
returns-then-out-lt338-clause-refused_text c = λ h. absurd (omega (arith, h, c.if-out-lt338.true))

pub returns-then-plan-gt4096-clause-refused_text : goal.returns-then-plan-gt4096-clause-refused_text
returns-then-plan-gt4096-clause-refused_text c = λ _. omega (arith, c.written.ensures, c.question_line.ensures.appended.ends)

pub returns-then-number-gt0-clause-refused_text : goal.returns-then-number-gt0-clause-refused_text
returns-then-number-gt0-clause-refused_text c = λ _. omega (arith, c.written-then-number-gt0.ensures, c.number_line.ensures.appended.ends, number_some c.answer_number-number.result)

pub returns-then-sum-gt65536-clause-refused_text : goal.returns-then-sum-gt65536-clause-refused_text
returns-then-sum-gt65536-clause-refused_text c = λ _. omega (arith, c.written-then-sum-gt65536.ensures, c.question_line-then-sum-gt65536.ensures.appended.ends)
