use mathlib.Core.Bool.{false≢true}
use mathlib.Core.Path.{sym, subst, ◌∙◌}
use Rattle.machine.specs.laws.Dues.{Due, dues_found}
use Rattle.devices.specs.Arrays.{job_in}
use Rattle.machine.specs.laws.SoundCases.{other_counts, counts_few}
use Rattle.questions.specs.laws.QuestionLaws.{round_unsound}
use Rattle.questions.proofs.round_admission.Goals as goal

pub returns-then-not-counts_fit : goal.returns-then-not-counts_fit
returns-then-not-counts_fit c = record { answer_value = round_unsound _ _ _ _ _ (sym (other_counts c.args.plan c.args.areas c.args.devices (sym c.counts_fit.ensures ∙ c.if-not-counts_fit.true))); due_if_sound = λ f. absurd (false≢true (other_counts c.args.plan c.args.areas c.args.devices (sym c.counts_fit.ensures ∙ c.if-not-counts_fit.true) ∙ f)) }

pub due_segments-dues-requires : goal.due_segments-dues-requires
due_segments-dues-requires c = (counts_few c.args.plan (sym c.counts_fit.ensures ∙ c.if-not-counts_fit.false)).2

pub round_answer-answer-requires : goal.round_answer-answer-requires
round_answer-answer-requires c = ((sym c.counts_fit.ensures ∙ c.if-not-counts_fit.false), subst (λ l. Due c.args.plan l (job_in c.args.areas)) (sym c.due_segments-dues.ensures) (dues_found c.args.plan c.args.areas))

pub returns : goal.returns
returns c = record { answer_value = c.round_answer-answer.ensures; due_if_sound = λ _. subst (λ l. Due c.args.plan l (job_in c.args.areas)) (sym c.due_segments-dues.ensures) (dues_found c.args.plan c.args.areas) }
