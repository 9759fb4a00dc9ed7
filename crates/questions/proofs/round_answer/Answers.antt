use mathlib.Core.Path.{sym, ◌∙◌}
use Rattle.machine.specs.laws.SoundCases.{counts_few}
use Rattle.machine.specs.laws.Dues.{fits_decide}
use Rattle.questions.specs.laws.QuestionLaws.{round_unsound, round_image, round_store, round_accepted}
use Rattle.questions.proofs.round_answer.Goals as goal

pub states_fit-requires : goal.states_fit-requires
states_fit-requires c = (counts_few c.args.plan c.requires.0).0

pub returns-then-not-states_fit : goal.returns-then-not-states_fit
returns-then-not-states_fit c = round_unsound _ _ _ _ _ (sym (c.states_fit.ensures ∙ fits_decide c.args.plan (counts_few c.args.plan c.requires.0).1 c.args.areas c.args.devices c.args.dues c.requires.1 c.requires.0) ∙ c.if-not-states_fit.true)

pub image_fits-requires : goal.image_fits-requires
image_fits-requires c = (counts_few c.args.plan c.requires.0).0

pub returns-then-not-image_fits : goal.returns-then-not-image_fits
returns-then-not-image_fits c = round_image _ _ _ _ _ (sym (c.states_fit.ensures ∙ fits_decide c.args.plan (counts_few c.args.plan c.requires.0).1 c.args.areas c.args.devices c.args.dues c.requires.1 c.requires.0) ∙ c.if-not-states_fit.false) (sym c.image_fits.ensures ∙ c.if-not-image_fits.true)

pub store_reaches-requires : goal.store_reaches-requires
store_reaches-requires c = (counts_few c.args.plan c.requires.0).1

pub returns-then-not-store_reaches : goal.returns-then-not-store_reaches
returns-then-not-store_reaches c = round_store _ _ _ _ _ (sym (c.states_fit.ensures ∙ fits_decide c.args.plan (counts_few c.args.plan c.requires.0).1 c.args.areas c.args.devices c.args.dues c.requires.1 c.requires.0) ∙ c.if-not-states_fit.false) (sym c.image_fits.ensures ∙ c.if-not-image_fits.false) (sym c.store_reaches.ensures ∙ c.if-not-store_reaches.true)

pub returns : goal.returns
returns c = round_accepted _ _ _ _ _ (sym (c.states_fit.ensures ∙ fits_decide c.args.plan (counts_few c.args.plan c.requires.0).1 c.args.areas c.args.devices c.args.dues c.requires.1 c.requires.0) ∙ c.if-not-states_fit.false) (sym c.image_fits.ensures ∙ c.if-not-image_fits.false) (sym c.store_reaches.ensures ∙ c.if-not-store_reaches.false)
