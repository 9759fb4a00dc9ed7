use Rattle.questions.specs.laws.QuestionLaws.{image_fits_lem}
use Rattle.questions.proofs.image_fits.Goals as goal

pub returns : goal.returns
returns c = image_fits_lem _ _ _ c.device_sum.ensures.0
