-- Ages as the code reads them.
use Rattle.std.specs.Prelude.{ℕ, ◌<◌, List, ◌≡◌, eqb, get_or}
use Rattle.arith.specs.Cases.{pick}
use Rattle.rules.specs.Ranks.{older, ages_after}
use Rattle.state.specs.Ages.{age_in}
use Rattle.state.specs.laws.AgesLaws.{age_at}

-- the age of area b when a job of area a is accepted
pub age_turn : (ages : List ℕ) (a b : ℕ) → a < 8 → b < 8 →
    pick (eqb b a) 0 (older (get_or ages a 0) (get_or ages b 0)) ≡ ages_after a (age_in ages) b
unfolding ages_after
age_turn ages a b h k = rw (age_at ages a h, age_at ages b k)
