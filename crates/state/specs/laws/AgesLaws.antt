-- Ages in and past the array.
use Rattle.std.specs.Prelude.{ℕ, ◌≤◌, ◌<◌, List, ◌≡◌, get_or}
use Rattle.std.proofs.Common.{lt-ltb, le-ltb}
use Rattle.state.specs.Ages.{age_in}

pub age_at : (l : List ℕ) (a : ℕ) → a < 8 → get_or l a 0 ≡ age_in l a
unfolding age_in
age_at l a h = rw (lt-ltb a 8 h)

pub age_past : (l : List ℕ) (a : ℕ) → 8 ≤ a → a ≡ age_in l a
unfolding age_in
age_past l a h = rw (le-ltb a 8 h)
