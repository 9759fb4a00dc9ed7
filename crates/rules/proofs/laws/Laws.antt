-- What the machine's theorems need of a layout and of the jobs that it admits.
use Rattle.std.specs.Prelude.{ℕ, ◌≤◌, ◌<◌, Bool, true, false, ◌≡◌}
use Rattle.memory.specs.declared.Task.{Task}
use Rattle.rules.specs.Layout.{Layout}

pub record Laws (p : Layout) (admits : ℕ → Task → Bool) : Type 0 where
  pub limit_some : (d : ℕ) → d < p.devices → 1 ≤ p.limit d
  pub ranks_chain : (a b c : ℕ) → p.outranks a b ≡ true → p.outranks b c ≡ true → p.outranks a c ≡ true
  pub ranks_differ : (a b : ℕ) → (a ≡ b → ⊥) → p.outranks a b ≡ false → p.outranks b a ≡ true
  pub length_some : (a : ℕ) (t : Task) → admits a t ≡ true → 1 ≤ t.length
  pub segment_some : (a : ℕ) (t : Task) (x : ℕ) → a < p.areas → admits a t ≡ true → x < t.length → 1 ≤ (p.segment a t x).length
  pub segment_device : (a : ℕ) (t : Task) (x : ℕ) → a < p.areas → admits a t ≡ true → x < t.length → (p.segment a t x).device < p.devices
