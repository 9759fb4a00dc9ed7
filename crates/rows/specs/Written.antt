-- A text that is written in parts behind what stands in a buffer, or on a page.
use Rattle.std.specs.Prelude.{ℕ, ◌+◌, List, ◌++◌, ◌≡◌, length, take}
use Rattle.texts.specs.declared.page.Page.{Page}

-- Of the text `whole`, to be written behind the first `at` bytes of `before`, `rest` is left: what is written and `rest` make it up.
pub record Written (before after : List ℕ) (at end : ℕ) (whole rest : List ℕ) : Type 0 where
  pub bytes : take end after ++ rest ≡ take at before ++ whole
  pub ends : end + length rest ≡ at + length whole
  pub long : length after ≡ length before

-- and of what is to be printed on a page: its buffer is the same one
pub record PrintsPart (p q : Page) (whole rest : List ℕ) : Type 0 where
  pub same_buffer : q.out.ghost_name ≡ p.out.ghost_name
  pub written : Written p.out.now q.out.now p.end q.end whole rest
