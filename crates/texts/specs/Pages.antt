-- A text written behind what stands on a page.
use Rattle.std.specs.Prelude.{ℕ, ◌≡◌, ◌≤◌, ◌+◌, ◌-◌, List, length}
use Rattle.texts.specs.declared.page.Page.{Page}
use Rattle.texts.specs.Appended.{Appended}

-- how many bytes of the buffer are free
abbrev pub room : Page → ℕ
room p = length p.out.now - p.end

-- a text of at most `most` bytes stands behind what was written on the page, whose buffer is the same one
pub record Prints (most : ℕ) (p q : Page) (text : List ℕ) : Type 0 where
  pub same_buffer : q.out.ghost_name ≡ p.out.ghost_name
  pub appended : Appended p.out.now q.out.now p.end q.end text
  pub few : q.end ≤ p.end + most
