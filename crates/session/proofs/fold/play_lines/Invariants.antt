use Rattle.std.proofs.Common.{length, ◌+◌, ◌-◌, ◌≡◌, ◌≤◌}
use Rattle.lines.specs.Fields.{cut_from}
use Rattle.session.specs.Fold.{played_lines, played_input}
use Rattle.session.specs.laws.FoldLaws.{session_of, used_to}
use Rattle.session.proofs.fold.play_lines.Given as goal

abbrev pub invariant-loop-at : goal.invariant-loop-at
invariant-loop-at l = record {
  at_bound : l.at ≤ length l.input + 1;
  same_buffer : l.page.out.ghost_name ≡ l.initial.page.out.ghost_name;
  room : length l.page.out.now ≡ length l.fn.out;
  played : played_lines l.ends (length l.fn.out) (cut_from 10 l.input l.at) (session_of l.manager l.image l.store l.page.out.now l.page.end (used_to l.at l.input))
      ≡ played_input l.ends (length l.fn.out) l.input (session_of l.fn.manager l.fn.image l.fn.store l.fn.out 0 0);
}

abbrev pub decreases-loop-at : goal.decreases-loop-at
decreases-loop-at l = length l.input + 1 - l.at
