use Rattle.std.proofs.Common.{rules}
use Rattle.arith.specs.Mapped.{mapped}
use Rattle.segment.specs.Segments.{no_segment}
use Rattle.rounds.specs.laws.NeedLaws.{needs_of}
use Rattle.rounds.proofs.halves.needed_devices.Goals as goal

pub returns : goal.returns
unfolding needs_of
returns c = mapped _ (λ s. s.device) no_segment 8 (λ p x y q h. search rules) c.map.ensures.items
