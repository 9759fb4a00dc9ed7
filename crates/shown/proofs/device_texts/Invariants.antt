use Rattle.std.proofs.Common.{◌*◌}
use Rattle.devices.specs.Arrays.{core_in}
use Rattle.rules.specs.Session.{shown_to}
use Rattle.shown.specs.Shown.{shown_texts}
use Rattle.texts.specs.Pages.{Prints}
use Rattle.shown.proofs.device_texts.Given as goal

abbrev pub invariant-loop-device : goal.invariant-loop-device
invariant-loop-device l = Prints (84 * l.device-index) l.initial.page l.page (shown_texts (shown_to l.plan (core_in l.areas l.fn.devices) l.device-index))
