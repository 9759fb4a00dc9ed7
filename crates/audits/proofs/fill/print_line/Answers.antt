use Rattle.audits.proofs.fill.print_line.Goals as goal

pub returns-in-None : goal.returns-in-None
returns-in-None c = rw c.in-None.is (c.print_unreadable.ensures c.args.plan c.args.facts)
