use Rattle.std.proofs.Common.{[]}
use Rattle.std.proofs.KnownBytes.{Consumes-nil}
use Rattle.bench_run.proofs.SessionTexts.{unread, session_unread}
use Rattle.bench_run.proofs.run.Goals as goal

pub returns-in-Err-clause-session : goal.returns-in-Err-clause-session
returns-in-Err-clause-session g c = (unread, [], Consumes-nil _, session_unread [] _ _ c.unreadable.ensures.written)
