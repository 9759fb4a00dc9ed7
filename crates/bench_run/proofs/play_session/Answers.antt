use Rattle.std.proofs.Common.{[], refl, rules, arith}
use Rattle.std.proofs.KnownBytes.{Consumes-nil}
use Rattle.bench_run.specs.laws.TurnLaws.{part_alike}
use Rattle.bench_run.proofs.SessionTexts.{session_refused, session_played}
use Rattle.bench_run.proofs.play_session.Goals as goal

pub serve-requires : goal.serve-requires
serve-requires g c = (search rules, part_alike _ c.in-Ok.opened.image_length 65536 255 c.first_image-image.ensures, c.first_store-store.ensures)

pub returns-in-Err-clause-session : goal.returns-in-Err-clause-session
returns-in-Err-clause-session g c =
    let o = c.in-Err.ensures in
    ([], Consumes-nil _, session_refused _ _ [] _ _ _ _ _ _ refl (omega arith) (o.refused_text (omega arith)) o.appended.0 c.write_all.ensures.wrote)

pub returns-in-Ok-clause-session : goal.returns-in-Ok-clause-session
returns-in-Ok-clause-session g c =
    let o = c.in-Ok.ensures in
    let (came, consumed, wrote) = c.serve.ensures.served (omega arith) in (
      came,
      consumed,
      session_played _ _ came _ _ _ _ _ _ _ _ _ _ refl (omega arith) (omega arith) o.appended.0 o.manager_value c.first_image-image.ensures
          o.image_length_value.0 o.image_length_value.1 c.first_store-store.ensures wrote,
    )
