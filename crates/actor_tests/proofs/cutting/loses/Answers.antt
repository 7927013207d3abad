use Rattle.mail_table.specs.Views.{box_of}
use Rattle.actor_tests.proofs.Following.{fresh_after}
use Rattle.actor_tests.proofs.cutting.loses.Goals as goal

pub returns : goal.returns
returns g c =
    fresh_after c.args.mail.now c.args.seat.now c.fetch.new.seat (box_of c.args.mail.now.members c.args.from c.args.seat.now.part.me)
    c.fetch.result c.fetch.ensures.fetched c.requires.seat c.fetch.ensures.still_owned
