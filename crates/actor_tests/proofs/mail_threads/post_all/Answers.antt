use Rattle.actor_tests.proofs.Following.{knows_still}
use Rattle.actor_tests.proofs.mail_threads.post_all.Goals as goal

pub loop-preserved : goal.loop-preserved
loop-preserved c =
    knows_still c.args.mail.now c.stepped.new.seat c.post_to_second.new.one c.stepped.new.node c.in_ok-packets.ensures.knows
    c.post_to_second.ensures.owned c.post_to_second.ensures.me c.post_to_second.ensures.seen
