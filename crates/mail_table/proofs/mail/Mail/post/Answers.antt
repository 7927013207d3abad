use Rattle.mail_table.specs.Views.{box_of}
use Rattle.mail_table.proofs.Singles.{one_sent, one_to, one_short, same_one, posted_one}
use Rattle.mail_table.proofs.mail.Mail.post.Goals as goal

pub post_all-requires-clause-sent : goal.post_all-requires-clause-sent
post_all-requires-clause-sent g c = one_sent c.args.seat.now.part.seen.sent c.batch_of-one.result c.args.packet c.batch_of-one.ensures.one c.requires.sent

pub post_all-requires-clause-addressed : goal.post_all-requires-clause-addressed
post_all-requires-clause-addressed g c = one_to c.args.to c.batch_of-one.result c.args.packet c.batch_of-one.ensures.one c.requires.addressed

pub returns-in_default-clause-posted : goal.returns-in_default-clause-posted
returns-in_default-clause-posted g c =
    posted_one (box_of c.args.self.now.members c.args.seat.now.part.me c.args.to) c.batch_of-one.result c.args.packet c.post_all.new.seat
    c.args.seat.now c.batch_of-one.ensures.one c.in_default.ensures.posted

pub into_one-requires : goal.into_one-requires
into_one-requires g c = record {
  one = one_short c.in-Err.batch c.batch_of-one.result c.args.packet c.in-Err.ensures.posted.0 c.batch_of-one.ensures.one;
}

pub returns-clause-posted : goal.returns-clause-posted
returns-clause-posted g c = (
  same_one c.in-Err.batch c.batch_of-one.result c.args.packet c.into_one.result c.in-Err.ensures.posted.0 c.batch_of-one.ensures.one c.into_one.ensures,
  c.in-Err.ensures.posted.1,
)
