use Rattle.std.proofs.Common.{◌≤◌, length, arith}
use Rattle.mail_table.specs.Views.{box_of}
use Rattle.mail_table.proofs.Singles.{to_one, received_one}
use Rattle.mail_table.proofs.mail.Mail.fetch.Goals as goal

pub into_one-requires : goal.into_one-requires
into_one-requires g c =
    let short : length c.in-Some.batch ≤ c.args.self.now.most = c.in-Some.ensures.short in
    let single = c.requires.single in
    omega (arith, short, single)

pub returns-clause-fetched : goal.returns-clause-fetched
returns-clause-fetched g c =
    received_one (box_of c.args.self.now.members c.args.from c.args.seat.now.part.me) c.in-Some.batch c.into_one.result c.fetch_all.new.seat
    c.args.seat.now c.into_one.ensures c.in-Some.ensures.fetched

pub returns-clause-addressed : goal.returns-clause-addressed
returns-clause-addressed g c =
    to_one c.args.seat.now.part.me c.in-Some.batch c.into_one.result c.into_one.ensures c.in-Some.ensures.addressed
