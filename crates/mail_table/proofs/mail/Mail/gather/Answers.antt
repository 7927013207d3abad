use Rattle.mail_table.proofs.Collecting.{posts_arrive, logs_agree, learners_agree}
use Rattle.mail_table.specs.Seats.{parts_of}
use Rattle.mail_table.proofs.mail.Mail.gather.Goals as goal

pub returns-clause-posts : goal.returns-clause-posts
returns-clause-posts g c = posts_arrive g.B.Body.same c.args.self.members c.args.self.most (parts_of c.args.seats.items) c.collect.ensures

pub returns-clause-logs : goal.returns-clause-logs
returns-clause-logs g c =
    logs_agree g.B.Body.same c.args.self.members c.args.self.most (record { reflexive = g.met.B.Body.reflexive; sound = g.met.B.Body.sound })
    c.has_all.ensures.least c.has_all.ensures.most
    (parts_of c.args.seats.items) c.collect.ensures

pub returns-clause-learners : goal.returns-clause-learners
returns-clause-learners g c =
    learners_agree g.B.Body.same c.args.self.members c.args.self.most (record { reflexive = g.met.B.Body.reflexive; sound = g.met.B.Body.sound })
    c.has_all.ensures.least
    (parts_of c.args.seats.items) c.collect.ensures
