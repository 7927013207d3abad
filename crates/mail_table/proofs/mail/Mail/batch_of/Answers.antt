use Rattle.std.proofs.Common.{◌≤◌, length, ap, arith}
use Rattle.mail_table.proofs.mail.Mail.batch_of.Goals as goal

pub returns-clause-short : goal.returns-clause-short
returns-clause-short g c =
    let one = ap length c.of.ensures in
    let some : 1 ≤ c.self.inside.most = c.self.invariant.0.some in
    let same = ap (λ m. m.most) c.self.view_is in
    omega (arith, one, some, same)
