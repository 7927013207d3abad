use Rattle.std.proofs.Common.{ap}
use Rattle.serve_program.proofs.Gathering.{agrees}
use Rattle.serve_program.proofs.cluster_end.gather_seats.Goals as goal

-- the snapshot is of the seats that were gathered
pub returns-in-Ok : goal.returns-in-Ok
returns-in-Ok c =
    let e = c.in-Ok.ensures in
    agrees c.args.mail _ c.args.seats.items (ap (λ v. v.items) c.of-known.ensures) e.exactly e.lengths e.logs e.learners
