use Rattle.std.proofs.Common.{◌+◌, ◌*◌}
use Rattle.mail_table.proofs.Dealing.{begins, all_zero, square_small}
use Rattle.mail_table.proofs.founding.boxes.Goals as goal

pub vacant-requires : goal.vacant-requires
vacant-requires g c =
    let n = c.args.nodes in
    let z = all_zero (8 * (n * n + n)) (square_small n c.requires.few) in
    begins g.B.Body.same n c.args.most _ z.0 z.1
