use Rattle.mail_table.proofs.Dealing.{seats_owned}
use Rattle.mail_table.proofs.founding.found_with.Goals as goal

pub returns-clause-owned : goal.returns-clause-owned
returns-clause-owned g c =
    let n = c.count-nodes.result in
    seats_owned (record { office = c.in-Some.mark.seen.book; table = c.in-Some.mark.number; members = n; most = c.args.most }) n c.hand_out.new.seats.items
    c.hand_out.ensures
