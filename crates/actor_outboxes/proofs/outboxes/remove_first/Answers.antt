use Rattle.std.proofs.Common.{◌≡◌, ◌<◌, length, rules}
use Rattle.std.proofs.lemmas.List.{nil_from_length}
use Rattle.actor_outboxes.proofs.Dues.{first_left}
use Rattle.actor_outboxes.proofs.outboxes.remove_first.Goals as goal

pub returns-then-is_empty : goal.returns-then-is_empty
returns-then-is_empty g c =
    let gone : length c.args.list.now.items ≡ 0 = search rules in
    (nil_from_length c.args.list.now.items gone, nil_from_length c.args.list.now.items gone)

pub returns : goal.returns
returns g c =
    let some : 0 < length c.args.list.now.items = search rules in
    rw c.remove.ensures.items (first_left c.args.list.now.items c.remove.result some c.remove.ensures.value)
