use Rattle.std.proofs.Common.{◌≡◌, Bool, true, Some, List, ap, ◌∙◌, rules}
use Rattle.std.specs.Prelude.{filter, if◌then◌else◌}
use Rattle.std.proofs.lemmas.Fn.{filter_same}
use Rattle.paxos_packets.specs.declared.entry.Entry.{Entry}
use Rattle.replica_machine.specs.Roll.{is_wanted_by}
use Rattle.paxos_node.specs.Applying.{stands_at}
use Rattle.paxos_node.proofs.snapshots.rest.Goals as goal

pub returns-clause-pending : goal.returns-clause-pending
returns-clause-pending g c =
    let is = c.roll_at.ensures in
    let all : List (Entry g.row.B.Denot) = c.args.pending.now.items in
    let kept : List (Entry g.row.B.Denot) = filter (is_wanted_by (stands_at (Some c.args.snapshot.now))) all in
    let same : c.retain.new.self.items ≡ kept = filter_same _ _ _ (λ x b f' k. search rules) _ _ c.retain.ensures.filtered in
    let over : true ≡ c.args.over = search rules in
    same ∙ ap (λ (b : Bool). if b then kept else all) over
