use Rattle.std.proofs.Common.{sym, ap, ◌∙◌, [], zero, rules}
use Rattle.std.specs.Prelude.{is_some}
use Rattle.std.specs.Option.{option_map_or}
use Rattle.paxos_packets.specs.Transport.{same_transport}
use Rattle.replica_follower.specs.Handed.{said_in, room_in}
use Rattle.replica_follower.proofs.Handing.{puts, found, read_changes, rooms, same_said, absent}
use Rattle.replica_follower.proofs.handed.Handed.list.Goals as goal

pub invariant_of-self-2 : goal.invariant_of-self-2
invariant_of-self-2 g c =
    let old = c.self.inside.told.entries in
    let new = c.insert.new.self.entries in
    let put = puts c.args.transport c.new.result old new c.in_ok-insert.ensures.updates.0 in
    rooms c.args.transport c.new.result old new put (search rules) c.self.invariant

pub returns-clause-said : goal.returns-clause-said
returns-clause-said g c =
    let old = c.self.inside.told.entries in
    let new = c.insert.new.self.entries in
    let put = puts c.args.transport c.new.result old new c.in_ok-insert.ensures.updates.0 in
    let none = absent c.args.transport old (sym c.contains_key.ensures ∙ c.if-contains_key.false) in
    λ t. read_changes (λ u. u.says.items) [] (λ xs. xs) c.args.transport c.new.result old new put
    (c.new.ensures.says ∙ sym (ap (λ o. option_map_or (λ u. u.says.items) o []) none)) t
    ∙ same_said (same_transport c.args.transport t) (said_in t old)
    ∙ ap (λ table. said_in t table) c.self.view_is

pub returns-clause-room : goal.returns-clause-room
returns-clause-room g c =
    let old = c.self.inside.told.entries in
    let new = c.insert.new.self.entries in
    let put = puts c.args.transport c.new.result old new c.in_ok-insert.ensures.updates.0 in
    let none = absent c.args.transport old (sym c.contains_key.ensures ∙ c.if-contains_key.false) in
    λ t. read_changes (λ u. u.coming) zero (λ n. n) c.args.transport c.new.result old new put
    (c.new.ensures.coming ∙ sym (ap (λ o. option_map_or (λ u. u.coming) o zero) none)) t
    ∙ same_said (same_transport c.args.transport t) (room_in t old)
    ∙ ap (λ table. room_in t table) c.self.view_is

pub returns-clause-listed : goal.returns-clause-listed
returns-clause-listed g c =
    ap (λ o. is_some o) (found c.args.transport c.new.result c.insert.new.self.entries (sym c.in_ok-insert.ensures.updates.1))
