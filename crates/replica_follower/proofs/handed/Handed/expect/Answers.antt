use Rattle.std.proofs.Common.{refl, sym, subst, ap, ◌∙◌, ◌+◌, [], zero, cond}
use Rattle.std.specs.Prelude.{IsSome}
use Rattle.std.proofs.lemmas.Result.{on_ok_weaker}
use Rattle.paxos_packets.specs.Transport.{same_transport}
use Rattle.replica_follower.specs.Handed.{said_in, room_in}
use Rattle.replica_follower.proofs.Handing.{puts, found, read_found, read_changes, rooms, same_said, room_more}
use Rattle.replica_follower.proofs.handed.Handed.expect.Goals as goal

pub expect-requires : goal.expect-requires
expect-requires g c = c.self.invariant c.args.transport c.in-Some.told.now
    (found c.args.transport c.in-Some.told.now c.self.inside.told.entries c.in-Some.ensures.value)

pub invariant_of-self : goal.invariant_of-self
invariant_of-self g c =
    let new = (c.get_mut.follows.lender c.expect.new.self).entries in
    let some = subst (λ o. IsSome o) c.in-Some.ensures.value refl in
    let put = puts c.args.transport c.expect.new.self c.self.inside.told.entries new ((c.get_mut.follows.holds c.expect.new.self).3 some).0 in
    rooms c.args.transport c.expect.new.self c.self.inside.told.entries new put c.expect.ensures.room c.self.invariant

pub returns-clause-said : goal.returns-clause-said
returns-clause-said g c =
    let old = c.self.inside.told.entries in
    let new = (c.get_mut.follows.lender c.expect.new.self).entries in
    let some = subst (λ o. IsSome o) c.in-Some.ensures.value refl in
    let put = puts c.args.transport c.expect.new.self old new ((c.get_mut.follows.holds c.expect.new.self).3 some).0 in
    let there = found c.args.transport c.in-Some.told.now old c.in-Some.ensures.value in
    let was = read_found (λ u. u.says.items) [] c.args.transport c.in-Some.told.now old there in
    λ t. read_changes (λ u. u.says.items) [] (λ xs. xs) c.args.transport c.expect.new.self old new put (c.expect.ensures.says ∙ sym was) t
    ∙ same_said (same_transport c.args.transport t) (said_in t old)
    ∙ ap (λ table. said_in t table) c.self.view_is
    ∙ c.in_ok-list.ensures.said t

pub returns-clause-room : goal.returns-clause-room
returns-clause-room g c =
    let old = c.self.inside.told.entries in
    let new = (c.get_mut.follows.lender c.expect.new.self).entries in
    let some = subst (λ o. IsSome o) c.in-Some.ensures.value refl in
    let put = puts c.args.transport c.expect.new.self old new ((c.get_mut.follows.holds c.expect.new.self).3 some).0 in
    let there = found c.args.transport c.in-Some.told.now old c.in-Some.ensures.value in
    let was = read_found (λ u. u.coming) zero c.args.transport c.in-Some.told.now old there in
    on_ok_weaker c.expect.result (λ more t.
    read_changes (λ u. u.coming) zero (λ n. n + 1) c.args.transport c.expect.new.self old new put (more ∙ ap (λ n. n + 1) (sym was)) t
    ∙ room_more (same_transport c.args.transport t) (room_in t old)
    ∙ ap (λ n. n + cond (same_transport c.args.transport t) 1 0) (ap (λ table. room_in t table) c.self.view_is ∙ c.in_ok-list.ensures.room t))
    c.expect.ensures.coming
