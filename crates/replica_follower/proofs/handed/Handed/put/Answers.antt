use Rattle.std.proofs.Common.{◌≡◌, refl, sym, subst, ap, ◌∙◌, ◌-◌, ◌<◌, ◌++◌, [], ◌∷◌, zero, arith, cond}
use Rattle.std.specs.Prelude.{IsSome}
use Rattle.paxos_packets.specs.Transport.{same_transport}
use Rattle.replica_follower.specs.Handed.{said_in, room_in}
use Rattle.replica_follower.proofs.Handing.{puts, found, read_found, read_changes, rooms, one_more, room_less, transport_is}
use Rattle.replica_follower.proofs.handed.Handed.put.Goals as goal

pub put-requires-clause-room : goal.put-requires-clause-room
put-requires-clause-room g c = c.self.invariant c.args.transport c.in-Some.told.now
    (found c.args.transport c.in-Some.told.now c.self.inside.told.entries c.in-Some.ensures.value)

pub put-requires-clause-coming : goal.put-requires-clause-coming
put-requires-clause-coming g c =
    let there = found c.args.transport c.in-Some.told.now c.self.inside.told.entries c.in-Some.ensures.value in
    subst (λ n. 0 < n)
    (ap (λ table. room_in c.args.transport table) (sym c.self.view_is)
    ∙ read_found (λ u. u.coming) zero c.args.transport c.in-Some.told.now c.self.inside.told.entries there)
    c.requires

pub invariant_of-self : goal.invariant_of-self
invariant_of-self g c =
    let new = (c.get_mut.follows.lender c.put.new.self).entries in
    let some = subst (λ o. IsSome o) c.in-Some.ensures.value refl in
    let put = puts c.args.transport c.put.new.self c.self.inside.told.entries new ((c.get_mut.follows.holds c.put.new.self).3 some).0 in
    rooms c.args.transport c.put.new.self c.self.inside.told.entries new put c.put.ensures.room c.self.invariant

pub returns-clause-said : goal.returns-clause-said
returns-clause-said g c =
    let old = c.self.inside.told.entries in
    let new = (c.get_mut.follows.lender c.put.new.self).entries in
    let some = subst (λ o. IsSome o) c.in-Some.ensures.value refl in
    let put = puts c.args.transport c.put.new.self old new ((c.get_mut.follows.holds c.put.new.self).3 some).0 in
    let there = found c.args.transport c.in-Some.told.now old c.in-Some.ensures.value in
    let was = read_found (λ u. u.says.items) [] c.args.transport c.in-Some.told.now old there in
    λ t. one_more c.args.transport c.args.say old new
    (read_changes (λ u. u.says.items) [] (λ xs. xs ++ c.args.say ∷ []) c.args.transport c.put.new.self old new put
    (c.put.ensures.says ∙ ap (λ xs. xs ++ c.args.say ∷ []) (sym was))) t
    ∙ ap (λ table. said_in t table ++ cond (same_transport c.args.transport t) (c.args.say ∷ []) []) c.self.view_is

pub returns-clause-room : goal.returns-clause-room
returns-clause-room g c =
    let old = c.self.inside.told.entries in
    let new = (c.get_mut.follows.lender c.put.new.self).entries in
    let some = subst (λ o. IsSome o) c.in-Some.ensures.value refl in
    let put = puts c.args.transport c.put.new.self old new ((c.get_mut.follows.holds c.put.new.self).3 some).0 in
    let there = found c.args.transport c.in-Some.told.now old c.in-Some.ensures.value in
    let was = read_found (λ u. u.coming) zero c.args.transport c.in-Some.told.now old there in
    let less : c.put.new.self.coming ≡ c.in-Some.told.now.coming - 1 = (let h = c.put.ensures.coming in omega arith) in
    λ t. ap (λ table. room_in t table) (sym c.self.view_is)
    ∙ room_less (same_transport c.args.transport t) (room_in t old) (room_in t new)
    (read_changes (λ u. u.coming) zero (λ n. n - 1) c.args.transport c.put.new.self old new put (less ∙ ap (λ n. n - 1) (sym was)) t)
    (λ is. subst (λ u. 0 < room_in u old) (sym (transport_is c.args.transport t is))
    (subst (λ table. 0 < room_in c.args.transport table) (sym c.self.view_is) c.requires))
