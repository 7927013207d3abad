use Rattle.std.proofs.Common.{rules, ◌≡◌, sym, ap, ◌∙◌, subst, ℕ, ◌+◌, ◌<◌, ◌≤◌, ◌++◌, ◌∷◌, [], cond, length, arith}
use Rattle.std.proofs.lemmas.List.{append-nil, nil_from_length}
use Rattle.std.specs.Vec.Iter.{into_iter_items}
use Rattle.paxos_packets.specs.Transport.{same_transport}
use Rattle.replica_follower.specs.Handed.{said_in, room_in}
use Rattle.replica_follower.specs.Following.{said_to}
use Rattle.replica_follower.proofs.Sayings.{said_one, room_one, count_one, counts}
use Rattle.replica_follower.proofs.picking.hand_out.Goals as goal

none_left : (old new says : ℕ) → new + says ≡ old + 0 → old ≡ new + says
none_left old new says h = omega arith

pub put-requires : goal.put-requires
put-requires g c =
    let to = g.M.Machine.steps.to in
    let say = c.in-Some.say in
    let rest = into_iter_items c.next.new.self in
    let items : into_iter_items c.loop-say.say-iterator ≡ say ∷ rest = search rules in
    subst (λ u. 0 < room_in u c.loop-say.handed) (sym c.to.ensures)
    (counts to say rest (room_in (to say) c.loop-say.handed)
    (subst (λ ys. length (said_to to (to say) ys) ≤ room_in (to say) c.loop-say.handed) items (c.loop-say.invariant.0 (to say))))

pub loop-say-preserved : goal.loop-say-preserved
loop-say-preserved g c =
    let so_far = c.loop-say.invariant in
    let to = g.M.Machine.steps.to in
    let say = c.in-Some.say in
    let rest = into_iter_items c.next.new.self in
    let old = c.loop-say.handed in
    let new = c.put.new.self in
    let items : into_iter_items c.loop-say.say-iterator ≡ say ∷ rest = search rules in (
      λ t. room_one (same_transport (to say) t) (room_in t old) (room_in t new) say (said_to to t rest)
          (subst (λ u. room_in t old ≡ room_in t new + cond (same_transport u t) 1 0) c.to.ensures (c.put.ensures.room t))
          (subst (λ ys. length (said_to to t ys) ≤ room_in t old) items (so_far.0 t)),
      λ t. said_one (same_transport (to say) t) (said_in t old) (said_in t new) say (said_to to t rest)
          (said_in t c.args.handed.now ++ said_to to t c.args.says.items)
          (subst (λ u. said_in t new ≡ said_in t old ++ cond (same_transport u t) (say ∷ []) []) c.to.ensures (c.put.ensures.said t))
          (ap (λ ys. said_in t old ++ said_to to t ys) (sym items) ∙ so_far.1 t),
      λ t. count_one (same_transport (to say) t) (room_in t old) (room_in t new) (length (said_to to t c.args.says.items))
          (room_in t c.args.handed.now) say (said_to to t rest)
          (subst (λ u. room_in t old ≡ room_in t new + cond (same_transport u t) 1 0) c.to.ensures (c.put.ensures.room t))
          (so_far.2 t ∙ ap (λ ys. room_in t c.args.handed.now + length (said_to to t ys)) items),
    )

pub returns-clause-said : goal.returns-clause-said
returns-clause-said g c = λ t.
    let none : into_iter_items c.loop-say.say-iterator ≡ [] =
    nil_from_length (into_iter_items c.loop-say.say-iterator) (sym c.loop-say.say-iterator.rest.ok.0 ∙ c.in-None.ensures.steps.0) in
    sym (append-nil (said_in t c.loop-say.handed))
    ∙ ap (λ ys. said_in t c.loop-say.handed ++ said_to g.M.Machine.steps.to t ys) (sym none)
    ∙ c.loop-say.invariant.1 t

pub returns-clause-room : goal.returns-clause-room
returns-clause-room g c = λ t.
    let says = length (said_to g.M.Machine.steps.to t c.args.says.items) in
    let none : into_iter_items c.loop-say.say-iterator ≡ [] =
    nil_from_length (into_iter_items c.loop-say.say-iterator) (sym c.loop-say.say-iterator.rest.ok.0 ∙ c.in-None.ensures.steps.0) in
    none_left (room_in t c.args.handed.now) (room_in t c.loop-say.handed) says
    (subst (λ ys. room_in t c.loop-say.handed + says ≡ room_in t c.args.handed.now + length (said_to g.M.Machine.steps.to t ys)) none
    (c.loop-say.invariant.2 t))
