use Rattle.std.proofs.Common.{rules, ◌≡◌, sym, ap, ◌∙◌, ◌++◌, [], ◌∷◌}
use Rattle.std.proofs.lemmas.List.{append-nil, nil_from_length}
use Rattle.std.specs.Vec.Iter.{into_iter_items}
use Rattle.replica_follower.specs.Following.{said_in_boot, is_of}
use Rattle.replica_follower.proofs.Sayings.{said_one}
use Rattle.replica_follower.proofs.picking.pick_all.Goals as goal

pub loop-say-preserved : goal.loop-say-preserved
loop-say-preserved g c =
    let to = g.M.Machine.steps.to in
    let node = c.args.node in
    let boot = c.args.boot in
    let say = c.in-Some.say in
    let rest = into_iter_items c.next.new.self in
    let old = c.loop-say.picked.items in
    let items : into_iter_items c.loop-say.say-iterator ≡ say ∷ rest = search rules in
    said_one (is_of node boot (to say)) old c.pick.new.picked.items say (said_in_boot to node boot rest)
    (c.args.picked.now.items ++ said_in_boot to node boot c.args.says.items)
    c.in_ok-pick.ensures
    (ap (λ ys. old ++ said_in_boot to node boot ys) (sym items) ∙ c.loop-say.invariant)

pub returns : goal.returns
returns g c =
    let old = c.loop-say.picked.items in
    let none : into_iter_items c.loop-say.say-iterator ≡ [] =
    nil_from_length (into_iter_items c.loop-say.say-iterator) (sym c.loop-say.say-iterator.rest.ok.0 ∙ c.in-None.ensures.steps.0) in
    sym (append-nil old)
    ∙ ap (λ ys. old ++ said_in_boot g.M.Machine.steps.to c.args.node c.args.boot ys) (sym none)
    ∙ c.loop-say.invariant
