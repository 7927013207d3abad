use Rattle.std.proofs.Common.{rules, ◌≡◌, sym, ap, ◌∙◌, ◌++◌, [], ◌∷◌, append_assoc}
use Rattle.std.specs.List.{flat_map}
use Rattle.std.proofs.lemmas.List.{append-nil, nil_from_length}
use Rattle.std.proofs.lemmas.List.Elements.{filter-append}
use Rattle.std.specs.Vec.Iter.{into_iter_items}
use Rattle.replica_follower.specs.Following.{said_in_boot, is_of}
use Rattle.replica_follower.proofs.picking.picked.Goals as goal

pub loop-says-preserved : goal.loop-says-preserved
loop-says-preserved g c =
    let to = g.M.Machine.steps.to in
    let node = c.args.node in
    let boot = c.args.boot in
    let here = c.in-Some.says.items in
    let rest = flat_map (λ says. says.items) (into_iter_items c.next.new.self) in
    let old = c.loop-says.picked.items in
    let items : into_iter_items c.loop-says.says-iterator ≡ c.in-Some.says ∷ into_iter_items c.next.new.self = search rules in
    ap (λ l. l ++ said_in_boot to node boot rest) c.in_ok-pick_all.ensures
    ∙ append_assoc old (said_in_boot to node boot here) (said_in_boot to node boot rest)
    ∙ ap (λ l. old ++ l) (sym (filter-append (λ y. is_of node boot (to y)) here rest))
    ∙ ap (λ l. old ++ said_in_boot to node boot (flat_map (λ says. says.items) l)) (sym items)
    ∙ c.loop-says.invariant

pub returns : goal.returns
returns g c =
    let old = c.loop-says.picked.items in
    let none : into_iter_items c.loop-says.says-iterator ≡ [] =
    nil_from_length (into_iter_items c.loop-says.says-iterator) (sym c.loop-says.says-iterator.rest.ok.0 ∙ c.in-None.ensures.steps.0) in
    sym (append-nil old)
    ∙ ap (λ ys. old ++ said_in_boot g.M.Machine.steps.to c.args.node c.args.boot (flat_map (λ says. says.items) ys)) (sym none)
    ∙ c.loop-says.invariant
