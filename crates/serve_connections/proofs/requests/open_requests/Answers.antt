use Rattle.std.proofs.Common.{◌∷◌, ◌++◌, [], ap, ◌∙◌}
use Rattle.serve_connections.specs.declared.requests.Handed.TheVariants.{Ring}
use Rattle.serve_connections.proofs.Handing.{of_first}
use Rattle.serve_connections.proofs.requests.open_requests.Goals as goal

pub invariant_of-receiver-clause-one : goal.invariant_of-receiver-clause-one
invariant_of-receiver-clause-one c =
    of_first c.in-Ring.node_ring c.pop_known.new.self
    (c.in-Ring.ensures.received.0 ∙ ap (λ before. before ++ Ring c.in-Ring.node_ring ∷ [])
    (c.slots_beside.ensures.looked.1 ∙ c.in_ok-handing.ensures.consumer.0))
