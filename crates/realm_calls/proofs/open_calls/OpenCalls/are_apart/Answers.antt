use Rattle.realm_lists.specs.PlaceIndex.{place_of}
use Rattle.realm_lists.proofs.Members.{all_apart}
use Rattle.realm_calls.specs.Indexed.{by_request}
use Rattle.realm_calls.proofs.open_calls.OpenCalls.are_apart.Goals as goal

pub returns : goal.returns
returns c =
    rw (← c.self.view_is)
    (all_apart by_request (place_of c.self.inside.requests) c.self.inside.rows c.get.ensures.rising c.self.invariant.requests_index.found)
