use Rattle.std.proofs.Common.{rules}
use Rattle.std.proofs.lemmas.List.Sorted.{answers_always}
use Rattle.serve_feed.proofs.Hearing.{placed}
use Rattle.serve_feed.proofs.lanes.place_of.Goals as goal

pub returns : goal.returns
returns c =
    let facts = c.binary_search_by_key.ensures in
    let by_number = facts.position (λ lane. lane.number) (answers_always _ _ _ (λ f a r g called. search rules)) in
    placed c.args.lanes.now c.args.number c.binary_search_by_key.result c.ok.result c.ok.ensures.value facts.bound by_number
