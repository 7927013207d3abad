use Rattle.serve_feed.proofs.Giving.{none_tells}
use Rattle.serve_feed.proofs.sources.Sources.clear.Goals as goal

pub returns : goal.returns
returns c = record { begins = none_tells (record { list = c.clear.new.self; last = 0 }) c.clear.ensures.items }
