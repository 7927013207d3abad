use Rattle.serve_feed.proofs.Giving.{none_tells}
use Rattle.serve_feed.proofs.sources.Sources.new.Goals as goal

pub returns : goal.returns
returns c = record { begins = none_tells (record { list = c.new.result; last = 0 }) c.new.ensures.items }
