use Rattle.std.proofs.Common.{refl, ◌∙◌}
use Rattle.client_listener.proofs.Sending.{cleared}
use Rattle.client_listener.proofs.writing.write_all.Goals as goal

pub returns-then-not-write_once-clause-clears : goal.returns-then-not-write_once-clause-clears
returns-then-not-write_once-clause-clears g c =
    let was = c.loop-try.invariant.written in
    let more = c.write_once.ensures.wrote in
    (refl, cleared _ _ _ _ _ _ was.0 more.0 was.1 was.2 more.1 more.2)

pub loop-try-preserved : goal.loop-try-preserved
loop-try-preserved g c =
    let was = c.loop-try.invariant.written in
    let more = c.write_once.ensures.wrote in
    record {
      written = cleared _ _ _ _ _ _ was.0 more.0 was.1 was.2 more.1 more.2;
      limit = c.write_once.ensures.limit ∙ c.loop-try.invariant.limit;
    }
