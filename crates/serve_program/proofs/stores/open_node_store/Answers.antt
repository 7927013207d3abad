use Rattle.std.proofs.lemmas.Result.{IfOk-weaker}
use Rattle.sqlite_wal.specs.Files.{image_at}
use Rattle.serve_program.proofs.stores.open_node_store.Goals as goal

pub returns : goal.returns
returns g c = IfOk-weaker c.open_over.result _ _ (λ k made. made (image_at g.S.Start) c.in_ok-opened.ensures.opened c.in_ok-opened.ensures.found) c.open_over.ensures
