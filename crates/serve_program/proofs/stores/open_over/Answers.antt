use Rattle.acceptor_store.proofs.Files.{holds_image}
use Rattle.serve_program.proofs.stores.open_over.Goals as goal

pub returns-in-Ok : goal.returns-in-Ok
returns-in-Ok g c image opened found =
    holds_image g.C.Coder.reading image c.args.conn c.in-Ok.store opened found c.in-Ok.ensures.clean c.in-Ok.ensures.founded c.in-Ok.ensures.again
