use Rattle.acceptor_store.proofs.Writing.{spelled_read}
use Rattle.command_codec.specs.Entry.{entry_spelling}
use Rattle.acceptor_store.proofs.Refusing.{puts_some}
use Rattle.acceptor_store.proofs.store.spell.Goals as goal

pub returns-in-Ok-clause-read : goal.returns-in-Ok-clause-read
returns-in-Ok-clause-read g c =
    spelled_read g.C.Coder.spelling g.C.Coder.reading c.args.entry.now c.put_entry.new.out.items c.spellings_are_apart.ensures.read_again
    (rw c.clear.ensures.items at c.in-Ok.ensures)

pub returns-in-Ok-clause-spelled : goal.returns-in-Ok-clause-spelled
returns-in-Ok-clause-spelled g c =
    puts_some (entry_spelling g.C.Coder.spelling c.args.entry.now) _ _ c.in-Ok.ensures
