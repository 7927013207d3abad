use Rattle.std.proofs.Common.{sym, subst}
use Rattle.std.specs.Result.{IfOk}
use Rattle.wamp_messages.specs.Outermost.{Reads}
use Rattle.wamp_messages.proofs.outermost.elements_behind.Goals as goal

pub returns-then-is_publication : goal.returns-then-is_publication
returns-then-is_publication c =
    subst (λ d. IfOk c.publication.result (λ found. Reads found d c.args.reader.now c.publication.new.reader))
    (sym c.if-is_publication.ensures) c.publication.ensures
