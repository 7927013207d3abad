use Rattle.std.proofs.Common.{◌∙◌, ap, sym, is_some}
use Rattle.wamp_patterns.specs.Kinds.{how_many, positive}
use Rattle.wamp_patterns.proofs.Counting.{tells_written}
use Rattle.wamp_patterns.proofs.index.Index.put.Goals as goal

pub returns-in-Ok-clause-tells : goal.returns-in-Ok-clause-tells
returns-in-Ok-clause-tells g c q =
    tells_written c.args.matching c.args.self.now.texts c.args.self.now.kinds c.args.text.now c.requires.tells c.args.value
    (ap is_some c.in-Ok.ensures.old) c.in-Ok.ensures.was_ordered q
    ∙ ap (λ texts. positive (how_many c.args.matching texts q)) (sym c.in-Ok.ensures.entries)
