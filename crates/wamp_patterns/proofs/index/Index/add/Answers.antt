use Rattle.std.proofs.Common.{◌∙◌, ap, sym}
use Rattle.std.specs.Map.{lookup}
use Rattle.wamp_patterns.specs.Kinds.{how_many, lowered, positive}
use Rattle.wamp_patterns.specs.Texts.{same_text}
use Rattle.wamp_patterns.proofs.Counting.{tells_added, tells_back}
use Rattle.wamp_patterns.proofs.index.Index.add.Goals as goal

pub returns-in-Ok-add-clause-tells : goal.returns-in-Ok-add-clause-tells
returns-in-Ok-add-clause-tells g c q =
    ap (lookup (same_text q)) c.in-Ok.ensures.entries
    ∙ tells_added c.args.matching c.args.self.now.texts c.args.self.now.kinds c.args.text.now c.requires.tells c.as_slice.result.now c.args.value
    (c.as_slice.ensures.value ∙ c.kind_of-kind.ensures) c.requires.missing q
    ∙ ap (λ texts. positive (how_many c.args.matching texts q)) (sym c.in-Ok-add.ensures.entries)

pub returns-in-Err-clause-tells : goal.returns-in-Err-clause-tells
returns-in-Err-clause-tells g c q =
    ap (lookup (same_text q)) (c.lower.ensures.lowered
    ∙ ap (lowered c.raise.new.kinds) (c.as_slice-in-Err.ensures.value ∙ sym c.as_slice.ensures.value))
    ∙ tells_back c.args.matching c.args.self.now.texts c.args.self.now.kinds c.args.text.now c.requires.tells c.as_slice.result.now c.raise.new.kinds
    c.in-Ok.ensures.entries c.lower.ensures.was_ordered q
    ∙ ap (λ texts. positive (how_many c.args.matching texts q)) (sym c.in-Err.ensures.unchanged)
