use Rattle.std.proofs.Common.{◌∙◌, ap, sym, is_some}
use Rattle.std.specs.Map.{lookup}
use Rattle.wamp_patterns.specs.Kinds.{how_many, positive}
use Rattle.wamp_patterns.specs.Texts.{same_text}
use Rattle.wamp_patterns.proofs.Counting.{tells_kept, tells_removed}
use Rattle.wamp_patterns.proofs.index.Index.remove.Goals as goal

pub returns-in_default-clause-tells : goal.returns-in_default-clause-tells
returns-in_default-clause-tells g c q =
    tells_kept c.args.matching c.args.self.now.texts c.args.self.now.kinds c.args.text.now c.requires.tells (sym c.in_default.ensures.value) q
    ∙ ap (λ texts. positive (how_many c.args.matching texts q)) (sym c.in_default.ensures.entries)

pub returns-clause-tells : goal.returns-clause-tells
returns-clause-tells g c q =
    ap (lookup (same_text q)) c.lower.ensures.lowered
    ∙ tells_removed c.args.matching c.args.self.now.texts c.args.self.now.kinds c.args.text.now c.requires.tells c.as_slice.result.now
    (c.as_slice.ensures.value ∙ c.kind_of-kind.ensures) (ap is_some (sym c.in-Some.ensures.value)) c.lower.ensures.was_ordered q
    ∙ ap (λ texts. positive (how_many c.args.matching texts q)) (sym c.in-Some.ensures.entries)
