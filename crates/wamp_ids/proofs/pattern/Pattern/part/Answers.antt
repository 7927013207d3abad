-- The component at a place is that of the list that the iterator gives.
use Rattle.std.proofs.Common.{lit<}
use Rattle.std.proofs.lemmas.Iterator.Consumers.{nth_from_yields_List}
use Rattle.std.proofs.lemmas.Iterator.Splits.{YieldsList-from_str_split}
use Rattle.wamp_ids.proofs.pattern.Pattern.part.Goals as goal

pub returns : goal.returns
returns c =
    nth_from_yields_List _ _ _ c.nth.ensures.ran
    (YieldsList-from_str_split 46 c.args.self.now.text (lit< tt) c.parts.ensures.text c.parts.ensures.whole c.parts.ensures.dots)
