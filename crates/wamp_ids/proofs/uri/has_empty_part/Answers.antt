-- Whether one of the components that the iterator gives is empty.
use Rattle.std.proofs.Common.{lit<, rules}
use borrow.Author.Tests.{tests}
use Rattle.std.proofs.lemmas.Iterator.Search.{any_from_yields_List}
use Rattle.std.proofs.lemmas.Iterator.Splits.{YieldsList-from_str_split}
use Rattle.wamp_ids.specs.Uri.{is_empty}
use Rattle.wamp_ids.proofs.uri.has_empty_part.Goals as goal

pub returns : goal.returns
returns c =
    any_from_yields_List is_empty _ _ _ c.any.ensures.ran
    (YieldsList-from_str_split 46 c.args.text.now (lit< tt) c.split.ensures.text c.split.ensures.has_more c.split.ensures.pattern)
    (λ x b q k. search (rules, tests))
