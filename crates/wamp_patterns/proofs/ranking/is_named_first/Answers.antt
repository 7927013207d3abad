-- The two iterators compare as the lists of gaps.
use Rattle.std.proofs.Common.{◌≡◌, lit<, rules, refl, ◌∙◌, ap}
use borrow.Author.Tests.{tests}
use Rattle.std.specs.Ordering.{bool_cmp, is_lt}
use Rattle.std.proofs.lemmas.Iterator.{YieldsList-from_map}
use Rattle.std.proofs.lemmas.Iterator.Consumers.{YieldsList-at}
use Rattle.std.proofs.lemmas.Iterator.Search.{cmp_from_yields_List}
use Rattle.std.proofs.lemmas.Iterator.Splits.{YieldsList-from_str_split}
use Rattle.wamp_ids.specs.Uri.{is_empty}
use Rattle.wamp_patterns.proofs.ranking.is_named_first.Goals as goal

pub returns : goal.returns
returns c =
    c.is_lt.ensures ∙ ap is_lt (cmp_from_yields_List (λ x y. y ≡ x) _ bool_cmp _ c.cmp.ensures.ran
    (YieldsList-from_map _ is_empty
    (YieldsList-at c.map-gaps.ensures.source
    (YieldsList-from_str_split 46 c.args.pattern.now.text (lit< tt) c.parts.ensures.text c.parts.ensures.whole c.parts.ensures.dots))
    c.map-gaps.ensures.closure (λ x r q k. search (rules, tests)))
    (λ it e. YieldsList-at e (YieldsList-from_map _ is_empty
    (YieldsList-at c.map.ensures.source
    (YieldsList-from_str_split 46 c.args.other.now.text
    (lit< tt) c.parts-2.ensures.text c.parts-2.ensures.whole c.parts-2.ensures.dots))
    c.map.ensures.closure (λ x r q k. search (rules, tests))))
    (λ x y. refl))
