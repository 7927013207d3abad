-- If there are equally many components, the pairs of the two iterators are tested.
use Rattle.std.proofs.Common.{lit<, rules, sym, ◌∙◌}
use borrow.Author.Tests.{tests}
use Rattle.std.proofs.lemmas.Iterator.{YieldsList-from_zip}
use Rattle.std.proofs.lemmas.Iterator.Consumers.{YieldsList-at, count_from_yields_List}
use Rattle.std.proofs.lemmas.Iterator.Search.{all_from_yields_List}
use Rattle.std.proofs.lemmas.Iterator.Splits.{YieldsList-from_str_split}
use Rattle.wamp_ids.specs.Uri.{parts}
use Rattle.wamp_patterns.specs.Matching.{part_matches}
use Rattle.wamp_patterns.proofs.Pairs.{pairs_pass, none_of_two_lengths}
use Rattle.wamp_patterns.proofs.matching.parts_match.Goals as goal

pub returns-then-count : goal.returns-then-count
returns-then-count c =
    all_from_yields_List (λ pair. part_matches pair.0 pair.1) c.all.new.self _ _ c.all.ensures.ran
    (YieldsList-from_zip
    (YieldsList-at c.zip.ensures.first
    (YieldsList-from_str_split 46 c.args.pattern.now.text
    (lit< tt) c.parts-then-count.ensures.text c.parts-then-count.ensures.whole c.parts-then-count.ensures.dots))
    (YieldsList-at c.zip.ensures.second
    (YieldsList-from_str_split 46 c.args.uri.now
    (lit< tt) c.parts-then-count-2.ensures.text c.parts-then-count-2.ensures.whole c.parts-then-count-2.ensures.dots)))
    (λ x b q k. search (rules, tests))
    ∙ pairs_pass part_matches (parts c.args.pattern.now.text) (parts c.args.uri.now)
    (sym (count_from_yields_List _ _ c.count.ensures.ran
    (YieldsList-from_str_split 46 c.args.pattern.now.text (lit< tt) c.parts.ensures.text c.parts.ensures.whole c.parts.ensures.dots))
    ∙ c.if-count.true
    ∙ count_from_yields_List _ _ c.count-2.ensures.ran
    (YieldsList-from_str_split 46 c.args.uri.now (lit< tt) c.parts-2.ensures.text c.parts-2.ensures.whole c.parts-2.ensures.dots))

pub returns-else-count : goal.returns-else-count
returns-else-count c =
    none_of_two_lengths part_matches (parts c.args.pattern.now.text) (parts c.args.uri.now) c.count.result c.count-2.result
    (count_from_yields_List _ _ c.count.ensures.ran
    (YieldsList-from_str_split 46 c.args.pattern.now.text (lit< tt) c.parts.ensures.text c.parts.ensures.whole c.parts.ensures.dots))
    (count_from_yields_List _ _ c.count-2.ensures.ran
    (YieldsList-from_str_split 46 c.args.uri.now (lit< tt) c.parts-2.ensures.text c.parts-2.ensures.whole c.parts-2.ensures.dots))
    c.if-count.false
