-- A text that another begins, as the list function says it.
use Rattle.std.proofs.lemmas.Str.Pattern.{starts_text}
use Rattle.wamp_patterns.proofs.matching.begins.Goals as goal

pub returns : goal.returns
returns c = starts_text _ _ _ c.starts_with.ensures.cases
