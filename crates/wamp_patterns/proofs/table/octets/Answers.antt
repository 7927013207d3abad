use Rattle.std.proofs.Common.{◌≤◌, ◌∙◌, ap, length, subst, sym}
use Rattle.wamp_patterns.proofs.Bounds.{short_pattern}
use Rattle.wamp_patterns.proofs.table.octets.Goals as goal

pub returns-clause-within : goal.returns-clause-within
returns-clause-within c =
    subst (λ n. n ≤ 1024) (sym (ap length (c.as_bytes.ensures.value ∙ c.as_str.ensures.text))) (short_pattern c.args.pattern.now c.as_str.ensures.pattern)
