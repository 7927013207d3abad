use Rattle.std.proofs.Common.{◌≡◌, ◌≤◌, ap, false, length, subst, sym}
use Rattle.std.specs.List.{list_any}
use Rattle.wamp_ids.specs.Uri.{is_empty, parts}
use Rattle.wamp_patterns.proofs.Bounds.{named_uri, short_uri}
use Rattle.wamp_patterns.proofs.table.uri_octets.Goals as goal

pub returns-clause-within : goal.returns-clause-within
returns-clause-within c = subst (λ n. n ≤ 1024) (sym (ap length c.as_bytes.ensures.value)) (short_uri c.as_str.result.now c.as_str.ensures.uri)

pub returns-clause-named : goal.returns-clause-named
returns-clause-named c =
    subst (λ u. list_any is_empty (parts u) ≡ false) (sym c.as_bytes.ensures.value) (named_uri c.as_str.result.now c.as_str.ensures.uri)
