use Rattle.std.proofs.Common.{◌≡◌, true, drop}
use Rattle.wamp_ids.specs.Glance.{is_plain}
use Rattle.wamp_ids.proofs.uri.is_plain_ascii.Given as goal

abbrev pub invariant-loop-octet : goal.invariant-loop-octet
invariant-loop-octet l = is_plain true l.octets ≡ is_plain l.at_start (drop l.octet-index l.octets)
