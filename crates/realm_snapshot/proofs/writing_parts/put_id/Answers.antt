use Rattle.std.proofs.Common.{◌≡◌, true, subst}
use Rattle.wamp_ids.specs.Id.{is_id}
use Rattle.realm_snapshot.proofs.RoundTrip.{id_back}
use Rattle.realm_snapshot.proofs.writing_parts.put_id.Goals as goal

pub returns-clause-back : goal.returns-clause-back
returns-clause-back c = id_back c.args.id (subst (λ n. is_id n ≡ true) c.get.ensures.value c.get.ensures.range)
