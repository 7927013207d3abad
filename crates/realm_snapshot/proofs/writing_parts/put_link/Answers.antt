use Rattle.realm_snapshot.proofs.Listing.{on_ok_more}
use Rattle.realm_snapshot.proofs.PartsBack.{link_back}
use Rattle.realm_snapshot.proofs.Only.{link_only}
use Rattle.realm_snapshot.proofs.writing_parts.put_link.Goals as goal

pub returns-clause-back : goal.returns-clause-back
returns-clause-back c =
    on_ok_more c.put_session.result
    (λ session numbered. link_back c.args.link.now (c.in_ok-put_transport.ensures.back numbered) session)
    c.put_session.ensures.back

pub returns-clause-only : goal.returns-clause-only
returns-clause-only c =
    on_ok_more c.put_session.result (λ session. link_only c.args.link.now c.in_ok-put_transport.ensures.only session)
    c.put_session.ensures.back
