use Rattle.std.proofs.Common.{◌++◌}
use Rattle.realm_snapshot.specs.Writing.{eight_octets, flag_octets, option_octets}
use Rattle.realm_snapshot.proofs.Listing.{last_put, on_ok}
use Rattle.realm_snapshot.proofs.PartsBack.{session_back}
use Rattle.realm_snapshot.proofs.writing_parts.put_joined.Goals as goal

pub returns-clause-ok : goal.returns-clause-ok
returns-clause-ok c =
    let session = c.args.session.now in
    let r = c.put_option.result in
    let new = c.put_option.new.out.items in
    let canceling = flag_octets session.canceling in
    let last = option_octets session.last_invocation in
    last_put r (eight_octets session.id) (canceling ++ last) c.args.out.now.items c.put_id.new.out.items new c.in_ok-put_id.ensures.ok
    (last_put r canceling last c.put_id.new.out.items c.put_flag.new.out.items new c.in_ok-put_flag.ensures.ok c.put_option.ensures.ok)

pub returns-clause-back : goal.returns-clause-back
returns-clause-back c =
    on_ok c.put_option.result (session_back c.args.session.now c.put_id.ensures.back c.put_option.ensures.back)
