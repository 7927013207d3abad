use Rattle.std.proofs.Common.{◌++◌}
use Rattle.realm_snapshot.specs.Writing.{eight_octets, flag_octets}
use Rattle.realm_snapshot.proofs.Listing.{last_put, on_ok}
use Rattle.realm_snapshot.proofs.PartsBack.{call_back}
use Rattle.realm_snapshot.proofs.writing_parts.put_call.Goals as goal

pub returns-clause-ok : goal.returns-clause-ok
returns-clause-ok c =
    let call = c.args.call.now in
    let r = c.put_flag.result in
    let new = c.put_flag.new.out.items in
    let request = eight_octets call.request in
    let callee = eight_octets call.callee in
    let invocation = eight_octets call.invocation in
    let flag = flag_octets call.progress in
    last_put r (eight_octets call.caller) (request ++ (callee ++ (invocation ++ flag))) c.args.out.now.items c.put_id.new.out.items new
    c.in_ok-put_id.ensures.ok
    (last_put r request (callee ++ (invocation ++ flag)) c.put_id.new.out.items c.put_id-2.new.out.items new c.in_ok-put_id-2.ensures.ok
    (last_put r callee (invocation ++ flag) c.put_id-2.new.out.items c.put_id-3.new.out.items new c.in_ok-put_id-3.ensures.ok
    (last_put r invocation flag c.put_id-3.new.out.items c.put_id-4.new.out.items new c.in_ok-put_id-4.ensures.ok c.put_flag.ensures.ok)))

pub returns-clause-back : goal.returns-clause-back
returns-clause-back c =
    on_ok c.put_flag.result
    (call_back c.args.call.now c.put_id.ensures.back c.put_id-2.ensures.back c.put_id-3.ensures.back c.put_id-4.ensures.back)
