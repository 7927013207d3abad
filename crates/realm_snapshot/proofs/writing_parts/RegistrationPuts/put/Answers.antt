use Rattle.std.proofs.Common.{◌++◌, ap, ◌∙◌, subst}
use Rattle.realm_snapshot.specs.Writing.{one_octet, eight_octets, list_octets, text_octets, match_number, invoke_number}
use Rattle.realm_snapshot.specs.Reading.{list_reading, id_reading}
use Rattle.realm_snapshot.specs.Snapshot.{Backs}
use Rattle.realm_snapshot.proofs.Listing.{last_put, on_ok_more}
use Rattle.realm_snapshot.proofs.PartsBack.{registration_back}
use Rattle.realm_snapshot.proofs.writing_parts.RegistrationPuts.put.Goals as goal

pub returns-clause-ok : goal.returns-clause-ok
returns-clause-ok c =
    let it = c.args.self.now in
    let r = c.put_ids.result in
    let new = c.put_ids.new.out.items in
    let matching = one_octet (match_number it.pattern.matching) in
    let invoke = one_octet (invoke_number it.invoke) in
    let text = text_octets it.pattern.text in
    let callees = list_octets eight_octets it.callees in
    let first = c.put_id.new.out.items in
    let second = c.put_one.new.out.items in
    let third = c.put_one-2.new.out.items in
    let fourth = c.put_text.new.out.items in
    last_put r (eight_octets it.id) (matching ++ (invoke ++ (text ++ callees))) c.args.out.now.items first new c.in_ok-put_id.ensures.ok
    (last_put r matching (invoke ++ (text ++ callees)) first second new
    (c.in_ok-put_one.ensures.ok ∙ ap (λ n. first ++ one_octet n) (c.match_number.ensures ∙ ap match_number c.matching.ensures))
    (last_put r invoke (text ++ callees) second third new
    (c.in_ok-put_one-2.ensures.ok ∙ ap (λ n. second ++ one_octet n) c.invoke_number.ensures)
    (last_put r text callees third fourth new c.in_ok-put_text.ensures.ok
    (on_ok_more r (λ put. put ∙ ap (λ l. fourth ++ list_octets eight_octets l) (c.deref.ensures.value ∙ c.in-Ok.ensures.list))
    c.put_ids.ensures.ok))))

pub returns-clause-back : goal.returns-clause-back
returns-clause-back c = on_ok_more c.put_ids.result
    (λ callees. registration_back c.args.self.now c.put_id.ensures.back c.in_ok-put_text.ensures.back
    (subst (λ l. Backs (list_reading id_reading) (list_octets eight_octets l) l)
    (c.deref.ensures.value ∙ c.in-Ok.ensures.list) callees)) c.put_ids.ensures.back
