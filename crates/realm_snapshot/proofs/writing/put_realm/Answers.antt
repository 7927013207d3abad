use Rattle.std.proofs.Common.{◌≡◌, ◌≤◌, ◌++◌, ap, ◌∙◌, subst}
use Rattle.std.specs.Prelude.{OnOk}
use Rattle.realm_machine.specs.Machine.{Live}
use Rattle.realm_machine.specs.Parts.{lists_of}
use Rattle.realm_snapshot.specs.Writing.{eight_octets, list_octets, config_octets, link_octets, registration_octets, subscription_octets}
use Rattle.realm_snapshot.specs.Writing.{call_octets, lists_octets, saved}
use Rattle.realm_snapshot.specs.Reading.{made_reading}
use Rattle.realm_snapshot.specs.Snapshot.{AreNumbered, Backs, ReadsNoOther}
use Rattle.realm_snapshot.proofs.Listing.{last_put, on_ok_more}
use Rattle.realm_snapshot.proofs.RoundTrip.{last_back}
use Rattle.realm_snapshot.proofs.RealmBack.{lists_back, made_back}
use Rattle.realm_snapshot.proofs.Only.{lists_only, made_only}
use Rattle.realm_snapshot.proofs.writing.put_realm.Goals as goal

pub returns-clause-ok : goal.returns-clause-ok
returns-clause-ok c =
    let live : Live = record {
      config = record { name = c.parts.inside.name.now; limits = c.parts.inside.limits };
      content = record {
        sessions = c.parts.inside.sessions.now;
        registrations = c.parts.inside.registrations.now;
        subscriptions = c.parts.inside.subscriptions.now;
        calls = c.parts.inside.calls.now;
      };
    } in
    let lists = lists_of live.content in
    let r = c.put_open.result in
    let new = c.put_open.new.out.items in
    let second = eight_octets lists.last_subscription in
    let links = list_octets link_octets lists.links in
    let registrations = list_octets registration_octets lists.registrations in
    let subscriptions = list_octets subscription_octets lists.subscriptions in
    let calls = list_octets call_octets lists.calls in
    let from_registrations = registrations ++ (subscriptions ++ calls) in
    let at_config = c.put_config.new.out.items in
    let at_first = c.put_number.new.out.items in
    let at_second = c.put_number-2.new.out.items in
    let at_links = c.put_sessions.new.out.items in
    let at_registrations = c.put_registered.new.out.items in
    let at_subscriptions = c.put_subscribed.new.out.items in
    subst (λ v. OnOk r (new ≡ c.args.out.now.items ++ saved v)) c.parts.view_is
    (last_put r (config_octets live.config) (lists_octets lists) c.args.out.now.items at_config new c.in_ok-put_config.ensures.ok
    (last_put r (eight_octets lists.last_registration) (second ++ (links ++ from_registrations)) at_config at_first new
    (c.in_ok-put_number.ensures.ok ∙ ap (λ n. at_config ++ eight_octets n) c.last.ensures.last)
    (last_put r second (links ++ from_registrations) at_first at_second new
    (c.in_ok-put_number-2.ensures.ok ∙ ap (λ n. at_first ++ eight_octets n) c.last-2.ensures.last)
    (last_put r links from_registrations at_second at_links new c.in_ok-put_sessions.ensures.ok
    (last_put r registrations (subscriptions ++ calls) at_links at_registrations new c.in_ok-put_registered.ensures.ok
    (last_put r subscriptions calls at_registrations at_subscriptions new c.in_ok-put_subscribed.ensures.ok c.put_open.ensures.ok))))))

pub returns-clause-back : goal.returns-clause-back
returns-clause-back c =
    let live : Live = record {
      config = record { name = c.parts.inside.name.now; limits = c.parts.inside.limits };
      content = record {
        sessions = c.parts.inside.sessions.now;
        registrations = c.parts.inside.registrations.now;
        subscriptions = c.parts.inside.subscriptions.now;
        calls = c.parts.inside.calls.now;
      };
    } in
    subst
    (λ (v : Live). OnOk c.put_open.result (AreNumbered v.content.sessions.list
    → Backs made_reading (saved v) (record { config = v.config; lists = lists_of v.content }))) c.parts.view_is
    (on_ok_more c.put_open.result
    (λ calls numbered. made_back live c.in_ok-put_config.ensures.back
    (lists_back (lists_of live.content)
    (last_back live.content.registrations.last (subst (λ n. n ≤ 9007199254740992) c.last.ensures.last c.last.ensures.within))
    (last_back live.content.subscriptions.last (subst (λ n. n ≤ 9007199254740992) c.last-2.ensures.last c.last-2.ensures.within))
    (c.in_ok-put_sessions.ensures.back numbered) c.in_ok-put_registered.ensures.back c.in_ok-put_subscribed.ensures.back calls))
    c.put_open.ensures.back)

pub returns-clause-only : goal.returns-clause-only
returns-clause-only c =
    let live : Live = record {
      config = record { name = c.parts.inside.name.now; limits = c.parts.inside.limits };
      content = record {
        sessions = c.parts.inside.sessions.now;
        registrations = c.parts.inside.registrations.now;
        subscriptions = c.parts.inside.subscriptions.now;
        calls = c.parts.inside.calls.now;
      };
    } in
    subst
    (λ (v : Live). OnOk c.put_open.result
    (ReadsNoOther made_reading (saved v) (record { config = v.config; lists = lists_of v.content }))) c.parts.view_is
    (on_ok_more c.put_open.result
    (λ calls. made_only live c.in_ok-put_config.ensures.back
    (lists_only (lists_of live.content)
    (last_back live.content.registrations.last (subst (λ n. n ≤ 9007199254740992) c.last.ensures.last c.last.ensures.within))
    (last_back live.content.subscriptions.last (subst (λ n. n ≤ 9007199254740992) c.last-2.ensures.last c.last-2.ensures.within))
    c.in_ok-put_sessions.ensures.only c.in_ok-put_registered.ensures.back c.in_ok-put_subscribed.ensures.back calls))
    c.put_open.ensures.back)
