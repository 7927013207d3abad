use Rattle.std.proofs.Common.{◌≡◌, ◌++◌, map}
use Rattle.realm_snapshot.specs.Writing.{list_octets, subscription_octets}
use Rattle.realm_snapshot.specs.Reading.{list_reading, subscription_reading}
use Rattle.realm_snapshot.specs.Snapshot.{Backs}
use Rattle.realm_snapshot.proofs.Listing.{of_listed}
use Rattle.realm_snapshot.proofs.writing.put_subscribed.Goals as goal

pub returns-clause-ok : goal.returns-clause-ok
returns-clause-ok c =
    of_listed (λ list. map (λ group. group.now) list.items)
    (λ l. c.put_groups.new.out.items ≡ c.args.out.now.items ++ list_octets subscription_octets l) c.to_vec.result c.put_groups.result
    c.args.subscriptions.now.list c.put_groups.ensures.ok c.to_vec.ensures.list

pub returns-clause-back : goal.returns-clause-back
returns-clause-back c =
    of_listed (λ list. map (λ group. group.now) list.items)
    (λ l. Backs (list_reading subscription_reading) (list_octets subscription_octets l) l)
    c.to_vec.result c.put_groups.result c.args.subscriptions.now.list c.put_groups.ensures.back c.to_vec.ensures.list
