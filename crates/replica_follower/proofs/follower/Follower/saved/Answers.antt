-- What the octets load as is what the machine's own octets do.
use Rattle.std.proofs.Common.{◌≡◌, ap, sym, ◌∙◌, subst, ◌<◌, ◌++◌, List, false}
use Rattle.std.specs.Prelude.{IfOk, IfSome}
use Rattle.std.proofs.lemmas.Result.{IfOk-weaker}
use Rattle.paxos_packets.specs.declared.entry.Entry.{Entry}
use Rattle.replica_machine.specs.Given.{AreGiven}
use Rattle.replica_machine.specs.Log.{LogState, IsLogOf, length_in}
use Rattle.replica_machine.specs.Snapshot.{kept_of, kept_octets, loaded_log}
use Rattle.replica_follower.specs.Following.{Followed}
use Rattle.replica_follower.proofs.Holding.{whole_log}
use Rattle.replica_follower.proofs.Loading.{keeps, loads, plainly}
use Rattle.replica_follower.proofs.follower.Follower.saved.Goals as goal

pub returns-clause-only : goal.returns-clause-only
returns-clause-only g c =
    let machine = g.M.Machine in
    let log_is : c.self.inside.applied ≡ c.args.self.now.log
    = sym (whole_log c.self.inside.stands c.self.inside.applied (c.self.invariant.whole c.if-self.false))
    ∙ ap (λ (v : Followed g.row.M-Body.Denot g.row.M.Denot g.row.M-Say.Denot). v.log) c.self.view_is in
    subst (λ (log : LogState g.row.M-Body.Denot g.row.M.Denot). (first : machine.Content) → (under : List (Entry g.row.M-Body.Denot))
    → IsLogOf machine.steps machine.content first under log → AreGiven (under ++ log.applied) → length_in log < 1099511627776
    → IfOk c.save.result (λ octets. IfSome (loaded_log machine.loaded octets.items) (λ kept. kept ≡ kept_of machine.content log)))
    log_is c.save.ensures.only

pub returns-clause-alive : goal.returns-clause-alive
returns-clause-alive g c =
    let machine = g.M.Machine in
    let alive : c.args.self.now.given_up ≡ false
    = sym (ap (λ (v : Followed g.row.M-Body.Denot g.row.M.Denot g.row.M-Say.Denot). v.given_up) c.self.view_is) ∙ c.if-self.false in
    IfOk-weaker c.save.result (λ octets. octets.items ≡ kept_octets machine.saved (kept_of machine.content c.self.inside.applied))
    (λ octets. c.args.self.now.given_up ≡ false) (λ octets are. alive) c.save.ensures.octets

pub returns-clause-keeps : goal.returns-clause-keeps
returns-clause-keeps g c = λ first under follows.
    let machine = g.M.Machine in
    let log_is : c.self.inside.applied ≡ c.args.self.now.log
    = sym (whole_log c.self.inside.stands c.self.inside.applied (c.self.invariant.whole c.if-self.false))
    ∙ ap (λ (v : Followed g.row.M-Body.Denot g.row.M.Denot g.row.M-Say.Denot). v.log) c.self.view_is in
    let alive : c.args.self.now.given_up ≡ false
    = sym (ap (λ (v : Followed g.row.M-Body.Denot g.row.M.Denot g.row.M-Say.Denot). v.given_up) c.self.view_is) ∙ c.if-self.false in
    keeps machine.steps machine.content first under c.save.result (λ octets. octets.items) c.args.self.now.log (follows alive) machine.saved
    (subst (λ (log : LogState g.row.M-Body.Denot g.row.M.Denot).
    IfOk c.save.result (λ octets. octets.items ≡ kept_octets machine.saved (kept_of machine.content log))) log_is c.save.ensures.octets)

pub returns-clause-loads : goal.returns-clause-loads
returns-clause-loads g c = λ first under follows given within.
    let machine = g.M.Machine in
    let log_is : c.self.inside.applied ≡ c.args.self.now.log
    = sym (whole_log c.self.inside.stands c.self.inside.applied (c.self.invariant.whole c.if-self.false))
    ∙ ap (λ (v : Followed g.row.M-Body.Denot g.row.M.Denot g.row.M-Say.Denot). v.log) c.self.view_is in
    let alive : c.args.self.now.given_up ≡ false
    = sym (ap (λ (v : Followed g.row.M-Body.Denot g.row.M.Denot g.row.M-Say.Denot). v.given_up) c.self.view_is) ∙ c.if-self.false in
    let only = subst (λ (log : LogState g.row.M-Body.Denot g.row.M.Denot). (first : machine.Content) → (under : List (Entry g.row.M-Body.Denot))
    → IsLogOf machine.steps machine.content first under log → AreGiven (under ++ log.applied) → length_in log < 1099511627776
    → IfOk c.save.result (λ octets. IfSome (loaded_log machine.loaded octets.items) (λ kept. kept ≡ kept_of machine.content log)))
    log_is c.save.ensures.only in
    loads machine.steps machine.content first under c.save.result (λ octets. octets.items) c.args.self.now.log (follows alive) machine.loaded
    given within (only first under (plainly machine.steps machine.content first under c.args.self.now.log (follows alive)))
