-- One more event happened, or the one that did not happen changes nothing.
use Rattle.std.proofs.Common.{◌++◌, ◌∷◌, [], sym, ap, subst, List, ℕ, Option}
use Rattle.std.specs.Prelude.{OnOk, OnErr}
use Rattle.replica_machine.specs.Log.{machine_from}
use Rattle.paxos_packets.specs.Snapshot.{Snapshot}
use Rattle.cluster_world.specs.MemberSnapshots.{with_octets}
use Rattle.cluster_world.specs.Members.{held_of, GivenUpStay, AreLater, Renews}
use Rattle.cluster_world.specs.StandsAt.{Held, ShowsAt, StandsAt}
use Rattle.cluster_world.proofs.Reading.{leads_on}
use Rattle.cluster_world.proofs.world.World.step.Goals as goal

pub happen_in-requires-clause-leads : goal.happen_in-requires-clause-leads
happen_in-requires-clause-leads g c =
    let i = c.self.invariant.1 in
    let inside = c.self.inside in
    let was = λ (o : List ℕ). held_of inside.members inside.list.items inside.sent.packets inside.made.items o in
    (i.0, subst (λ (o : List ℕ). ShowsAt g.M.Body.Body.same (was o) i.0) (sym c.deref.ensures.value) i.1)

pub invariant_of-self : goal.invariant_of-self
invariant_of-self g c =
    let i = c.self.invariant.1 in
    let inside = c.self.inside in
    let is = c.deref.ensures.value in
    let was = λ (o : List ℕ). held_of inside.members inside.list.items inside.sent.packets inside.made.items o in
    let new = λ (o : List ℕ). held_of inside.members c.happen_in.new.list.items c.happen_in.new.sent.packets c.happen_in.new.made.items o in
    let k = leads_on (λ es. ShowsAt g.M.Body.Body.same (new inside.first.items) es) c.happen_in.result i.0 c.args.event.now
    ((subst (λ (o : List ℕ). ShowsAt g.M.Body.Body.same (was o) i.0
    → OnOk c.happen_in.result ((cut : Option Snapshot) × ShowsAt g.M.Body.Body.same (new o) (i.0 ++ with_octets cut c.args.event.now ∷ []))) is (c.happen_in.ensures.shows_ok i.0)) i.1)
    ((subst (λ (o : List ℕ). ShowsAt g.M.Body.Body.same (was o) i.0
    → OnErr c.happen_in.result (ShowsAt g.M.Body.Body.same (new o) i.0)) is (c.happen_in.ensures.shows_err i.0)) i.1) in
    (c.happen_in.ensures.seated, (k.0, k.1))

pub returns-clause-shows_ok : goal.returns-clause-shows_ok
returns-clause-shows_ok g c = λ es h.
    let inside = c.self.inside in
    let is = c.deref.ensures.value in
    let was = λ (o : List ℕ). held_of inside.members inside.list.items inside.sent.packets inside.made.items o in
    let new = λ (o : List ℕ). held_of inside.members c.happen_in.new.list.items c.happen_in.new.sent.packets c.happen_in.new.made.items o in
    (subst (λ (o : List ℕ). ShowsAt g.M.Body.Body.same (was o) es → OnOk c.happen_in.result ((cut : Option Snapshot) × ShowsAt g.M.Body.Body.same (new o) (es ++ with_octets cut c.args.event.now ∷ [])))
    is (c.happen_in.ensures.shows_ok es))
    (subst (λ (w : Held _ _ _). ShowsAt g.M.Body.Body.same w es) (sym c.self.view_is) h)

pub returns-clause-shows_err : goal.returns-clause-shows_err
returns-clause-shows_err g c = λ es h.
    let inside = c.self.inside in
    let is = c.deref.ensures.value in
    let was = λ (o : List ℕ). held_of inside.members inside.list.items inside.sent.packets inside.made.items o in
    let new = λ (o : List ℕ). held_of inside.members c.happen_in.new.list.items c.happen_in.new.sent.packets c.happen_in.new.made.items o in
    (subst (λ (o : List ℕ). ShowsAt g.M.Body.Body.same (was o) es → OnErr c.happen_in.result (ShowsAt g.M.Body.Body.same (new o) es))
    is (c.happen_in.ensures.shows_err es))
    (subst (λ (w : Held _ _ _). ShowsAt g.M.Body.Body.same w es) (sym c.self.view_is) h)

pub returns-clause-ok : goal.returns-clause-ok
returns-clause-ok g c = λ first es h.
    let m = machine_from g.M.Machine.steps first in
    let inside = c.self.inside in
    let is = c.deref.ensures.value in
    let was = λ (o : List ℕ). held_of inside.members inside.list.items inside.sent.packets inside.made.items o in
    let new = λ (o : List ℕ). held_of inside.members c.happen_in.new.list.items c.happen_in.new.sent.packets c.happen_in.new.made.items o in
    (subst (λ (o : List ℕ). StandsAt g.M.Body.Body.same g.M.Machine.content g.M.Machine.saved g.M.Machine.loaded m (was o) es
    → OnOk c.happen_in.result (StandsAt g.M.Body.Body.same g.M.Machine.content g.M.Machine.saved g.M.Machine.loaded m (new o) (es ++ c.args.event.now ∷ [])))
    is (c.happen_in.ensures.ok first es))
    (subst (λ (w : Held _ _ _). StandsAt g.M.Body.Body.same g.M.Machine.content g.M.Machine.saved g.M.Machine.loaded m w es) (sym c.self.view_is) h)

pub returns-clause-err : goal.returns-clause-err
returns-clause-err g c = λ first es h.
    let m = machine_from g.M.Machine.steps first in
    let inside = c.self.inside in
    let is = c.deref.ensures.value in
    let was = λ (o : List ℕ). held_of inside.members inside.list.items inside.sent.packets inside.made.items o in
    let new = λ (o : List ℕ). held_of inside.members c.happen_in.new.list.items c.happen_in.new.sent.packets c.happen_in.new.made.items o in
    (subst (λ (o : List ℕ). StandsAt g.M.Body.Body.same g.M.Machine.content g.M.Machine.saved g.M.Machine.loaded m (was o) es
    → OnErr c.happen_in.result (StandsAt g.M.Body.Body.same g.M.Machine.content g.M.Machine.saved g.M.Machine.loaded m (new o) es))
    is (c.happen_in.ensures.err first es))
    (subst (λ (w : Held _ _ _). StandsAt g.M.Body.Body.same g.M.Machine.content g.M.Machine.saved g.M.Machine.loaded m w es) (sym c.self.view_is) h)

pub returns-clause-later : goal.returns-clause-later
returns-clause-later g c =
    let inside = c.self.inside in
    let is = c.deref.ensures.value in
    let was = λ (o : List ℕ). held_of inside.members inside.list.items inside.sent.packets inside.made.items o in
    let new = λ (o : List ℕ). held_of inside.members c.happen_in.new.list.items c.happen_in.new.sent.packets c.happen_in.new.made.items o in
    subst (λ (w : Held _ _ _). AreLater w (new inside.first.items)) c.self.view_is
    (subst (λ (o : List ℕ). AreLater (was o) (new o)) is c.happen_in.ensures.later)

pub returns-clause-given_up : goal.returns-clause-given_up
returns-clause-given_up g c =
    let inside = c.self.inside in
    let is = c.deref.ensures.value in
    let was = λ (o : List ℕ). held_of inside.members inside.list.items inside.sent.packets inside.made.items o in
    let new = λ (o : List ℕ). held_of inside.members c.happen_in.new.list.items c.happen_in.new.sent.packets c.happen_in.new.made.items o in
    subst (λ (w : Held _ _ _). GivenUpStay w (new inside.first.items)) c.self.view_is
    (subst (λ (o : List ℕ). GivenUpStay (was o) (new o)) is c.happen_in.ensures.given_up)

pub returns-clause-first : goal.returns-clause-first
returns-clause-first g c = ap (λ (w : Held _ _ _). w.first) c.self.view_is

pub returns-clause-renewed : goal.returns-clause-renewed
returns-clause-renewed g c =
    let inside = c.self.inside in
    let is = c.deref.ensures.value in
    let was = λ (o : List ℕ). held_of inside.members inside.list.items inside.sent.packets inside.made.items o in
    let new = λ (o : List ℕ). held_of inside.members c.happen_in.new.list.items c.happen_in.new.sent.packets c.happen_in.new.made.items o in
    subst (λ (w : Held _ _ _). OnOk c.happen_in.result (Renews g.M.Machine.loaded c.args.event.now w (new inside.first.items))) c.self.view_is
    (subst (λ (o : List ℕ). OnOk c.happen_in.result (Renews g.M.Machine.loaded c.args.event.now (was o) (new o))) is c.happen_in.ensures.renewed)
