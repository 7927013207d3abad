-- What its members were handed, in turn.
use Rattle.std.proofs.Common.{◌≡◌, sym, subst, ap, ◌∙◌, List, ℕ, Some}
use Rattle.std.specs.Prelude.{slice_get}
use Rattle.replica_follower.specs.Handed.{tellings, TellAll}
use Rattle.replica_machine.specs.Log.{machine_from}
use Rattle.cluster_world.specs.Members.{MemberState}
use Rattle.cluster_world.specs.StandsAt.{Held, StandsAt}
use Rattle.cluster_world.specs.Told.{WereHanded, tell_members}
use Rattle.cluster_world.specs.Saving.{played_of}
use Rattle.cluster_world.proofs.Telling.{were_handed}
use Rattle.cluster_world.proofs.world.World.handed.Goals as goal

pub returns : goal.returns
returns g c = λ first es h.
    let m = machine_from g.M.Machine.steps first in
    let k = subst (λ (w : Held _ _ _). StandsAt g.M.Body.Body.same g.M.Machine.content g.M.Machine.saved g.M.Machine.loaded m w es) (sym c.self.view_is) h in
    let told = subst (λ (l : List (MemberState _ _ _)). (i : ℕ) (s : MemberState _ _ _) → slice_get l i ≡ Some s
    → TellAll s.machine.told (tellings s.machine.told)) c.deref.ensures.value c.all_tell.ensures in
    subst (λ (w : Held _ _ _). WereHanded m (played_of g.M.Machine.saved m g.M.Body.Body.same w.members es) c.of.result) c.self.view_is
    (subst (λ l. WereHanded m (played_of g.M.Machine.saved m g.M.Body.Body.same c.self.inside.members es) l)
    (sym (c.of.ensures.are ∙ ap (λ l. tell_members l) c.deref-2.ensures.value))
    (were_handed g.M.Machine.content g.M.Machine.loaded m c.self.inside.members c.self.inside.list.items c.self.inside.sent.packets
    c.self.inside.made.items c.self.inside.first.items
    (played_of g.M.Machine.saved m g.M.Body.Body.same c.self.inside.members es) k told))
