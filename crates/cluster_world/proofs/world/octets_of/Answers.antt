-- The first member's machine has the first content.
use Rattle.std.proofs.Common.{◌≡◌, false, [], sym, ◌∙◌, subst}
use Rattle.replica_machine.specs.Log.{machine_from}
use Rattle.replica_follower.specs.Following.{Follows}
use Rattle.cluster_world.specs.Members.{MemberState}
use Rattle.cluster_world.proofs.Attends.{saves_first, loads_none, none_given, none_long}
use Rattle.cluster_world.proofs.Replacing.{some_same}
use Rattle.cluster_world.proofs.world.octets_of.Goals as goal

pub returns-in-Ok : goal.returns-in-Ok
returns-in-Ok g c = λ first s at alive none follows.
    let m = machine_from g.M.Machine.steps first in
    let log = c.in-Some.member.now.machine.log in
    let is : s ≡ c.in-Some.member.now = some_same (sym at ∙ sym c.in-Some.ensures.value) in
    let at_log = (subst (λ (z : MemberState _ _ _). Follows g.M.Machine.content m [] z.machine) is follows)
    (subst (λ (z : MemberState _ _ _). z.machine.given_up ≡ false) is alive) in
    let empty = subst (λ (z : MemberState _ _ _). z.machine.log.applied ≡ []) is none in
    saves_first g.M.Machine.content m g.M.Machine.loaded c.in-Ok.octets.items log at_log empty
    (c.in-Ok.ensures.only first [] (record { below = at_log.below; stands = at_log.stands }) (none_given log.applied empty)
    (none_long log at_log.below empty))

pub returns-in-Err-Failed : goal.returns-in-Err-Failed
returns-in-Err-Failed g c = λ first s at alive none follows.
    loads_none g.M.Machine.loaded first c.new-in-Err-Failed.result.items c.new-in-Err-Failed.ensures.items
