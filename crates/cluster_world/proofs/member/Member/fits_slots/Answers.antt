-- The length that the node tells is a slot's number, or 0.
use Rattle.std.proofs.Common.{◌≡◌, ◌<◌, ◌^◌, subst}
use Rattle.paxos_planning.specs.Node.{told_length}
use Rattle.cluster_world.specs.Members.{MemberState}
use Rattle.cluster_world.proofs.member.Member.fits_slots.Goals as goal

pub returns : goal.returns
returns g c =
    subst (λ (s : MemberState _ _ _). told_length s.node < 2 ^ 40) c.self.view_is
    (subst (λ n. n < 2 ^ 40) c.applied.ensures.length c.applied.ensures.within)
