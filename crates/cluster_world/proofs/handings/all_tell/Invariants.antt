use Rattle.std.proofs.Common.{◌≡◌, ◌<◌, ℕ, Some}
use Rattle.std.specs.Prelude.{slice_get}
use Rattle.cluster_world.specs.Members.{MemberState}
use Rattle.replica_follower.specs.Handed.{TellAll, tellings}
use Rattle.cluster_world.proofs.handings.all_tell.Given as goal

-- so does each one so far
abbrev pub invariant-loop-place : goal.invariant-loop-place
invariant-loop-place g l =
    (i : ℕ) (s : MemberState _ _ _) → i < l.place → slice_get l.members i ≡ Some s
    → TellAll s.machine.told (tellings s.machine.told)
