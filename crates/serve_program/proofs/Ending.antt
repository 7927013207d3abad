-- Which faults end a boot, and a node: a restart that is refused was not refused because the node is lost.
use Rattle.std.proofs.Common.{◌≡◌, ℕ, Bool, true, false, List, Option, refl, ap, sym, ◌∙◌}
use Rattle.std.proofs.lemmas.Bool.{false≢true}
use Rattle.std.specs.Prelude.{◌==◌, ◌||◌, not}
use Rattle.actor_parts.specs.Fault as actor
use Rattle.actor_parts.specs.declared.fault.ActorFault.{ActorFault}
use Rattle.actor_parts.specs.declared.fault.ActorFault.TheVariants as acted
use Rattle.actor_run.specs.Answers.{is_refusal}
use Rattle.node_actor.specs.Beginning.{MayKeepFrom}
use Rattle.node_actor.specs.Posts.{Posted}
use Rattle.node_actor.specs.Preparing.{Refuses, IsUnmade, unread, others, unjudged, worn, unread_first, unmade, unbooted, strayed}
use Rattle.paxos_packets.specs.Snapshot.{Snapshot}
use Rattle.paxos_packets.specs.declared.rows.Rows.{Rows}
use Rattle.serve_program.specs.declared.fault.NodeFault.{NodeFault}
use Rattle.serve_program.specs.declared.fault.NodeFault.TheVariants as node
use Rattle.serve_program.specs.Fault.{number_of, is_fatal, IsEnding}
use Rattle.store_keeper.specs.Fault as keeping
use Rattle.store_keeper.specs.declared.fault.KeeperFault.{KeeperFault}
use Rattle.store_keeper.specs.declared.fault.KeeperFault.TheVariants as store

-- the numbers of faults that end a boot, and a node

abbrev fatal_by : ℕ → Bool
fatal_by n = not ((n == 51) || (n == 74))

abbrev ends_by : ℕ → Bool
ends_by n = not ((n == 51) || ((n == 73) || (n == 74)))

by_number : (f : NodeFault) → fatal_by (number_of f) ≡ true → is_fatal f ≡ true
by_number (node.Store f) e = refl
by_number node.Failed e = refl
by_number node.Rounds e = e
by_number node.Full e = e
by_number node.Disagree e = refl
by_number node.Lost e = refl
by_number node.Worn e = refl
by_number node.NoMember e = refl
by_number node.OtherCluster e = refl
by_number node.Memory e = refl

ends_by_number : (f : NodeFault) → ends_by (number_of f) ≡ true → IsEnding f
ends_by_number (node.Store f) e = refl
ends_by_number node.Failed e = refl
ends_by_number node.Rounds e = e
ends_by_number node.Full e = e
ends_by_number node.Disagree e = refl
ends_by_number node.Lost e = e
ends_by_number node.Worn e = refl
ends_by_number node.NoMember e = refl
ends_by_number node.OtherCluster e = refl
ends_by_number node.Memory e = refl

pub ends_unless_lost : (f : NodeFault) → is_fatal f ≡ true → (f ≡ node.Lost → ⊥) → IsEnding f
ends_unless_lost (node.Store f) fatal h = refl
ends_unless_lost node.Failed fatal h = refl
ends_unless_lost node.Rounds fatal h = fatal
ends_unless_lost node.Full fatal h = fatal
ends_unless_lost node.Disagree fatal h = refl
ends_unless_lost node.Lost fatal h = absurd (h refl)
ends_unless_lost node.Worn fatal h = refl
ends_unless_lost node.NoMember fatal h = refl
ends_unless_lost node.OtherCluster fatal h = refl
ends_unless_lost node.Memory fatal h = refl

-- the faults of a store, of a boot that does not begin, and of a restart that is refused

stored : (f : KeeperFault) → ends_by (keeping.number_of f) ≡ true
stored store.Store = refl
stored store.Damaged = refl
stored store.Version = refl
stored store.Memory = refl
stored store.Failed = refl
stored store.Boots = refl

kept : {Y : Type 0} (m n : ℕ) (f : ActorFault Y) → MayKeepFrom m n f → ends_by (actor.number_of f) ≡ true
kept m n (acted.Keeper f) may = stored f
kept m n acted.Memory may = refl
kept m n acted.Worn may = refl
kept m n acted.Failed may = refl
kept m n acted.Rounds may = absurd may
kept m n acted.Full may = absurd may
kept m n acted.Disagree may = refl
kept m n (acted.LostHere says) may = absurd may

unmade_ends : {S Y : Type 0} (loaded : List ℕ → Option S) (snapshot : Option Snapshot) (f : ActorFault Y) → IsUnmade loaded snapshot f
    → ends_by (actor.number_of f) ≡ true
unmade_ends loaded snapshot (acted.Keeper f) why = stored f
unmade_ends loaded snapshot acted.Memory why = refl
unmade_ends loaded snapshot acted.Failed why = absurd why
unmade_ends loaded snapshot acted.Rounds why = absurd why
unmade_ends loaded snapshot acted.Full why = absurd why
unmade_ends loaded snapshot acted.Disagree why = absurd why
unmade_ends loaded snapshot (acted.LostHere says) why = absurd why
unmade_ends loaded snapshot acted.Worn why = absurd why

refused : {B S K Y : Type 0} (same : B → B → Bool) (loaded : List ℕ → Option S) (holds finds : K → Rows B → Type 0) (is_faithful : K → Type 0)
    (failures : K → ℕ) (p : Posted B) (old new : K) (f : ActorFault Y) → Refuses same loaded holds finds is_faithful failures p old new f
    → ends_by (actor.number_of f) ≡ true
refused same loaded holds finds is_faithful failures p old new _ (unread k f has stays rose sound) = stored f
refused same loaded holds finds is_faithful failures p old new _ (others k r has loads fit) = refl
refused same loaded holds finds is_faithful failures p old new _ (unjudged k r has loads other failed) = refl
refused same loaded holds finds is_faithful failures p old new _ (worn is) = refl
refused same loaded holds finds is_faithful failures p old new _ (unread_first f none counts stays rose sound) = stored f
refused same loaded holds finds is_faithful failures p old new _ (unmade f r meant fits why) = unmade_ends loaded r.snapshot f why
refused same loaded holds finds is_faithful failures p old new _ (unbooted f mid r meant unworn fits readable starts sound) =
    kept (failures mid) (failures new) f starts.may
refused same loaded holds finds is_faithful failures p old new _ (strayed mid r meant fits readable not_faithful starts) = refl

-- so what becomes of its fault ends the node
pub ends_refused : {B S K Y : Type 0} (same : B → B → Bool) (loaded : List ℕ → Option S) (holds finds : K → Rows B → Type 0)
    (is_faithful : K → Type 0) (failures : K → ℕ) (p : Posted B) (old new : K) (f : ActorFault Y)
    → Refuses same loaded holds finds is_faithful failures p old new f → (made : NodeFault) → number_of made ≡ actor.number_of f → IsEnding made
ends_refused same loaded holds finds is_faithful failures p old new f is made number =
    ends_by_number made (ap ends_by number ∙ refused same loaded holds finds is_faithful failures p old new f is)

-- the fault of a run, which is no refusal

run_by : {Y : Type 0} (a : ActorFault Y) → is_refusal a ≡ false → fatal_by (actor.number_of a) ≡ true
run_by acted.Failed fatal = refl
run_by acted.Rounds fatal = absurd (false≢true (sym fatal))
run_by acted.Full fatal = absurd (false≢true (sym fatal))
run_by (acted.Keeper f) fatal = kept_by f
  where
    kept_by : (f : KeeperFault) → fatal_by (keeping.number_of f) ≡ true
    kept_by store.Store = refl
    kept_by store.Damaged = refl
    kept_by store.Version = refl
    kept_by store.Memory = refl
    kept_by store.Failed = refl
    kept_by store.Boots = refl
run_by acted.Disagree fatal = refl
run_by (acted.LostHere says) fatal = refl
run_by acted.Worn fatal = refl
run_by acted.Memory fatal = refl

pub ends_boot : {Y : Type 0} (a : ActorFault Y) → is_refusal a ≡ false → (made : NodeFault) → number_of made ≡ actor.number_of a → is_fatal made ≡ true
ends_boot a fatal made number = by_number made (ap fatal_by number ∙ run_by a fatal)
