-- A member that cuts, and one that does not.
use Rattle.std.proofs.Common.{◌≡◌, ℕ, Bool, true, false, ◌&&◌, refl, sym, ap, ◌∙◌, subst, List, [], ◌++◌, Option, None, Some}
use Rattle.std.specs.Prelude.{Result, Ok, Err, OnOk, OnErr}
use Rattle.std.proofs.lemmas.Bool.{and_parts}
use Rattle.std.proofs.lemmas.List.{append-nil}
use Rattle.paxos_packets.specs.Snapshot.{Snapshot}
use Rattle.paxos_packets.specs.declared.entry.Entry.{Entry}
use Rattle.paxos_packets.specs.declared.packet.Packet.{Packet}
use Rattle.paxos_node.specs.declared.event.Event.{Event}
use Rattle.paxos_node.specs.declared.event.Event.TheVariants.{Cut}
use Rattle.paxos_node.specs.Events.{owner, outcome_of, possible}
use Rattle.paxos_node.specs.Snapshots.{may_cut}
use Rattle.paxos_planning.specs.Node.{NodeState, Plan}
use Rattle.paxos_planning.specs.Plan.{begun}
use Rattle.replica_machine.specs.Replay.{Machine}
use Rattle.replica_follower.specs.Following.{Followed, Follows}
use Rattle.replica_follower.specs.Handed.{said_in}
use Rattle.world_nodes.specs.Nodes.{IsAtRest}
use Rattle.cluster_world.specs.Members.{MemberState, Unmoved, Goes, GoesOn, Rests, IsGivenUp}
use Rattle.cluster_world.specs.MemberSnapshots.{Cuts, StillFollows, own_cut, its_event, may_happen, under_from}
use Rattle.cluster_world.specs.StandsAt.{HasLog}
use Rattle.cluster_world.proofs.AtOnce.{cut_rest}
use Rattle.cluster_world.proofs.Attends.{quiet}

unlike : {P : Type 0} (b : Bool) → b ≡ true → b ≡ false → P
unlike b t f = let z : true ≡ false = sym t ∙ f in cc

module _ {B : Type 0} (same : B → B → Bool) (me members : ℕ) (x : NodeState B) where
  -- nothing is left in the log of a node that has cut, and at which nothing waited
  left : (s : Option Snapshot) → may_cut s x ≡ true → IsAtRest x → (outcome_of same members (Cut me s) x).node.applied ≡ []
  left None may rest = (let z : false ≡ true = may in cc)
  left (Some s) may rest = ap (λ t. t.node.applied) (cut_rest me (begun x) (Some s) may rest)

  -- it sends nothing, applies nothing, and commits the snapshot

  pub sends_none : (s : Option Snapshot) → may_cut s x ≡ true → IsAtRest x → (outcome_of same members (Cut me s) x).packets ≡ []
  sends_none None may rest = (let z : false ≡ true = may in cc)
  sends_none (Some s) may rest = ap (λ t. t.packets) (cut_rest me (begun x) (Some s) may rest)

  pub applies_none : (s : Option Snapshot) → may_cut s x ≡ true → IsAtRest x → (outcome_of same members (Cut me s) x).applied ≡ []
  applies_none None may rest = (let z : false ≡ true = may in cc)
  applies_none (Some s) may rest = ap (λ t. t.applied) (cut_rest me (begun x) (Some s) may rest)

  pub under_cut : (s : Option Snapshot) (under over : List (Entry B)) → may_cut s x ≡ true → IsAtRest x
      → under_from false (outcome_of same members (Cut me s) x).change.snapshot under over x.applied ≡ under ++ x.applied
  under_cut None under over may rest = (let z : false ≡ true = may in cc)
  under_cut (Some s) under over may rest =
      ap (λ (t : Plan B). under_from false t.change.snapshot under over x.applied) (cut_rest me (begun x) (Some s) may rest)

  module _ {M Y : Type 0} (s : Option Snapshot) (f : Followed B M Y) where
    pub cut_done : (y : NodeState B) (g : Followed B M Y) → may_cut s x ≡ true → IsAtRest x → y ≡ (outcome_of same members (Cut me s) x).node
        → g.log.applied ≡ [] → g.told ≡ f.told → Cuts same me members s x y f g
    cut_done y g may rest is log told =
        record {
          cut = λ _. is;
          none = λ never. unlike (may_cut s x) may never;
          log = λ _. log ∙ sym (ap (λ (z : NodeState B). z.applied) is ∙ left s may rest);
          told = told;
        }

    pub cut_none : (y : NodeState B) → may_cut s x ≡ false → f.log.applied ≡ x.applied → y ≡ x → Cuts same me members s x y f f
    cut_none y never log is =
        record {
          cut = λ may. unlike (may_cut s x) may never;
          none = λ _. is;
          log = λ _. log ∙ sym (ap (λ (z : NodeState B). z.applied) is);
          told = refl;
        }

    module _ {S : Type 0} (content : M → S) (m : Machine B S Y) (under : List (Entry B)) where
      pub follows_done : (g : Followed B M Y) → may_cut s x ≡ true → f.log.applied ≡ x.applied → Follows content m (under ++ f.log.applied) g
          → StillFollows content m s under x g
      follows_done g may log follows = (
        λ _. subst (λ es. Follows content m (under ++ es) g) log follows,
        λ never. unlike (may_cut s x) may never,
      )

      pub follows_none : may_cut s x ≡ false → Follows content m under f → StillFollows content m s under x f
      follows_none never follows = (λ may. unlike (may_cut s x) may never, λ _. follows)

-- the event at a member

pub cut_up : {B : Type 0} (e : Event B) (n : ℕ) (s : Option Snapshot) (x : NodeState B) → e ≡ Cut n s → may_happen e x ≡ true → x.up ≡ true
cut_up e n s x is may = subst (λ d. may_happen d x ≡ true) is may

module _ {B M S Y : Type 0} (same : B → B → Bool) (saved : S → List ℕ) (content : M → S) (e : Event B) (n : ℕ) (s : Option Snapshot) (is : e ≡ Cut n s)
    (old new : MemberState B M Y) (own : owner e ≡ old.me) (may : may_happen e old.node ≡ true) where
  abbrev snapshot : Option Snapshot
  snapshot = own_cut saved content old.machine.log

  -- it happens as a cut to what the machine saves, and is possible if that is a snapshot
  its : its_event saved content old.machine e ≡ Cut old.me snapshot
  its = ap (λ d. its_event saved content old.machine d) is ∙ ap (λ k. Cut k snapshot) (subst (λ d. owner d ≡ old.me) is own)

  cuts_if : possible (Cut old.me snapshot) old.node ≡ true → may_cut snapshot old.node ≡ true
  cuts_if can = (and_parts old.node.up (may_cut snapshot old.node) can).1

  cuts_unless : possible (Cut old.me snapshot) old.node ≡ false → may_cut snapshot old.node ≡ false
  cuts_unless never = ap (λ b. b && may_cut snapshot old.node) (sym (cut_up e n s old.node is may)) ∙ never

  module _ {R E : Type 0} (r : Result R E) where
    pub cut_goes : (sent : List (Packet B)) (made : List (Entry B)) → IsAtRest old.node
        → OnOk r (Cuts same old.me old.members snapshot old.node new.node old.machine new.machine)
        → OnOk r (Goes same (its_event saved content old.machine e) old new sent sent made made)
    cut_goes sent made rest cuts = go r cuts
      where
        go : (q : Result R E) → OnOk q (Cuts same old.me old.members snapshot old.node new.node old.machine new.machine)
            → OnOk q (Goes same (its_event saved content old.machine e) old new sent sent made made)
        go (Err a) h = tt
        go (Ok a) h =
            subst (λ d. Goes same d old new sent sent made made) (sym its)
            (record {
              moves = λ can. record {
                node = h.cut (cuts_if can);
                packets = sym (ap (λ ps. sent ++ ps) (sends_none same old.me old.members old.node snapshot (cuts_if can) rest) ∙ append-nil sent);
                made_is = sym (append-nil made);
                log = h.log;
              };
              stays = λ never. record { node = h.none (cuts_unless never); packets = refl; made_is = refl; log = h.log };
            })

    pub cut_happens : (m : Machine B S Y) (under over : List (Entry B)) → IsAtRest old.node
        → OnOk r (Cuts same old.me old.members snapshot old.node new.node old.machine new.machine)
        → OnOk r (StillFollows content m snapshot under old.node new.machine)
        → OnOk r (GoesOn same content m (its_event saved content old.machine e) under over old new)
    cut_happens m under over rest cuts follows = go r cuts follows
      where
        go : (q : Result R E) → OnOk q (Cuts same old.me old.members snapshot old.node new.node old.machine new.machine)
            → OnOk q (StillFollows content m snapshot under old.node new.machine)
            → OnOk q (GoesOn same content m (its_event saved content old.machine e) under over old new)
        go (Err a) h f = tt
        go (Ok a) h f =
            subst (λ d. GoesOn same content m d under over old new) (sym its)
            (record {
              moves = λ can.
                  quiet same content m (Cut old.me snapshot) under over old new
                  (applies_none same old.me old.members old.node snapshot (cuts_if can) rest) h.told
                  (subst (λ l. Follows content m l new.machine)
                  (sym (under_cut same old.me old.members old.node snapshot under over (cuts_if can) rest)) (f.0 (cuts_if can)));
              stays = λ never. record { handed = λ t. ap (λ u. said_in t u) h.told; follows = f.1 (cuts_unless never) };
            })

module _ {B M Y R E : Type 0} (old new : MemberState B M Y) (r : Result R E) where
  pub cut_unmoved : (sent : List (Packet B)) (made : List (Entry B)) → OnErr r (new.node ≡ old.node) → OnErr r (new.machine ≡ old.machine)
      → HasLog old.node old.machine → OnErr r (Unmoved old new sent sent made made)
  cut_unmoved sent made node machine log = go r node machine
    where
      go : (q : Result R E) → OnErr q (new.node ≡ old.node) → OnErr q (new.machine ≡ old.machine) → OnErr q (Unmoved old new sent sent made made)
      go (Ok a) x f = tt
      go (Err a) x f =
          record {
            node = x;
            packets = refl;
            made_is = refl;
            log = subst (λ (z : NodeState B × Followed B M Y). HasLog z.0 z.1) (λ i. (sym x i, sym f i)) log;
          }

  -- one that is given up does not cut
  pub cut_given_up : OnOk r (old.machine.given_up ≡ false) → OnErr r (new.machine ≡ old.machine) → old.machine.given_up ≡ true
      → IsGivenUp old.machine.log.applied new.machine
  cut_given_up alive machine given_up = go r alive machine
    where
      go : (q : Result R E) → OnOk q (old.machine.given_up ≡ false) → OnErr q (new.machine ≡ old.machine)
          → IsGivenUp old.machine.log.applied new.machine
      go (Ok a) h f = unlike old.machine.given_up given_up h
      go (Err a) h f = (ap (λ (z : Followed B M Y). z.given_up) f ∙ given_up, ap (λ (z : Followed B M Y). z.log.applied) f)

  pub cut_rests : {S : Type 0} (content : M → S) (m : Machine B S Y) (under : List (Entry B)) → OnErr r (new.machine ≡ old.machine)
      → Follows content m under old.machine → OnErr r (Rests content m under old new)
  cut_rests content m under machine follows = go r machine
    where
      go : (q : Result R E) → OnErr q (new.machine ≡ old.machine) → OnErr q (Rests content m under old new)
      go (Ok a) f = tt
      go (Err a) f =
          record {
            handed = λ t. ap (λ (z : Followed B M Y). said_in t z.told) f;
            follows = subst (λ z. Follows content m under z) (sym f) follows;
          }
