-- What holds of a world in code, in words of what it shows (docs/CONSENSUS.md, "What holds over every list of events").
use Rattle.std.specs.Prelude.{◌≡◌, ◌⊎◌, ℕ, suc, ◌+◌, ◌≤◌, Bool, true, false, Some, List, ◌++◌, length, slice_get}
use Rattle.std.specs.List.{range_with_len}
use Rattle.paxos_packets.specs.Members.{IsMember}
use Rattle.paxos_packets.specs.Snapshot as taken
use Rattle.paxos_packets.specs.declared.entry.Entry.{Entry}
use Rattle.paxos_packets.specs.declared.entry.Entry.TheVariants.{Boot, Lost, Item}
use Rattle.paxos_packets.specs.declared.transport.Transport.{Transport}
use Rattle.paxos_learner.specs.declared.learned.LearnedEntry.{LearnedEntry}
use Rattle.paxos_node.specs.declared.event.Event.{Event}
use Rattle.paxos_node.specs.Events.{owner, possible, outcome_of}
use Rattle.replica_machine.specs.Effects.{item_numbers}
use Rattle.replica_machine.specs.Replay.{Machine, state, said}
use Rattle.replica_follower.specs.Following.{Followed}
use Rattle.cluster_world.specs.Answers.{IsPresent, BeginsUnsaid}
use Rattle.cluster_world.specs.Chosen.{Chosen}
use Rattle.cluster_world.specs.Has.{Has}
use Rattle.cluster_world.specs.Laws.{IsPrefixOf}
use Rattle.cluster_world.specs.Origins.{acts_of, Suspected}
use Rattle.cluster_world.specs.StandsAt.{Held, HasLog, ShowsAt, handed_in, under_at}
use Rattle.cluster_world.specs.World.{World, node_at, was_sent, played, log_of}

module _ {B M Y : Type 0} where
  -- what a node shows of its log: the floor, and the entries above it
  abbrev pub floor_in : Held B M Y → ℕ → ℕ
  floor_in w node = taken.floor_in (node_at w.nodes node).rows.snapshot

  abbrev pub log_in : Held B M Y → ℕ → List (Entry B)
  log_in w node = (node_at w.nodes node).applied

  -- an entry is chosen in the slot
  abbrev pub IsChosenIn : Held B M Y → ℕ → Entry B → Type 0
  IsChosenIn w slot e = Chosen w.members w.sent slot e

  -- agreement: what a node has learned in a slot is chosen there, and of a slot no two entries are chosen
  pub record Agree (w : Held B M Y) : Type 0 where
    pub learned : (node : ℕ) (f : LearnedEntry B) → Has (node_at w.nodes node).learner.learned f → IsChosenIn w f.slot f.entry
    pub one : (slot : ℕ) (d e : Entry B) → IsChosenIn w slot d → IsChosenIn w slot e → d ≡ e

  -- log agreement: each entry above a floor is chosen in its slot; and two nodes, one of before and one of now, have one entry in one slot
  pub record LogsAgree (old new : Held B M Y) : Type 0 where
    pub chosen : (node i : ℕ) (e : Entry B) → slice_get (log_in new node) i ≡ Some e → IsChosenIn new (suc (floor_in new node + i)) e
    pub one :
        (j k i l : ℕ) (d e : Entry B) → slice_get (log_in old j) i ≡ Some d → slice_get (log_in new k) l ≡ Some e
        → floor_in old j + i ≡ floor_in new k + l → d ≡ e

  -- and of two whole logs, one of before and one of now, one is a prefix of the other, whatever events led there
  abbrev pub WholeLogsAgree : (B → B → Bool) → Held B M Y → Held B M Y → Type 0
  WholeLogsAgree same old new =
      (early later : List (Event B)) (j k : ℕ) → ShowsAt same old early → ShowsAt same new (early ++ later) →
      IsPrefixOf (log_of (played same old.members early) j) (log_of (played same new.members (early ++ later)) k)
      ⊎ IsPrefixOf (log_of (played same new.members (early ++ later)) k) (log_of (played same old.members early) j)

  -- answers: a transport of the present boot of a node that is up was handed what the machine says to it along the node's whole log, if that says
  -- nothing to it before the boot
  abbrev pub AnswersAreSaid : {S : Type 0} → Machine B S Y → Held B M Y → World B → Type 0
  AnswersAreSaid m w v =
      (t : Transport) → IsPresent t (node_at w.nodes t.node) → BeginsUnsaid m t (log_of v t.node) → handed_in w t ≡ said m t (log_of v t.node)

  -- machines: one that is not given up has the content that the node's snapshot and its own log lead to, and while its node is up that is the
  -- node's log
  pub record MachinesFollow {S : Type 0} (content : M → S) (m : Machine B S Y) (w : Held B M Y) (v : World B) : Type 0 where
    pub contents :
        (i : ℕ) (f : Followed B M Y) → slice_get w.machines i ≡ Some f → f.given_up ≡ false
        → content f.log.machine ≡ state m (under_at v (suc i) ++ f.log.applied)
    pub logs : (i : ℕ) (f : Followed B M Y) → slice_get w.machines i ≡ Some f → HasLog (node_at w.nodes (suc i)) f

  -- at most once: the Items of a boot that take effect in a log are numbered 1, 2, 3 and so on; each Item in a log is the act, with transport and
  -- body, that its node took under that number in that boot; and a Boot in a log is one that its node, a member, had
  pub record TookEffectOnce (w : Held B M Y) (v : World B) : Type 0 where
    pub numbered : (node n b : ℕ) → item_numbers n b (log_of v node) ≡ range_with_len 1 (length (item_numbers n b (log_of v node)))
    pub taken :
        (node n b q t : ℕ) (x : B) → Has (log_of v node) (Item n b q t x)
        → (j : ℕ) × (q ≡ suc j) × (slice_get (acts_of n b w.made) j ≡ Some (record { transport = t; body = x }))
    pub boots :
        (node n b : ℕ) → Has (log_of v node) (Boot n b) → IsMember w.members n × (1 ≤ b) × (b ≤ (node_at w.nodes n).rows.boot)

  -- and a Lost in a log, whose events these are, comes from a suspicion by another node, in whose log that boot was live then, and at which it
  -- was pending after that
  abbrev pub LossesWereCalledFor : (B → B → Bool) → Held B M Y → List (Event B) → Type 0
  LossesWereCalledFor same w events =
      (node n b : ℕ) → Has (log_of (played same w.members events) node) (Lost n b) → Suspected same w.members events n b

  -- no disagreement: no event that is possible brings a node another entry of a slot that it has learned
  abbrev pub NoneDisagrees : (B → B → Bool) → Held B M Y → Type 0
  NoneDisagrees same w =
      (e : Event B) → was_sent same e w.sent ≡ true → possible e (node_at w.nodes (owner e)) ≡ true
      → (outcome_of same w.members e (node_at w.nodes (owner e))).disagrees ≡ false
