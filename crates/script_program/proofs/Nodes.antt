-- The lines of a world's nodes, one node after the other.
use Rattle.std.proofs.Common.{◌≡◌, ℕ, suc, ◌+◌, ◌-◌, ◌<◌, ◌≤◌, arith, Bool, true, false, List, [], ◌++◌, length, Option, Some, None, Err}
use Rattle.std.proofs.Common.{refl, sym, ap, subst, ◌∙◌, append-nil}
use Rattle.std.specs.Prelude.{if◌then◌else◌}
use Rattle.paxos_packets.specs.Snapshot as taken
use Rattle.paxos_packets.specs.declared.entry.Entry.{Entry}
use Rattle.paxos_node.specs.Applying.{base, stands_at}
use Rattle.paxos_node.specs.declared.event.Event.{Event}
use Rattle.replica_machine.specs.Replay.{Machine}
use Rattle.replica_machine.specs.Roll.{standing}
use Rattle.cluster_world.specs.CutLogs.{IsOfLog, NodesRestOnLogs}
use Rattle.cluster_world.specs.Saving.{played_of, tell_all}
use Rattle.cluster_world.specs.World.{World, first_world, node_at, under, floor_of, entries_of, log_of}
use Rattle.cluster_world.proofs.Saving.{plays_told}
use Rattle.script_program.specs.Text.{first_text, log_text}
use Rattle.script_program.specs.declared.fault.ScriptFault.{ScriptFault}
use Rattle.script_program.specs.Printing.{Passes, Prints, Underway}
use Rattle.script_program.specs.WorldText.{text_in, nodes_from, nodes_text}
use Rattle.script_program.proofs.Pages.{begins, goes_on, goes_wrong, is_over}

-- ---- one node

module _ {B : Type 0} (w : World B) (n : ℕ) where
  -- the log up to its floor
  abbrev pub under_floor : List (Entry B)
  under_floor = under w.cuts (node_at w.nodes n).rows.snapshot

  -- what follows its first line, if it is up or not
  abbrev text_after : Bool → List ℕ
  text_after up = if up then log_text (floor_of w n) (log_of w n) else []

  pub text_by : (up : Bool) → up ≡ (node_at w.nodes n).up → first_text n up ++ text_after up ≡ text_in w n
  text_by up is = ap (λ b. first_text n b ++ text_after b) is

  pub text_down : (up : Bool) → up ≡ false → up ≡ (node_at w.nodes n).up → first_text n up ≡ text_in w n
  text_down up down is =
      sym (append-nil (first_text n up)) ∙ (ap (λ b. first_text n up ++ text_after b) (sym down) ∙ text_by up is)

  pub text_up : (up : Bool) (floor : ℕ) (log : List (Entry B)) → up ≡ true → up ≡ (node_at w.nodes n).up → floor ≡ floor_of w n
      → log ≡ entries_of w n → first_text n up ++ log_text floor (under_floor ++ log) ≡ text_in w n
  text_up up floor log at is floor_is log_is =
      ap (λ (z : ℕ × List (Entry B)). first_text n up ++ log_text z.0 z.1) (λ i. (floor_is i, whole i))
      ∙ (ap (λ b. first_text n up ++ text_after b) (sym at) ∙ text_by up is)
    where
      whole : under_floor ++ log ≡ log_of w n
      whole = ap (λ es. under_floor ++ es) log_is ∙ ap (λ b. if b then under_floor ++ entries_of w n else []) (sym at ∙ is)

-- its snapshot stands for that
module _ {B S Y : Type 0} (same : B → B → Bool) (rests : NodesRestOnLogs B same) (saved : S → List ℕ) (m : Machine B S Y) (members : ℕ)
    (many : 3 ≤ members) (few : members ≤ 7) (es : List (Event B)) (n : ℕ) where
  abbrev v : World B
  v = played_of saved m same members es

  is_of_log : (s : taken.Snapshot) → (node_at v.nodes n).rows.snapshot ≡ Some s → IsOfLog members v s (under v.cuts (Some s))
  is_of_log s =
      subst (λ (z : World B). (node_at z.nodes n).rows.snapshot ≡ Some s → IsOfLog members z s (under z.cuts (Some s)))
      (sym (plays_told saved m same members es)) (rests members many few (tell_all saved m same members (first_world members) es) n s)

  below_by : (o : Option taken.Snapshot) → (node_at v.nodes n).rows.snapshot ≡ o
      → (length (under v.cuts o) ≡ taken.floor_in o) × ((k : ℕ) → stands_at o k ≡ standing k (under v.cuts o))
  below_by None is = (refl, λ k. refl)
  below_by (Some s) is = let log = is_of_log s is in (log.long, log.stands)

  pub below_long : length (under_floor v n) ≡ floor_of v n
  below_long = (below_by (node_at v.nodes n).rows.snapshot refl).0

  pub below_stands : (k : ℕ) → base (node_at v.nodes n).rows k ≡ standing k (under_floor v n)
  below_stands = (below_by (node_at v.nodes n).rows.snapshot refl).1

-- ---- all nodes

module _ {B : Type 0} (w : World B) (members : ℕ) where
  -- the lines of this node and of those after it are under way
  abbrev pub NodesLeft : ℕ → Option (List ℕ) → Option (List ℕ) → List ℕ → List ℕ → Type 0
  NodesLeft below old new waited waits = Underway old new waited waits (nodes_text members w) (nodes_from w (below + 1) (members - below))

  pub nodes_begin : (old : Option (List ℕ)) (waited : List ℕ) → NodesLeft 0 old old waited waited
  nodes_begin old waited =
      let e : members - 0 ≡ members = omega arith in rw e (begins old waited (nodes_text members w))

  module _ (below : ℕ) (old mid : Option (List ℕ)) (waited between : List ℕ) (u : NodesLeft below old mid waited between) where
    pub nodes_end : members ≤ below → Passes old mid waited between (nodes_text members w)
    nodes_end ends =
        let e : members - below ≡ 0 = omega (arith, ends) in
        is_over old mid waited between (nodes_text members w) (nodes_from w (below + 1) (members - below)) u
        (ap (nodes_from w (below + 1)) e)

    module _ (within : below < members) (new : Option (List ℕ)) (waits : List ℕ) where
      line : nodes_from w (below + 1) (members - below) ≡ text_in w (below + 1) ++ nodes_from w (below + 1 + 1) (members - (below + 1))
      line =
          let e : members - below ≡ suc (members - (below + 1)) = omega (arith, within) in
          ap (nodes_from w (below + 1)) e

      pub nodes_on : Passes mid new between waits (text_in w (below + 1)) → NodesLeft (below + 1) old new waited waits
      nodes_on p =
          goes_on old mid waited between (nodes_text members w) (nodes_from w (below + 1) (members - below)) u new waits
          (text_in w (below + 1)) (nodes_from w (below + 1 + 1) (members - (below + 1))) line p

      pub nodes_wrong : (f : ScriptFault) → Prints (Err f) mid new between waits (text_in w (below + 1))
          → Prints (Err f) old new waited waits (nodes_text members w)
      nodes_wrong f p =
          goes_wrong old mid waited between (nodes_text members w) (nodes_from w (below + 1) (members - below)) u f new waits
          (text_in w (below + 1)) (nodes_from w (below + 1 + 1) (members - (below + 1))) line p
