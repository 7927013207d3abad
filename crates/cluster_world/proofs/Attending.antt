-- A machine that goes on with its node.
use Rattle.std.proofs.Common.{◌≡◌, ℕ, ◌<◌, Bool, true, false, ◌&&◌, eqb, refl, sym, ap, ◌∙◌, subst, arith, List, [], ◌∷◌, ◌++◌, length}
use Rattle.std.specs.Prelude.{Result, Ok, Err, IsErr, OnOk, OnErr}
use Rattle.std.proofs.lemmas.Bool.{cond_both, and_parts, eqb-true}
use Rattle.std.proofs.lemmas.List.{append-nil}
use Rattle.paxos_packets.specs.declared.entry.Entry.{Entry}
use Rattle.paxos_packets.specs.declared.transport.Transport.{Transport}
use Rattle.paxos_node.specs.declared.event.Event.{Event}
use Rattle.paxos_node.specs.declared.outcome.Outcome.{Outcome}
use Rattle.paxos_node.specs.Adopting.{adopted, Planned}
use Rattle.paxos_node.specs.Events.{owner, possible, outcome_of}
use Rattle.paxos_node.specs.Plans.{is_planned, plans}
use Rattle.paxos_planning.specs.Node.{NodeState}
use Rattle.replica_machine.specs.Replay.{Machine}
use Rattle.replica_follower.specs.Following.{Followed, handed_to}
use Rattle.replica_follower.specs.Handed.{said_in}

never : false ≡ true → ⊥
never e = cc

-- a log that goes on only with nothing
pub log_kept : {R E A : Type 0} (r : Result R E) (old new es : List A) → OnOk r (new ≡ old ++ es) → OnErr r (new ≡ old) → (0 < length es → IsErr r)
    → new ≡ old
log_kept (Ok x) old new [] ok err refuses = ok ∙ append-nil old
log_kept (Ok x) old new (e ∷ es) ok err refuses = absurd (never (refuses (omega arith)))
log_kept (Err x) old new es ok err refuses = err

pub on_err : {R E P : Type 0} (r : Result R E) → P → OnErr r P
on_err (Ok x) p = tt
on_err (Err x) p = p

-- what is handed out, by the boot, the log and the entries of the node
pub handed_so : {B M S Y : Type 0} (m : Machine B S Y) (b boot : ℕ) (log at entries es : List (Entry B)) (f g : Followed B M Y)
    → b ≡ boot → log ≡ at → entries ≡ es
    → ((t : Transport) → said_in t g.told ≡ said_in t f.told ++ handed_to m t f.node b log entries)
    → (t : Transport) → said_in t g.told ≡ said_in t f.told ++ handed_to m t f.node boot at es
handed_so {B} m b boot log at entries es f g is l e h t =
    subst (λ (z : ℕ × List (Entry B) × List (Entry B)). said_in t g.told ≡ said_in t f.told ++ handed_to m t f.node z.0 z.1 z.2)
    (λ i. (is i, l i, e i)) (h t)

-- if nothing is applied
pub nothing_to : {B S Y : Type 0} (m : Machine B S Y) (node : ℕ) (t : Transport) (boot : ℕ) (log : List (Entry B)) → handed_to m t node boot log [] ≡ []
nothing_to {Y = Y} m node t boot log =
    cond_both (eqb node t.node && eqb boot t.boot) [] [] (λ (l : List Y). l ≡ []) (λ e. refl) (λ e. refl)

-- what is planned is what the event does

module _ {B : Type 0} (same : B → B → Bool) (me members : ℕ) (e : Event B) (x : NodeState B) where
  pub own_event : plans me e x ≡ true → owner e ≡ me
  own_event h = eqb-true (owner e) me (and_parts (eqb (owner e) me) (is_planned e && possible e x) h).0

  pub node_planned : (o : Outcome B) → plans me e x ≡ true → Planned same members e x o
      → adopted me members o x ≡ (outcome_of same members e x).node
  node_planned o h p = ap (λ k. adopted k members o x) (sym (own_event h)) ∙ p.node
