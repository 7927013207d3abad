-- The laws at a world in code.
use Rattle.std.proofs.Common.{◌≡◌, ◌⊎◌, ℕ, suc, ◌+◌, ◌≤◌, Bool, sym, ap, ◌∙◌, subst, arith, List, ◌++◌, Option, Some}
use Rattle.std.specs.Prelude.{slice_get}
use Rattle.paxos_packets.specs.Body.{IsEquality}
use Rattle.paxos_packets.specs.Snapshot as taken
use Rattle.paxos_packets.specs.Snapshot.{floor_in}
use Rattle.paxos_packets.specs.declared.entry.Entry.{Entry}
use Rattle.paxos_packets.specs.declared.packet.Packet.{Packet}
use Rattle.paxos_node.specs.declared.event.Event.{Event}
use Rattle.paxos_planning.specs.Node.{NodeState}
use Rattle.replica_machine.specs.Replay.{Machine, said}
use Rattle.replica_machine.proofs.Numbering.{are_numbered}
use Rattle.cluster_world.specs.Answers.{IsPresent, BeginsUnsaid}
use Rattle.cluster_world.specs.Chosen.{Chosen}
use Rattle.cluster_world.specs.Laws.{IsPrefixOf}
use Rattle.cluster_world.specs.Saving.{played_of, tell_all}
use Rattle.cluster_world.specs.World.{World, node_at, first_world, played, under, log_of, handed}
use Rattle.cluster_world.specs.StandsAt.{Held, Shows, ShowsAt, StandsAt}
use Rattle.cluster_world.specs.Headline.{log_in, Agree, LogsAgree, WholeLogsAgree, AnswersAreSaid, MachinesFollow, TookEffectOnce}
use Rattle.cluster_world.specs.Headline.{LossesWereCalledFor, NoneDisagrees}
use Rattle.cluster_world.proofs.Agreeing.{chosen_in, chosen_out, chosen_on}
use Rattle.cluster_world.proofs.Agreeing.{learned_is_chosen, chosen_is_one, logs_are_prefixes, never_disagrees}
use Rattle.cluster_world.proofs.Booting.{boots_were_had}
use Rattle.cluster_world.proofs.Concluding.{get_right}
use Rattle.cluster_world.proofs.EveryWorld.{WorldOk, world_ok, under_long}
use Rattle.cluster_world.proofs.Handing.{handed_is_said}
use Rattle.cluster_world.proofs.Saving.{plays_told}
use Rattle.cluster_world.proofs.Taking.{items_were_taken}
use Rattle.cluster_world.proofs.Waiting.{losts_were_suspected}

-- a world in code that shows the nodes, the packets and what was made of a world

abbrev with_shown : {B M Y : Type 0} → Held B M Y → List (NodeState B) → List (Packet B) → List (Entry B) → Held B M Y
with_shown w nodes sent made = record { members = w.members; nodes = nodes; sent = sent; made = made; machines = w.machines; first = w.first }

-- an entry above a floor is chosen
module _ {B : Type 0} (same : B → B → Bool) (equal : IsEquality same) (members : ℕ) (many : 3 ≤ members) (events : List (Event B)) (k i : ℕ)
    (e : Entry B) (at : slice_get (node_at (played same members events).nodes k).applied i ≡ Some e) where
  abbrev u : World B
  u = played same members events

  abbrev x : NodeState B
  x = node_at u.nodes k

  u_ok : WorldOk members u
  u_ok = world_ok same equal members (omega arith) events

  pub above_is_chosen : Chosen members u.sent (suc (floor_in x.rows.snapshot + i)) e
  above_is_chosen =
      chosen_out members u.sent (suc (floor_in x.rows.snapshot + i)) e
      ((u_ok.log k).at (floor_in x.rows.snapshot + i) e
      (ap (λ n. slice_get (under u.cuts x.rows.snapshot ++ x.applied) (n + i))
      (sym (under_long u_ok.cuts x.rows.snapshot (u_ok.cuts.found.nodes k)))
      ∙ (get_right (under u.cuts x.rows.snapshot) x.applied i ∙ at)))

module _ {B M Y : Type 0} (same : B → B → Bool) (equal : IsEquality same) where
  -- what holds if nodes, packets and what was made are the world's holds of the world in code
  over : (P : Held B M Y → Type 0) (w : Held B M Y) (v : World B) → Shows w v → P (with_shown w v.nodes v.sent v.made) → P w
  over P w v h p =
      subst (λ (z : List (NodeState B) × List (Packet B) × List (Entry B)). P (with_shown w z.0 z.1 z.2))
      (λ i. (sym h.nodes i, sym h.sent i, sym h.made i)) p

  module _ (w : Held B M Y) (es : List (Event B)) (many : 3 ≤ w.members) (h : ShowsAt same w es) where
    abbrev v : World B
    v = played same w.members es

    pub agree : Agree w
    agree =
        over (λ z. Agree z) w v h
        (record {
          learned = λ node f l. learned_is_chosen same equal w.members many es node f l;
          one = λ slot d e a b. chosen_is_one same equal w.members many es slot d e a b;
        })

    pub took_effect_once : TookEffectOnce w v
    took_effect_once =
        over (λ z. TookEffectOnce z v) w v h
        (record {
          numbered = λ node n b. are_numbered n b (log_of v node);
          taken = λ node n b q t x l. items_were_taken same equal w.members es node n b q t x l;
          boots = λ node n b l. boots_were_had same equal w.members es node n b l;
        })

    pub losses : w.members ≤ 7 → LossesWereCalledFor same w es
    losses few node n b l = losts_were_suspected same equal w.members few es node n b l

    pub none_disagrees : NoneDisagrees same w
    none_disagrees = over (λ z. NoneDisagrees same z) w v h (λ e s p. never_disagrees same equal w.members many es e s p)

  pub logs_agree : (old new : Held B M Y) (early later : List (Event B)) → 3 ≤ old.members → new.members ≡ old.members
      → ShowsAt same old early → ShowsAt same new (early ++ later) → LogsAgree old new
  logs_agree old new early later many is h k = record { chosen = chosen; one = one }
    where
      members : ℕ
      members = old.members

      first : World B
      first = played same members early

      last : World B
      last = played same members (early ++ later)

      shows : Shows new last
      shows = subst (λ n. Shows new (played same n (early ++ later))) is k

      chosen : (node i : ℕ) (e : Entry B) → slice_get (log_in new node) i ≡ Some e
          → Chosen new.members new.sent (suc (taken.floor_in (node_at new.nodes node).rows.snapshot + i)) e
      chosen =
          over (λ z. (node i : ℕ) (e : Entry B) → slice_get (log_in z node) i ≡ Some e
          → Chosen z.members z.sent (suc (taken.floor_in (node_at z.nodes node).rows.snapshot + i)) e)
          new last shows
          (λ node i e l. subst (λ n. Chosen n last.sent (suc (taken.floor_in (node_at last.nodes node).rows.snapshot + i)) e) (sym is)
          (above_is_chosen same equal members many (early ++ later) node i e l))

      one : (a b i l : ℕ) (d e : Entry B) → slice_get (log_in old a) i ≡ Some d → slice_get (log_in new b) l ≡ Some e
          → taken.floor_in (node_at old.nodes a).rows.snapshot + i ≡ taken.floor_in (node_at new.nodes b).rows.snapshot + l → d ≡ e
      one a b i l d e f g t =
          chosen_is_one same equal members many (early ++ later) (suc (taken.floor_in (node_at new.nodes b).rows.snapshot + l)) d e
          (subst (λ n. Chosen members last.sent (suc n) d)
          (ap (λ ns. taken.floor_in (node_at ns a).rows.snapshot + i) (sym h.nodes) ∙ t)
          (chosen_out members last.sent (suc (taken.floor_in (node_at first.nodes a).rows.snapshot + i)) d
          (chosen_on same equal members early later (suc (taken.floor_in (node_at first.nodes a).rows.snapshot + i)) d
          (chosen_in members first.sent (suc (taken.floor_in (node_at first.nodes a).rows.snapshot + i)) d
          (above_is_chosen same equal members many early a i d (subst (λ ns. slice_get (node_at ns a).applied i ≡ Some d) h.nodes f))))))
          (subst (λ ns. Chosen members last.sent (suc (taken.floor_in (node_at ns b).rows.snapshot + l)) e) (sym shows.nodes)
          (above_is_chosen same equal members many (early ++ later) b l e (subst (λ ns. slice_get (node_at ns b).applied l ≡ Some e) shows.nodes g)))

  pub whole_logs_agree : (old new : Held B M Y) → 3 ≤ old.members → new.members ≡ old.members → WholeLogsAgree same old new
  whole_logs_agree old new many is early later a b h k =
      subst
      (λ n. IsPrefixOf (log_of (played same old.members early) a) (log_of (played same n (early ++ later)) b)
      ⊎ IsPrefixOf (log_of (played same n (early ++ later)) b) (log_of (played same old.members early) a))
      (sym is) (logs_are_prefixes same equal old.members many early later a b)

-- what Cuts with what is saved lead to is what events lead to
pub is_told : {B S Y : Type 0} (saved : S → List ℕ) (m : Machine B S Y) (same : B → B → Bool) (members : ℕ) (es : List (Event B))
    → (events : List (Event B)) × (played_of saved m same members es ≡ played same members events)
is_told saved m same members es = (tell_all saved m same members (first_world members) es, plays_told saved m same members es)

module _ {B M S Y : Type 0} (same : B → B → Bool) (equal : IsEquality same) (content : M → S) (saved : S → List ℕ)
    (loaded : List ℕ → Option S) (m : Machine B S Y) (w : Held B M Y) (es : List (Event B))
    (h : StandsAt same content saved loaded m w es) where
  abbrev of_saved : World B
  of_saved = played_of saved m same w.members es

  -- it is one that events lead to
  abbrev as_told : List (Event B)
  as_told = tell_all saved m same w.members (first_world w.members) es

  is_played : of_saved ≡ played same w.members as_told
  is_played = plays_told saved m same w.members es

  pub shows_told : ShowsAt same w as_told
  shows_told = subst (λ z. Shows w z) is_played h.shows

  pub answers : w.members ≤ 7 → AnswersAreSaid m w of_saved
  answers few t p z =
      h.handed t
      ∙ subst (λ a. IsPresent t (node_at a.nodes t.node) → BeginsUnsaid m t (log_of a t.node) → handed m t a ≡ said m t (log_of a t.node))
      (sym is_played) (handed_is_said same equal m w.members few as_told t)
      (subst (λ ns. IsPresent t (node_at ns t.node)) h.shows.nodes p) z

  pub machines : MachinesFollow content m w of_saved
  machines = record { contents = λ i f a u. (h.follows i f a u).stands.0; logs = h.shows.logs }
