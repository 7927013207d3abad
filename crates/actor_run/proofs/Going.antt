-- How a run goes on by an event, or by none.
use Rattle.std.proofs.Common.{◌≡◌, ℕ, Bool, List, [], ◌++◌, ap, sym, subst, ◌∙◌, Option}
use Rattle.std.specs.Option.{option_to_list}
use Rattle.std.proofs.lemmas.List.{append_assoc}
use Rattle.std.proofs.lemmas.Grind.{flat_map-append}
use Rattle.paxos_packets.specs.declared.entry.Entry.{Entry}
use Rattle.paxos_packets.specs.declared.rows.Rows.{Rows}
use Rattle.paxos_node.specs.declared.event.Event.{Event}
use Rattle.paxos_node.specs.View.{Viewed}
use Rattle.paxos_planning.specs.Node.{NodeState}
use Rattle.std.specs.Prelude.{Result}
use Rattle.std.specs.declared.vec.Vec.{Vec}
use Rattle.std.specs.declared.alloc.Global.{Global}
use Rattle.actor_parts.specs.declared.fault.ActorFault.{ActorFault}
use Rattle.replica_machine.specs.Log.{IsLogOf, machine_from}
use Rattle.replica_machine.specs.Replay.{Steps}
use Rattle.node_actor.specs.Snapshots.{Logs, TakesLog, under_after, handed_by}
use Rattle.node_actor.specs.Actor.{Acting}
use Rattle.node_actor.specs.Calls.{Goes}
use Rattle.node_actor.specs.Turns.{Turns}
use Rattle.node_actor.specs.Views.{View, seen, moved_by}
use Rattle.actor_run.specs.Events.{act_in, acts_in, behind, gained_in, said_in, under_in}
use Rattle.actor_run.specs.Runs.{Outset, HeldBack, Went}
use Rattle.actor_run.proofs.Lists.{gained_at, behind_more, gained_more, said_more, take_more, under_more}

module _ {B S Y M K : Type 0} (same : B → B → Bool) (steps : Steps B S Y) (content : M → S) (loaded : List ℕ → Option S)
    (holds : K → Rows B → Type 0) (finds : K → Rows B → Type 0) (failures : K → ℕ) (o : Outset B Y M K) where
  abbrev n_of : ℕ
  n_of = o.actor.node.members

  abbrev s_of : Viewed B
  s_of = seen o.view

  -- the event, or none, is one of those that were made, and its act is no longer late
  pub goes_on : (late rest : List (ℕ × B)) (mid now : Acting B M K) (w : View B) (made given : List (Event B)) (said says : List Y)
      (e : Option (Event B)) (t : Went same steps content loaded late o mid w made given said)
      (g : Goes same steps content loaded holds finds failures e mid now w says) → now.node.me ≡ mid.node.me → now.node.members ≡ mid.node.members
      → acts_in (gained_at e (seen w).node) ++ rest ≡ late
      → Went same steps content loaded rest o now g.next (made ++ option_to_list e) given (said ++ says)
  goes_on late rest mid now w made given said says e t g me members gain =
      let at : NodeState B = (behind same n_of made s_of).node in
      let here : acts_in (gained_at e at) ++ rest ≡ late = subst (λ (z : Viewed B). acts_in (gained_at e z.node) ++ rest ≡ late) t.moved gain in
      let all : acts_in (gained_in same n_of (made ++ option_to_list e) s_of) ≡ acts_in (gained_in same n_of made s_of) ++ acts_in (gained_at e at) =
      ap acts_in (gained_more same n_of made e s_of) ∙ flat_map-append act_in (gained_in same n_of made s_of) (gained_at e at) in
      record {
        stands = g.stands;
        me = me ∙ t.me;
        members = members ∙ t.members;
        moved = g.moved ∙ (ap (λ k. moved_by same k e (seen w)) t.members ∙ (ap (moved_by same n_of e) t.moved ∙ sym (behind_more same n_of made e s_of)));
        acts = ap (λ a. a ++ rest) all ∙ (append_assoc (acts_in (gained_in same n_of made s_of)) (acts_in (gained_at e at)) rest
            ∙ (ap (λ l. acts_in (gained_in same n_of made s_of) ++ l) here ∙ t.acts));
        says = λ first under logs l takes.
            let both = take_more same n_of (machine_from steps first) loaded logs made e s_of takes in
            says_on first under logs (t.says first under logs l both.0)
            (g.says first (under_in same n_of logs under made s_of) logs (t.follows first under logs l both.0) (takes_here first logs both.1));
        follows = λ first under logs l takes.
            let both = take_more same n_of (machine_from steps first) loaded logs made e s_of takes in
            subst (λ u. IsLogOf steps content first u now.log) (under_is under logs)
            (g.follows first (under_in same n_of logs under made s_of) logs (t.follows first under logs l both.0) (takes_here first logs both.1));
      }
    where
      takes_here : (first : S) (logs : Logs B)
          → TakesLog same n_of loaded (machine_from steps first) logs e (behind same n_of made s_of).node
          → TakesLog same mid.node.members loaded (machine_from steps first) logs e (seen w).node
      takes_here first logs h =
          subst (λ k. TakesLog same k loaded (machine_from steps first) logs e (seen w).node) (sym t.members)
          (subst (λ (z : Viewed B). TakesLog same n_of loaded (machine_from steps first) logs e z.node) (sym t.moved) h)

      under_is : (under : List (Entry B)) (logs : Logs B)
          → under_after same mid.node.members logs (under_in same n_of logs under made s_of) e (seen w).node
          ≡ under_in same n_of logs under (made ++ option_to_list e) s_of
      under_is under logs =
          ap (λ k. under_after same k logs (under_in same n_of logs under made s_of) e (seen w).node) t.members
          ∙ (ap (λ (z : Viewed B). under_after same n_of logs (under_in same n_of logs under made s_of) e z.node) t.moved
          ∙ sym (under_more same n_of logs under made e s_of))

      says_on : (first : S) (under : List (Entry B)) (logs : Logs B)
          → said ≡ said_in same n_of (machine_from steps first) logs under made s_of
          → says ≡ handed_by same mid.node.members (machine_from steps first) logs (under_in same n_of logs under made s_of) e (seen w).node
          → said ++ says ≡ said_in same n_of (machine_from steps first) logs under (made ++ option_to_list e) s_of
      says_on first under logs before now_is =
          let m = machine_from steps first in
          let up : List (Entry B) = under_in same n_of logs under made s_of in
          let mine : says ≡ handed_by same n_of m logs up e (behind same n_of made s_of).node =
          now_is ∙ (ap (λ k. handed_by same k m logs up e (seen w).node) t.members
          ∙ ap (λ (z : Viewed B). handed_by same n_of m logs up e z.node) t.moved) in
          ap (λ z. z ++ says) before
          ∙ (ap (λ z. said_in same n_of m logs under made s_of ++ z) mine
          ∙ sym (said_more same n_of m logs under made e s_of))

  -- what was due was posted: the view shows the same node
  pub posts_on : (late : List (ℕ × B)) (old now : Acting B M K) (w : View B) (made given : List (Event B)) (said : List Y)
      (r : Result (Vec Y Global) (ActorFault Y)) (t : Turns same steps content loaded holds finds failures old now w r)
      → Went same steps content loaded late o old w made given said → Went same steps content loaded late o t.mid t.between made given said
  posts_on late old now w made given said r t went =
      let only = t.posts.beside.only in
      record {
        stands = t.stands;
        me = ap (λ h. h.me) only.node ∙ went.me;
        members = ap (λ h. h.members) only.node ∙ went.members;
        moved = t.posts.beside.seen ∙ went.moved;
        acts = went.acts;
        says = went.says;
        follows = λ first under logs l takes. subst (λ log. IsLogOf steps content first (under_in same n_of logs under made s_of) log)
            (sym only.log) (went.follows first under logs l takes);
      }

  -- an event that was held back is so still if no act was taken since
  pub held_on : (h : Event B) (made : List (Event B)) (e : Option (Event B)) → ((x : NodeState B) → gained_at e x ≡ [])
      → HeldBack same n_of h made s_of → HeldBack same n_of h (made ++ option_to_list e) s_of
  held_on h made e none back =
      let at : Viewed B = behind same n_of back.front s_of in
      record {
        front = back.front;
        since = back.since ++ option_to_list e;
        all = ap (λ z. z ++ option_to_list e) back.all ∙ append_assoc back.front back.since (option_to_list e);
        full = back.full;
        no_act = gained_more same n_of back.since e at ∙ (ap (λ z. z ++ gained_at e (behind same n_of back.since at).node) back.no_act
            ∙ none (behind same n_of back.since at).node);
      }
