-- How a run goes on by a round.
use Rattle.std.proofs.Common.{◌≡◌, ℕ, Bool, List, ◌++◌, ap, sym, subst, ◌∙◌, true, Option}
use Rattle.std.specs.Prelude.{All}
use Rattle.std.proofs.lemmas.List.{append_assoc}
use Rattle.std.proofs.lemmas.Grind.{flat_map-append}
use Rattle.paxos_packets.specs.declared.entry.Entry.{Entry}
use Rattle.paxos_packets.specs.declared.rows.Rows.{Rows}
use Rattle.paxos_node.specs.declared.event.Event.{Event}
use Rattle.paxos_node.specs.View.{Viewed}
use Rattle.replica_machine.specs.Log.{IsLogOf, machine_from}
use Rattle.replica_machine.specs.Replay.{Steps}
use Rattle.node_actor.specs.Actor.{Acting}
use Rattle.node_actor.specs.Calls.{is_own}
use Rattle.node_actor.specs.Rounds.{Rounded, came, held_own, made_in}
use Rattle.node_actor.specs.Snapshots.{Logs}
use Rattle.node_actor.specs.Views.{View, seen, StandsFor}
use Rattle.actor_run.specs.Events.{asked_in, act_in, acts_in, behind, gained_in, said_in, under_in, TakeLogs}
use Rattle.actor_run.specs.RoundRuns.{AreHeld}
use Rattle.actor_run.specs.Runs.{Outset, Went}
use Rattle.actor_run.proofs.ManyEvents.{behind_all, gained_all, said_all, take_all, under_all}
use Rattle.actor_run.proofs.RoundActs.{are_held, round_acts}

module _ {B S Y M K : Type 0} (same : B → B → Bool) (steps : Steps B S Y) (content : M → S) (loaded : List ℕ → Option S) (o : Outset B Y M K) where
  abbrev n_of : ℕ
  n_of = o.actor.node.members

  abbrev s_of : Viewed B
  s_of = seen o.view

  -- an actor goes on by these events, from a view of a node of so many members: some acts are late before them, and others after them
  pub record GoesBy (late rest : List (ℕ × B)) (old now : Acting B M K) (next : View B) (more : List (Event B)) (says : List Y) (members : ℕ)
      (s : Viewed B) : Type 0 where
    pub moved : seen next ≡ behind same members more s
    pub gain : acts_in (gained_in same members more s) ++ rest ≡ late
    pub tells : (first : S) (under : List (Entry B)) (logs : Logs B) → IsLogOf steps content first under old.log
        → TakeLogs same members loaded (machine_from steps first) logs more s
        → says ≡ said_in same members (machine_from steps first) logs under more s
    pub follows : (first : S) (under : List (Entry B)) (logs : Logs B) → IsLogOf steps content first under old.log
        → TakeLogs same members loaded (machine_from steps first) logs more s
        → IsLogOf steps content first (under_in same members logs under more s) now.log

  -- so does the run
  pub goes_by : (late rest : List (ℕ × B)) (old now : Acting B M K) (v next : View B) (made given more : List (Event B)) (said says : List Y)
      → Went same steps content loaded late o old v made given said → StandsFor now next → now.node.me ≡ old.node.me
      → now.node.members ≡ old.node.members → GoesBy late rest old now next more says old.node.members (seen v)
      → Went same steps content loaded rest o now next (made ++ more) given (said ++ says)
  goes_by late rest old now v next made given more said says t stands me members goes =
      let at : Viewed B = behind same n_of made s_of in
      let by : GoesBy late rest old now next more says n_of at =
      subst (GoesBy late rest old now next more says n_of) t.moved (subst (λ k. GoesBy late rest old now next more says k (seen v)) t.members goes) in
      let before : List (ℕ × B) = acts_in (gained_in same n_of made s_of) in
      let all : acts_in (gained_in same n_of (made ++ more) s_of) ≡ before ++ acts_in (gained_in same n_of more at) =
      ap acts_in (gained_all same n_of made more s_of) ∙ flat_map-append act_in (gained_in same n_of made s_of) (gained_in same n_of more at) in
      record {
        stands = stands;
        me = me ∙ t.me;
        members = members ∙ t.members;
        moved = by.moved ∙ sym (behind_all same n_of made more s_of);
        acts = ap (λ a. a ++ rest) all ∙ (append_assoc before (acts_in (gained_in same n_of more at)) rest ∙ (ap (λ l. before ++ l) by.gain ∙ t.acts));
        says = λ first under logs l takes.
            let m = machine_from steps first in
            let both = take_all same n_of m loaded logs made more s_of takes in
            let up : List (Entry B) = under_in same n_of logs under made s_of in
            ap (λ z. z ++ says) (t.says first under logs l both.0)
            ∙ (ap (λ z. said_in same n_of m logs under made s_of ++ z) (by.tells first up logs (t.follows first under logs l both.0) both.1)
            ∙ sym (said_all same n_of m logs under made more s_of));
        follows = λ first under logs l takes.
            let both = take_all same n_of (machine_from steps first) loaded logs made more s_of takes in
            subst (λ u. IsLogOf steps content first u now.log) (sym (under_all same n_of logs under made more s_of))
            (by.follows first (under_in same n_of logs under made s_of) logs (t.follows first under logs l both.0) both.1);
      }

  module _ (holds : K → Rows B → Type 0) (finds : K → Rows B → Type 0) (failures : K → ℕ) (own held made given : List (Event B))
      (old now : Acting B M K) (v : View B) (said says : List Y) (t : Went same steps content loaded (asked_in o.actor.node.me own) o old v made given said)
      (d : Rounded same steps content loaded holds finds failures own old now v held says) where
    -- a round that no fault ended takes the acts of its own events, but for those of the held ones
    pub round_on : All (λ e. is_own old.node.me e ≡ true) own → now.node.me ≡ old.node.me → now.node.members ≡ old.node.members
        → Went same steps content loaded (asked_in o.actor.node.me held) o now d.next (made ++ d.made) given (said ++ says)
    round_on all me members =
        let n : ℕ = old.node.members in
        let k : ℕ = old.node.me in
        let mine : acts_in (gained_in same n (made_in same n k own (came d.looks) (seen v)) (seen v)) ++ asked_in k (held_own same n own (seen v).node)
        ≡ asked_in k own = round_acts same n k own (came d.looks) (seen v) all in
        let here : acts_in (gained_in same n d.made (seen v)) ++ asked_in k held ≡ asked_in k own =
        ap (λ l. acts_in (gained_in same n l (seen v)) ++ asked_in k held) d.all
        ∙ (ap (λ l. acts_in (gained_in same n (made_in same n k own (came d.looks) (seen v)) (seen v)) ++ asked_in k l) d.held_are ∙ mine) in
        goes_by (asked_in o.actor.node.me own) (asked_in o.actor.node.me held) old now v d.next made given d.made said says t d.walks.stands me members
        (record {
          moved = d.walks.moved;
          gain = subst (λ j. acts_in (gained_in same n d.made (seen v)) ++ asked_in j held ≡ asked_in j own) t.me here;
          tells = d.says;
          follows = d.follows;
        })

    -- and the held ones are held back for want of room
    pub round_held : AreHeld same n_of held (made ++ d.made) s_of
    round_held =
        let at : Viewed B = behind same n_of made s_of in
        let k : ℕ = old.node.me in
        let all : d.made ≡ made_in same n_of k own (came d.looks) at =
        subst (λ z. d.made ≡ made_in same n_of k own (came d.looks) z) t.moved
        (subst (λ n. d.made ≡ made_in same n k own (came d.looks) (seen v)) t.members d.all) in
        let are : held ≡ held_own same n_of own at.node =
        subst (λ (z : Viewed B). held ≡ held_own same n_of own z.node) t.moved
        (subst (λ n. held ≡ held_own same n own (seen v).node) t.members d.held_are) in
        subst (λ l. AreHeld same n_of held (made ++ l) s_of) (sym all) (are_held same n_of k own (came d.looks) made held s_of are)
