-- A round looks into members' boxes, and treats the packets that came, one after another, of which the last ones may be tried only.
use Rattle.std.proofs.Common.{◌≡◌, ℕ, Bool, true, false, not, List, [], ◌∷◌, ◌++◌, ap, sym, subst, ◌∙◌, refl, ⊎_elim}
use Rattle.std.proofs.Common.{Option, Some, None, Result, Ok, Err}
use Rattle.std.specs.Prelude.{All, Contains, MatchResult, map}
use Rattle.std.proofs.lemmas.Bool.{false≢true}
use Rattle.std.proofs.lemmas.List.{append-nil, append_assoc}
use Rattle.cluster_world.specs.Has.{Has, there}
use Rattle.cluster_world.proofs.Lists.{has_cons}
use Rattle.paxos_packets.specs.Members.{IsMember}
use Rattle.paxos_packets.specs.declared.packet.Packet.{Packet}
use Rattle.paxos_packets.specs.declared.rows.Rows.{Rows}
use Rattle.replica_machine.specs.Replay.{Steps}
use Rattle.actor_outboxes.specs.Outboxes.{IsPeer, waiting}
use Rattle.paxos_node.specs.declared.event.Event.{Event}
use Rattle.paxos_node.specs.declared.event.Event.TheVariants.{Deliver}
use Rattle.paxos_node.specs.Events.{outcome_of}
use Rattle.paxos_node.specs.View.{Viewed}
use Rattle.paxos_planning.specs.Node.{NodeState}
use Rattle.actor_parts.specs.declared.fault.ActorFault.{ActorFault}
use Rattle.actor_parts.specs.declared.fault.ActorFault.TheVariants.{Memory}
use Rattle.actor_parts.specs.Parts.{Parted}
use Rattle.mail_table.specs.Seats.{Seated, knows}
use Rattle.mail_table.specs.Views.{box_of, through}
use Rattle.mail_table.specs.declared.part.Part.{Part}
use Rattle.mail_table.proofs.Places.{box_tells}
use Rattle.node_actor.specs.Actor.{Acting, acting, IsSeated}
use Rattle.node_actor.specs.EventLists.{behind}
use Rattle.node_actor.specs.Heard.{heard_in}
use Rattle.node_actor.specs.MidRound.{Amid, Ended, Heads, IsNext, MakesAll, MakesNext, Under}
use Rattle.node_actor.specs.Rounds.{Look, PostsNone, came, found_in, hearings, is_treated, look_at, looked, made_in, made_of, made_own, tries_from}
use Rattle.node_actor.specs.Turns.{tries_at}
use Rattle.node_actor.specs.Views.{View, seen}
use Rattle.node_actor.specs.declared.hearing.Hearing.{Hearing}
use Rattle.node_actor.proofs.EventLists.{behind_more}
use Rattle.node_actor.proofs.Looking.{Still, behind_append, came_more, hearings_more, look_received, look_still, look_tries, looked_at, looked_before}
use Rattle.node_actor.proofs.Looking.{looked_me, looked_more, made_append, shown_in}
use Rattle.node_actor.proofs.MadeEvents.{makes_of, passes_of}
use Rattle.node_actor.proofs.RoundNext.{all_made}

module _ {B S Y M K : Type 0} (same : B → B → Bool) (steps : Steps B S Y) (content : M → S) (loaded : List ℕ → Option S)
    (holds : K → Rows B → Type 0) (finds : K → Rows B → Type 0) (failures : K → ℕ) (own : List (Event B)) (old : Acting B M K) (v : View B)
    (start : List Y) where
  abbrev n : ℕ
  n = old.node.members

  abbrev Midst : List ℕ → ℕ → List (Packet B) → List (Event B) → Acting B M K → List Y → List Hearing → Type 0
  Midst at from left tried now says noted =
      Amid same steps content loaded holds finds failures own old v start at from left tried now says noted

  -- all that were tried are made
  pub settled : (at : List ℕ) (from : ℕ) (left : List (Packet B)) (tried : List (Event B)) (mid now : Acting B M K) (was says : List Y)
      (noted : List Hearing) (u : Unit {0}) → Midst at from left tried mid was noted
      → MakesAll same steps content loaded holds finds failures tried mid now was says (Ok u) → Midst at from left [] now says noted
  settled at from left tried mid now was says noted u a m =
      record {
        fresh = a.fresh;
        up = a.up;
        all = a.all;
        looks = a.looks;
        heads = all_made same steps content loaded holds finds failures old v start a.all tried a.looks mid now was says a.heads u m;
        due = a.due;
        shown = a.shown;
        tried_at = a.tried_at;
      }

  -- a packet that is treated, if this is what the node is that went on

  module _ (at : List ℕ) (from : ℕ) (p : Packet B) (left : List (Packet B)) (was_tried : List (Event B)) (mid : Acting B M K) (was : List Y)
      (noted : List Hearing) (a : Midst at from (p ∷ left) was_tried mid was noted) (me members : ℕ) (x : NodeState B) (me_is : me ≡ old.node.me)
      (members_are : members ≡ n) (x_is : x ≡ (behind same n a.all (seen v)).node) where
    abbrev here_now : NodeState B
    here_now = (behind same n a.all (seen v)).node

    abbrev showing : Hearing
    showing = record { from = from; heard = heard_in p.kind }

    shown_next : (noted ++ showing ∷ []) ++ shown_in from left ≡ hearings a.looks
    shown_next = append_assoc noted (showing ∷ []) (shown_in from left) ∙ a.shown

    treated_as : (b : Bool) → is_treated me members p x ≡ b → is_treated old.node.me n p here_now ≡ b
    treated_as b h = (λ i. is_treated (sym me_is i) (sym members_are i) p (sym x_is i)) ∙ h

    -- it is passed over
    pub passed : is_treated me members p x ≡ false → Midst at from left was_tried mid was (noted ++ showing ∷ [])
    passed off =
        record {
          fresh = a.fresh;
          up = a.up;
          all = a.all;
          looks = a.looks;
          heads = a.heads;
          due = ap (λ es. a.all ++ es) (sym (passes_of same n old.node.me p left here_now (treated_as false off))) ∙ a.due;
          shown = shown_next;
          tried_at = a.tried_at;
        }

    -- it is what comes next
    pub packet_due : is_treated me members p x ≡ true
        → IsNext same steps content loaded holds finds failures (Deliver p) own a.all (made_of same n old.node.me (p ∷ left) here_now) a.looks old v
    packet_due on =
        record {
          due = a.due;
          first = λ some_round some_room. (
            made_of same n old.node.me left (outcome_of same n (Deliver p) here_now).node,
            makes_of same n old.node.me p left here_now (treated_as true on),
          );
        }

    -- it is made or tried, or a fault ended the round

    module _ (tried : List (Event B)) (now : Acting B M K) (says : List Y) (on : is_treated me members p x ≡ true) where
      abbrev Next : Result (Option (Event B)) (ActorFault Y) → Type 0
      Next result = MakesNext same steps content loaded holds finds failures (Deliver p) own old v start a.all a.looks tried now says result

      goes_on : Heads same steps content loaded holds finds failures old v start (a.all ++ Deliver p ∷ []) tried a.looks now says
          → Midst at from left tried now says (noted ++ showing ∷ [])
      goes_on c =
          let next : (behind same n (a.all ++ Deliver p ∷ []) (seen v)).node ≡ (outcome_of same n (Deliver p) here_now).node =
          ap (λ (z : Viewed B). z.node) (behind_more same n a.all (Some (Deliver p)) (seen v)) in
          record {
            fresh = a.fresh;
            up = a.up;
            all = a.all ++ Deliver p ∷ [];
            looks = a.looks;
            heads = c;
            due = append_assoc a.all (Deliver p ∷ []) (made_of same n old.node.me left (behind same n (a.all ++ Deliver p ∷ []) (seen v)).node)
                ∙ ap (λ y. a.all ++ Deliver p ∷ made_of same n old.node.me left y) next
                ∙ ap (λ es. a.all ++ es) (sym (makes_of same n old.node.me p left here_now (treated_as true on))) ∙ a.due;
            shown = shown_next;
            tried_at = a.tried_at;
          }

      pub delivered : (result : Result (Option (Event B)) (ActorFault Y)) → Next result
          → MatchResult result (λ _. Midst at from left tried now says (noted ++ showing ∷ []))
          (λ fault. Ended same steps content loaded holds finds failures own old v start now says fault)
      delivered (Ok None) h = ⊎_elim (λ none. absurd (false≢true none.0)) (λ c. goes_on c.2) h
      delivered (Ok (Some back)) h = absurd (false≢true h.1)
      delivered (Err fault) h = h

  -- a look into a member's box: what came is left to be treated
  module _ (at : List ℕ) (last from : ℕ) (tried : List (Event B)) (p : Parted B M K) (s : Seated B) (was : List Y) (noted : List Hearing)
      (a : Midst at last [] tried (acting p s) was noted) (seated : IsSeated same (acting p s)) (member : IsMember p.node.members p.node.me)
      (peer : IsPeer p.node.me p.node.members from) (r : Option (List (Packet B))) where
    abbrev y : Part B
    y = look_at s.members from r s.part

    abbrev one : Look B
    one = (from, r)

    abbrev u : Under same steps content loaded holds finds failures old v a.heads.made a.looks a.heads.said (acting p s) s
    u = a.heads.under

    still : Still s.members from s.part y
    still = look_still s.members from r s.part

    n_is : s.members ≡ n
    n_is = seated.members ∙ u.members

    me_is : s.part.me ≡ (looked n a.looks v.part).me
    me_is = u.walks.me ∙ sym (looked_me n a.looks v.part)

    apart : (k : ℕ) → IsPeer old.node.me n k → box_of s.members s.part.me k ≡ box_of s.members from s.part.me → ⊥
    apart k other e =
        let mine : s.part.me ≡ p.node.me = seated.me in
        let here_me : IsMember s.members s.part.me =
        subst (λ m. IsMember m s.part.me) (sym seated.members) (subst (IsMember p.node.members) (sym mine) member) in
        let k_in : IsMember s.members k = subst (λ m. IsMember m k) (sym n_is) other.0 in
        let from_in : IsMember s.members from = subst (λ m. IsMember m from) (sym seated.members) peer.0 in
        let both = box_tells s.members s.part.me k from s.part.me here_me k_in from_in here_me e in
        other.1 (both.1 ∙ mine ∙ u.me)

    posts_still : (k : ℕ) → IsPeer old.node.me n k → PostsNone k s (knows y s)
    posts_still k other =
        record {
          posted = λ i. through (box_of s.members (still.me i) k) (still.posted i);
          tries = ap (λ m. tries_at (box_of s.members m k) y.tried) still.me
              ∙ still.tried (box_of s.members s.part.me k) (apart k other);
        }

    received_is : y.received ≡ (looked n (a.looks ++ one ∷ []) v.part).received
    received_is =
        ap (λ m. (look_at m from r s.part).received) n_is
        ∙ look_received n from r s.part (looked n a.looks v.part) me_is u.walks.received
        ∙ ap (λ (z : Part B). z.received) (sym (looked_more n a.looks one v.part))

    tries_are : (k : ℕ) → IsPeer old.node.me n k → tries_from n y k ≡ tries_from n (looked n (a.looks ++ one ∷ []) v.part) k
    tries_are k other =
        ap (λ m. tries_from n (look_at m from r s.part) k) n_is
        ∙ look_tries n from r k s.part (looked n a.looks v.part) me_is (u.walks.tries k other)
        ∙ ap (λ (z : Part B). tries_from n z k) (sym (looked_more n a.looks one v.part))

    under_looked : Under same steps content loaded holds finds failures old v a.heads.made (a.looks ++ one ∷ []) a.heads.said (acting p (knows y s))
        (knows y s)
    under_looked =
        record {
          me = u.me;
          members = u.members;
          fresh = u.fresh;
          walks = record {
            stands = record {
              seat = refl;
              node = λ up. u.walks.stands.node up ∙ ap (λ (z : Viewed B). z.node) (sym still.seen);
              rows = u.walks.stands.rows ∙ ap (λ (z : Viewed B). z.node.rows) (sym still.seen);
              waits = λ k other. subst (λ (z : Viewed B). All (Contains z.sent) (waiting k p.waiting)) (sym still.seen)
                  (u.walks.stands.waits k other);
            };
            table = ap (knows y) u.walks.table;
            me = still.me ∙ u.walks.me;
            moved = still.seen ∙ u.walks.moved;
            received = received_is;
            tries = tries_are;
            events = still.events ∙ u.walks.events;
            counted = u.walks.counted;
          };
          agree = u.agree;
          says = u.says;
          follows = u.follows;
          waits = u.waits;
          posts = λ k other. record {
            posted = (posts_still k other).posted ∙ (u.posts k other).posted;
            tries = (posts_still k other).tries ∙ (u.posts k other).tries;
          };
          rows = subst (λ (z : Viewed B). holds p.keeper z.node.rows) (sym still.seen) u.rows;
          counts = u.counts;
        }

    -- what is made of all that came, and of what is left of it

    abbrev after_own : Viewed B
    after_own = behind same n (made_own same n own (seen v).node) (seen v)

    all_so : a.all ≡ made_own same n own (seen v).node ++ made_of same n old.node.me (came a.looks) after_own.node
    all_so = sym (append-nil a.all) ∙ a.due

    due_looked : a.all ++ made_of same n old.node.me (found_in r) (behind same n a.all (seen v)).node
        ≡ made_in same n old.node.me own (came (a.looks ++ one ∷ [])) (seen v)
    due_looked =
        ap (λ es. es ++ made_of same n old.node.me (found_in r) (behind same n es (seen v)).node) all_so
        ∙ (ap (λ (z : Viewed B). (made_own same n own (seen v).node ++ made_of same n old.node.me (came a.looks) after_own.node)
        ++ made_of same n old.node.me (found_in r) z.node)
        (behind_append same n (made_own same n own (seen v).node) (made_of same n old.node.me (came a.looks) after_own.node) (seen v))
        ∙ (append_assoc (made_own same n own (seen v).node) (made_of same n old.node.me (came a.looks) after_own.node)
        (made_of same n old.node.me (found_in r)
        (behind same n (made_of same n old.node.me (came a.looks) after_own.node) after_own).node)
        ∙ (ap (λ es. made_own same n own (seen v).node ++ es) (sym (made_append same n old.node.me (came a.looks) (found_in r) after_own))
        ∙ ap (λ ps. made_own same n own (seen v).node ++ made_of same n old.node.me ps after_own.node) (sym (came_more a.looks one)))))

    shown_looked : noted ++ shown_in from (found_in r) ≡ hearings (a.looks ++ one ∷ [])
    shown_looked =
        ap (λ hs. hs ++ shown_in from (found_in r)) (sym (append-nil noted) ∙ a.shown) ∙ sym (hearings_more a.looks one)

    tried_looked : (k : ℕ) → Has (from ∷ at) k → Has (map (λ (l : Look B). l.0) (a.looks ++ one ∷ [])) k
    tried_looked k h =
        ⊎_elim (λ e. subst (Has (map (λ (l : Look B). l.0) (a.looks ++ one ∷ []))) e (looked_at a.looks one))
        (λ before. looked_before a.looks one k (a.tried_at k before)) (has_cons h)

    pub looked_into : (t : Seated B) → t ≡ knows (look_at s.members from r s.part) s
        → Midst (from ∷ at) from (found_in r) tried (acting p t) was noted
    looked_into t is =
        subst (λ z. Midst (from ∷ at) from (found_in r) tried (acting p z) was noted) (sym is) (record {
          fresh = a.fresh;
          up = a.up;
          all = a.all;
          looks = a.looks ++ one ∷ [];
          heads = record {
            made = a.heads.made;
            said = a.heads.said;
            under = under_looked;
            all_are = a.heads.all_are;
            are = a.heads.are;
          };
          due = due_looked;
          shown = shown_looked;
          tried_at = tried_looked;
        })

  -- a member that was looked at twice
  pub looked_once : (at : List ℕ) (from : ℕ) (tried : List (Event B)) (now : Acting B M K) (says : List Y) (noted : List Hearing)
      → Midst (from ∷ from ∷ at) from [] tried now says noted → Midst (from ∷ at) from [] tried now says noted
  looked_once at from tried now says noted a =
      record {
        fresh = a.fresh;
        up = a.up;
        all = a.all;
        looks = a.looks;
        heads = a.heads;
        due = a.due;
        shown = a.shown;
        tried_at = λ k h. a.tried_at k (there h);
      }
