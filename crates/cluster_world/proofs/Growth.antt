-- What stays true as more is sent and promised.
use Rattle.std.proofs.Common.{◌≡◌, ℕ, suc, refl, sym, ap, ◌∙◌, subst, List, [], ◌∷◌, Option}
use Rattle.cluster_world.proofs.Order.{Reaches, Over, reach, over, le_refl, reach_over}
use Rattle.cluster_world.proofs.Invariant.{vote, Sent, Known, Carried, Backs, Safe, Clear, Free, Tells, Told, IsChosen, VoteOf, RoleOk}
use Rattle.cluster_world.proofs.Invariant.{RoleFree, Grows, AllSafe}
use Rattle.paxos_proposer.specs.Role.{Role, Idle, Preparing, Leading}
use Rattle.paxos_learner.specs.declared.tallies.SlotBallot.{SlotBallot}
use Rattle.paxos_packets.specs.declared.ballot.Ballot.{Ballot}
use Rattle.paxos_packets.specs.declared.packet.Kind.{Kind}
use Rattle.paxos_packets.specs.declared.packet.Packet.{Packet}
use Rattle.paxos_packets.specs.declared.vote.Vote.{Vote}
use Rattle.paxos_packets.specs.declared.packet.Kind.TheVariants.{Prepare, Accept}
use Rattle.paxos_packets.specs.declared.entry.Entry.{Entry}

pub grows_none : {B : Type 0} (promised : ℕ → Option Ballot) (sent : List (Packet B)) → Grows promised promised sent sent
grows_none promised sent = record { more = λ p h. h; higher = λ k b h. h; still = λ k v o h. h }

over_grows : {B : Type 0} {promised now : ℕ → Option Ballot} {sent later : List (Packet B)} → Grows promised now sent later
    → (k : ℕ) (b : Ballot) → Over (promised k) b → Over (now k) b
over_grows {promised = promised} {now = now} g k b o = go (promised k) refl o
  where
    go : (p : Option Ballot) → promised k ≡ p → Over p b → Over (now k) b
    go p e (over {p = q} h) = reach_over (g.higher k q (subst (λ z. Reaches z q) (sym e) (reach (le_refl q)))) h

pub sent_grows : {B : Type 0} {promised now : ℕ → Option Ballot} {sent later : List (Packet B)} {k : ℕ} {kind : Kind B}
    → Grows promised now sent later → Sent sent k kind → Sent later k kind
sent_grows g s = record { to = s.to; is = g.more _ s.is }

pub known_grows : {B : Type 0} {promised now : ℕ → Option Ballot} {sent later : List (Packet B)} {kind : Kind B}
    → Grows promised now sent later → Known sent kind → Known later kind
known_grows g s = record { by = s.by; is = sent_grows g s.is }

pub grows_on : {B : Type 0} {p q r : ℕ → Option Ballot} {a b c : List (Packet B)} → Grows p q a b → Grows q r b c → Grows p r a c
grows_on g h =
    record {
      more = λ x i. h.more x (g.more x i);
      higher = λ k b i. h.higher k b (g.higher k b i);
      still = λ k v o s. g.still k v o (h.still k v (over_grows g k v.ballot o) s);
    }

pub carried_grows : {B : Type 0} {promised now : ℕ → Option Ballot} {sent later : List (Packet B)} {v w : Vote B}
    → Grows promised now sent later → Carried sent v w → Carried later v w
carried_grows g c = record { ballot = c.ballot; above = c.above; under = c.under; known = known_grows g c.known }

pub backs_grows : {B : Type 0} {promised now : ℕ → Option Ballot} {sent later : List (Packet B)} {v : Vote B} {k : ℕ}
    → Grows promised now sent later → Backs promised sent v k → Backs now later v k
backs_grows {v = v} {k = k} g c =
    record {
      reaches = g.higher k v.ballot c.reaches;
      carries = λ w s l i. carried_grows g (c.carries w s l (g.still k w (reach_over c.reaches l) i));
    }

pub safe_grows : {B : Type 0} {members : ℕ} {promised now : ℕ → Option Ballot} {sent later : List (Packet B)} {v : Vote B}
    → Grows promised now sent later → Safe members promised sent v → Safe members now later v
safe_grows g c = record { quorum = c.quorum; most = c.most; backs = λ k m q. backs_grows g (c.backs k m q) }

pub clear_grows : {B : Type 0} {promised now : ℕ → Option Ballot} {sent later : List (Packet B)} {b : Ballot} {slot k : ℕ}
    → Grows promised now sent later → Clear promised sent b slot k → Clear now later b slot k
clear_grows {b = b} {k = k} g c =
    record {
      reaches = g.higher k b c.reaches;
      never = λ w s l i. c.never w s l (g.still k w (reach_over c.reaches l) i);
    }

pub free_grows : {B : Type 0} {members : ℕ} {promised now : ℕ → Option Ballot} {sent later : List (Packet B)} {b : Ballot} {slot : ℕ}
    → Grows promised now sent later → Free members promised sent b slot → Free members now later b slot
free_grows g c = record { quorum = c.quorum; most = c.most; clear = λ k m q. clear_grows g (c.clear k m q) }

pub safe_from_free : {B : Type 0} {members : ℕ} {promised : ℕ → Option Ballot} {sent : List (Packet B)} {b : Ballot} {slot : ℕ}
    (e : Entry B)
    → Free members promised sent b slot → Safe members promised sent (vote slot b e)
safe_from_free e f =
    record {
      quorum = f.quorum;
      most = f.most;
      backs = λ k m q. record { reaches = (f.clear k m q).reaches; carries = λ w s l i. absurd ((f.clear k m q).never w s l i) };
    }

pub tells_grows : {B : Type 0} {promised now : ℕ → Option Ballot} {sent later : List (Packet B)} {k : ℕ} {b : Ballot} {first floor : ℕ}
    {votes : List (Vote B)}
    → Grows promised now sent later → Tells promised sent k b first floor votes → Tells now later k b first floor votes
tells_grows {k = k} {b = b} g t =
    record {
      reaches = g.higher k b t.reaches;
      told = λ w s f l i. t.told w s f l (g.still k w (reach_over t.reaches l) i);
      low = t.low;
      known = λ u h. known_grows g (t.known u h);
    }

pub told_grows : {B : Type 0} {promised now : ℕ → Option Ballot} {sent later : List (Packet B)} {k : ℕ} {b : Ballot} {floor : ℕ}
    {votes : List (Vote B)} → Grows promised now sent later → Told promised sent k b floor votes → Told now later k b floor votes
told_grows g t = record { first = t.first; asked = known_grows g t.asked; tells = tells_grows g t.tells }

pub chosen_grows : {B : Type 0} {members : ℕ} {promised now : ℕ → Option Ballot} {sent later : List (Packet B)} {slot : ℕ} {entry : Entry B}
    → Grows promised now sent later → IsChosen members sent slot entry → IsChosen members later slot entry
chosen_grows g c = record { ballot = c.ballot; quorum = c.quorum; most = c.most; voted = λ k m q. sent_grows g (c.voted k m q) }

pub vote_of_grows : {B : Type 0} {promised now : ℕ → Option Ballot} {sent later : List (Packet B)} {p : SlotBallot} {k : ℕ}
    → Grows promised now sent later → VoteOf sent p k → VoteOf later p k
vote_of_grows g c = record { entry = c.entry; is = sent_grows g c.is }

pub role_free_grows : {B : Type 0} (members : ℕ) {promised now : ℕ → Option Ballot} {sent later : List (Packet B)}
    → Grows promised now sent later → (r : Role B) → RoleFree members promised sent r → RoleFree members now later r
role_free_grows members g Idle f = f
role_free_grows members g (Preparing b first promises) f = f
role_free_grows members g (Leading b next table) f = λ slot h l. free_grows g (f slot h l)

-- a role stays if its own ballot gets no new Prepare and no new Accept
pub role_grows : {B : Type 0} {promised now : ℕ → Option Ballot} {sent later : List (Packet B)} → Grows promised now sent later → (k : ℕ)
    → ((b : Ballot) → b.node ≡ k → (f : ℕ) → Known later (Prepare b f) → Known sent (Prepare b f))
    → ((v : Vote B) → v.ballot.node ≡ k → Known later (Accept v) → Known sent (Accept v)) → (mine : Option Ballot) (own_floor : ℕ) (r : Role B)
    → RoleOk promised mine own_floor sent k r → RoleOk now mine own_floor later k r
role_grows g k asks offers mine own_floor Idle ok = ok
role_grows g k asks offers mine own_floor (Preparing b first promises) ok =
    record {
      owner = ok.owner;
      exact = ok.exact;
      only = λ f p. ok.only f (asks b ok.owner f p);
      asked = known_grows g ok.asked;
      none = λ v p e. ok.none v (offers v (ap (λ (z : Ballot). z.node) e ∙ ok.owner) p) e;
      kept = λ c h. tells_grows g (ok.kept c h);
    }
role_grows g k asks offers mine own_floor (Leading b next table) ok =
    record {
      owner = ok.owner;
      exact = ok.exact;
      high = ok.high;
      made = λ v p e. ok.made v (offers v (ap (λ (z : Ballot). z.node) e ∙ ok.owner) p) e;
      own = λ v h. known_grows g (ok.own v h);
      owned = ok.owned;
    }

pub all_safe_grows : {B : Type 0} (members : ℕ) {promised now : ℕ → Option Ballot} {sent later : List (Packet B)}
    → Grows promised now sent later → (b : Ballot) (slot : ℕ) (es : List (Entry B)) → AllSafe members promised sent b slot es
    → AllSafe members now later b slot es
all_safe_grows members g b slot [] h = tt
all_safe_grows members g b slot (e ∷ es) h = (safe_grows g h.0, all_safe_grows members g b (suc slot) es h.1)
