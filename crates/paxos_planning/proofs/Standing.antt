-- What stands (is proposed already) stays so while a leader proposes, and a push passes over it.
use Rattle.std.proofs.Common.{◌≡◌, ℕ, zero, suc, ◌+◌, ◌<◌, Bool, true, false, cond, ◌&&◌, ◌||◌, Option, Some, None, List, [], ◌∷◌, ◌++◌, take, drop, length, get_or, refl, ap, sym, ◌∙◌, subst, arith}
use Rattle.std.specs.Prelude.{nat_lt}
use Rattle.std.proofs.lemmas.List.{take-append-drop}
use Rattle.std.proofs.Math.Seq.{take-add}
use Rattle.paxos_packets.specs.Ballot.{below}
use Rattle.paxos_packets.specs.Body.{IsEquality}
use Rattle.paxos_packets.specs.Entry.{same_entry, entry_equality}
use Rattle.paxos_packets.specs.declared.ballot.Ballot.{Ballot}
use Rattle.paxos_packets.specs.declared.entry.Entry.{Entry}
use Rattle.paxos_packets.specs.declared.vote.Vote.{Vote}
use Rattle.paxos_proposer.specs.Role.{Role, Idle, Preparing, Leading}
use Rattle.paxos_proposer.specs.Proposer.{slot_end, next_vote, is_leading}
use Rattle.paxos_proposer.specs.Proposals.{stands_among}
use Rattle.paxos_planning.specs.Node.{Plan, log_length}
use Rattle.paxos_planning.specs.Plan.{send, cast}
use Rattle.paxos_planning.specs.Proposals.{offer, propose_as, propose, stands, propose_new, propose_each, forwarded, push}
use Rattle.paxos_planning.specs.Drafting.{listed}
use Rattle.paxos_planning.specs.Parts.{pending_with}
use Rattle.paxos_planning.specs.Front.{AllStand, IsFront}

-- none is proposed again

passes_one : {B : Type 0} (same : B → B → Bool) (members me : ℕ) (e : Entry B) (t : Plan B)
    → stands same (log_length t.node) t.node.proposer.role e ≡ true → propose_new same members me e t ≡ t
passes_one {B} same members me e t h = ap (λ (b : Bool). cond b t (propose same members me e t)) h

passes : {B : Type 0} (same : B → B → Bool) (members me : ℕ) (es : List (Entry B)) (t : Plan B)
    → AllStand same (log_length t.node) t.node.proposer.role es → propose_each same members me es t ≡ t
passes same members me [] t h = refl
passes {B} same members me (e ∷ es) t h =
    ap (λ (u : Plan B). propose_each same members me es u) (passes_one same members me e t h.0) ∙ passes same members me es t h.1

each_in_turn : {B : Type 0} (same : B → B → Bool) (members me : ℕ) (es ds : List (Entry B)) (t : Plan B)
    → propose_each same members me (es ++ ds) t ≡ propose_each same members me ds (propose_each same members me es t)
each_in_turn same members me [] ds t = refl
each_in_turn same members me (e ∷ es) ds t = each_in_turn same members me es ds (propose_new same members me e t)

pub passes_over : {B : Type 0} (same : B → B → Bool) (members me n : ℕ) (es : List (Entry B)) (t : Plan B)
    → AllStand same (log_length t.node) t.node.proposer.role (take n es)
    → propose_each same members me es t ≡ propose_each same members me (drop n es) t
passes_over {B} same members me n es t h =
    ap (λ (ds : List (Entry B)). propose_each same members me ds t) (sym (take-append-drop n es))
    ∙ each_in_turn same members me (take n es) (drop n es) t
    ∙ ap (λ (u : Plan B). propose_each same members me (drop n es) u) (passes same members me (take n es) t h)

-- one more proposal leaves what stands standing

among_more : {B : Type 0} (same : B → B → Bool) (n : ℕ) (e : Entry B) (vs : List (Vote B)) (v : Vote B)
    → stands_among same n e vs ≡ true → stands_among same n e (vs ++ v ∷ []) ≡ true
among_more same n e [] v h = absurd (cc)
among_more {B} same n e (w ∷ ws) v h = go (nat_lt n w.slot && same_entry same w.entry e) h (among_more same n e ws v)
  where
    go : (b : Bool) → b || stands_among same n e ws ≡ true → (stands_among same n e ws ≡ true → stands_among same n e (ws ++ v ∷ []) ≡ true)
        → b || stands_among same n e (ws ++ v ∷ []) ≡ true
    go true p f = refl
    go false p f = f p

all_more : {B : Type 0} (same : B → B → Bool) (n : ℕ) (b : Ballot) (next next' : ℕ) (vs : List (Vote B)) (v : Vote B) (es : List (Entry B))
    → AllStand same n (Leading b next vs) es → AllStand same n (Leading b next' (vs ++ v ∷ [])) es
all_more same n b next next' vs v [] h = tt
all_more same n b next next' vs v (e ∷ es) h = (among_more same n e vs v h.0, all_more same n b next next' vs v es h.1)

-- these stand in what is made of a leader so far
abbrev Stays : {B : Type 0} → (B → B → Bool) → List (Entry B) → Plan B → Type 0
Stays test es t = is_leading t.node.proposer.role ≡ true → AllStand test (log_length t.node) t.node.proposer.role es

module _ {B : Type 0} (test same : B → B → Bool) (members me : ℕ) (es : List (Entry B)) where
  proposed_as : (r : Role B) (e : Entry B) (t : Plan B) → r ≡ t.node.proposer.role → Stays test es t → Stays test es (propose_as same members me r e t)
  proposed_as Idle e t p h = h
  proposed_as (Preparing b first promises) e t p h = h
  proposed_as (Leading b next vs) e t p h = go (nat_lt next slot_end)
    where
      here : AllStand test (log_length t.node) (Leading b next vs) es
      here = subst (λ (r : Role B). AllStand test (log_length t.node) r es) (sym p) (h (ap is_leading (sym p)))

      more : AllStand test (log_length t.node) (Leading b (suc next) (vs ++ next_vote b next e ∷ [])) es
      more = all_more test (log_length t.node) b next (suc next) vs (next_vote b next e) es here

      down : (x : Bool) → is_leading (cond x Idle (Leading b (suc next) (vs ++ next_vote b next e ∷ []))) ≡ true
          → AllStand test (log_length t.node) (cond x Idle (Leading b (suc next) (vs ++ next_vote b next e ∷ []))) es
      down true q = absurd (cc)
      down false q = more

      go : (x : Bool) → Stays test es (cond x (cast same members me (next_vote b next e) (offer members me b next vs e t)) t)
      go true = down (below b b)
      go false = h

  proposed_new : (e : Entry B) (t : Plan B) → Stays test es t → Stays test es (propose_new same members me e t)
  proposed_new e t h = go (stands same (log_length t.node) t.node.proposer.role e)
    where
      go : (x : Bool) → Stays test es (cond x t (propose same members me e t))
      go true = h
      go false = proposed_as t.node.proposer.role e t refl h

  proposed_each : (ds : List (Entry B)) (t : Plan B) → Stays test es t → Stays test es (propose_each same members me ds t)
  proposed_each [] t h = h
  proposed_each (d ∷ ds) t h = proposed_each ds (propose_new same members me d t) (proposed_new d t h)

  pub pushed : (t : Plan B) → Stays test es t → Stays test es (push same members me t)
  pushed t h = go (is_leading t.node.proposer.role)
    where
      go : (x : Bool)
          → Stays test es (cond x (propose_each same members me t.node.pending t) (send (forwarded me t.node.rows.promised t.node.pending) t))
      go true = proposed_each t.node.pending t h
      go false = h

-- what stands by one test of bodies stands by each

either : (a b : Bool) → a ≡ true → a || b ≡ true
either a b h = ap (λ (c : Bool). c || b) h

later : (a b : Bool) → b ≡ true → a || b ≡ true
later true b h = refl
later false b h = h

module _ {B : Type 0} (same test : B → B → Bool) (ok : IsEquality same) (fine : IsEquality test) where
  entries_alike : (d e : Entry B) → same_entry same d e ≡ true → same_entry test d e ≡ true
  entries_alike d e h =
      subst (λ (x : Entry B). same_entry test d x ≡ true) ((entry_equality same ok).sound d e h) ((entry_equality test fine).reflexive d)

  among_alike : (n : ℕ) (e : Entry B) (vs : List (Vote B)) → stands_among same n e vs ≡ true → stands_among test n e vs ≡ true
  among_alike n e [] h = absurd (cc)
  among_alike n e (v ∷ vs) h = one (nat_lt n v.slot) (same_entry same v.entry e) refl h (among_alike n e vs)
    where
      one : (a b : Bool) → same_entry same v.entry e ≡ b → (a && b) || stands_among same n e vs ≡ true
          → (stands_among same n e vs ≡ true → stands_among test n e vs ≡ true)
          → (a && same_entry test v.entry e) || stands_among test n e vs ≡ true
      one true true p q f = either (same_entry test v.entry e) (stands_among test n e vs) (entries_alike v.entry e p)
      one true false p q f = later (same_entry test v.entry e) (stands_among test n e vs) (f q)
      one false b p q f = f q

  stands_alike : (n : ℕ) (r : Role B) (e : Entry B) → stands same n r e ≡ true → stands test n r e ≡ true
  stands_alike n Idle e h = h
  stands_alike n (Preparing b first promises) e h = h
  stands_alike n (Leading b next vs) e h = among_alike n e vs h

  all_alike : (n : ℕ) (r : Role B) (es : List (Entry B)) → AllStand same n r es → AllStand test n r es
  all_alike n r [] h = tt
  all_alike n r (e ∷ es) h = (stands_alike n r e h.0, all_alike n r es h.1)

all_both : {B : Type 0} (same : B → B → Bool) (n : ℕ) (r : Role B) (es ds : List (Entry B)) → AllStand same n r es → AllStand same n r ds
    → AllStand same n r (es ++ ds)
all_both same n r [] ds h k = k
all_both same n r (e ∷ es) ds h k = (h.0, all_both same n r es ds h.1 k)

-- the front

pub no_front : {B : Type 0} (applied : ℕ) (r : Role B) (es : List (Entry B)) → IsFront 0 applied r es
no_front applied r es = λ same ok leads. tt

pub more_front : {B : Type 0} (same : B → B → Bool) (ok : IsEquality same) (n m applied : ℕ) (r : Role B) (es : List (Entry B))
    → IsFront n applied r es → AllStand same applied r (take m (drop n es)) → IsFront (n + m) applied r es
more_front {B} same ok n m applied r es front more = λ test fine leads.
    subst (λ (ds : List (Entry B)). AllStand test applied r ds) (sym (take-add n m es))
    (all_both test applied r (take n es) (take m (drop n es)) (front test fine leads)
    (all_alike same test ok fine applied r (take m (drop n es)) more))

pub front_pushed : {B : Type 0} (same : B → B → Bool) (members me n : ℕ) (es : List (Entry B)) (t : Plan B)
    → IsFront n (log_length t.node) t.node.proposer.role es
    → IsFront n (log_length (push same members me t).node) (push same members me t).node.proposer.role es
front_pushed same members me n es t front = λ test fine. pushed test same members me (take n es) t (front test fine)

-- one more stands at the end

pub stands_next : {B : Type 0} (same : B → B → Bool) (applied : ℕ) (r : Role B) (i : ℕ) (es : List (Entry B)) (e : Entry B)
    → i < length es → e ≡ get_or es i e → AllStand same applied r (take i es) → stands same applied r e ≡ true
    → AllStand same applied r (take (suc i) es)
stands_next same applied r i [] e l p h k = absurd (omega arith)
stands_next {B} same applied r zero (d ∷ ds) e l p h k = (subst (λ (x : Entry B). stands same applied r x ≡ true) p k, tt)
stands_next same applied r (suc i) (d ∷ ds) e l p h k = (h.0, stands_next same applied r i ds e (omega arith) p h.1 k)

-- a leader's push looks at what is after the front, and at the entry that becomes pending

pub pushes_rest : {B : Type 0} (same : B → B → Bool) (members me n : ℕ) (added : Option (Entry B)) (es : List (Entry B)) (t : Plan B)
    → t.node.pending ≡ pending_with added es → is_leading t.node.proposer.role ≡ true
    → AllStand same (log_length t.node) t.node.proposer.role (take n es)
    → propose_each same members me (listed added) (propose_each same members me (drop n es) t) ≡ push same members me t
pushes_rest {B} same members me n added es t pending leads stand =
    ap (λ (u : Plan B). propose_each same members me (listed added) u) (sym (passes_over same members me n es t stand))
    ∙ with_one added
    ∙ ap (λ (ds : List (Entry B)). propose_each same members me ds t) (sym pending)
    ∙ ap (λ (b : Bool). cond b (propose_each same members me t.node.pending t) (send (forwarded me t.node.rows.promised t.node.pending) t)) (sym leads)
  where
    with_one : (added : Option (Entry B)) → propose_each same members me (listed added) (propose_each same members me es t)
        ≡ propose_each same members me (pending_with added es) t
    with_one None = refl
    with_one (Some e) = sym (each_in_turn same members me es (e ∷ []) t)
