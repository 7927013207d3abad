-- What waits is posted, peer after peer.
use Rattle.std.proofs.Common.{◌≡◌, ◌⊎◌, inl, inr, ℕ, zero, suc, ◌<◌, ◌≤◌, eqb, Bool, true, false, None, List, [], ◌∷◌, ◌++◌}
use Rattle.std.proofs.Common.{arith, sym, ap, subst, ◌∙◌, refl, ⊎_elim, lt-ltb}
use Rattle.std.specs.Prelude.{All, Contains, ◌||◌, ◌&&◌, ◌==◌, nat_lt, if◌then◌else◌}
use Rattle.std.proofs.lemmas.Bool.{eq-eqb, ne_eqb, cond-true, cond-false, cases_eq, cases_lt}
use Rattle.std.proofs.lemmas.List.Elements.{All-head, All-tail}
use Rattle.cluster_world.specs.Has.{Has, here, there}
use Rattle.paxos_packets.specs.Members.{IsMember, is_in}
use Rattle.paxos_packets.specs.declared.packet.Packet.{Packet}
use Rattle.paxos_packets.specs.declared.rows.Rows.{Rows}
use Rattle.actor_outboxes.specs.Outboxes.{IsPeer, waiting, TakenFor, WaitsFirst}
use Rattle.actor_parts.specs.Parts.{Parted, IsSound}
use Rattle.actor_parts.specs.Steps.{OnlyWaiting}
use Rattle.mail_table.specs.Seats.{Seated, knows}
use Rattle.mail_table.specs.Views.{box_of, posting, lost}
use Rattle.mail_table.specs.declared.part.Try.{Try}
use Rattle.mail_table.proofs.Parcels.{through_more, through_else}
use Rattle.mail_table.proofs.Places.{box_tells}
use Rattle.node_actor.specs.Actor.{Acting, acting, IsSeated}
use Rattle.node_actor.specs.Turns.{tries_at, PostsTo, none_due, post_won, post_lost, Beside, StaysTo, PostsOne, PostsAlone}
use Rattle.node_actor.specs.Views.{View}
use Rattle.node_actor.proofs.Seating.{none_meant, MayLeave}

pub has_in : {A : Type 0} (xs : List A) (x : A) → Contains xs x → Has xs x
has_in [] x (k, lt, at) = absurd (omega arith)
has_in (y ∷ ys) x (zero, lt, at) = subst (Has (y ∷ ys)) at here
has_in (y ∷ ys) x (suc k, lt, at) = there (has_in ys x (k, omega (arith, lt), at))

-- tries

joined : (b : Bool) (x : Bool) (ys zs ws : List Bool) → ys ≡ zs ++ ws → (if b then x ∷ ys else ys) ≡ (if b then x ∷ zs else zs) ++ ws
joined true x ys zs ws e = ap (λ l. x ∷ l) e
joined false x ys zs ws e = e

pub tries_more : (at : ℕ) (won : Bool) (ts : List Try) → tries_at at (ts ++ record { at = at; won = won } ∷ []) ≡ tries_at at ts ++ won ∷ []
tries_more at won [] = cond-true (eqb at at) (won ∷ []) [] (eq-eqb at at refl)
tries_more at won (t ∷ ts) =
    joined (eqb t.at at) t.won (tries_at at (ts ++ record { at = at; won = won } ∷ [])) (tries_at at ts) (won ∷ []) (tries_more at won ts)

pub tries_else : (at i : ℕ) (won : Bool) (ts : List Try) → (at ≡ i → ⊥)
    → tries_at at (ts ++ record { at = i; won = won } ∷ []) ≡ tries_at at ts
tries_else at i won [] d = cond-false (eqb i at) (won ∷ []) [] (ne_eqb i at (λ e. d (sym e)))
tries_else at i won (t ∷ ts) d = ap (λ l. if eqb t.at at then t.won ∷ l else l) (tries_else at i won ts d)

abbrev pub post_box : {B : Type 0} → Seated B → ℕ → ℕ
post_box s k = box_of s.members s.part.me k

module _ {B M K : Type 0} where
  pub only_on : (a b c : Parted B M K) → OnlyWaiting a b → OnlyWaiting b c → OnlyWaiting a c
  only_on a b c x y =
      record {
        node = y.node ∙ x.node;
        keeper = y.keeper ∙ x.keeper;
        log = y.log ∙ x.log;
        failed = y.failed ∙ x.failed;
        spoiled = y.spoiled ∙ x.spoiled;
        me = y.me ∙ x.me;
        members = y.members ∙ x.members;
      }

  pub only_none : (a b : Parted B M K) → b ≡ a → OnlyWaiting a b
  only_none a b e =
      record {
        node = ap (λ (x : Parted B M K). x.node) e;
        keeper = ap (λ (x : Parted B M K). x.keeper) e;
        log = ap (λ (x : Parted B M K). x.log) e;
        failed = ap (λ (x : Parted B M K). x.failed) e;
        spoiled = ap (λ (x : Parted B M K). x.spoiled) e;
        me = ap (λ (x : Parted B M K). x.waiting.me) e;
        members = ap (λ (x : Parted B M K). x.waiting.members) e;
      }

  -- the boxes to two members are two
  pub boxes_apart : (same : B → B → Bool) (p : Parted B M K) (s : Seated B) → IsSeated same (acting p s) → IsMember p.node.members p.node.me
      → (j k : ℕ)
      → IsMember p.node.members j → IsMember p.node.members k → (j ≡ k → ⊥) → post_box s j ≡ post_box s k → ⊥
  boxes_apart same p s seated member j k mj mk d e =
      let here_me : IsMember s.members s.part.me = subst (λ n. IsMember n s.part.me) (sym seated.members)
      (subst (IsMember p.node.members) (sym seated.me) member) in
      let j_in : IsMember s.members j = subst (λ n. IsMember n j) (sym seated.members) mj in
      let k_in : IsMember s.members k = subst (λ n. IsMember n k) (sym seated.members) mk in
      d (box_tells s.members s.part.me j s.part.me k here_me j_in here_me k_in e).1

  -- none waited
  pub posts_none : (k : ℕ) (p q : Parted B M K) (s : Seated B) → q ≡ p → waiting k p.waiting ≡ []
      → PostsOne k false (acting p s) (acting q s) s s
  posts_none k p q s is none =
      record {
        beside = record { only = only_none p q is; table = refl; me = refl; seen = refl; events = refl; received = refl };
        there = λ peer. none_due refl none (ap (λ (x : Parted B M K). waiting k x.waiting) is ∙ none) refl refl;
        peer = λ won. absurd cc;
        others = λ j peer d. record { waits = ap (λ (x : Parted B M K). waiting j x.waiting) is; posted = refl; tries = refl };
      }

  module _ (same : B → B → Bool) (k : ℕ) (packet : Packet B) (p q : Parted B M K) (s : Seated B) (seated : IsSeated same (acting p s))
      (member : IsMember p.node.members p.node.me) (to : IsMember p.node.members k) (only : OnlyWaiting p q)
      (taken : TakenFor k packet p.waiting q.waiting) where
    -- the try won
    pub posts_won : (t : Seated B) → IsPeer p.node.me p.node.members k → t ≡ knows (posting (post_box s k) packet s.part) s
        → PostsOne k true (acting p s) (acting q t) s t
    posts_won t is_peer is = subst (λ z. PostsOne k true (acting p s) (acting q z) s z) (sym is) (record {
      beside = record { only = only; table = refl; me = refl; seen = refl; events = refl; received = refl };
      there = λ peer. post_won packet (waiting k q.waiting) refl taken.first refl (through_more (post_box s k) s.part.posted (packet ∷ []))
          (tries_more (post_box s k) true s.part.tried);
      peer = λ won. is_peer;
      others = λ j peer d. record {
        waits = taken.others j d;
        posted = through_else (post_box s j) (post_box s k) s.part.posted (packet ∷ []) (boxes_apart same p s seated member j k peer.0 to d);
        tries = tries_else (post_box s j) (post_box s k) true s.part.tried (boxes_apart same p s seated member j k peer.0 to d);
      };
    })

    -- the try was lost, and the packet waits again
    module _ (again : Packet B) (is_packet : again ≡ packet) (r : Parted B M K) (back : OnlyWaiting q r)
        (first : WaitsFirst again q.waiting r.waiting) where
      to_k : again.addressee ≡ k
      to_k = ap (λ (x : Packet B). x.addressee) is_packet ∙ taken.addressed

      pub waits_again : waiting k r.waiting ≡ packet ∷ waiting k q.waiting
      waits_again =
          subst (λ i. waiting i r.waiting ≡ again ∷ waiting i q.waiting) to_k first.first ∙ ap (λ x. x ∷ waiting k q.waiting) is_packet

      others_again : (j : ℕ) → (j ≡ k → ⊥) → waiting j r.waiting ≡ waiting j p.waiting
      others_again j d = first.others j (λ e. d (e ∙ to_k)) ∙ taken.others j d

      pub all_again : (j : ℕ) → waiting j r.waiting ≡ waiting j p.waiting
      all_again j =
          ⊎_elim (λ (e : j ≡ k). subst (λ i. waiting i r.waiting ≡ waiting i p.waiting) (sym e) (waits_again
          ∙ sym taken.first)) (λ d. others_again j d)
          (cases_eq j k)

      pub posts_lost : (t : Seated B) → t ≡ knows (lost (post_box s k) s.part) s → PostsOne k false (acting p s) (acting r t) s t
      posts_lost t is = subst (λ z. PostsOne k false (acting p s) (acting r z) s z) (sym is) (record {
        beside = record { only = only_on p q r only back; table = refl; me = refl; seen = refl; events = refl; received = refl };
        there = λ peer. post_lost packet (waiting k q.waiting) refl taken.first waits_again refl
            (tries_more (post_box s k) false s.part.tried);
        peer = λ won. absurd cc;
        others = λ j peer d. record {
          waits = others_again j d;
          posted = refl;
          tries = tries_else (post_box s j) (post_box s k) false s.part.tried (boxes_apart same p s seated member j k peer.0 to d);
        };
      })

-- a peer of the outboxes is one of the node
pub peer_there : {B M K : Type 0} (same : B → B → Bool) (holds : K → Rows B → Type 0) (is_failed : K → Bool) (p : Parted B M K) (k : ℕ)
    → IsSound same holds is_failed p → IsPeer p.waiting.me p.waiting.members k → IsPeer p.node.me p.node.members k
peer_there same holds is_failed p k sound peer =
    subst (λ n. IsPeer n p.node.members k) sound.me (subst (λ n. IsPeer p.waiting.me n k) sound.members peer)

-- the actor sits as before

module _ {B M K : Type 0} (same : B → B → Bool) where
  peer_same : (p q : Parted B M K) → OnlyWaiting p q → (k : ℕ) → IsPeer q.node.me q.node.members k → IsPeer p.node.me p.node.members k
  peer_same p q only k peer =
      subst (λ n. IsPeer n p.node.members k) (ap (λ n. n.me) only.node)
      (subst (λ n. IsPeer q.node.me n k) (ap (λ n. n.members) only.node) peer)

  pub seated_beside : (p q : Parted B M K) (s t : Seated B) → p.failed ≡ None → OnlyWaiting p q → t.members ≡ s.members
      → t.part.me ≡ s.part.me
      → t.part.seen ≡ s.part.seen → ((k : ℕ) → IsPeer p.node.me p.node.members k → All (Contains s.part.seen.sent) (waiting k q.waiting))
      → IsSeated same (acting p s) → IsSeated same (acting q t)
  seated_beside p q s t none only members me seen waits seated =
      record {
        me = me ∙ seated.me ∙ ap (λ n. n.me) (sym only.node);
        members = members ∙ seated.members ∙ ap (λ n. n.members) (sym only.node);
        node = λ up. ap (λ x. x.node) seen ∙ seated.node (ap (λ n. n.state.up) (sym only.node) ∙ up) ∙ ap (λ n. n.state) (sym only.node);
        same_rows = ap (λ x. x.node.rows) seen ∙ seated.same_rows ∙ ap (λ n. n.state.rows) (sym only.node);
        rows = seated.rows;
        opened = ap (λ x. x.opened) seen ∙ seated.opened;
        waits = λ k peer. subst (λ x. All (Contains x.sent) (waiting k q.waiting)) (sym seen) (waits k (peer_same p q only k peer));
        failed = none_meant (MayLeave same q.node t) q.failed (only.failed ∙ none);
      }

  -- what waits is among what waited
  pub by_peer : (k j : ℕ) (sent : List (Packet B)) (p q : Parted B M K) → All (Contains sent) (waiting k q.waiting)
      → ((i : ℕ) → (i ≡ k → ⊥) → waiting i q.waiting ≡ waiting i p.waiting) → All (Contains sent) (waiting j p.waiting)
      → (j ≡ k) ⊎ (j ≡ k → ⊥) → All (Contains sent) (waiting j q.waiting)
  by_peer k j sent p q mine others was (inl e) = subst (λ i. All (Contains sent) (waiting i q.waiting)) (sym e) mine
  by_peer k j sent p q mine others was (inr d) = subst (All (Contains sent)) (sym (others j d)) was

  pub sent_rest : (k : ℕ) (packet : Packet B) (sent : List (Packet B)) (p q : Parted B M K) → TakenFor k packet p.waiting q.waiting
      → All (Contains sent) (waiting k p.waiting) → (j : ℕ) → All (Contains sent) (waiting j p.waiting)
      → All (Contains sent) (waiting j q.waiting)
  sent_rest k packet sent p q taken mine j was =
      by_peer k j sent p q (All-tail (Contains sent) packet (waiting k q.waiting) (subst (All (Contains sent)) taken.first mine))
      taken.others was (cases_eq j k)

  pub first_sent : (k : ℕ) (packet : Packet B) (sent : List (Packet B)) (p q : Parted B M K) → TakenFor k packet p.waiting q.waiting
      → All (Contains sent) (waiting k p.waiting) → Has sent packet
  first_sent k packet sent p q taken mine =
      has_in sent packet (All-head (Contains sent) packet (waiting k q.waiting) (subst (All (Contains sent)) taken.first mine))

-- the set of those to which one was posted, with this node if one was posted to it

pub record Notes (n : ℕ) (won : Bool) (set next : List Bool) : Type 0 where
  pub here : is_in next n ≡ won
  pub others : (k : ℕ) → (k ≡ n → ⊥) → is_in next k ≡ is_in set k

notes_won : (n : ℕ) (set next : List Bool) → n < 8 → ((k : ℕ) → is_in next k ≡ (is_in set k || ((k == n) && nat_lt k 8)))
    → Notes n true set next
notes_won n set next small is =
    record {
      here = is n ∙ ap (λ b. is_in set n || (b && nat_lt n 8)) (eq-eqb n n refl) ∙ ap (λ b. is_in set n || b) (lt-ltb n 8 small)
          ∙ or_true (is_in set n);
      others = λ k d. is k ∙ ap (λ b. is_in set k || (b && nat_lt k 8)) (ne_eqb k n d) ∙ or_false (is_in set k);
    }
  where
    or_true : (b : Bool) → (b || true) ≡ true
    or_true true = refl
    or_true false = refl

    or_false : (b : Bool) → (b || false) ≡ b
    or_false true = refl
    or_false false = refl

pub notes_of : (n : ℕ) (won : Bool) (set next : List Bool) → n < 8 → is_in set n ≡ false
    → (won ≡ true → (k : ℕ) → is_in next k ≡ (is_in set k || ((k == n) && nat_lt k 8))) → (won ≡ false → next ≡ set) → Notes n won set next
notes_of n true set next small none won stays = notes_won n set next small (won refl)
notes_of n false set next small none won stays =
    record { here = ap (λ s. is_in s n) (stays refl) ∙ none; others = λ k d. ap (λ s. is_in s k) (stays refl) }

-- one peer after another

module _ {B M K : Type 0} where
  pub record PostsBelow (n : ℕ) (set : List Bool) (old new : Acting B M K) (v w : View B) : Type 0 where
    pub beside : Beside old new v w
    pub tried : (k : ℕ) → IsPeer old.node.me old.node.members k → k < n → PostsTo k (is_in set k) old new v w
    pub rest : (k : ℕ) → IsPeer old.node.me old.node.members k → n ≤ k → StaysTo k old new v w
    pub above : (k : ℕ) → n ≤ k → is_in set k ≡ false
    pub others : (k : ℕ) → (IsPeer old.node.me old.node.members k → ⊥) → is_in set k ≡ false

  pub below_first : (set : List Bool) (p : Parted B M K) (s : Seated B) → ((k : ℕ) → is_in set k ≡ false)
      → PostsBelow 1 set (acting p s) (acting p s) s s
  below_first set p s none =
      record {
        beside = record { only = only_none p p refl; table = refl; me = refl; seen = refl; events = refl; received = refl };
        tried = λ k peer low. let least : 1 ≤ k = peer.0.0 in absurd (omega (arith, least, low));
        rest = λ k peer high. record { waits = refl; posted = refl; tries = refl };
        above = λ k high. none k;
        others = λ k alien. none k;
      }

  pub beside_on : (a b c : Parted B M K) (v w x : Seated B) → Beside (acting a v) (acting b w) v w → Beside (acting b w) (acting c x) w x
      → Beside (acting a v) (acting c x) v x
  beside_on a b c v w x f g =
      record {
        only = only_on a b c f.only g.only;
        table = g.table ∙ ap (knows x.part) f.table;
        me = g.me ∙ f.me;
        seen = g.seen ∙ f.seen;
        events = g.events ∙ f.events;
        received = g.received ∙ f.received;
      }

  pub stays_both : (k : ℕ) (a b c : Parted B M K) (v w x : Seated B) → StaysTo k (acting a v) (acting b w) v w
      → StaysTo k (acting b w) (acting c x) w x
      → StaysTo k (acting a v) (acting c x) v x
  stays_both k a b c v w x f g = record { waits = g.waits ∙ f.waits; posted = g.posted ∙ f.posted; tries = g.tries ∙ f.tries }

  tried_before : (k : ℕ) (won : Bool) (a b c : Parted B M K) (v w x : Seated B) → PostsTo k won (acting a v) (acting b w) v w
      → StaysTo k (acting b w) (acting c x) w x
      → PostsTo k won (acting a v) (acting c x) v x
  tried_before k won a b c v w x (none_due n h i j l) g = none_due n h (g.waits ∙ i) (g.posted ∙ j) (g.tries ∙ l)
  tried_before k won a b c v w x (post_won p rest n h i j l) g = post_won p rest n h (g.waits ∙ i) (g.posted ∙ j) (g.tries ∙ l)
  tried_before k won a b c v w x (post_lost p rest n h i j l) g = post_lost p rest n h (g.waits ∙ i) (g.posted ∙ j) (g.tries ∙ l)

  tried_now : (k : ℕ) (won : Bool) (a b c : Parted B M K) (v w x : Seated B) → StaysTo k (acting a v) (acting b w) v w
      → PostsTo k won (acting b w) (acting c x) w x
      → PostsTo k won (acting a v) (acting c x) v x
  tried_now k won a b c v w x f (none_due n h i j l) = none_due n (sym f.waits ∙ h) i (j ∙ f.posted) (l ∙ f.tries)
  tried_now k won a b c v w x f (post_won p rest n h i j l) =
      post_won p rest n (sym f.waits ∙ h) i (j ∙ ap (λ ps. ps ++ p ∷ []) f.posted) (l ∙ ap (λ ts. ts ++ true ∷ []) f.tries)
  tried_now k won a b c v w x f (post_lost p rest n h i j l) =
      post_lost p rest n (sym f.waits ∙ h) i (j ∙ f.posted) (l ∙ ap (λ ts. ts ++ false ∷ []) f.tries)

  pub peer_on : (a b : Parted B M K) (v w : Seated B) → Beside (acting a v) (acting b w) v w → (k : ℕ) → IsPeer a.node.me a.node.members k
      → IsPeer b.node.me b.node.members k
  peer_on a b v w f k peer = subst (λ n. IsPeer n.me n.members k) (sym f.only.node) peer

  pub peer_back : (a b : Parted B M K) (v w : Seated B) → Beside (acting a v) (acting b w) v w → (k : ℕ) → IsPeer b.node.me b.node.members k
      → IsPeer a.node.me a.node.members k
  peer_back a b v w f k peer = subst (λ n. IsPeer n.me n.members k) f.only.node peer

  pub below_next : (n : ℕ) (won : Bool) (set next : List Bool) (a b c : Parted B M K) (v w x : Seated B)
      → PostsBelow n set (acting a v) (acting b w) v w → PostsOne n won (acting b w) (acting c x) w x → Notes n won set next
      → PostsBelow (suc n) next (acting a v) (acting c x) v x
  below_next n won set next a b c v w x f g notes =
      record {
        beside = beside_on a b c v w x f.beside g.beside;
        tried = λ k peer low. ⊎_elim
            (λ (e : k ≡ n). subst (λ z. PostsTo k z (acting a v) (acting c x) v x) (sym (ap (is_in next) e ∙ notes.here))
            (tried_now k won a b c v w x (f.rest k peer (omega (arith, e)))
            (subst (λ j. PostsTo j won (acting b w) (acting c x) w x) (sym e)
            (g.there (subst (IsPeer b.node.me b.node.members) e (peer_on a b v w f.beside k peer))))))
            (λ d. subst (λ z. PostsTo k z (acting a v) (acting c x) v x) (sym (notes.others k d))
            (tried_before k (is_in set k) a b c v w x (f.tried k peer (below k low d)) (g.others k (peer_on a b v w f.beside k peer) d)))
            (cases_eq k n);
        rest = λ k peer high. stays_both k a b c v w x (f.rest k peer (omega (arith, high)))
            (g.others k (peer_on a b v w f.beside k peer) (λ e. omega (arith, high, e)));
        above = λ k high. notes.others k (λ e. omega (arith, high, e)) ∙ f.above k (omega (arith, high));
        others = λ k alien. ⊎_elim
            (λ (e : k ≡ n). ap (is_in next) e ∙ notes.here ∙ not_won k e alien)
            (λ d. notes.others k d ∙ f.others k alien)
            (cases_eq k n);
      }
    where
      not_won : (k : ℕ) → k ≡ n → (IsPeer a.node.me a.node.members k → ⊥) → won ≡ false
      not_won k e alien = by_won won (λ y. g.peer y)
        where
          by_won : (y : Bool) → (y ≡ true → IsPeer b.node.me b.node.members n) → y ≡ false
          by_won true peer = absurd (alien (peer_back a b v w f.beside k (subst (IsPeer b.node.me b.node.members) (sym e) (peer refl))))
          by_won false peer = refl

      below : (k : ℕ) → k < suc n → (k ≡ n → ⊥) → k < n
      below k low d = ⊎_elim (λ l. l) (λ m. absurd (d (omega (arith, low, m)))) (cases_lt k n)

  pub below_all : (n : ℕ) (set : List Bool) (a b : Parted B M K) (v w : Seated B) → a.node.members < n
      → PostsBelow n set (acting a v) (acting b w) v w
      → PostsAlone set (acting a v) (acting b w) v w
  below_all n set a b v w all f = record {
    beside = f.beside;
    each = λ k peer. f.tried k peer
        (let most : k ≤ a.node.members = peer.0.1 in omega (arith, most, all));
    others = f.others;
  }
