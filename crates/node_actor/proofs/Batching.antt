-- What waits for a peer is posted together.
use Rattle.std.proofs.Common.{◌≡◌, ◌<◌, ◌≤◌, ℕ, suc, Bool, true, false, List, [], ◌∷◌, ◌++◌, sym, ap, subst, ◌∙◌, refl, arith, ⊎_elim}
use Rattle.std.specs.Prelude.{All, Contains}
use Rattle.std.proofs.lemmas.Bool.{cases_eq, cases_lt}
use Rattle.std.proofs.lemmas.List.Elements.{All-append, All-cons, All-head, All-nil, All-tail}
use Rattle.cluster_world.specs.Has.{Has, here, there}
use Rattle.paxos_packets.specs.Members.{IsMember, is_in}
use Rattle.paxos_packets.specs.declared.packet.Packet.{Packet}
use Rattle.actor_outboxes.proofs.Dues.{due_all, due_one}
use Rattle.actor_outboxes.specs.Outboxes.{IsPeer, ManyTaken, WaitFirst, due_of, waiting}
use Rattle.actor_parts.specs.Parts.{Parted}
use Rattle.actor_parts.specs.Steps.{OnlyWaiting}
use Rattle.mail_table.specs.Boxes.{AreTo}
use Rattle.mail_table.specs.Seats.{Seated, knows}
use Rattle.mail_table.specs.Views.{box_of, lost, posting_all, through}
use Rattle.mail_table.proofs.Parcels.{through_more, through_else}
use Rattle.mail_table.proofs.Places.{box_tells}
use Rattle.node_actor.specs.Actor.{Acting, acting, IsSeated}
use Rattle.node_actor.specs.Rounds.{PostsAll, PostsEach, PostsTogether, none_due, batch_won, batch_lost, tries_from}
use Rattle.node_actor.specs.Turns.{Beside, StaysTo, tries_at}
use Rattle.node_actor.specs.Views.{View}
use Rattle.node_actor.proofs.Tries.{Notes, beside_on, boxes_apart, by_peer, has_in, only_none, only_on, peer_back, peer_on, post_box, stays_both, tries_else, tries_more}

-- what holds of all holds of one that is there, of the first ones, and of the last ones

pub has_all : {A : Type 0} (P : A → Type 0) (xs : List A) (x : A) → All P xs → Has xs x → P x
has_all P [] x all h = elim h [ ]
has_all P (y ∷ xs) x all here = All-head P y xs all
has_all P (y ∷ xs) x all (there h) = has_all P xs x (All-tail P y xs all) h

all_left : {A : Type 0} (P : A → Type 0) (xs ys : List A) → All P (xs ++ ys) → All P xs
all_left P [] ys all = All-nil P
all_left P (x ∷ xs) ys all = All-cons P x xs (All-head P x (xs ++ ys) all) (all_left P xs ys (All-tail P x (xs ++ ys) all))

all_right : {A : Type 0} (P : A → Type 0) (xs ys : List A) → All P (xs ++ ys) → All P ys
all_right P [] ys all = all
all_right P (x ∷ xs) ys all = all_right P xs ys (All-tail P x (xs ++ ys) all)

-- a list that is not empty has a first element

pub first_of : {A : Type 0} (xs : List A) → (xs ≡ [] → ⊥) → (x : A) × (ys : List A) × (xs ≡ x ∷ ys)
first_of [] h = absurd (h refl)
first_of (x ∷ xs) h = (x, xs, refl)

no_nil : {A : Type 0} (x : A) (xs : List A) → x ∷ xs ≡ [] → ⊥
no_nil x xs e = cc

-- the same try, at the seat as it was and with the packets as they are

pub posted_as : {B : Type 0} (k : ℕ) (batch due : List (Packet B)) (s u t : Seated B) → u ≡ s → batch ≡ due
    → t ≡ knows (posting_all (post_box u k) batch u.part) u → t ≡ knows (posting_all (post_box s k) due s.part) s
posted_as k batch due s u t still are is =
    is ∙ (λ i. knows (posting_all (post_box (still i) k) (are i) (still i).part) (still i))

pub lost_as : {B : Type 0} (k : ℕ) (s u t : Seated B) → u ≡ s → t ≡ knows (lost (post_box u k) u.part) u → t ≡ knows (lost (post_box s k) s.part) s
lost_as k s u t still is = is ∙ (λ i. knows (lost (post_box (still i) k) (still i).part) (still i))

module _ {B M K : Type 0} where
  -- nothing waited
  pub posts_nothing : (k : ℕ) (p q : Parted B M K) (s : Seated B) → q ≡ p → waiting k p.waiting ≡ []
      → PostsTogether k false (acting p s) (acting q s) s s
  posts_nothing k p q s is none =
      record {
        beside = record { only = only_none p q is; table = refl; me = refl; seen = refl; events = refl; received = refl };
        there = λ peer. none_due refl none (ap (λ (x : Parted B M K). waiting k x.waiting) is ∙ none) refl refl;
        to_peer = λ won. absurd cc;
        others = λ j peer d. record { waits = ap (λ (x : Parted B M K). waiting j x.waiting) is; posted = refl; tries = refl };
        fetched = λ j peer. refl;
      }

  module _ (same : B → B → Bool) (k : ℕ) (p : Parted B M K) (s : Seated B) (seated : IsSeated same (acting p s))
      (member : IsMember p.node.members p.node.me) (to : IsMember p.node.members k) where
    -- a box out of which the node takes is none into which it puts
    boxes_across : (j : ℕ) → IsPeer p.node.me p.node.members j → box_of p.node.members j s.part.me ≡ post_box s k → ⊥
    boxes_across j peer e =
        let here_me : IsMember p.node.members s.part.me = subst (IsMember p.node.members) (sym seated.me) member in
        let across : box_of p.node.members j s.part.me ≡ box_of p.node.members s.part.me k = e ∙ ap (λ n. box_of n s.part.me k) seated.members in
        peer.1 ((box_tells p.node.members j s.part.me s.part.me k peer.0 here_me here_me to across).0 ∙ seated.me)

    fetched_none : (j : ℕ) (won : Bool) → IsPeer p.node.me p.node.members j
        → tries_at (box_of p.node.members j s.part.me) (s.part.tried ++ record { at = post_box s k; won = won } ∷ [])
        ≡ tries_at (box_of p.node.members j s.part.me) s.part.tried
    fetched_none j won peer = tries_else (box_of p.node.members j s.part.me) (post_box s k) won s.part.tried (boxes_across j peer)

    -- the box was not empty, so nothing was taken
    pub posts_full : (first : Packet B) (rest : List (Packet B)) → waiting k p.waiting ≡ first ∷ rest → (t : Seated B)
        → t ≡ knows (lost (post_box s k) s.part) s → PostsTogether k false (acting p s) (acting p t) s t
    posts_full first rest some t is = subst (λ z. PostsTogether k false (acting p s) (acting p z) s z) (sym is) (record {
      beside = record { only = only_none p p refl; table = refl; me = refl; seen = refl; events = refl; received = refl };
      there = λ peer. batch_lost first [] rest refl some (some ∙ ap (λ ps. ps ++ rest) (sym (due_one first))) refl
          (tries_more (post_box s k) false s.part.tried);
      to_peer = λ won. absurd cc;
      others = λ j peer d. record {
        waits = refl;
        posted = refl;
        tries = tries_else (post_box s j) (post_box s k) false s.part.tried (boxes_apart same p s seated member j k peer.0 to d);
      };
      fetched = λ j peer. fetched_none j false peer;
    })

    module _ (most : ℕ) (due : List (Packet B)) (first : Packet B) (rest : List (Packet B)) (are : due ≡ first ∷ rest) (q : Parted B M K)
        (only : OnlyWaiting p q) (taken : ManyTaken k most due p.waiting q.waiting) where
      -- the packets that wait no longer, of which these are due
      some_front : (x : Packet B) × (more : List (Packet B)) × (taken.front ≡ x ∷ more)
      some_front = first_of taken.front (λ none. no_nil first rest (sym are ∙ taken.are_due ∙ ap due_of none))

      -- the try won
      pub posts_all : (t : Seated B) → IsPeer p.node.me p.node.members k → t ≡ knows (posting_all (post_box s k) due s.part) s
          → PostsTogether k true (acting p s) (acting q t) s t
      posts_all t is_peer is = subst (λ z. PostsTogether k true (acting p s) (acting q z) s z) (sym is) (record {
        beside = record { only = only; table = refl; me = refl; seen = refl; events = refl; received = refl };
        there = λ peer. batch_won some_front.0 some_front.1 (waiting k q.waiting) refl
            (taken.first ∙ ap (λ ps. ps ++ waiting k q.waiting) some_front.2) refl
            (through_more (post_box s k) s.part.posted due
            ∙ ap (λ ps. through (post_box s k) s.part.posted ++ ps) (taken.are_due ∙ ap due_of some_front.2))
            (tries_more (post_box s k) true s.part.tried);
        to_peer = λ won. is_peer;
        others = λ j peer d. record {
          waits = taken.others j d;
          posted = through_else (post_box s j) (post_box s k) s.part.posted due (boxes_apart same p s seated member j k peer.0 to d);
          tries = tries_else (post_box s j) (post_box s k) true s.part.tried (boxes_apart same p s seated member j k peer.0 to d);
        };
        fetched = λ j peer. fetched_none j true peer;
      })

      -- the try was lost, and the packets wait again
      module _ (again : List (Packet B)) (is_due : again ≡ due) (r : Parted B M K) (back : OnlyWaiting q r)
          (waits : WaitFirst k again q.waiting r.waiting) where
        pub posts_none_of : (t : Seated B) → t ≡ knows (lost (post_box s k) s.part) s → PostsTogether k false (acting p s) (acting r t) s t
        posts_none_of t is = subst (λ z. PostsTogether k false (acting p s) (acting r z) s z) (sym is) (record {
          beside = record { only = only_on p q r only back; table = refl; me = refl; seen = refl; events = refl; received = refl };
          there = λ peer. batch_lost some_front.0 some_front.1 (waiting k q.waiting) refl
              (taken.first ∙ ap (λ ps. ps ++ waiting k q.waiting) some_front.2)
              (waits.first ∙ ap (λ ps. ps ++ waiting k q.waiting) (is_due ∙ taken.are_due ∙ ap due_of some_front.2)) refl
              (tries_more (post_box s k) false s.part.tried);
          to_peer = λ won. absurd cc;
          others = λ j peer d. record {
            waits = waits.others j d ∙ taken.others j d;
            posted = refl;
            tries = tries_else (post_box s j) (post_box s k) false s.part.tried (boxes_apart same p s seated member j k peer.0 to d);
          };
          fetched = λ j peer. fetched_none j false peer;
        })

  -- none was taken, which does not come about
  pub posts_no_more : (k : ℕ) (p q : Parted B M K) (s u : Seated B) → q ≡ p → u ≡ s → waiting k p.waiting ≡ []
      → PostsTogether k false (acting p s) (acting q u) s u
  posts_no_more k p q s u is still none =
      subst (λ z. PostsTogether k false (acting p s) (acting q z) s z) (sym still) (posts_nothing k p q s is none)

  -- what waits is among what the seat knows to be sent

  module _ (same : B → B → Bool) (k most : ℕ) (due : List (Packet B)) (sent : List (Packet B)) (p q : Parted B M K)
      (taken : ManyTaken k most due p.waiting q.waiting) (all : All (Contains sent) (waiting k p.waiting)) where
    front_sent : All (Contains sent) taken.front
    front_sent = all_left (Contains sent) taken.front (waiting k q.waiting) (subst (All (Contains sent)) taken.first all)

    left_sent : All (Contains sent) (waiting k q.waiting)
    left_sent = all_right (Contains sent) taken.front (waiting k q.waiting) (subst (All (Contains sent)) taken.first all)

    due_sent : All (Contains sent) due
    due_sent = subst (All (Contains sent)) (sym taken.are_due) (due_all (Contains sent) taken.front front_sent)

    pub each_sent : (x : Packet B) → Has due x → Has sent x
    each_sent x h = has_in sent x (has_all (Contains sent) due x due_sent h)

    pub each_to : AreTo k due
    each_to x h = has_all (λ y. y.addressee ≡ k) due x taken.addressed h

    pub rest_sent : (j : ℕ) → All (Contains sent) (waiting j p.waiting) → All (Contains sent) (waiting j q.waiting)
    rest_sent j was = by_peer same k j sent p q left_sent taken.others was (cases_eq j k)

    pub back_sent : (again : List (Packet B)) (r : Parted B M K) → again ≡ due → WaitFirst k again q.waiting r.waiting → (j : ℕ)
        → All (Contains sent) (waiting j p.waiting) → All (Contains sent) (waiting j r.waiting)
    back_sent again r is waits j was =
        by_peer same k j sent p r
        (subst (All (Contains sent)) (sym waits.first)
        (All-append (Contains sent) again (waiting k q.waiting) (subst (All (Contains sent)) (sym is) due_sent) left_sent))
        (λ i other. waits.others i other ∙ taken.others i other) was (cases_eq j k)

-- peer after peer
module _ {B M K : Type 0} where
  -- the peers below n were tried, and to no other was anything posted
  pub record EachBelow (n : ℕ) (set : List Bool) (old new : Acting B M K) (v w : View B) : Type 0 where
    pub beside : Beside old new v w
    pub tried : (k : ℕ) → IsPeer old.node.me old.node.members k → k < n → PostsAll k (is_in set k) (waiting k old.waiting) new v w
    pub rest : (k : ℕ) → IsPeer old.node.me old.node.members k → n ≤ k → StaysTo k old new v w
    pub above : (k : ℕ) → n ≤ k → is_in set k ≡ false
    pub others : (k : ℕ) → (IsPeer old.node.me old.node.members k → ⊥) → is_in set k ≡ false
    pub fetched : (k : ℕ) → IsPeer old.node.me old.node.members k → tries_from old.node.members w.part k ≡ tries_from old.node.members v.part k

  pub each_first : (set : List Bool) (p : Parted B M K) (s : Seated B) → ((k : ℕ) → is_in set k ≡ false)
      → EachBelow 1 set (acting p s) (acting p s) s s
  each_first set p s none =
      record {
        beside = record { only = only_none p p refl; table = refl; me = refl; seen = refl; events = refl; received = refl };
        tried = λ k peer low. let least : 1 ≤ k = peer.0.0 in absurd (omega (arith, least, low));
        rest = λ k peer high. record { waits = refl; posted = refl; tries = refl };
        above = λ k high. none k;
        others = λ k alien. none k;
        fetched = λ k peer. refl;
      }

  all_before : (k : ℕ) (won : Bool) (all : List (Packet B)) (b c : Parted B M K) (v w x : Seated B) → PostsAll k won all (acting b w) v w
      → StaysTo k (acting b w) (acting c x) w x → PostsAll k won all (acting c x) v x
  all_before k won all b c v w x (none_due n h i j l) g = none_due n h (g.waits ∙ i) (g.posted ∙ j) (g.tries ∙ l)
  all_before k won all b c v w x (batch_won p more rest n h i j l) g = batch_won p more rest n h (g.waits ∙ i) (g.posted ∙ j) (g.tries ∙ l)
  all_before k won all b c v w x (batch_lost p more rest n h i j l) g = batch_lost p more rest n h (g.waits ∙ i) (g.posted ∙ j) (g.tries ∙ l)

  all_now : (k : ℕ) (won : Bool) (a b c : Parted B M K) (v w x : Seated B) → StaysTo k (acting a v) (acting b w) v w
      → PostsAll k won (waiting k b.waiting) (acting c x) w x → PostsAll k won (waiting k a.waiting) (acting c x) v x
  all_now k won a b c v w x f (none_due n h i j l) = none_due n (sym f.waits ∙ h) i (j ∙ f.posted) (l ∙ f.tries)
  all_now k won a b c v w x f (batch_won p more rest n h i j l) =
      batch_won p more rest n (sym f.waits ∙ h) i (j ∙ ap (λ ps. ps ++ due_of (p ∷ more)) f.posted) (l ∙ ap (λ ts. ts ++ true ∷ []) f.tries)
  all_now k won a b c v w x f (batch_lost p more rest n h i j l) =
      batch_lost p more rest n (sym f.waits ∙ h) i (j ∙ f.posted) (l ∙ ap (λ ts. ts ++ false ∷ []) f.tries)

  pub each_next : (n : ℕ) (won : Bool) (set next : List Bool) (a b c : Parted B M K) (v w x : Seated B)
      → EachBelow n set (acting a v) (acting b w) v w → PostsTogether n won (acting b w) (acting c x) w x → Notes n won set next
      → EachBelow (suc n) next (acting a v) (acting c x) v x
  each_next n won set next a b c v w x f g notes =
      record {
        beside = beside_on a b c v w x f.beside g.beside;
        tried = λ k peer low. ⊎_elim
            (λ (e : k ≡ n). subst (λ z. PostsAll k z (waiting k a.waiting) (acting c x) v x) (sym (ap (is_in next) e ∙ notes.here))
            (all_now k won a b c v w x (f.rest k peer (omega (arith, e)))
            (subst (λ j. PostsAll j won (waiting j b.waiting) (acting c x) w x) (sym e)
            (g.there (subst (IsPeer b.node.me b.node.members) e (peer_on a b v w f.beside k peer))))))
            (λ d. subst (λ z. PostsAll k z (waiting k a.waiting) (acting c x) v x) (sym (notes.others k d))
            (all_before k (is_in set k) (waiting k a.waiting) b c v w x (f.tried k peer (below k low d))
            (g.others k (peer_on a b v w f.beside k peer) d)))
            (cases_eq k n);
        rest = λ k peer high. stays_both k a b c v w x (f.rest k peer (omega (arith, high)))
            (g.others k (peer_on a b v w f.beside k peer) (λ e. omega (arith, high, e)));
        above = λ k high. notes.others k (λ e. omega (arith, high, e)) ∙ f.above k (omega (arith, high));
        others = λ k alien. ⊎_elim
            (λ (e : k ≡ n). ap (is_in next) e ∙ notes.here ∙ not_won k e alien)
            (λ d. notes.others k d ∙ f.others k alien)
            (cases_eq k n);
        fetched = λ k peer. subst (λ j. tries_from j x.part k ≡ tries_from j w.part k) (ap (λ h. h.members) f.beside.only.node)
            (g.fetched k (peer_on a b v w f.beside k peer)) ∙ f.fetched k peer;
      }
    where
      not_won : (k : ℕ) → k ≡ n → (IsPeer a.node.me a.node.members k → ⊥) → won ≡ false
      not_won k e alien = by_won won (λ y. g.to_peer y)
        where
          by_won : (y : Bool) → (y ≡ true → IsPeer b.node.me b.node.members n) → y ≡ false
          by_won true peer = absurd (alien (peer_back a b v w f.beside k (subst (IsPeer b.node.me b.node.members) (sym e) (peer refl))))
          by_won false peer = refl

      below : (k : ℕ) → k < suc n → (k ≡ n → ⊥) → k < n
      below k low d = ⊎_elim (λ l. l) (λ m. absurd (d (omega (arith, low, m)))) (cases_lt k n)

  pub each_all : (n : ℕ) (set : List Bool) (a b : Parted B M K) (v w : Seated B) → a.node.members < n
      → EachBelow n set (acting a v) (acting b w) v w → PostsEach set (acting a v) (acting b w) v w
  each_all n set a b v w all f = record {
    beside = f.beside;
    each = λ k peer. f.tried k peer (let most : k ≤ a.node.members = peer.0.1 in omega (arith, most, all));
    others = f.others;
    fetched = f.fetched;
  }
