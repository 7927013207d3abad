-- Outboxes: packets that are taken together, and put back together.
use Rattle.std.proofs.Common.{◌≡◌, ◌<◌, ◌≤◌, ◌+◌, ℕ, suc, Bool, true, false, not, cond, List, [], ◌∷◌, ◌++◌, length, sym, ap, subst, ◌∙◌, refl, arith}
use Rattle.std.proofs.Common.{◌||◌, ◌&&◌}
use Rattle.std.specs.Prelude.{All, filter, drop, slice_index_or, if◌then◌else◌}
use Rattle.std.specs.List.{list_any}
use Rattle.std.proofs.lemmas.List.{length-append, append_assoc, get_or_at}
use Rattle.std.proofs.lemmas.List.Elements.{All-append, All-filter, All-head, All-nil, All-push, All-tail, filter-append}
use Rattle.std.proofs.lemmas.List.Folds.{list_any-append}
use Rattle.paxos_packets.specs.declared.packet.Packet.{Packet}
use Rattle.actor_outboxes.specs.Outboxes.{Waiting, waiting, HasLimits, TakenFor, WaitsFirst, is_forward, due_of, giving_way, ManyTaken, MayTake, WaitFirst}

or_false : (b : Bool) → (b || false) ≡ b
or_false true = refl
or_false false = refl

or_true : (b : Bool) → (b || true) ≡ true
or_true true = refl
or_true false = refl

module _ {B : Type 0} where
  -- the packet itself, unless it is a Forward and one comes after it
  abbrev own : Bool → Bool → Packet B → List (Packet B)
  own forward later p = if forward && later then [] else p ∷ []

  abbrev others_of : List (Packet B) → List (Packet B)
  others_of ps = filter (λ q. not (is_forward q)) ps

  alone : (b : Bool) (p : Packet B) → own b false p ≡ p ∷ []
  alone true p = refl
  alone false p = refl

  any_last : (xs : List (Packet B)) (p : Packet B) → list_any is_forward (xs ++ p ∷ []) ≡ (list_any is_forward xs || is_forward p)
  any_last xs p = list_any-append is_forward xs (p ∷ []) ∙ ap (λ b. list_any is_forward xs || b) (or_false (is_forward p))

  -- whether a Forward is dropped at once or with those that give way later is one
  others_own : (x : Packet B) (b later : Bool) → is_forward x ≡ b → own b true x ≡ others_of (own b later x)
  others_own x true true is = refl
  others_own x true false is = rw is refl
  others_own x false later is = rw is refl

  -- what is due after one packet more
  due_more : (front : List (Packet B)) (p : Packet B) → due_of (front ++ p ∷ []) ≡ giving_way p (due_of front) ++ p ∷ []
  due_more front p = by_kind front (is_forward p) refl
    where
      by_kind : (xs : List (Packet B)) (b : Bool) → is_forward p ≡ b
          → due_of (xs ++ p ∷ []) ≡ (if b then others_of (due_of xs) else due_of xs) ++ p ∷ []
      by_kind [] true is = ap (λ ps. ps ++ []) (alone (is_forward p) p)
      by_kind [] false is = ap (λ ps. ps ++ []) (alone (is_forward p) p)
      by_kind (x ∷ xs) true is =
          let later : list_any is_forward (xs ++ p ∷ []) ≡ true =
          any_last xs p ∙ ap (λ b. list_any is_forward xs || b) is ∙ or_true (list_any is_forward xs) in
          ap (λ b. own (is_forward x) b x ++ due_of (xs ++ p ∷ [])) later
          ∙ ap (λ ps. own (is_forward x) true x ++ ps) (by_kind xs true is)
          ∙ ap (λ ps. ps ++ (others_of (due_of xs) ++ p ∷ [])) (others_own x (is_forward x) (list_any is_forward xs) refl)
          ∙ sym (append_assoc (others_of (own (is_forward x) (list_any is_forward xs) x)) (others_of (due_of xs)) (p ∷ []))
          ∙ ap (λ ps. ps ++ p ∷ []) (sym (filter-append (λ q. not (is_forward q)) (own (is_forward x) (list_any is_forward xs) x) (due_of xs)))
      by_kind (x ∷ xs) false is =
          let later : list_any is_forward (xs ++ p ∷ []) ≡ list_any is_forward xs =
          any_last xs p ∙ ap (λ b. list_any is_forward xs || b) is ∙ or_false (list_any is_forward xs) in
          ap (λ b. own (is_forward x) b x ++ due_of (xs ++ p ∷ [])) later
          ∙ ap (λ ps. own (is_forward x) (list_any is_forward xs) x ++ ps) (by_kind xs false is)
          ∙ sym (append_assoc (own (is_forward x) (list_any is_forward xs) x) (due_of xs) (p ∷ []))

  -- a packet that goes alone is due
  pub due_one : (p : Packet B) → due_of (p ∷ []) ≡ p ∷ []
  due_one p = ap (λ ps. ps ++ []) (alone (is_forward p) p)

  -- what holds of packets holds of those that are due
  pub due_all : (P : Packet B → Type 0) (ps : List (Packet B)) → All P ps → All P (due_of ps)
  due_all P [] all = All-nil P
  due_all P (p ∷ ps) all =
      All-append P (own (is_forward p) (list_any is_forward ps) p) (due_of ps) (mine (is_forward p) (list_any is_forward ps))
      (due_all P ps (All-tail P p ps all))
    where
      mine : (forward later : Bool) → All P (own forward later p)
      mine true true = All-nil P
      mine true false = All-push P [] p (All-nil P) (All-head P p ps all)
      mine false later = All-push P [] p (All-nil P) (All-head P p ps all)

  length_own : (forward later : Bool) (p : Packet B) → length (own forward later p) ≤ 1
  length_own true true p = omega arith
  length_own true false p = omega arith
  length_own false later p = omega arith

  length_due : (ps : List (Packet B)) → length (due_of ps) ≤ length ps
  length_due [] = omega arith
  length_due (p ∷ ps) =
      let sum = length-append (own (is_forward p) (list_any is_forward ps) p) (due_of ps) in
      omega (arith, sum, length_own (is_forward p) (list_any is_forward ps) p, length_due ps)

  length_given : (p : Packet B) (ps : List (Packet B)) → length (giving_way p ps) ≤ length ps
  length_given p ps = by_kind (is_forward p)
    where
      shorter : (qs : List (Packet B)) → length (others_of qs) ≤ length qs
      shorter [] = omega arith
      shorter (q ∷ qs) = by_test (not (is_forward q)) (others_of qs) (shorter qs)
        where
          by_test : (b : Bool) (rs : List (Packet B)) → length rs ≤ length qs → length (cond b (q ∷ rs) rs) ≤ suc (length qs)
          by_test true rs h = omega (arith, h)
          by_test false rs h = omega (arith, h)

      by_kind : (b : Bool) → length (if b then others_of ps else ps) ≤ length ps
      by_kind true = shorter ps
      by_kind false = omega arith

  given_all : (P : Packet B → Type 0) (p : Packet B) (ps : List (Packet B)) → All P ps → All P (giving_way p ps)
  given_all P p ps h = by_kind (is_forward p)
    where
      by_kind : (b : Bool) → All P (if b then others_of ps else ps)
      by_kind true = All-filter (λ q. not (is_forward q)) P ps h
      by_kind false = h

  -- one packet is taken, the first one of these
  one_taken : (k most : ℕ) (p : Packet B) (old new : Waiting B) → 1 ≤ most → TakenFor k p old new → ManyTaken k most (p ∷ []) old new
  one_taken k most p old new some taken =
      record {
        peer = taken.peer;
        addressed = All-push (λ q. q.addressee ≡ k) [] p (All-nil (λ q. q.addressee ≡ k)) taken.addressed;
        front = p ∷ [];
        first = taken.first;
        are_due = sym (ap (λ ps. ps ++ []) (alone (is_forward p) p));
        short = some;
        others = taken.others;
        room = let room = taken.room in omega (arith, room);
      }

  -- one packet more is taken
  more_taken : (k most : ℕ) (due : List (Packet B)) (p : Packet B) (old mid new : Waiting B) → mid.me ≡ old.me → mid.members ≡ old.members
      → HasLimits old → length due < most → ManyTaken k most due old mid → TakenFor k p mid new
      → ManyTaken k most (giving_way p due ++ p ∷ []) old new
  more_taken k most due p old mid new me members limits fewer many one =
      let first : waiting k old ≡ (many.front ++ p ∷ []) ++ waiting k new =
      many.first ∙ ap (λ ps. many.front ++ ps) one.first ∙ sym (append_assoc many.front (p ∷ []) (waiting k new)) in
      let are_due : giving_way p due ++ p ∷ [] ≡ due_of (many.front ++ p ∷ []) =
      ap (λ ps. giving_way p ps ++ p ∷ []) many.are_due ∙ sym (due_more many.front p) in
      let size = length-append (giving_way p due) (p ∷ []) in
      let all = ap length first ∙ length-append (many.front ++ p ∷ []) (waiting k new) in
      let due_size : length (giving_way p due ++ p ∷ []) ≡ length (due_of (many.front ++ p ∷ [])) = ap length are_due in
      record {
        peer = many.peer;
        addressed = All-push (λ q. q.addressee ≡ k) (giving_way p due) p (given_all (λ q. q.addressee ≡ k) p due many.addressed) one.addressed;
        front = many.front ++ p ∷ [];
        first = first;
        are_due = are_due;
        short = omega (arith, size, length_given p due, fewer);
        others = λ j other. one.others j other ∙ many.others j other;
        room = let limit = limits k many.peer in omega (arith, all, due_size, length_due (many.front ++ p ∷ []), limit);
      }

  -- nothing was taken, or something, and one packet more is
  pub taken_more : (k most : ℕ) (due : List (Packet B)) (p : Packet B) (old mid new : Waiting B) → mid.me ≡ old.me → mid.members ≡ old.members
      → HasLimits old → length due < most → MayTake k most due old mid → TakenFor k p mid new → MayTake k most (giving_way p due ++ p ∷ []) old new
  taken_more k most due p old mid new me members limits fewer may one = some (giving_way p due) (many due fewer may)
    where
      some : (ps : List (Packet B)) → ManyTaken k most (ps ++ p ∷ []) old new → MayTake k most (ps ++ p ∷ []) old new
      some [] h = h
      some (q ∷ qs) h = h

      given_none : (b : Bool) → (if b then others_of [] else []) ≡ []
      given_none true = refl
      given_none false = refl

      many : (ds : List (Packet B)) → length ds < most → MayTake k most ds old mid → ManyTaken k most (giving_way p ds ++ p ∷ []) old new
      many [] less same =
          subst (λ ps. ManyTaken k most (ps ++ p ∷ []) old new) (sym (given_none (is_forward p)))
          (one_taken k most p old new (omega (arith, less)) (subst (λ w. TakenFor k p w new) same one))
      many (d ∷ ds) less h = more_taken k most (d ∷ ds) p old mid new me members limits less h one

  -- the list is at most one longer
  pub one_longer : (n : ℕ) (due : List (Packet B)) (p : Packet B) → length due ≤ n → length (giving_way p due ++ p ∷ []) ≤ n + 1
  one_longer n due p h = let size = length-append (giving_way p due) (p ∷ []) in omega (arith, size, length_given p due, h)

  -- some were taken, this one first
  pub some_taken : (k most : ℕ) (all ps : List (Packet B)) (p : Packet B) (old mid : Waiting B) → all ≡ p ∷ ps → MayTake k most all old mid
      → ManyTaken k most (p ∷ ps) old mid
  some_taken k most all ps p old mid is may = subst (λ qs. MayTake k most qs old mid) is may

  -- nothing was taken
  pub none_taken : (k most : ℕ) (all : List (Packet B)) (old mid : Waiting B) → all ≡ [] → MayTake k most all old mid → mid ≡ old
  none_taken k most all old mid none may = subst (λ qs. MayTake k most qs old mid) none may

  -- nothing was taken, and now one packet is
  pub first_taken : (k most : ℕ) (all ps : List (Packet B)) (p : Packet B) (old mid new : Waiting B) → 1 ≤ most → all ≡ [] → ps ≡ []
      → MayTake k most all old mid → TakenFor k p mid new → ManyTaken k most (p ∷ ps) old new
  first_taken k most all ps p old mid new some none alone may one =
      subst (λ qs. ManyTaken k most (p ∷ qs) old new) (sym alone)
      (one_taken k most p old new some (subst (λ w. TakenFor k p w new) (none_taken k most all old mid none may) one))

  -- no packet is put back yet
  pub none_back : (k : ℕ) (w : Waiting B) → WaitFirst k [] w w
  none_back k w = record { first = refl; others = λ j other. refl }

  -- one packet more is put back, before those that were
  pub back_more : (k : ℕ) (ps : List (Packet B)) (p : Packet B) (old mid new : Waiting B) → p.addressee ≡ k → WaitFirst k ps old mid
      → WaitsFirst p mid new → WaitFirst k (p ∷ ps) old new
  back_more k ps p old mid new to first one =
      record {
        first = subst (λ j. waiting j new ≡ p ∷ waiting j mid) to one.first ∙ ap (λ qs. p ∷ qs) first.first;
        others = λ j other. one.others j (λ e. other (e ∙ to)) ∙ first.others j other;
      }

  -- the last one of these is for the node that all are for
  pub last_to : (k : ℕ) (xs ys : List (Packet B)) (p : Packet B) → All (λ q. q.addressee ≡ k) (xs ++ p ∷ ys) → p.addressee ≡ k
  last_to k xs ys p all =
      let size = length-append xs (p ∷ ys) in
      subst (λ q. q.addressee ≡ k) (get_or_at xs p ys p (length xs) refl) (all (length xs) p (omega (arith, size)))

  -- so many are left to be put back, of all of these
  pub room_back : (k most : ℕ) (all xs ys : List (Packet B)) (p : Packet B) (old mid : Waiting B) → all ≡ xs ++ p ∷ ys
      → WaitFirst k ys old mid → length all + length (waiting k old) ≤ most → length (waiting k mid) < most
  room_back k most all xs ys p old mid are first room =
      let size = ap length are ∙ length-append xs (p ∷ ys) in
      let here = ap length first.first ∙ length-append ys (waiting k old) in
      omega (arith, size, here, room)

  -- there is room for the first one, too
  pub room_first : (k most : ℕ) (ps : List (Packet B)) (old mid : Waiting B) → WaitFirst k ps old mid
      → 1 + length ps + length (waiting k old) ≤ most → length (waiting k mid) < most
  room_first k most ps old mid first room =
      let here = ap length first.first ∙ length-append ps (waiting k old) in
      omega (arith, here, room)

-- a list from its first element
pub first_left : {A : Type 0} (xs : List A) (x : A) → 0 < length xs → x ≡ slice_index_or xs 0 x → xs ≡ x ∷ drop 1 xs
first_left [] x some is = absurd (omega (arith, some))
first_left (y ∷ ys) x some is = ap (λ z. z ∷ ys) (sym is)
