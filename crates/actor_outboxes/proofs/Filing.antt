-- Outboxes: what stays so when a packet is put into one, or taken out.
use Rattle.std.proofs.Common.{◌≡◌, ◌<◌, ◌≤◌, ◌+◌, ◌-◌, ◌⊎◌, inl, inr, ℕ, suc, zero, Bool, true, false, eqb, cond, List, [], ◌∷◌, ◌++◌, length, drop, map}
use Rattle.std.proofs.Common.{◌||◌, ltb, set, sym, ap, subst, ◌∙◌, refl, arith, Option, Some, None}
use Rattle.std.specs.Prelude.{◌==◌, All, slice_get, option_map}
use Rattle.std.proofs.lemmas.List.{get_or-set_same, get_or-set_other, set-get_or, drop-append-le, drop-drop, length-drop, length-append, length-map, length-set, map-append, drop-map, append-nil, get_or_append_left, get_or_at, get_or_past, set_past, append_assoc}
use Rattle.std.proofs.lemmas.List.Elements.{All-drop, All-push, All-cons, All-nil, filter-append}
use Rattle.std.proofs.lemmas.Bool.{cases_eq, cases_lt, eq-eqb, ne_eqb, ltb-true, ltb-false}
use Rattle.circular_buffer.specs.Buffer.{Buffer, buffer, keep_last}
use Rattle.paxos_packets.specs.declared.packet.Packet.{Packet}
use Rattle.actor_outboxes.specs.declared.outboxes.Stamped.{Stamped}
use Rattle.actor_outboxes.specs.declared.outboxes.First.{First}
use Rattle.actor_outboxes.specs.Outboxes.{Waiting, most_waiting, limit, box_of, waiting, IsPeer, to, empty_boxes, behind, filed, HasLimits, WaitBehind, AreKept, without_first, first_stamp, older, IsOldestBelow, Leaves}
use Rattle.actor_outboxes.specs.Outboxes.{TakenFor, WaitsFirst, filed_first}

-- what is last of the last, and of more after them
pub keep_last_again : {A : Type 0} (n : ℕ) (xs ys : List A) → keep_last n (keep_last n xs ++ ys) ≡ keep_last n (xs ++ ys)
keep_last_again n xs ys =
    let joined : keep_last n xs ++ ys ≡ drop (length xs - n) (xs ++ ys) = sym (drop-append-le (length xs - n) xs ys (omega arith)) in
    let size : length (drop (length xs - n) (xs ++ ys)) ≡ length (xs ++ ys) - (length xs - n) = length-drop (length xs - n) (xs ++ ys) in
    let sum : length (xs ++ ys) ≡ length xs + length ys = length-append xs ys in
    ap (keep_last n) joined ∙ drop-drop (length (drop (length xs - n) (xs ++ ys)) - n) (length xs - n) (xs ++ ys)
    ∙ ap (λ k. drop k (xs ++ ys)) (omega (arith, size, sum))

pub keep_all : {A : Type 0} (n : ℕ) (xs : List A) → length xs ≤ n → keep_last n xs ≡ xs
keep_all n xs h = let z : length xs - n ≡ 0 = omega (arith, h) in ap (λ k. drop k xs) z

pub length_kept : {A : Type 0} (n : ℕ) (xs : List A) → length (keep_last n xs) ≤ n
length_kept n xs = let size = length-drop (length xs - n) xs in omega (arith, size)

pub map_kept : {A B : Type 0} (f : A → B) (n : ℕ) (xs : List A) → map f (keep_last n xs) ≡ keep_last n (map f xs)
map_kept f n xs = sym (drop-map f (length xs - n) xs) ∙ ap (λ k. drop (k - n) (map f xs)) (sym (length-map xs f))

limit_peer : (me members k : ℕ) → IsPeer me members k → limit me k ≡ most_waiting
limit_peer me members k peer =
    let zero_no : eqb k 0 ≡ false = ne_eqb k 0 (λ e. omega (arith, e, peer.0.0)) in
    let me_no : eqb k me ≡ false = ne_eqb k me peer.1 in
    rw (zero_no, me_no) refl

or_true : (b : Bool) → (b || true) ≡ true
or_true true = refl
or_true false = refl

limit_self : (me : ℕ) → limit me me ≡ 0
limit_self me = rw (eq-eqb me me refl, or_true (eqb me 0)) refl

-- if there is room, it is another member's
has_limit : (me k : ℕ) → 0 < limit me k → (1 ≤ k) × (k ≡ me → ⊥)
has_limit me zero h = absurd (omega (arith, h))
has_limit me (suc k) h = (omega arith, λ e. let z : limit me (suc k) ≡ 0 = ap (limit me) e ∙ limit_self me in omega (arith, h, z))

head_is : {A : Type 0} (xs : List A) (x : A) → slice_get xs 0 ≡ Some x → xs ≡ x ∷ drop 1 xs
head_is [] x h = cc
head_is (y ∷ ys) x h = let e : y ≡ x = cc in ap (λ z. z ∷ ys) e

pub empty_wide : (B : Type 0) (me n : ℕ) → length (empty_boxes {B = B} me n) ≡ n
empty_wide B me zero = refl
empty_wide B me (suc n) =
    let size = length-append (empty_boxes {B = B} me n) (buffer [] (limit me n) ∷ []) in
    omega (arith, size, empty_wide B me n)

empty_last : (B : Type 0) (me n k : ℕ) → k < suc n → (k < n → box_of k (empty_boxes {B = B} me n) ≡ buffer [] (limit me k)) → (k < n) ⊎ (n ≤ k)
    → box_of k (empty_boxes {B = B} me n ++ buffer [] (limit me n) ∷ []) ≡ buffer [] (limit me k)
empty_last B me n k h before (inl l) =
    get_or_append_left (empty_boxes {B = B} me n) (buffer [] (limit me n) ∷ []) (buffer [] 0) k (let w = empty_wide B me n in omega (arith, l, w)) ∙ before l
empty_last B me n k h before (inr m) =
    let e : k ≡ n = omega (arith, h, m) in
    get_or_at (empty_boxes {B = B} me n) (buffer [] (limit me n)) [] (buffer [] 0) k (empty_wide B me n ∙ sym e) ∙ ap (λ j. buffer [] (limit me j)) (sym e)

empty_at : (B : Type 0) (me n k : ℕ) → k < n → box_of k (empty_boxes {B = B} me n) ≡ buffer [] (limit me k)
empty_at B me zero k h = absurd (omega (arith, h))
empty_at B me (suc n) k h = empty_last B me n k h (empty_at B me n k) (cases_lt k n)

last_or : (n k : ℕ) → k < suc n → (k < n) ⊎ (n ≤ k) → (k < n) ⊎ (k ≡ n)
last_or n k l (inl m) = inl m
last_or n k l (inr m) = inr (omega (arith, l, m))

pub below_all : (place count all : ℕ) → count ≡ all → place < count → place < all
below_all place count all same h = omega (arith, same, h)

some_is : (a b : ℕ) → ◌≡◌ {A = Option ℕ} (Some a) (Some b) → a ≡ b
some_is a b e = cc

module _ {B : Type 0} where
  abbrev told : Stamped B → Packet B
  told s = s.packet

  -- what waits for another member is within the limit
  pub limited : (me members : ℕ) (boxes : List (Buffer (Stamped B))) → AreKept me members boxes → (k : ℕ) → IsPeer me members k
      → length (map told (box_of k boxes).items) ≤ most_waiting
  limited me members boxes kept k peer =
      let size : length (map told (box_of k boxes).items) ≡ length (box_of k boxes).items = length-map (box_of k boxes).items told in
      let most : (box_of k boxes).capacity ≡ most_waiting = kept.limits k peer.0.1 ∙ limit_peer me members k peer in
      omega (arith, size, most, kept.within k)

  module _ (s : Stamped B) (boxes : List (Buffer (Stamped B))) where
    here_box : s.packet.addressee < length boxes → box_of s.packet.addressee (filed s boxes) ≡ behind s (box_of s.packet.addressee boxes)
    here_box h = get_or-set_same boxes s.packet.addressee (behind s (box_of s.packet.addressee boxes)) (buffer [] 0) h

    else_box : (k : ℕ) → (k ≡ s.packet.addressee → ⊥) → box_of k (filed s boxes) ≡ box_of k boxes
    else_box k no_place = get_or-set_other boxes s.packet.addressee k (behind s (box_of s.packet.addressee boxes)) (buffer [] 0) no_place

    -- what holds of the outbox with the packet, and of all before, holds of all
    each : (P : ℕ → Buffer (Stamped B) → Type 0) → s.packet.addressee < length boxes → P s.packet.addressee (behind s (box_of s.packet.addressee boxes))
        → ((k : ℕ) → P k (box_of k boxes)) → (k : ℕ) → (k ≡ s.packet.addressee) ⊎ (k ≡ s.packet.addressee → ⊥) → P k (box_of k (filed s boxes))
    each P h new old k (inl e) =
        subst (λ j. P j (box_of j (filed s boxes))) (sym e) (subst (P s.packet.addressee) (sym (here_box h)) new)
    each P h new old k (inr other) = subst (P k) (sym (else_box k other)) (old k)

    filed_kept_by : (me members : ℕ) → AreKept me members boxes → (s.packet.addressee < length boxes) ⊎ (length boxes ≤ s.packet.addressee)
        → AreKept me members (filed s boxes)
    filed_kept_by me members kept (inl h) =
        let b : Buffer (Stamped B) = box_of s.packet.addressee boxes in
        record {
          wide = length-set boxes s.packet.addressee (behind s b) ∙ kept.wide;
          limits = λ k. each (λ j c. j ≤ members → c.capacity ≡ limit me j) h (kept.limits s.packet.addressee) kept.limits k (cases_eq k s.packet.addressee);
          within = λ k. each (λ j c. length c.items ≤ c.capacity) h (length_kept b.capacity (b.items ++ s ∷ [])) kept.within k (cases_eq k s.packet.addressee);
          filed = λ k. each (λ j c. All (λ t. t.packet.addressee ≡ j) c.items) h
              (All-drop (λ t. t.packet.addressee ≡ s.packet.addressee) (length (b.items ++ s ∷ []) - b.capacity) (b.items ++ s ∷ [])
              (All-push (λ t. t.packet.addressee ≡ s.packet.addressee) b.items s (kept.filed s.packet.addressee) refl))
              kept.filed k (cases_eq k s.packet.addressee);
        }
    filed_kept_by me members kept (inr past) =
        subst (AreKept me members) (sym (set_past boxes s.packet.addressee (behind s (box_of s.packet.addressee boxes)) past)) kept

    pub filed_kept : (me members : ℕ) → AreKept me members boxes → AreKept me members (filed s boxes)
    filed_kept me members kept = filed_kept_by me members kept (cases_lt s.packet.addressee (length boxes))

    waits_here : (me members : ℕ) → AreKept me members boxes → IsPeer me members s.packet.addressee
        → map told (box_of s.packet.addressee (filed s boxes)).items
        ≡ keep_last most_waiting (map told (box_of s.packet.addressee boxes).items ++ to s.packet.addressee (s.packet ∷ []))
    waits_here me members kept peer =
        let b : Buffer (Stamped B) = box_of s.packet.addressee boxes in
        let h : s.packet.addressee < length boxes = omega (arith, kept.wide, peer.0.1) in
        let most : b.capacity ≡ most_waiting = kept.limits s.packet.addressee peer.0.1 ∙ limit_peer me members s.packet.addressee peer in
        let mine : to s.packet.addressee (s.packet ∷ []) ≡ s.packet ∷ [] = rw (eq-eqb s.packet.addressee s.packet.addressee refl) refl in
        ap (λ c. map told c.items) (here_box h) ∙ map_kept told b.capacity (b.items ++ s ∷ [])
        ∙ ap (λ n. keep_last n (map told (b.items ++ s ∷ []))) most ∙ ap (keep_last most_waiting) (map-append told b.items (s ∷ []))
        ∙ ap (λ ps. keep_last most_waiting (map told b.items ++ ps)) (sym mine)

    waits_by : (me members : ℕ) → AreKept me members boxes → (k : ℕ) → IsPeer me members k
        → (k ≡ s.packet.addressee) ⊎ (k ≡ s.packet.addressee → ⊥)
        → map told (box_of k (filed s boxes)).items ≡ keep_last most_waiting (map told (box_of k boxes).items ++ to k (s.packet ∷ []))
    waits_by me members kept k peer (inl e) =
        subst (λ j. map told (box_of j (filed s boxes)).items ≡ keep_last most_waiting (map told (box_of j boxes).items ++ to j (s.packet ∷ [])))
        (sym e) (waits_here me members kept (subst (IsPeer me members) e peer))
    waits_by me members kept k peer (inr other) =
        let none : to k (s.packet ∷ []) ≡ [] = rw (ne_eqb s.packet.addressee k (λ e. other (sym e))) refl in
        ap (λ c. map told c.items) (else_box k other)
        ∙ sym (keep_all most_waiting (map told (box_of k boxes).items) (limited me members boxes kept k peer))
        ∙ ap (keep_last most_waiting) (sym (append-nil (map told (box_of k boxes).items)))
        ∙ ap (λ ps. keep_last most_waiting (map told (box_of k boxes).items ++ ps)) (sym none)

    pub put_waits : (me members : ℕ) → AreKept me members boxes → (k : ℕ) → IsPeer me members k
        → map told (box_of k (filed s boxes)).items ≡ keep_last most_waiting (map told (box_of k boxes).items ++ to k (s.packet ∷ []))
    put_waits me members kept k peer = waits_by me members kept k peer (cases_eq k s.packet.addressee)

  -- nothing more waits
  pub waits_still : (w : Waiting B) → HasLimits w → WaitBehind [] w w
  waits_still w limits k peer =
      sym (keep_all most_waiting (waiting k w) (limits k peer)) ∙ ap (keep_last most_waiting) (sym (append-nil (waiting k w)))

  -- more waits after what waits
  pub waits_more : (ps : List (Packet B)) (p : Packet B) (old mid new : Waiting B) → (mid.me ≡ old.me) → (mid.members ≡ old.members)
      → WaitBehind ps old mid → WaitBehind (p ∷ []) mid new → WaitBehind (ps ++ p ∷ []) old new
  waits_more ps p old mid new me members first then_ k peer =
      let mine : IsPeer mid.me mid.members k = rw (me, members) peer in
      then_ k mine ∙ ap (λ qs. keep_last most_waiting (qs ++ to k (p ∷ []))) (first k peer)
      ∙ keep_last_again most_waiting (waiting k old ++ to k ps) (to k (p ∷ []))
      ∙ ap (keep_last most_waiting) (append_assoc (waiting k old) (to k ps) (to k (p ∷ [])))
      ∙ ap (λ qs. keep_last most_waiting (waiting k old ++ qs)) (sym (filter-append (λ q. q.addressee == k) ps (p ∷ [])))

  -- empty outboxes

  empty_items_by : (me n k : ℕ) → (k < n) ⊎ (n ≤ k) → (box_of k (empty_boxes {B = B} me n)).items ≡ []
  empty_items_by me n k (inl l) = ap (λ b. b.items) (empty_at B me n k l)
  empty_items_by me n k (inr m) = ap (λ b. b.items) (get_or_past (empty_boxes {B = B} me n) k (buffer [] 0) (let w = empty_wide B me n in omega (arith, m, w)))

  pub empty_items : (me n k : ℕ) → (box_of k (empty_boxes {B = B} me n)).items ≡ []
  empty_items me n k = empty_items_by me n k (cases_lt k n)

  pub empty_waits : (me n : ℕ) (boxes : List (Buffer (Stamped B))) → boxes ≡ empty_boxes me n → (k : ℕ) → map told (box_of k boxes).items ≡ []
  empty_waits me n boxes e k = subst (λ bs. map told (box_of k bs).items ≡ []) (sym e) (ap (map told) (empty_items me n k))

  pub empty_kept : (me members : ℕ) → AreKept me members (empty_boxes {B = B} me (suc members))
  empty_kept me members =
      record {
        wide = empty_wide B me (suc members);
        limits = λ k within. ap (λ b. b.capacity) (empty_at B me (suc members) k (omega (arith, within)));
        within = λ k. let z : length (box_of k (empty_boxes {B = B} me (suc members))).items ≡ 0 = ap length (empty_items me (suc members) k) in omega (arith, z);
        filed = λ k. subst (All (λ t. t.packet.addressee ≡ k)) (sym (empty_items me (suc members) k)) (All-nil (λ t. t.packet.addressee ≡ k));
      }

  -- the first packet of an outbox leaves

  first_of : (b : Buffer (Stamped B)) (t : ℕ) → first_stamp b ≡ Some t → (s : Stamped B) × (slice_get b.items 0 ≡ Some s) × (s.stamp ≡ t)
  first_of b t h = by_items b.items h
    where
      by_items : (xs : List (Stamped B)) → option_map (λ s. s.stamp) (slice_get xs 0) ≡ Some t → (s : Stamped B) × (slice_get xs 0 ≡ Some s) × (s.stamp ≡ t)
      by_items [] e = absurd (let none : ◌≡◌ {A = Option ℕ} None (Some t) = e in cc)
      by_items (x ∷ xs) e = (x, refl, some_is x.stamp t e)

  pub not_none : (b : Buffer (Stamped B)) (t : ℕ) → first_stamp b ≡ Some t → slice_get b.items 0 ≡ None → ⊥
  not_none b t h none = let off : ◌≡◌ {A = Option ℕ} None (Some t) = sym (ap (option_map (λ (s : Stamped B). s.stamp)) none) ∙ h in cc

  at_place : (me members k : ℕ) (boxes : List (Buffer (Stamped B))) (s : Stamped B) → AreKept me members boxes → k < length boxes
      → slice_get (box_of k boxes).items 0 ≡ Some s → IsPeer me members k × (s.packet.addressee ≡ k)
  at_place me members k boxes s kept h first =
      let is : (box_of k boxes).items ≡ s ∷ drop 1 (box_of k boxes).items = head_is (box_of k boxes).items s first in
      let some : length (box_of k boxes).items ≡ suc (length (drop 1 (box_of k boxes).items)) = ap length is in
      let member : k ≤ members = omega (arith, h, kept.wide) in
      let limit_is = kept.limits k member in
      let room : 0 < limit me k = omega (arith, some, limit_is, kept.within k) in
      let own = has_limit me k room in
      let at : All (λ t. t.packet.addressee ≡ k) (s ∷ drop 1 (box_of k boxes).items) = subst (All (λ t. t.packet.addressee ≡ k)) is (kept.filed k) in
      (((own.0, member), own.1), at 0 s (omega arith))

  leaves_here : (k : ℕ) (boxes : List (Buffer (Stamped B))) → k < length boxes
      → box_of k (without_first k boxes) ≡ buffer (drop 1 (box_of k boxes).items) (box_of k boxes).capacity
  leaves_here k boxes h = get_or-set_same boxes k (buffer (drop 1 (box_of k boxes).items) (box_of k boxes).capacity) (buffer [] 0) h

  leaves_else : (k j : ℕ) (boxes : List (Buffer (Stamped B))) → (j ≡ k → ⊥) → box_of j (without_first k boxes) ≡ box_of j boxes
  leaves_else k j boxes other = get_or-set_other boxes k j (buffer (drop 1 (box_of k boxes).items) (box_of k boxes).capacity) (buffer [] 0) other

  each_left : (k : ℕ) (boxes : List (Buffer (Stamped B))) (P : ℕ → Buffer (Stamped B) → Type 0) → k < length boxes
      → P k (buffer (drop 1 (box_of k boxes).items) (box_of k boxes).capacity)
      → ((j : ℕ) → P j (box_of j boxes)) → (j : ℕ) → (j ≡ k) ⊎ (j ≡ k → ⊥) → P j (box_of j (without_first k boxes))
  each_left k boxes P h new old j (inl e) =
      subst (λ i. P i (box_of i (without_first k boxes))) (sym e) (subst (P k) (sym (leaves_here k boxes h)) new)
  each_left k boxes P h new old j (inr other) = subst (P j) (sym (leaves_else k j boxes other)) (old j)

  pub left_kept : (me members k : ℕ) (boxes : List (Buffer (Stamped B))) → AreKept me members boxes → k < length boxes
      → AreKept me members (without_first k boxes)
  left_kept me members k boxes kept h =
      let b : Buffer (Stamped B) = box_of k boxes in
      record {
        wide = length-set boxes k (buffer (drop 1 b.items) b.capacity) ∙ kept.wide;
        limits = λ j. each_left k boxes (λ i c. i ≤ members → c.capacity ≡ limit me i) h (kept.limits k) kept.limits j (cases_eq j k);
        within = λ j. each_left k boxes (λ i c. length c.items ≤ c.capacity) h
            (let size = length-drop 1 b.items in omega (arith, size, kept.within k)) kept.within j (cases_eq j k);
        filed = λ j. each_left k boxes (λ i c. All (λ t. t.packet.addressee ≡ i) c.items) h
            (All-drop (λ t. t.packet.addressee ≡ k) 1 b.items (kept.filed k)) kept.filed j (cases_eq j k);
      }

  pub leaves : (me members next : ℕ) (boxes : List (Buffer (Stamped B))) (f : First) (s : Stamped B) → AreKept me members boxes
      → IsOldestBelow (length boxes) boxes (Some f) → slice_get (box_of f.place boxes).items 0 ≡ Some s
      → Leaves s.packet (record { me = me; members = members; boxes = boxes; next = next })
      (record { me = me; members = members; boxes = without_first f.place boxes; next = next })
  leaves me members next boxes f s kept best first =
      let at = at_place me members f.place boxes s kept best.0 first in
      let is : (box_of f.place boxes).items ≡ s ∷ drop 1 (box_of f.place boxes).items = head_is (box_of f.place boxes).items s first in
      let gone : (box_of f.place (without_first f.place boxes)).items ≡ drop 1 (box_of f.place boxes).items = ap (λ b. b.items) (leaves_here f.place boxes best.0) in
      let whole : map told (box_of f.place boxes).items ≡ s.packet ∷ map told (box_of f.place (without_first f.place boxes)).items =
      ap (map told) is ∙ ap (λ xs. s.packet ∷ map told xs) (sym gone) in
      record {
        peer = subst (IsPeer me members) (sym at.1) at.0;
        first = subst (λ k. map told (box_of k boxes).items ≡ s.packet ∷ map told (box_of k (without_first f.place boxes)).items) (sym at.1) whole;
        others = λ k other. ap (λ b. map told b.items) (leaves_else f.place k boxes (λ e. other (e ∙ sym at.1)));
        stamp = f.stamp;
        stamped = subst (λ k. first_stamp (box_of k boxes) ≡ Some f.stamp) (sym at.1) best.1;
        oldest = λ k t h. oldest_by k t h (cases_lt k (length boxes));
      }
    where
      oldest_by : (k t : ℕ) → first_stamp (box_of k boxes) ≡ Some t → (k < length boxes) ⊎ (length boxes ≤ k) → f.stamp ≤ t
      oldest_by k t h (inl within) = best.2 k t within h
      oldest_by k t h (inr past) =
          absurd (let none : first_stamp (box_of k boxes) ≡ None = ap first_stamp (get_or_past boxes k (buffer [] 0) past) in
          let off : ◌≡◌ {A = Option ℕ} None (Some t) = sym none ∙ h in cc)

  -- no outbox has a first packet, so nothing waits
  pub none_waits : (w : Waiting B) → IsOldestBelow (length w.boxes) w.boxes None → (k : ℕ) → waiting k w ≡ []
  none_waits w h k = none_by k (cases_lt k (length w.boxes))
    where
      of_items : (xs : List (Stamped B)) → option_map (λ s. s.stamp) (slice_get xs 0) ≡ None → map told xs ≡ []
      of_items [] e = refl
      of_items (x ∷ xs) e = absurd (let off : ◌≡◌ {A = Option ℕ} (Some x.stamp) None = e in cc)

      none_by : (k : ℕ) → (k < length w.boxes) ⊎ (length w.boxes ≤ k) → map told (box_of k w.boxes).items ≡ []
      none_by k (inl within) = of_items (box_of k w.boxes).items (h k within)
      none_by k (inr past) = ap (λ b. map told b.items) (get_or_past w.boxes k (buffer [] 0) past)

  -- one outbox more is looked at

  none_more : (n : ℕ) (boxes : List (Buffer (Stamped B))) → ((k : ℕ) → k < n → first_stamp (box_of k boxes) ≡ None) → first_stamp (box_of n boxes) ≡ None
      → (k : ℕ) → (k < n) ⊎ (k ≡ n) → first_stamp (box_of k boxes) ≡ None
  none_more n boxes h e k (inl l) = h k l
  none_more n boxes h e k (inr same) = ap (λ j. first_stamp (box_of j boxes)) same ∙ e

  -- a bound on all stamps before serves for this one too
  bound_more : (n : ℕ) (boxes : List (Buffer (Stamped B))) (least : ℕ) → ((k t : ℕ) → k < n → first_stamp (box_of k boxes) ≡ Some t → least ≤ t)
      → ((t : ℕ) → first_stamp (box_of n boxes) ≡ Some t → least ≤ t) → (k t : ℕ) → (k < n) ⊎ (k ≡ n) → first_stamp (box_of k boxes) ≡ Some t → least ≤ t
  bound_more n boxes least h e k t (inl l) found = h k t l found
  bound_more n boxes least h e k t (inr same) found = e t (ap (λ j. first_stamp (box_of j boxes)) (sym same) ∙ found)

  newer_by : (n : ℕ) (boxes : List (Buffer (Stamped B))) (f : First) (t : ℕ) (b : Bool) → ltb t f.stamp ≡ b → first_stamp (box_of n boxes) ≡ Some t
      → IsOldestBelow n boxes (Some f) → IsOldestBelow (suc n) boxes (cond b (Some (record { place = n; stamp = t })) (Some f))
  newer_by n boxes f t true less found h =
      let l : t < f.stamp = ltb-true t f.stamp less in (
        omega arith,
        found,
        λ k u m at. bound_more n boxes t (λ j v i here. let c = h.2 j v i here in omega (arith, c, l))
            (λ u here. let e : t ≡ u = some_is t u (sym found ∙ here) in omega (arith, e)) k u (last_or n k m (cases_lt k n)) at,
      )
  newer_by n boxes f t false less found h =
      let l : f.stamp ≤ t = ltb-false t f.stamp less in (
        let within = h.0 in omega (arith, within),
        h.1,
        λ k u m at. bound_more n boxes f.stamp h.2
            (λ u here. let e : t ≡ u = some_is t u (sym found ∙ here) in omega (arith, e, l)) k u (last_or n k m (cases_lt k n)) at,
      )

  older_by : (n : ℕ) (boxes : List (Buffer (Stamped B))) (best : Option First) (found : Option ℕ) → first_stamp (box_of n boxes) ≡ found
      → IsOldestBelow n boxes best → IsOldestBelow (suc n) boxes (older best n found)
  older_by n boxes None None e h = λ k m. none_more n boxes h e k (last_or n k m (cases_lt k n))
  older_by n boxes (Some f) None e h = (
    let within = h.0 in omega (arith, within),
    h.1,
    λ k u m at. bound_more n boxes f.stamp h.2
        (λ u here. absurd (let off : ◌≡◌ {A = Option ℕ} None (Some u) = sym e ∙ here in cc)) k u (last_or n k m (cases_lt k n)) at,
  )
  older_by n boxes None (Some t) e h = (
    omega arith,
    e,
    λ k u m at. bound_more n boxes t
        (λ j v i here. absurd (let off : ◌≡◌ {A = Option ℕ} None (Some v) = sym (h j i) ∙ here in cc))
        (λ u here. let same : t ≡ u = some_is t u (sym e ∙ here) in omega (arith, same)) k u (last_or n k m (cases_lt k n)) at,
  )
  older_by n boxes (Some f) (Some t) e h = newer_by n boxes f t (ltb t f.stamp) refl e h

  pub older_step : (n : ℕ) (boxes : List (Buffer (Stamped B))) (best : Option First) → IsOldestBelow n boxes best
      → IsOldestBelow (suc n) boxes (older best n (first_stamp (box_of n boxes)))
  older_step n boxes best h = older_by n boxes best (first_stamp (box_of n boxes)) refl h

  -- the first packet of one outbox leaves

  pub leaves_for : (me members next k : ℕ) (boxes : List (Buffer (Stamped B))) (s : Stamped B) → AreKept me members boxes → k < length boxes
      → slice_get (box_of k boxes).items 0 ≡ Some s
      → TakenFor k s.packet (record { me = me; members = members; boxes = boxes; next = next })
      (record { me = me; members = members; boxes = without_first k boxes; next = next })
  leaves_for me members next k boxes s kept h first =
      let at = at_place me members k boxes s kept h first in
      let gone : (box_of k (without_first k boxes)).items ≡ drop 1 (box_of k boxes).items = ap (λ b. b.items) (leaves_here k boxes h) in
      let whole : map told (box_of k boxes).items ≡ s.packet ∷ map told (box_of k (without_first k boxes)).items =
      ap (map told) (head_is (box_of k boxes).items s first) ∙ ap (λ xs. s.packet ∷ map told xs) (sym gone) in
      let size : length (map told (box_of k boxes).items) ≡ suc (length (map told (box_of k (without_first k boxes)).items)) = ap length whole in
      let most = limited me members boxes kept k at.0 in
      record {
        peer = at.0;
        addressed = at.1;
        first = whole;
        others = λ j other. ap (λ b. map told b.items) (leaves_else k j boxes other);
        room = omega (arith, size, most);
      }

  -- nothing leaves an outbox that is empty

  empty_drop : (b : Buffer (Stamped B)) → slice_get b.items 0 ≡ None → buffer (drop 1 b.items) b.capacity ≡ b
  empty_drop b none = ap (λ xs. buffer xs b.capacity) (same b.items none)
    where
      same : (xs : List (Stamped B)) → slice_get xs 0 ≡ None → drop 1 xs ≡ xs
      same [] e = refl
      same (x ∷ xs) e = absurd (let off : ◌≡◌ {A = Option (Stamped B)} (Some x) None = e in cc)

  pub still : (k : ℕ) (boxes : List (Buffer (Stamped B))) → slice_get (box_of k boxes).items 0 ≡ None → without_first k boxes ≡ boxes
  still k boxes none = ap (λ b. set boxes k b) (empty_drop (box_of k boxes) none) ∙ set-get_or boxes k (buffer [] 0)

  empty_here : (b : Buffer (Stamped B)) → slice_get b.items 0 ≡ None → map told b.items ≡ []
  empty_here b none = of_items b.items none
    where
      of_items : (xs : List (Stamped B)) → slice_get xs 0 ≡ None → map told xs ≡ []
      of_items [] e = refl
      of_items (x ∷ xs) e = absurd (let off : ◌≡◌ {A = Option (Stamped B)} (Some x) None = e in cc)

  -- if none is taken, none waited, and all is as it was
  pub none_for : (place k : ℕ) → place ≡ k → (w old : Waiting B) → w ≡ old → (later : List (Buffer (Stamped B))) → later ≡ without_first place w.boxes
      → None ≡ slice_get (box_of place w.boxes).items 0
      → (record { me = w.me; members = w.members; boxes = later; next = w.next } ≡ old) × (waiting k old ≡ [])
  none_for place k same w old is later taken none = (
    ap (λ bs. record { me = w.me; members = w.members; boxes = bs; next = w.next }) (taken ∙ still place w.boxes (sym none)) ∙ is,
    ap (λ j. waiting j old) (sym same) ∙ ap (λ (v : Waiting B). waiting place v) (sym is) ∙ empty_here (box_of place w.boxes) (sym none),
  )

  -- nor does any if there is no outbox
  pub none_past : (place k count : ℕ) → place ≡ k → (w old : Waiting B) → w ≡ old → count ≡ length w.boxes → count ≤ place → waiting k old ≡ []
  none_past place k count same w old is all past =
      ap (λ (v : Waiting B). waiting k v) (sym is)
      ∙ ap (λ b. map told b.items) (get_or_past w.boxes k (buffer [] 0) (omega (arith, same, all, past)))

  -- one packet more waits before the others of its outbox

  module _ (s : Stamped B) (boxes : List (Buffer (Stamped B))) where
    abbrev before : Buffer (Stamped B)
    before = buffer (s ∷ (box_of s.packet.addressee boxes).items) (box_of s.packet.addressee boxes).capacity

    first_box : s.packet.addressee < length boxes → box_of s.packet.addressee (filed_first s boxes) ≡ before
    first_box h = get_or-set_same boxes s.packet.addressee before (buffer [] 0) h

    other_box : (k : ℕ) → (k ≡ s.packet.addressee → ⊥) → box_of k (filed_first s boxes) ≡ box_of k boxes
    other_box k other = get_or-set_other boxes s.packet.addressee k before (buffer [] 0) other

    each_first : (P : ℕ → Buffer (Stamped B) → Type 0) → s.packet.addressee < length boxes → P s.packet.addressee before
        → ((k : ℕ) → P k (box_of k boxes)) → (k : ℕ) → (k ≡ s.packet.addressee) ⊎ (k ≡ s.packet.addressee → ⊥) → P k (box_of k (filed_first s boxes))
    each_first P h new old k (inl e) =
        subst (λ j. P j (box_of j (filed_first s boxes))) (sym e) (subst (P s.packet.addressee) (sym (first_box h)) new)
    each_first P h new old k (inr other) = subst (P k) (sym (other_box k other)) (old k)

    first_kept : (me members : ℕ) → AreKept me members boxes → s.packet.addressee < length boxes
        → length (box_of s.packet.addressee boxes).items < (box_of s.packet.addressee boxes).capacity → AreKept me members (filed_first s boxes)
    first_kept me members kept h room =
        record {
          wide = length-set boxes s.packet.addressee before ∙ kept.wide;
          limits = λ k. each_first (λ j c. j ≤ members → c.capacity ≡ limit me j) h (kept.limits s.packet.addressee) kept.limits k
              (cases_eq k s.packet.addressee);
          within = λ k. each_first (λ j c. length c.items ≤ c.capacity) h (omega (arith, room)) kept.within k (cases_eq k s.packet.addressee);
          filed = λ k. each_first (λ j c. All (λ t. t.packet.addressee ≡ j) c.items) h
              (All-cons (λ t. t.packet.addressee ≡ s.packet.addressee) s (box_of s.packet.addressee boxes).items refl (kept.filed s.packet.addressee))
              kept.filed k (cases_eq k s.packet.addressee);
        }

  -- the outboxes, and what callers see of them: the addressee of the packet is another member, and there is room
  module _ (w old : Waiting B) (is : w ≡ old) (kept : AreKept w.me w.members w.boxes) (s : Stamped B)
      (seen : IsPeer old.me old.members s.packet.addressee) where
    peer : IsPeer w.me w.members s.packet.addressee
    peer = subst (λ (v : Waiting B). IsPeer v.me v.members s.packet.addressee) (sym is) seen

    pub place_for : s.packet.addressee < length w.boxes
    place_for = let wide = kept.wide in let few = peer.0.1 in omega (arith, wide, few)

    pub room_for : length (waiting s.packet.addressee old) < most_waiting
        → length (box_of s.packet.addressee w.boxes).items < (box_of s.packet.addressee w.boxes).capacity
    room_for room =
        let b : Buffer (Stamped B) = box_of s.packet.addressee w.boxes in
        let size : length (waiting s.packet.addressee old) ≡ length b.items =
        ap (λ (v : Waiting B). length (waiting s.packet.addressee v)) (sym is) ∙ length-map b.items told in
        let most : b.capacity ≡ most_waiting = kept.limits s.packet.addressee peer.0.1 ∙ limit_peer w.me w.members s.packet.addressee peer in
        omega (arith, size, most, room)

    pub kept_first : length (waiting s.packet.addressee old) < most_waiting → AreKept w.me w.members (filed_first s w.boxes)
    kept_first room = first_kept s w.boxes w.me w.members kept place_for (room_for room)

    pub waits_first : WaitsFirst s.packet old (record { me = w.me; members = w.members; boxes = filed_first s w.boxes; next = w.next })
    waits_first =
        record {
          first = ap (λ b. map told b.items) (first_box s w.boxes place_for) ∙ ap (λ (v : Waiting B). s.packet ∷ waiting s.packet.addressee v) is;
          others = λ k other. ap (λ b. map told b.items) (other_box s w.boxes k other) ∙ ap (λ (v : Waiting B). waiting k v) is;
        }
