-- How the gathering of what a node hands out goes on from item to item, and ends.
use Rattle.std.proofs.Common.{◌≡◌, ◌≤◌, ◌+◌, ℕ, suc, length, Bool, true, false, List, [], ◌∷◌, ◌++◌, Result, Ok, Err}
use Rattle.std.proofs.Common.{refl, sym, ◌∙◌, ap, subst, append_assoc, append-nil, arith}
use Rattle.std.proofs.lemmas.List.{length-append}
use Rattle.std.specs.List.{list_all}
use mathlib.Core.List.{IsPrefix}
use Rattle.rtrb.specs.Fifo.{Allowed}
use Rattle.client_listener.specs.declared.fault.ListenFault.{ListenFault}
use Rattle.client_listener.specs.declared.fault.ListenFault.TheVariants as fault
use Rattle.client_listener.specs.declared.items.ToClient.{ToClient}
use Rattle.client_listener.specs.Outbox.{frame_of, goes, Hears}
use Rattle.client_listener.specs.Writing.{written_of, most_waiting, IsInRoom}
use Rattle.client_listener.specs.Gathering.{StopsBy, Gathers}
use Rattle.client_listener.proofs.Sending.{written_more, all_go_more, allowed_more}

-- this much was taken, and all of it was put after the octets that waited
pub record Gathered (allows : List ToClient → ToClient → Type 0) (limit : ℕ) (before after : List ToClient) (old new : List ℕ)
    : Type 0 where
  pub items : List ToClient
  pub are_taken : after ≡ before ++ items
  pub are_allowed : Allowed allows before items
  pub are_in_room : Allowed (IsInRoom old) [] items
  pub all_go : list_all (goes limit) items ≡ true
  pub wait : new ≡ old ++ written_of items

module _ (allows : List ToClient → ToClient → Type 0) (limit : ℕ) (before : List ToClient) (old : List ℕ) where
  -- the transport stays open
  pub stays : (after after' : List ToClient) (new : List ℕ) → after' ≡ after → Gathered allows limit before after old new
      → Gathers allows limit (Ok true) before after' old new
  stays after after' new e u = record {
    items = u.items;
    rest = [];
    are_taken = e ∙ u.are_taken ∙ ap (λ (i : List ToClient). before ++ i) (sym (append-nil u.items));
    are_allowed = subst (λ (i : List ToClient). Allowed allows before i) (sym (append-nil u.items)) u.are_allowed;
    are_in_room = subst (λ (i : List ToClient). Allowed (IsInRoom old) [] i) (sym (append-nil u.items)) u.are_in_room;
    all_go = u.all_go;
    wait = u.wait;
    is_left = refl;
  }

  -- an item was taken
  module _ (after after' : List ToClient) (new : List ℕ) (item : ToClient) (u : Gathered allows limit before after old new)
      (e : after' ≡ after ++ item ∷ []) (one : allows after item) (few : length new ≤ most_waiting) where
    -- what was taken with it
    taken : after' ≡ before ++ (u.items ++ item ∷ [])
    taken = e ∙ ap (λ (a : List ToClient). a ++ item ∷ []) u.are_taken ∙ append_assoc before u.items (item ∷ [])

    -- its protocol allows it after the others
    allowed : Allowed allows before (u.items ++ item ∷ [])
    allowed = allowed_more allows before u.items item u.are_allowed
        (subst (λ (a : List ToClient). allows a item) u.are_taken one)

    -- few octets waited
    in_room : Allowed (IsInRoom old) [] (u.items ++ item ∷ [])
    in_room = allowed_more (IsInRoom old) [] u.items item u.are_in_room
        (subst (λ (o : List ℕ). length o ≤ most_waiting) u.wait few)

    -- its frame waits after the others
    pub goes_on : (new' : List ℕ) → goes limit item ≡ true → new' ≡ new ++ frame_of item → Gathered allows limit before after' old new'
    goes_on new' go w = record {
      items = u.items ++ item ∷ [];
      are_taken = taken;
      are_allowed = allowed;
      are_in_room = in_room;
      all_go = all_go_more limit u.items item u.all_go go;
      wait = w ∙ ap (λ (o : List ℕ). o ++ frame_of item) u.wait ∙ append_assoc old (written_of u.items) (frame_of item)
          ∙ ap (λ (o : List ℕ). old ++ o) (sym (written_more u.items item));
    }

    -- it is the last, and has no frame
    stops : (outcome : Result Bool ListenFault) (new' : List ℕ) → new' ≡ new → StopsBy limit outcome (item ∷ [])
        → Gathers allows limit outcome before after' old new'
    stops outcome new' w by = record {
      items = u.items;
      rest = item ∷ [];
      are_taken = taken;
      are_allowed = allowed;
      are_in_room = in_room;
      all_go = u.all_go;
      wait = w ∙ u.wait;
      is_left = by;
    }

    -- it closes the transport
    pub closes : (new' : List ℕ) → Hears limit item (Ok false) new new' → Gathers allows limit (Ok false) before after' old new'
    closes new' h = stops (Ok false) new' h.1 (ap (λ (i : ToClient). i ∷ []) h.0)

    -- it is too wide, or memory ran out
    pub refuses : (other : ListenFault) (new' : List ℕ) → Hears limit item (Err other) new new'
        → Gathers allows limit (Err other) before after' old new'
    refuses fault.Wide new' h = stops (Err fault.Wide) new' h.1 (item, refl, h.0)
    refuses fault.Memory new' h = stops (Err fault.Memory) new' h (item, refl)
    refuses other new' h = absurd h

-- ---- what the consumer knows of

-- one of it was taken
pub known_popped : {T : Type 0} (got got' known known' : List T) (x : T) → got' ≡ got ++ x ∷ [] → IsPrefix known (x ∷ known')
    → length got + length known ≤ length got' + length known'
known_popped got got' known known' x e p =
    let one : length got' ≡ length got + 1 = ap length e ∙ length-append got (x ∷ []) in
    let all : length known + length p.0 ≡ suc (length known') = sym (length-append known p.0) ∙ ap length p.1 in
    omega arith
