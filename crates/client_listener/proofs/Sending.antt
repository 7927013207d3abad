-- How the writing of what a node hands out goes on from step to step, and ends.
use Rattle.std.proofs.Common.{◌≡◌, ◌≤◌, ◌<◌, ◌+◌, ◌^◌, ◌⊎◌, inl, inr, ℕ, min, Bool, true, false, ◌&&◌, List, [], ◌∷◌, ◌++◌, length, Option, None, Some, Result, Ok, Err}
use Rattle.std.proofs.Common.{refl, sym, ◌∙◌, ap, ap₂, subst, append_assoc, append-nil, arith}
use Rattle.std.proofs.lemmas.List.{length-append}
use Rattle.std.specs.List.{list_all}
use Rattle.std.specs.Io.KnownBytes.{Appends}
use Rattle.std.proofs.lemmas.List.Folds.{list_all-append}
use Rattle.rtrb.specs.Fifo.{Allowed}
use Rattle.client_listener.specs.declared.fault.ListenFault.{ListenFault}
use Rattle.client_listener.specs.declared.fault.ListenFault.TheVariants as fault
use Rattle.client_listener.specs.declared.items.ToClient.{ToClient}
use Rattle.client_listener.specs.declared.items.ToClient.TheVariants.{Close}
use Rattle.client_listener.specs.Outbox.{frame_of, goes}
use Rattle.client_listener.specs.Writing.{written_of, most_waiting, EndsBy, Sends, Written, Takes}
use Rattle.client_listener.specs.Gathering.{StopsBy, Gathers}
use Rattle.client_listener.specs.WritingSteps.{Underway}

-- ---- what is written in parts

appends_both : (a b c : Option (List ℕ)) (x y : List ℕ) → Appends a b x → Appends b c y → Appends a c (x ++ y)
appends_both None b c x y p q = tt
appends_both (Some a) None c x y p q = absurd p
appends_both (Some a) (Some b) None x y p q = absurd q
appends_both (Some a) (Some b) (Some c) x y p q = q ∙ ap (λ (o : List ℕ). o ++ y) p ∙ append_assoc a x y

appends_same : (a b : Option (List ℕ)) (x y : List ℕ) → x ≡ y → Appends a b x → Appends a b y
appends_same a b x y e p = rw (← e) p

appends_nothing : (a : Option (List ℕ)) → Appends a a []
appends_nothing None = tt
appends_nothing (Some a) = sym (append-nil a)

-- ---- one item more

pub written_more : (items : List ToClient) (item : ToClient) → written_of (items ++ item ∷ []) ≡ written_of items ++ frame_of item
written_more [] item = append-nil (frame_of item)
written_more (first ∷ items) item =
    ap (λ (o : List ℕ). frame_of first ++ o) (written_more items item)
    ∙ sym (append_assoc (frame_of first) (written_of items) (frame_of item))

both_true : (a b : Bool) → a ≡ true → b ≡ true → (a && (b && true)) ≡ true
both_true true true p q = refl
both_true true false p q = q
both_true false b p q = p

pub all_go_more : (limit : ℕ) (items : List ToClient) (item : ToClient) → list_all (goes limit) items ≡ true → goes limit item ≡ true
    → list_all (goes limit) (items ++ item ∷ []) ≡ true
all_go_more limit items item all one = list_all-append (goes limit) items (item ∷ [])
    ∙ both_true (list_all (goes limit) items) (goes limit item) all one

module _ (allows : List ToClient → ToClient → Type 0) where
  pub allowed_more : (before took : List ToClient) (item : ToClient) → Allowed allows before took → allows (before ++ took) item
      → Allowed allows before (took ++ item ∷ [])
  allowed_more before [] item all one = (subst (λ (b : List ToClient). allows b item) (append-nil before) one, tt)
  allowed_more before (first ∷ took) item all one = (
    all.0,
    allowed_more (before ++ first ∷ []) took item all.1 (subst
        (λ (b : List ToClient). allows b item) (sym (append_assoc before (first ∷ []) took)) one),
  )

  allowed_both : (before took more : List ToClient) → Allowed allows before took → Allowed allows (before ++ took) more
      → Allowed allows before (took ++ more)
  allowed_both before [] more all rest = subst (λ (b : List ToClient). Allowed allows b more) (append-nil before) rest
  allowed_both before (first ∷ took) more all rest = (
    all.0,
    allowed_both (before ++ first ∷ []) took more all.1 (subst
        (λ (b : List ToClient). Allowed allows b more) (sym (append_assoc before (first ∷ []) took)) rest),
  )

-- ---- the steps of the writing

written_both : (items more : List ToClient) → written_of (items ++ more) ≡ written_of items ++ written_of more
written_both [] more = refl
written_both (first ∷ items) more =
    ap (λ (o : List ℕ). frame_of first ++ o) (written_both items more)
    ∙ sym (append_assoc (frame_of first) (written_of items) (written_of more))

all_go_both : (limit : ℕ) (items more : List ToClient) → list_all (goes limit) items ≡ true → list_all (goes limit) more ≡ true
    → list_all (goes limit) (items ++ more) ≡ true
all_go_both limit items more all rest = list_all-append (goes limit) items more
    ∙ ap₂ (λ (a b : Bool). a && b) all rest

-- more was written of what waited
pub cleared : (old waiting left : List ℕ) (was now later : Option (List ℕ)) (written more : List ℕ) → old ≡ written ++ waiting
    → Appends was now written → waiting ≡ more ++ left → Appends now later more
    → (all : List ℕ) × (old ≡ all ++ left) × Appends was later all
cleared old waiting left was now later written more e a f b = (
  written ++ more,
  e ∙ ap (λ (o : List ℕ). written ++ o) f ∙ sym (append_assoc written more left),
  appends_both was now later written more a b,
)

-- the ring is empty if nothing waits
pub empty_now : {T : Type 0} (known : List T) (waiting : List ℕ) → (known ≡ []) ⊎ (most_waiting < length waiting) → length waiting ≡ 0
    → known ≡ []
empty_now known waiting (inl e) none = e
empty_now known waiting (inr many) none = absurd (omega arith)

known_on : (known before here after here' after' : ℕ) → known + before ≤ here + after → after + here ≤ after' + here'
    → known + before ≤ here' + after'
known_on known before here after here' after' k more = omega arith

-- a step was made
pub counted_on : (step turns turns' before after after' : ℕ) → step + turns + before ≤ 2 ^ 32 + after → turns' + after < turns + after'
    → step + 1 + turns' + before ≤ 2 ^ 32 + after'
counted_on step turns turns' before after after' k more = omega arith

more_known : (known here many : ℕ) → known ≤ here → known + many ≤ here + many
more_known known here many k = omega arith

-- all that the consumer knew of was taken
all_known : (known here : ℕ) (before after took : List ToClient) → known + length before ≤ here + length after → here ≡ 0
    → after ≡ before ++ took → min known (2 ^ 63) ≤ length took
all_known known here before after took k none e =
    let sum : length after ≡ length before + length took = ap length e ∙ length-append before took in
    omega arith

module _ (allows : List ToClient → ToClient → Type 0) (limit known : ℕ) (before : List ToClient) (old : Option (List ℕ)) where
  -- before anything was taken
  pub begins : (here : ℕ) → known ≤ here → Underway allows limit known before before here old old
  begins here k = record {
    took = [];
    are_taken = sym (append-nil before);
    are_allowed = tt;
    all_go = refl;
    are_written = appends_nothing old;
    are_known = more_known known here (length before) k;
  }

  -- items were taken and their frames put
  module _ (after after' : List ToClient) (here here' : ℕ) (now later : Option (List ℕ)) (waiting : List ℕ) (gathered : Result Bool ListenFault)
      (u : Underway allows limit known before after here old now) (g : Gathers allows limit gathered after after' [] waiting)
      (k : length after + here ≤ length after' + here') where
    taken : after' ≡ before ++ (u.took ++ (g.items ++ g.rest))
    taken = g.are_taken ∙ ap (λ (a : List ToClient). a ++ (g.items ++ g.rest)) u.are_taken
        ∙ append_assoc before u.took (g.items ++ g.rest)

    allowed : Allowed allows before (u.took ++ (g.items ++ g.rest))
    allowed = allowed_both allows before u.took (g.items ++ g.rest) u.are_allowed
        (subst (λ (a : List ToClient). Allowed allows a (g.items ++ g.rest)) u.are_taken g.are_allowed)

    all_know : known + length before ≤ here' + length after'
    all_know = known_on known (length before) here (length after) here' (length after') u.are_known k

    -- all that waited was written
    written : Appends now later waiting → Appends old later (written_of (u.took ++ g.items))
    written a = appends_same old later (written_of u.took ++ waiting) (written_of (u.took ++ g.items))
        (ap (λ (o : List ℕ). written_of u.took ++ o) g.wait ∙ sym (written_both u.took g.items))
        (appends_both old now later (written_of u.took) waiting u.are_written a)

    -- the transport stays open
    pub goes_on : g.rest ≡ [] → Appends now later waiting → Underway allows limit known before after' here' old later
    goes_on none a =
        let all : u.took ++ (g.items ++ g.rest) ≡ u.took ++ g.items =
        ap (λ (o : List ToClient). u.took ++ o) (ap (λ (o : List ToClient). g.items ++ o) none ∙ append-nil g.items) in
        record {
          took = u.took ++ g.items;
          are_taken = taken ∙ ap (λ (o : List ToClient). before ++ o) all;
          are_allowed = subst (λ (o : List ToClient). Allowed allows before o) all allowed;
          all_go = all_go_both limit u.took g.items u.all_go g.all_go;
          are_written = written a;
          are_known = all_know;
        }

    -- it ended, with a rest that is not written
    ends : (result : Result (Unit {0}) ListenFault) → Appends now later waiting
        → EndsBy limit known result (u.took ++ (g.items ++ g.rest)) g.rest
        → Sends limit known result (u.took ++ (g.items ++ g.rest)) old later
    ends result a by = record {
      items = u.took ++ g.items;
      all_go = all_go_both limit u.took g.items u.all_go g.all_go;
      are_written = written a;
      rest = g.rest;
      are_all = sym (append_assoc u.took g.items g.rest);
      is_left = by;
    }

    takes : (result : Result (Unit {0}) ListenFault) → Written limit known result (u.took ++ (g.items ++ g.rest)) old later
        → Takes allows limit known result before after' old later
    takes result w = record { took = u.took ++ (g.items ++ g.rest); are_taken = taken; are_allowed = allowed; are_written = w }

    -- a write failed
    pub write_fails : (left : List ℕ) (front : List ℕ) → waiting ≡ front ++ left → Appends now later front
        → Takes allows limit known (Err fault.Write) before after' old later
    write_fails left front e a = takes (Err fault.Write) (record {
      items = u.took;
      rest = g.items ++ g.rest;
      are_all = refl;
      are_in_room = g.are_in_room;
      front = front;
      left = left ++ written_of g.rest;
      are_cut = written_both g.items g.rest ∙ ap (λ (o : List ℕ). o ++ written_of g.rest) (sym g.wait ∙ e)
          ∙ append_assoc front left (written_of g.rest);
      are_written = appends_both old now later (written_of u.took) front u.are_written a;
    })

    -- the ring is empty, and the turns are spent
    pub spends : g.rest ≡ [] → here' ≡ 0 → Appends now later waiting → Takes allows limit known (Err fault.Turns) before after' old later
    spends none empty a = takes (Err fault.Turns) (ends (Err fault.Turns) a
        (none, all_known known here' before after' (u.took ++ (g.items ++ g.rest)) all_know empty taken))

    -- a Close was taken
    pub closes : g.rest ≡ Close ∷ [] → Appends now later waiting → Takes allows limit known (Ok tt) before after' old later
    closes by a = takes (Ok tt) (ends (Ok tt) a by)

    -- an item is too wide, or memory ran out for it
    pub refuses : (other : ListenFault) → StopsBy limit (Err other) g.rest → Appends now later waiting
        → Takes allows limit known (Err other) before after' old later
    refuses fault.Wide by a = takes (Err fault.Wide) (ends (Err fault.Wide) a by)
    refuses fault.Memory by a = takes (Err fault.Memory) (ends (Err fault.Memory) a by)
    refuses other by a = absurd by

-- the client's limit in other words
pub with_limit : (allows : List ToClient → ToClient → Type 0) (limit here : ℕ) (known : ℕ) (before after : List ToClient) (items : ℕ)
    (old now : Option (List ℕ)) → here ≡ limit → Underway allows limit known before after items old now
    → Underway allows here known before after items old now
with_limit allows limit here known before after items old now e u =
    subst (λ (l : ℕ). Underway allows l known before after items old now) (sym e) u

pub ends_with_limit : (allows : List ToClient → ToClient → Type 0) (limit here : ℕ) (known : ℕ) (result : Result (Unit {0}) ListenFault)
    (before after : List ToClient) (old now : Option (List ℕ)) → here ≡ limit → Takes allows here known result before after old now
    → Takes allows limit known result before after old now
ends_with_limit allows limit here known result before after old now e t =
    subst (λ (l : ℕ). Takes allows l known result before after old now) e t
