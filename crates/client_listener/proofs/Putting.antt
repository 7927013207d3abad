-- How the reading of a client's octets goes on from step to step, and ends.
use Rattle.std.proofs.Common.{◌≡◌, ◌≤◌, ◌<◌, ◌+◌, ◌⊎◌, inl, inr, ℕ, Bool, true, false, List, [], ◌∷◌, ◌++◌, length, Option, Result, Ok, Err, IsErrOf}
use Rattle.std.proofs.Common.{refl, sym, ◌∙◌, ap, subst, append_assoc, append-nil, le_trans, arith}
use Rattle.std.proofs.lemmas.List.{length-append}
use Rattle.std.specs.Option.{option_to_list}
use Rattle.std.specs.Io.KnownBytes.{Consumes}
use Rattle.client_listener.specs.declared.fault.ListenFault.{ListenFault}
use Rattle.client_listener.specs.declared.fault.ListenFault.TheVariants as fault
use Rattle.client_listener.specs.declared.items.FromClient.{FromClient}
use Rattle.client_listener.specs.declared.items.FromClient.TheVariants.{Hung}
use Rattle.client_listener.specs.Pending.{Pending}
use Rattle.client_listener.specs.Inlet.{Inflow, PutsOn}
use Rattle.client_listener.specs.Reading.{put_of, items_of, left_of, EndsBut, Puts}
use Rattle.client_listener.specs.ReadingSteps.{is_cut_short, Fills, Underway, Waits, Stops, TurnsOn, Hangs}
use Rattle.client_listener.proofs.Consuming.{consumes_both, consumes_none, consumes_nothing, is_all}

-- ---- what is counted

-- as many items were put as there were free slots
as_many : (free : ℕ) (before after put : List FromClient) → after ≡ before ++ put → free + length before ≤ length after
    → free ≤ length put
as_many free before after put e full =
    let sum : length after ≡ length before + length put = ap length e ∙ length-append before put in
    omega arith

-- the ring was full before, or is
fuller : (most octets turns free before after after' : ℕ) → after ≤ after'
    → (most ≤ octets + turns) ⊎ (free + before ≤ after) → (most ≤ octets + turns) ⊎ (free + before ≤ after')
fuller most octets turns free before after after' more (inl left) = inl left
fuller most octets turns free before after after' more (inr full) = inr (le_trans full more)

-- a turn was spent for some octets
read_more : (most turns turns' free before after : ℕ) (octets more : List ℕ) → turns ≡ turns' + 1 → 0 < length more
    → (most ≤ length octets + turns) ⊎ (free + before ≤ after) → (most ≤ length (octets ++ more) + turns') ⊎ (free + before ≤ after)
read_more most turns turns' free before after octets more e some (inl left) =
    let sum : length (octets ++ more) ≡ length octets + length more = length-append octets more in
    inl (omega arith)
read_more most turns turns' free before after octets more e some (inr full) = inr full

-- none is left
paid : (most turns octets free : ℕ) (before after put : List FromClient) → turns ≡ 0 → after ≡ before ++ put
    → (most ≤ octets + turns) ⊎ (free + length before ≤ length after) → (most ≤ octets) ⊎ (free ≤ length put)
paid most turns octets free before after put none e (inl left) = inl (omega arith)
paid most turns octets free before after put none e (inr full) = inr (as_many free before after put e full)

full_now : (free before known after known' after' : ℕ) → free + before ≤ known + after → known + after ≤ known' + after' → known' ≡ 0
    → free + before ≤ after'
full_now free before known after known' after' room keeps none = omega arith

-- ---- the steps

module _ (most free : ℕ) (start : Option (List ℕ)) (before : List FromClient) where
  -- before anything was read or put
  pub begins : (turns : ℕ) (pending : Pending) → turns ≡ most → Inflow [] before before pending
      → Underway most free start before start before free turns pending
  begins turns pending e inflow = record {
    octets = [];
    are_read = consumes_nothing start;
    inflow = inflow;
    room = omega arith;
    pace = inl (omega arith);
  }

  -- memory ran out before that
  pub none_begun : Puts most free (Err fault.Memory) start start before before
  none_begun = record {
    octets = [];
    are_read = consumes_nothing start;
    put = [];
    are_put = sym (append-nil before);
    rest = put_of [];
    is_due = refl;
    is_left = tt;
  }

  module _ (now : Option (List ℕ)) (after : List FromClient) (known turns : ℕ) (pending : Pending)
      (u : Underway most free start before now after known turns pending) where
    module _ (after' : List FromClient) (known' : ℕ) (pending' : Pending) (more : length after ≤ length after')
        (keeps : known + length after ≤ known' + length after') where
      room' : free + length before ≤ known' + length after'
      room' = le_trans u.room keeps

      -- the items of all whole frames were put
      pub all_put : PutsOn (Ok true) u.octets before after' pending' → Waits most free start before now after' known' turns pending'
      all_put p = (
        record {
          octets = u.octets;
          are_read = u.are_read;
          inflow = p.0;
          room = room';
          pace = fuller most (length u.octets) turns free (length before) (length after) (length after') more u.pace;
        },
        p.2,
        p.3,
      )

      -- what follows is no frame, or memory ran out
      pub put_ends : (other : ListenFault) → PutsOn (Err other) u.octets before after' pending'
          → Stops most free start before (Err other) now after' known' turns
      put_ends fault.Frame p = (
        record {
          octets = u.octets;
          are_read = u.are_read;
          put = p.0.0;
          are_put = p.0.1;
          rest = Hung ∷ [];
          is_due = p.0.2;
          is_left = (refl, p.1);
        },
        room',
        λ e. absurd cc,
      )
      put_ends fault.Memory p = (
        record {
          octets = u.octets;
          are_read = u.are_read;
          put = p.put;
          are_put = p.are_put;
          rest = p.rest;
          is_due = p.is_due;
          is_left = tt;
        },
        room',
        λ e. absurd cc,
      )
      put_ends other p = absurd p

      -- the ring is full, and was looked at again
      module _ (none : known' ≡ 0) (inflow : Inflow u.octets before after' pending') (later : Option (List ℕ)) (last : List FromClient)
          (free' : ℕ) (r : Consumes now later []) (same : last ≡ after') (looked : known' ≤ free') where
        is_full : free + length before ≤ length after'
        is_full = full_now free (length before) known (length after) known' (length after') u.room keeps none

        room_later : free + length before ≤ free' + length last
        room_later = subst (λ (a : List FromClient). free + length before ≤ free' + length a) (sym same)
            (le_trans is_full (omega arith))

        -- a turn was left to wait
        pub waited : (turns' : ℕ) → Underway most free start before later last free' turns' pending'
        waited turns' = record {
          octets = u.octets;
          are_read = consumes_none start now later u.octets u.are_read r;
          inflow = subst (λ (a : List FromClient). Inflow u.octets before a pending') (sym same) inflow;
          room = room_later;
          pace = inr (subst (λ (a : List FromClient). free + length before ≤ length a) (sym same) is_full);
        }

        -- none was
        pub wait_ends : (turns' : ℕ) → turns' ≡ 0 → Stops most free start before (Err fault.Turns) later last free' turns'
        wait_ends turns' nil = (
          record {
            octets = u.octets;
            are_read = consumes_none start now later u.octets u.are_read r;
            put = inflow.put;
            are_put = same ∙ inflow.are_put;
            rest = option_to_list pending'.next ++ items_of (left_of pending'.held []);
            is_due = ap put_of (sym (append-nil u.octets)) ∙ inflow.is_due [];
            is_left = inr (as_many free before after' inflow.put inflow.are_put is_full);
          },
          room_later,
          λ e. nil,
        )

  -- all that is due for what was read was put
  module _ (now : Option (List ℕ)) (after : List FromClient) (known turns : ℕ) (pending : Pending)
      (w : Waits most free start before now after known turns pending) where
    -- it ends so, with these octets read
    ends_by : (result : Result (Unit {0}) ListenFault) (later : Option (List ℕ)) (turns' : ℕ) → Consumes start later w.0.octets
        → EndsBut most free (Hung ∷ []) result start w.0.octets w.1.0 (Hung ∷ []) → (IsErrOf result fault.Turns → turns' ≡ 0)
        → Stops most free start before result later after known turns'
    ends_by result later turns' r left nil = (
      record {
        octets = w.0.octets;
        are_read = r;
        put = w.1.0;
        are_put = w.1.1;
        rest = Hung ∷ [];
        is_due = w.1.2;
        is_left = left;
      },
      w.0.room,
      nil,
    )

    -- the turns are spent
    pub spent : (turns' : ℕ) → turns ≡ 0 → turns' ≡ 0 → Stops most free start before (Err fault.Turns) now after known turns'
    spent turns' none nil = ends_by (Err fault.Turns) now turns' w.0.are_read
        (paid most turns (length w.0.octets) free before after w.1.0 none w.1.1 w.0.pace) (λ e. nil)

    -- it was read once
    pub filled : (result : Result Bool ListenFault) (later : Option (List ℕ)) (turns' : ℕ) (pending' : Pending) → turns ≡ turns' + 1
        → Fills result now later pending pending' → TurnsOn most free start before result later after known turns' pending'
    filled (Ok true) later turns' pending' e f = record {
      octets = w.0.octets ++ f.0;
      are_read = consumes_both start now later w.0.octets f.0 w.0.are_read f.2;
      inflow = f.3 w.0.octets before after w.0.inflow;
      room = w.0.room;
      pace = read_more most turns turns' free (length before) (length after) w.0.octets f.0 e f.1 w.0.pace;
    }
    filled (Ok false) later turns' pending' e f =
        let read : Consumes start later w.0.octets = consumes_none start now later w.0.octets w.0.are_read f.0 in
        ends_by (Ok tt) later turns' read (refl, w.2, is_all start later w.0.octets read f.1) (λ e. absurd cc)
    filled (Err fault.Read) later turns' pending' e f =
        ends_by (Err fault.Read) later turns' (consumes_none start now later w.0.octets w.0.are_read f) (refl, w.2) (λ e. absurd cc)
    filled (Err fault.Memory) later turns' pending' e f = (
      record {
        octets = w.0.octets ++ f.0;
        are_read = consumes_both start now later w.0.octets f.0 w.0.are_read f.1;
        put = w.0.inflow.put;
        are_put = w.0.inflow.are_put;
        rest = option_to_list pending.next ++ items_of (left_of pending.held f.0);
        is_due = w.0.inflow.is_due f.0;
        is_left = tt;
      },
      w.0.room,
      λ e. absurd cc,
    )
    filled (Err other) later turns' pending' e f = absurd f

  -- ---- the last item

  module _ (outcome : Result (Unit {0}) ListenFault) (now : Option (List ℕ)) (after : List FromClient) (known turns : ℕ)
      (s : Stops most free start before outcome now after known turns) where
    -- the ring had no room for it until the turns were spent
    pub hang_ends : (other : ListenFault) (later : Option (List ℕ)) (after' : List FromClient) (turns' : ℕ)
        → Hangs (Err other) after after' known turns' → Consumes now later [] → Puts most free (Err other) start later before after'
    hang_ends other later after' turns' h r = subst (λ (f : ListenFault). Puts most free (Err f) start later before after') (sym h.0) (record {
      octets = s.0.octets;
      are_read = consumes_none start now later s.0.octets s.0.are_read r;
      put = s.0.put;
      are_put = h.1 ∙ s.0.are_put;
      rest = s.0.rest;
      is_due = s.0.is_due;
      is_left = inr (as_many free before after s.0.put s.0.are_put (none_left s.1 h.2));
    })
      where
        none_left : free + length before ≤ known + length after → known ≡ 0 → free + length before ≤ length after
        none_left room none = omega arith

    -- it was put
    last_put : s.0.rest ≡ Hung ∷ [] → (later : Option (List ℕ)) (after' : List FromClient)
        → EndsBut most free [] outcome start s.0.octets (s.0.put ++ Hung ∷ []) []
        → Consumes now later [] → after' ≡ after ++ Hung ∷ [] → Puts most free outcome start later before after'
    last_put rest later after' ends r e = record {
      octets = s.0.octets;
      are_read = consumes_none start now later s.0.octets s.0.are_read r;
      put = s.0.put ++ Hung ∷ [];
      are_put = e ∙ ap (λ (a : List FromClient). a ++ Hung ∷ []) s.0.are_put ∙ append_assoc before s.0.put (Hung ∷ []);
      rest = [];
      is_due = s.0.is_due ∙ ap (λ (o : List FromClient). s.0.put ++ o) rest ∙ sym (append-nil (s.0.put ++ Hung ∷ []));
      is_left = ends;
    }

  pub hung : (outcome : Result (Unit {0}) ListenFault) (now : Option (List ℕ)) (after : List FromClient) (known turns : ℕ)
      → Stops most free start before outcome now after known turns → is_cut_short outcome ≡ false → (later : Option (List ℕ))
      (after' : List FromClient) → Consumes now later [] → after' ≡ after ++ Hung ∷ [] → Puts most free outcome start later before after'
  hung (Ok x) now after known turns s n later after' r e =
      last_put (Ok x) now after known turns s s.0.is_left.0 later after' (refl, s.0.is_left.1, s.0.is_left.2) r e
  hung (Err fault.Frame) now after known turns s n later after' r e =
      last_put (Err fault.Frame) now after known turns s s.0.is_left.0 later after' (refl, s.0.is_left.1) r e
  hung (Err fault.Read) now after known turns s n later after' r e =
      last_put (Err fault.Read) now after known turns s s.0.is_left.0 later after' (refl, s.0.is_left.1) r e
  hung (Err fault.Turns) now after known turns s n later after' r e = absurd cc
  hung (Err fault.Memory) now after known turns s n later after' r e = absurd cc
  hung (Err other) now after known turns s n later after' r e = absurd s.0.is_left

  -- nothing more is put
  pub cut_short : (outcome : Result (Unit {0}) ListenFault) (now : Option (List ℕ)) (after : List FromClient) (known turns : ℕ)
      → Stops most free start before outcome now after known turns → is_cut_short outcome ≡ true → Puts most free outcome start now before after
  cut_short (Err fault.Turns) now after known turns s n = record {
    octets = s.0.octets;
    are_read = s.0.are_read;
    put = s.0.put;
    are_put = s.0.are_put;
    rest = s.0.rest;
    is_due = s.0.is_due;
    is_left = s.0.is_left;
  }
  cut_short (Err fault.Memory) now after known turns s n = record {
    octets = s.0.octets;
    are_read = s.0.are_read;
    put = s.0.put;
    are_put = s.0.are_put;
    rest = s.0.rest;
    is_due = s.0.is_due;
    is_left = tt;
  }
  cut_short outcome now after known turns s n = absurd cc

  -- the turns are spent only if nothing more is put
  pub not_spent : (outcome : Result (Unit {0}) ListenFault) → is_cut_short outcome ≡ false → IsErrOf outcome fault.Turns → ⊥
  not_spent (Ok x) n e = cc
  not_spent (Err fault.Turns) n e = cc
  not_spent (Err other) n e = cc
