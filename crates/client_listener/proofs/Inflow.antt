-- How what a client sends goes into its node's ring from step to step.
use Rattle.std.proofs.Common.{◌≡◌, ℕ, true, false, List, [], ◌∷◌, ◌++◌, Option, None, Some, Result, Ok, Err}
use Rattle.std.proofs.Common.{refl, sym, ◌∙◌, ap, ap₂, append_assoc, append-nil}
use Rattle.std.specs.Option.{option_to_list}
use Rattle.wamp_rawsocket.specs.declared.fault.FrameFault.{FrameFault}
use Rattle.wamp_rawsocket.specs.declared.fault.FrameFault.TheVariants.{Failed}
use Rattle.wamp_rawsocket.specs.declared.frame.Frame.{Frame}
use Rattle.wamp_rawsocket.specs.Splitter.{Frames, partial, ended, broken, frame, frames_of, end_of}
use Rattle.wamp_rawsocket.proofs.Streams.{frames_at_whole, frames_at_fault, frames_at_end}
use Rattle.client_listener.specs.declared.fault.ListenFault.{ListenFault}
use Rattle.client_listener.specs.declared.fault.ListenFault.TheVariants as fault
use Rattle.client_listener.specs.declared.items.FromClient.{FromClient}
use Rattle.client_listener.specs.declared.items.FromClient.TheVariants.{Connect, Hung}
use Rattle.client_listener.specs.Items.{item_of, Takes}
use Rattle.client_listener.specs.Pending.{Pending}
use Rattle.client_listener.specs.Reading.{items_of, put_of, left_of, IsFaulty}
use Rattle.client_listener.specs.Inlet.{is_broken, Inflow, IsPut, IsFront, PutsOn}

-- ---- what comes after a stream's frames

-- if a stream is not broken, more may come
not_broken : (frames : Frames) → is_broken frames ≡ false → end_of frames ≡ partial
not_broken ended e = refl
not_broken (broken shown) e = absurd cc
not_broken (frame kind payload others) e = not_broken others e

-- if it is, there is a fault
is_faulty : (frames : Frames) → is_broken frames ≡ true → IsFaulty (end_of frames)
is_faulty ended e = absurd cc
is_faulty (broken shown) e = tt
is_faulty (frame kind payload others) e = is_faulty others e

-- one outcome is not two
never_taken : (a : Result (Option Frame) ListenFault) (given : Option Frame) (other : ListenFault) → a ≡ Ok given → a ≡ Err other → ⊥
never_taken a given other p q = cc

other_fault : (a b : ListenFault) (given : Result (Option Frame) ListenFault) → given ≡ Err a → given ≡ Err b → a ≡ b
other_fault a b given p q = cc

-- ---- how it goes on

-- before anything was read, the transport's opening waits
pub begins : (before : List FromClient) (held : Option (List ℕ)) → held ≡ Some []
    → Inflow [] before before (record { held = held; next = Some Connect; fault = None })
begins before held e = rw e (record {
  is_live = refl;
  put = [];
  are_put = sym (append-nil before);
  is_due = λ more. refl;
  stands = λ more. refl;
})

-- what waited went into the ring, or nothing waited
pub pushed : (read : List ℕ) (before after after' : List FromClient) (old new : Pending) → after' ≡ after ++ option_to_list old.next
    → new.next ≡ None → new.held ≡ old.held → new.fault ≡ old.fault → Inflow read before after old → Inflow read before after' new
pushed read before after after' old new e n h f u =
    let item : List FromClient = option_to_list old.next in
    record {
      is_live = f ∙ u.is_live;
      put = u.put ++ item;
      are_put = e ∙ ap (λ (a : List FromClient). a ++ item) u.are_put ∙ append_assoc before u.put item;
      is_due = λ more. u.is_due more ∙ sym (append_assoc u.put item (items_of (left_of old.held more)))
          ∙ ap₂ (λ (i : Option FromClient) (o : Option (List ℕ)). (u.put ++ item) ++ (option_to_list i ++ items_of (left_of o more)))
          (sym n) (sym h);
      stands = λ more. u.stands more ∙ ap (λ (o : Option (List ℕ)). is_broken (left_of o more)) (sym h);
    }

-- all stays as it is
stays : (read : List ℕ) (before after : List FromClient) (old new : Pending) → new.next ≡ old.next → new.held ≡ old.held
    → new.fault ≡ old.fault → Inflow read before after old → Inflow read before after new
stays read before after old new n h f u = record {
  is_live = f ∙ u.is_live;
  put = u.put;
  are_put = u.are_put;
  is_due = λ more. u.is_due more
      ∙ ap₂ (λ (i : Option FromClient) (o : Option (List ℕ)). u.put ++ (option_to_list i ++ items_of (left_of o more))) (sym n) (sym h);
  stands = λ more. u.stands more ∙ ap (λ (o : Option (List ℕ)). is_broken (left_of o more)) (sym h);
}

-- what was put is a prefix of what is due
pub is_front : (read : List ℕ) (before after : List FromClient) (old : Pending) → Inflow read before after old → IsFront read before after
is_front read before after old u = record {
  put = u.put;
  are_put = u.are_put;
  rest = option_to_list old.next ++ items_of (left_of old.held []);
  is_due = ap put_of (sym (append-nil read)) ∙ u.is_due [];
}

-- ---- if nothing waits for room

module _ (read : List ℕ) (before after : List FromClient) (old : Pending) (none : old.next ≡ None) (u : Inflow read before after old) where
  -- what is due once nothing more comes
  due_now : (rest : Frames) → left_of old.held [] ≡ rest → put_of read ≡ u.put ++ items_of rest
  due_now rest e = ap put_of (sym (append-nil read)) ∙ u.is_due []
      ∙ ap₂ (λ (i : Option FromClient) (l : Frames). u.put ++ (option_to_list i ++ items_of l)) none e

  -- and whether a fault comes after it
  stands_now : (rest : Frames) → left_of old.held [] ≡ rest → is_broken (frames_of read) ≡ is_broken rest
  stands_now rest e = ap (λ (o : List ℕ). is_broken (frames_of o)) (sym (append-nil read)) ∙ u.stands [] ∙ ap is_broken e

  -- that nothing more comes is all that is left to be put
  hung_left : (rest : Frames) → left_of old.held [] ≡ rest → items_of rest ≡ Hung ∷ [] → IsPut read before after
  hung_left rest e h = (u.put, u.are_put, due_now rest e ∙ ap (λ (o : List FromClient). u.put ++ o) h)

  -- a frame was cut off what is held, and its item waits
  item_waits : (f : Frame) (held : List ℕ) (new : Pending) → old.held ≡ Some held → Takes (Ok (Some f)) (Some held) new.held
      → new.next ≡ item_of f.kind f.payload → new.fault ≡ old.fault → Inflow read before after new
  item_waits f held new h t n s =
      let left : (more : List ℕ) → left_of old.held more ≡ frame f.kind f.payload (left_of new.held more) =
      λ more. ap (λ (o : Option (List ℕ)). left_of o more) h ∙ frames_at_whole held f.payload t.0 more f.kind t.1
      ∙ ap (λ (o : Option (List ℕ)). frame f.kind f.payload (left_of o more)) (sym t.2) in
      record {
        is_live = s ∙ u.is_live;
        put = u.put;
        are_put = u.are_put;
        is_due = λ more. u.is_due more
            ∙ ap₂ (λ (i : Option FromClient) (l : Frames). u.put ++ (option_to_list i ++ items_of l)) none (left more)
            ∙ ap (λ (i : Option FromClient). u.put ++ (option_to_list i ++ items_of (left_of new.held more))) (sym n);
        stands = λ more. u.stands more ∙ ap is_broken (left more);
      }

  -- a frame was cut off, by what is held: no frame comes of a fault
  cut_from : (f : Frame) (held : Option (List ℕ)) (new : Pending) → old.held ≡ held → Takes (Ok (Some f)) held new.held
      → new.next ≡ item_of f.kind f.payload → new.fault ≡ old.fault → Inflow read before after new
  cut_from f None new h t n s = absurd (never_taken (Ok (Some f)) (Some f) fault.Frame refl t)
  cut_from f (Some held) new h t n s = item_waits f held new h t n s

  -- the next frame was cut off, and its item waits
  pub cut_off : (f : Frame) (new : Pending) → Takes (Ok (Some f)) old.held new.held → new.next ≡ item_of f.kind f.payload
      → new.fault ≡ old.fault → Inflow read before after new
  cut_off f new t n s = cut_from f old.held new refl t n s

  -- no whole frame is held, by what is held
  ends_from : (held : Option (List ℕ)) (new : Pending) → old.held ≡ held → Takes (Ok None) held new.held → new.next ≡ None
      → new.fault ≡ old.fault → PutsOn (Ok true) read before after new
  ends_from None new h t n s = absurd (never_taken (Ok None) None fault.Frame refl t)
  ends_from (Some held) new h t n s =
      let left : left_of old.held [] ≡ ended =
      ap (λ (o : Option (List ℕ)). left_of o []) h ∙ ap frames_of (append-nil held) ∙ frames_at_end held t.0 in (
        stays read before after old new (n ∙ sym none) (t.1 ∙ sym h) s u,
        n,
        hung_left ended left refl,
        not_broken (frames_of read) (stands_now ended left),
      )

  -- no whole frame is held: all is put
  pub ends : (new : Pending) → Takes (Ok None) old.held new.held → new.next ≡ None → new.fault ≡ old.fault
      → PutsOn (Ok true) read before after new
  ends new t n s = ends_from old.held new refl t n s

  -- what follows is no frame
  breaks : (shown : FrameFault) (new : Pending) → left_of old.held [] ≡ broken shown → PutsOn (Err fault.Frame) read before after new
  breaks shown new left = (hung_left (broken shown) left refl, is_faulty (frames_of read) (stands_now (broken shown) left))

  -- no frame was taken, by what is held and why
  breaks_from : (held : Option (List ℕ)) (other : ListenFault) (left : Option (List ℕ)) (new : Pending) → old.held ≡ held
      → Takes (Err other) held left → PutsOn (Err other) read before after new
  breaks_from held fault.Memory left new h t = is_front read before after old u
  breaks_from None fault.Frame left new h t = breaks Failed new (ap (λ (o : Option (List ℕ)). left_of o []) h)
  breaks_from (Some held) fault.Frame left new h t =
      breaks t.1.0 new (ap (λ (o : Option (List ℕ)). left_of o []) h ∙ frames_at_fault held [] t.1.0 t.1.1)
  breaks_from None other left new h t = let e : other ≡ fault.Frame = other_fault other fault.Frame (Err other) refl t in absurd cc
  breaks_from (Some held) other left new h t = let e : other ≡ fault.Frame = t.0 in absurd cc

  -- no frame was taken
  pub fails : (other : ListenFault) (left : Option (List ℕ)) (new : Pending) → Takes (Err other) old.held left
      → PutsOn (Err other) read before after new
  fails other left new t = breaks_from old.held other left new refl t

-- how it failed does not depend on what is left
pub same_end : (read : List ℕ) (before after : List FromClient) (old new : Pending) (other : ListenFault)
    → PutsOn (Err other) read before after old → PutsOn (Err other) read before after new
same_end read before after old new fault.Frame p = p
same_end read before after old new fault.Memory p = p
same_end read before after old new other p = absurd p
