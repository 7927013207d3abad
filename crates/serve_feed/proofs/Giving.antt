-- What is told stays told: a client comes, one goes, a request is taken and its act is given.
use Rattle.std.proofs.Common.{arith, ◌≡◌, ◌⊎◌, inl, inr, ℕ, zero, suc, ◌+◌, Bool, true, false, ◌||◌, List, [], ◌∷◌, ◌++◌, Some, refl, sym, ap, subst}
use Rattle.std.proofs.Common.{◌∙◌, length, take, drop, set, get_or}
use Rattle.std.specs.Prelude.{◌<◌, ◌≤◌, if◌then◌else◌}
use Rattle.std.specs.List.{All, AllPairs, list_any, remove}
use Rattle.std.proofs.lemmas.Bool.{cases_eq, cases_lt, cases_order, ne_eqb, eq-eqb, lt-ltb}
use Rattle.std.proofs.lemmas.List.{append-nil, nil_from_length, length-append, get_or_append_left, get_or-set_same, get_or-set_other, length-set, take-set, drop-set-lt}
use Rattle.std.proofs.lemmas.List.Folds.{list_any-append}
use Rattle.std.proofs.lemmas.Option.{slice_get-get_or}
use Rattle.std.proofs.lemmas.List.Edits.{length-remove, get_or-remove_below, get_or-remove_above}
use Rattle.std.proofs.lemmas.List.Elements.{All-push, All-append, All-take, All-drop, All-weaker}
use Rattle.std.proofs.lemmas.List.Quantifiers.{all_pairs_push, all_pairs_remove}
use Rattle.std.proofs.lemmas.Grind.{flat_map-append}
use Rattle.paxos_node.specs.declared.event.Event.{Event}
use Rattle.paxos_node.specs.declared.event.Event.TheVariants.{Take}
use Rattle.actor_run.specs.Events.{asked_by, asked_in}
use Rattle.realm_acts.specs.declared.act.Act.{Act}
use Rattle.realm_acts.specs.declared.act.Act.TheVariants as done
use Rattle.client_listener.specs.declared.items.FromClient.{FromClient}
use Rattle.client_listener.specs.declared.items.FromClient.TheVariants as put
use Rattle.serve_connections.specs.Taken.{taken_by}
use Rattle.serve_connections.specs.declared.requests.RequestReceiver.{RequestReceiver}
use Rattle.serve_feed.specs.declared.sources.Source.{Source}
use Rattle.serve_feed.specs.declared.sources.Sources.{Sources}
use Rattle.serve_feed.specs.declared.sources.Aside.{Aside}
use Rattle.serve_feed.specs.declared.sources.Aside.TheVariants as aside
use Rattle.serve_feed.specs.declared.sources.Next.{Next}
use Rattle.serve_feed.specs.declared.sources.Next.TheVariants as next
use Rattle.serve_feed.specs.Tells.{request_of, act_of, acts_of, is_under, under, is_connect, is_hung, known_with, held, IsGiven, IsTold, AreEnded, HungUp, NeverCame}
use Rattle.serve_feed.specs.Tells.{AreNumbered, IsGone, TellsOf, Tells, knows, known_at, Closes, TellsWithout, Owes, Finds, FindsAside, Forgets, known_after, Takes}
use Rattle.serve_feed.specs.Steps.{Adds}
use Rattle.serve_feed.specs.Saw.{Saw}

-- ---- acts

under_more : (n : ℕ) (given : List (ℕ × Act)) (x : ℕ × Act) → under n (given ++ x ∷ []) ≡ under n given ++ is_under n x
under_more n given x = flat_map-append (is_under n) given (x ∷ []) ∙ ap (λ l. under n given ++ l) (append-nil (is_under n x))

under_other : (n k : ℕ) (given : List (ℕ × Act)) (act : Act) → (k ≡ n → ⊥) → under n (given ++ (k, act) ∷ []) ≡ under n given
under_other n k given act off =
    under_more n given (k, act) ∙ rw (ne_eqb k n off) (append-nil (under n given))

under_same : (n : ℕ) (given : List (ℕ × Act)) (act : Act) → under n (given ++ (n, act) ∷ []) ≡ under n given ++ request_of act ∷ []
under_same n given act = under_more n given (n, act) ∙ rw (eq-eqb n n refl) refl

acts_more : (requests : List FromClient) (request : FromClient) → acts_of (requests ++ request ∷ []) ≡ acts_of requests ++ act_of request
acts_more requests request = flat_map-append act_of requests (request ∷ []) ∙ ap (λ l. acts_of requests ++ l) (append-nil (act_of request))

or_true : (b : Bool) → (b || true) ≡ true
or_true true = refl
or_true false = refl

or_false : (b : Bool) → (b || false) ≡ b
or_false true = refl
or_false false = refl

-- whether a Connect is among more acts, and a Hung
connect_more : (acts : List FromClient) (act : FromClient) → list_any is_connect (acts ++ act ∷ []) ≡ known_with act (list_any is_connect acts)
connect_more acts put.Connect = list_any-append is_connect acts (put.Connect ∷ []) ∙ or_true (list_any is_connect acts)
connect_more acts (put.Read read) = list_any-append is_connect acts (put.Read read ∷ []) ∙ or_false (list_any is_connect acts)
connect_more acts (put.Ping payload) = list_any-append is_connect acts (put.Ping payload ∷ []) ∙ or_false (list_any is_connect acts)
connect_more acts put.Hung = list_any-append is_connect acts (put.Hung ∷ []) ∙ or_false (list_any is_connect acts)

hung_more : (acts : List FromClient) (act : FromClient) → is_hung act ≡ false → list_any is_hung (acts ++ act ∷ []) ≡ list_any is_hung acts
hung_more acts act off =
    list_any-append is_hung acts (act ∷ []) ∙ ap (λ b. list_any is_hung acts || (b || false)) off ∙ or_false (list_any is_hung acts)

-- ---- what is held

held_none : (source : Source) → source.is_held ≡ false → held source ≡ []
held_none source off = ap (λ (b : Bool). if b then put.Connect ∷ [] else []) off

held_one : (source : Source) → source.is_held ≡ true → held source ≡ put.Connect ∷ []
held_one source on = ap (λ (b : Bool). if b then put.Connect ∷ [] else []) on

-- nothing is taken
pub given_still : (old : Source) (requests : RequestReceiver) → taken_by requests ≡ taken_by old.requests → (acts : List FromClient)
    → IsGiven acts old → acts ++ held old ≡ acts_of (taken_by requests)
given_still old requests taken acts is = is ∙ ap acts_of (sym taken)

-- the next request is taken, while none is held
pub given_next : (old : Source) (requests : RequestReceiver) (request : FromClient) → old.is_held ≡ false
    → taken_by requests ≡ taken_by old.requests ++ request ∷ [] → (acts : List FromClient) → IsGiven acts old
    → (acts ++ act_of request) ++ held old ≡ acts_of (taken_by requests)
given_next old requests request before taken acts is =
    let bare : acts ≡ acts_of (taken_by old.requests) = sym (append-nil acts) ∙ ap (λ l. acts ++ l) (sym (held_none old before)) ∙ is in
    ap (λ l. (acts ++ act_of request) ++ l) (held_none old before) ∙ append-nil (acts ++ act_of request)
    ∙ ap (λ l. l ++ act_of request) bare ∙ sym (acts_more (taken_by old.requests) request) ∙ ap acts_of (sym taken)

-- what is held is given
pub given_held : (old : Source) → old.is_held ≡ true → (acts : List FromClient) → IsGiven acts old
    → (acts ++ put.Connect ∷ []) ++ [] ≡ acts_of (taken_by old.requests)
given_held old before acts is = append-nil (acts ++ put.Connect ∷ []) ∙ ap (λ l. acts ++ l) (sym (held_one old before)) ∙ is

-- a Connect is held from now on
pub given_holds : (old : Source) (requests : RequestReceiver) → old.is_held ≡ false
    → taken_by requests ≡ taken_by old.requests ++ put.Connect ∷ [] → (acts : List FromClient) → IsGiven acts old
    → acts ++ put.Connect ∷ [] ≡ acts_of (taken_by requests)
given_holds old requests before taken acts is =
    let bare : acts ≡ acts_of (taken_by old.requests) = sym (append-nil acts) ∙ ap (λ l. acts ++ l) (sym (held_none old before)) ∙ is in
    ap (λ l. l ++ put.Connect ∷ []) bare ∙ sym (acts_more (taken_by old.requests) put.Connect) ∙ ap acts_of (sym taken)

-- a PING is taken
pub given_ping : (old : Source) (requests : RequestReceiver) (payload : List ℕ)
    → taken_by requests ≡ taken_by old.requests ++ put.Ping payload ∷ [] → (acts : List FromClient) → IsGiven acts old
    → acts ++ held old ≡ acts_of (taken_by requests)
given_ping old requests payload taken acts is =
    is ∙ sym (append-nil (acts_of (taken_by old.requests))) ∙ sym (acts_more (taken_by old.requests) (put.Ping payload))
    ∙ ap acts_of (sym taken)

-- a request is taken, and its act is given
told_more : (given : List (ℕ × Act)) (old new : Source) (act : Act) → new.number ≡ old.number
    → IsGiven (under old.number given ++ act_of (request_of act)) new → act_of (request_of act) ≡ request_of act ∷ []
    → new.is_known ≡ known_with (request_of act) old.is_known → is_hung (request_of act) ≡ false
    → IsTold given old → IsTold (given ++ (old.number, act) ∷ []) new
told_more given old new act number gives same known off told =
    let request = request_of act in
    let before = under old.number given in
    let more : under new.number (given ++ (old.number, act) ∷ []) ≡ before ++ request ∷ [] =
    ap (λ n. under n (given ++ (old.number, act) ∷ [])) number ∙ under_same old.number given act in
    record {
      acts = ap (λ l. l ++ held new) (more ∙ ap (λ l. before ++ l) (sym same)) ∙ gives;
      known = known ∙ ap (known_with request) told.known ∙ sym (connect_more before request) ∙ ap (list_any is_connect) (sym more);
      none = ap (list_any is_hung) more ∙ hung_more before request off ∙ told.none;
    }

-- the acts under its number are the same
told_still : (given given' : List (ℕ × Act)) (source : Source) → under source.number given' ≡ under source.number given
    → IsTold given source → IsTold given' source
told_still given given' source same told = record {
  acts = ap (λ l. l ++ held source) same ∙ told.acts;
  known = told.known ∙ ap (list_any is_connect) (sym same);
  none = ap (list_any is_hung) same ∙ told.none;
}

-- ---- lists of sources

rest_all : {X : Type 0} (P : X → Type 0) (xs : List X) (place : ℕ) → All P xs → All P (remove xs place)
rest_all P xs place all = All-append P (take place xs) (drop (suc place) xs) (All-take P place xs all) (All-drop P (suc place) xs all)

-- no other source has the number of the one at this place
other_number : (list : List Source) (place k : ℕ) (d : Source) → AllPairs (λ (a b : Source). a.number < b.number) list → place < length list
    → k < length list → (k ≡ place → ⊥) → (get_or list k d).number ≡ (get_or list place d).number → ⊥
other_number list place k d rise within l off same = go (cases_order k place)
  where
    go : ((k ≡ place) ⊎ ((k < place) ⊎ (place < k))) → ⊥
    go (inl e) = off e
    go (inr (inl below)) = omega (arith, rise k place d below within, same)
    go (inr (inr above)) = omega (arith, rise place k d above l, same)

rest_off : (list : List Source) (last place k : ℕ) (d : Source) → AreNumbered list last → place < length list → k < length (remove list place)
    → (get_or (remove list place) k d).number ≡ (get_or list place d).number → ⊥
rest_off list last place k d are within l same = go (cases_lt k place)
  where
    go : ((k < place) ⊎ (place ≤ k)) → ⊥
    go (inl below) =
        other_number list place k d are.rise within (omega (arith, below, within)) (λ e. omega (arith, e, below))
        (ap (λ (s : Source). s.number) (sym (get_or-remove_below list place d k below within)) ∙ same)
    go (inr above) =
        other_number list place (k + 1) d are.rise within (omega (arith, l, length-remove list place within)) (λ e. omega (arith, e, above))
        (ap (λ (s : Source). s.number) (sym (get_or-remove_above list place d k above within)) ∙ same)

number_kept : (list : List Source) (place k : ℕ) (new d : Source) → place < length list → new.number ≡ (get_or list place d).number
    → (get_or (set list place new) k d).number ≡ (get_or list k d).number
number_kept list place k new d within same = go (cases_eq k place)
  where
    go : ((k ≡ place) ⊎ (k ≡ place → ⊥)) → (get_or (set list place new) k d).number ≡ (get_or list k d).number
    go (inl e) =
        subst (λ j. (get_or (set list place new) j d).number ≡ (get_or list j d).number) (sym e)
        (ap (λ (s : Source). s.number) (get_or-set_same list place new d within) ∙ same)
    go (inr ne) = ap (λ (s : Source). s.number) (get_or-set_other list place k new d ne)

-- ---- one is changed, or goes

rest_numbered : (list : List Source) (last place : ℕ) → place < length list → AreNumbered list last → AreNumbered (remove list place) last
rest_numbered list last place within are = record {
  rise = all_pairs_remove (λ (a b : Source). a.number < b.number) list place within are.rise;
  first = rest_all (λ (s : Source). 0 < s.number) list place are.first;
  up_to = rest_all (λ (s : Source). s.number ≤ last) list place are.up_to;
}

set_numbered : (list : List Source) (last place : ℕ) (new : Source) → place < length list
    → ((d : Source) → new.number ≡ (get_or list place d).number) → AreNumbered list last → AreNumbered (set list place new) last
set_numbered list last place new within same are = record {
  rise = λ i j d lt l.
      let m : j < length list = subst (λ n. j < n) (length-set list place new) l in
      omega (arith, are.rise i j d lt m, number_kept list place i new d within (same d), number_kept list place j new d within (same d));
  first = λ k d l.
      let m : k < length list = subst (λ n. k < n) (length-set list place new) l in
      omega (arith, are.first k d m, number_kept list place k new d within (same d));
  up_to = λ k d l.
      let m : k < length list = subst (λ n. k < n) (length-set list place new) l in
      omega (arith, are.up_to k d m, number_kept list place k new d within (same d));
}

-- a number that none of the others has is that of the source at this place, or no source has it
gone_from_rest : (list : List Source) (place m : ℕ) (old : Source) → place < length list → ((d : Source) → get_or list place d ≡ old)
    → (m ≡ old.number → ⊥) → IsGone m (remove list place) → IsGone m list
gone_from_rest list place m old within at off rest k d l same = go (cases_order k place)
  where
    above : (k : ℕ) → place < k → k < length list → (get_or list k d).number ≡ m → ⊥
    above (suc j) more l same =
        rest j d (omega (arith, l, length-remove list place within))
        (ap (λ (s : Source). s.number) (get_or-remove_above list place d j (omega (arith, more)) within)
        ∙ subst (λ i. (get_or list i d).number ≡ m) (omega (arith)) same)
    above zero more l same = absurd (omega (arith, more))

    go : ((k ≡ place) ⊎ ((k < place) ⊎ (place < k))) → ⊥
    go (inl e) = off (sym same ∙ ap (λ (s : Source). s.number) (subst (λ i. get_or list i d ≡ old) (sym e) (at d)))
    go (inr (inl below)) =
        rest k d (omega (arith, below, within, length-remove list place within))
        (ap (λ (s : Source). s.number) (get_or-remove_below list place d k below within) ∙ same)
    go (inr (inr more)) = above k more l same

-- the source at a place goes, after a Hung if it is known
gone : (list : List Source) (last place : ℕ) (given : List (ℕ × Act)) (old : Source) → place < length list
    → ((d : Source) → get_or list place d ≡ old) → TellsOf list last given
    → (0 < old.number) × Closes old.is_known old.number (remove list place) last given
gone list last place given old within at tells =
    (subst (λ (s : Source). 0 < s.number) (at old) (tells.numbers.first place old within), go old.is_known refl)
  where
    n : ℕ
    n = old.number

    before : List FromClient
    before = under old.number given

    told : IsTold given old
    told = subst (IsTold given) (at old) (tells.told place old within)

    after : List (ℕ × Act)
    after = given ++ (old.number, done.Hung) ∷ []

    most : old.number ≤ last
    most = subst (λ (s : Source). s.number ≤ last) (at old) (tells.numbers.up_to place old within)

    hung : old.is_known ≡ true → (m : ℕ) → IsGone m (remove list place) → ((m ≡ old.number) ⊎ (m ≡ old.number → ⊥)) → AreEnded (under m after)
    hung known m rest (inl e) =
        subst (λ k. AreEnded (under k after)) (sym e)
        (subst AreEnded (sym (under_same old.number given done.Hung)) (HungUp before (sym told.known ∙ known) told.none))
    hung known m rest (inr ne) =
        subst AreEnded (sym (under_other m old.number given done.Hung (λ e. ne (sym e))))
        (tells.gone m (gone_from_rest list place m old within at ne rest))

    quiet : old.is_known ≡ false → (m : ℕ) → IsGone m (remove list place) → ((m ≡ old.number) ⊎ (m ≡ old.number → ⊥)) → AreEnded (under m given)
    quiet known m rest (inl e) =
        subst (λ k. AreEnded (under k given)) (sym e) (NeverCame before (sym told.known ∙ known) told.none)
    quiet known m rest (inr ne) = tells.gone m (gone_from_rest list place m old within at ne rest)

    go : (known : Bool) → old.is_known ≡ known → Closes known old.number (remove list place) last given
    go true known = record {
      numbers = rest_numbered list last place within tells.numbers;
      told = λ k d l.
          told_still given after (get_or (remove list place) k d)
          (under_other (get_or (remove list place) k d).number old.number given done.Hung
          (λ e. rest_off list last place k d tells.numbers within l (sym e ∙ ap (λ (s : Source). s.number) (sym (at d)))))
          (rest_all (IsTold given) list place tells.told k d l);
      gone = λ m rest. hung known m rest (cases_eq m old.number);
      none = λ m above. under_other m old.number given done.Hung (λ e. omega (arith, e, above, most)) ∙ tells.none m above;
    }
    go false known = record {
      numbers = rest_numbered list last place within tells.numbers;
      told = rest_all (IsTold given) list place tells.told;
      gone = λ m rest. quiet known m rest (cases_eq m old.number);
      none = tells.none;
    }

-- what is left is the same, whatever the one at the place became
rest_same : (list : List Source) (place : ℕ) (new : Source) → remove (set list place new) place ≡ remove list place
rest_same list place new = rw (take-set list place new) (ap (λ l. take place list ++ l) (drop-set-lt (suc place) list place new (omega (arith))))

-- the source at a place is another: it is told by these acts, and so are the others
set_tells : (list : List Source) (last place : ℕ) (old_given given : List (ℕ × Act)) (old new : Source) → place < length list
    → ((d : Source) → get_or list place d ≡ old) → new.number ≡ old.number
    → ((n : ℕ) → (n ≡ old.number → ⊥) → under n given ≡ under n old_given) → IsTold given new → TellsOf list last old_given
    → TellsOf (set list place new) last given
set_tells list last place old_given given old new within at number others own tells = record {
  numbers = set_numbered list last place new within (λ d. number ∙ ap (λ (s : Source). s.number) (sym (at d))) tells.numbers;
  told = λ k d l. go k d (subst (λ n. k < n) (length-set list place new) l) (cases_eq k place);
  gone = λ m is.
      subst AreEnded
      (sym (others m (λ e. is place new (subst (λ n. place < n) (sym (length-set list place new)) within)
      (ap (λ (s : Source). s.number) (get_or-set_same list place new new within) ∙ number ∙ sym e))))
      (tells.gone m (λ k d l same. is k d (subst (λ n. k < n) (sym (length-set list place new)) l)
      (number_kept list place k new d within (number ∙ ap (λ (s : Source). s.number) (sym (at d))) ∙ same)));
  none = λ n above. others n (λ e. off n above e) ∙ tells.none n above;
}
  where
    go : (k : ℕ) (d : Source) → k < length list → ((k ≡ place) ⊎ (k ≡ place → ⊥)) → IsTold given (get_or (set list place new) k d)
    go k d l (inl e) =
        subst (λ j. IsTold given (get_or (set list place new) j d)) (sym e)
        (subst (IsTold given) (sym (get_or-set_same list place new d within)) own)
    go k d l (inr ne) =
        subst (IsTold given) (sym (get_or-set_other list place k new d ne))
        (told_still old_given given (get_or list k d)
        (others (get_or list k d).number
        (λ e. other_number list place k d tells.numbers.rise within l ne (e ∙ ap (λ (s : Source). s.number) (sym (at d)))))
        (tells.told k d l))

    off : (n : ℕ) → last < n → n ≡ old.number → ⊥
    off n above e = omega (arith, e, above, subst (λ (s : Source). s.number ≤ last) (at old) (tells.numbers.up_to place old within))

-- ---- what the sources' methods do

pub none_tells : (sources : Sources) → sources.list.items ≡ [] → Tells sources []
none_tells sources empty = record {
  numbers = record {
    rise = λ i j d lt l. absurd (none_below j l);
    first = λ k d l. absurd (none_below k l);
    up_to = λ k d l. absurd (none_below k l);
  };
  told = λ k d l. absurd (none_below k l);
  gone = λ n is. NeverCame [] refl refl;
  none = λ n above. refl;
}
  where
    none_below : (k : ℕ) → k < length sources.list.items → ⊥
    none_below k l = omega (arith, l, ap length empty)

pub came : (old new : Sources) (source : Source) (given : List (ℕ × Act)) → new.list.items ≡ old.list.items ++ source ∷ []
    → new.last ≡ old.last + 1 → source.number ≡ old.last + 1 → source.is_known ≡ false → source.is_held ≡ false
    → length (taken_by source.requests) ≡ 0
    → Tells old given → Tells new given
came old new source given list last number known unheld untouched tells =
    subst (λ l. TellsOf l new.last given) (sym list) (subst (λ n. TellsOf (old.list.items ++ source ∷ []) n given) (sym last)
    (record {
      numbers = record {
        rise = all_pairs_push (λ (a b : Source). a.number < b.number) old.list.items source tells.numbers.rise
            (λ k d l. omega (arith, number, tells.numbers.up_to k d l));
        first = All-push (λ (s : Source). 0 < s.number) old.list.items source tells.numbers.first (omega (arith, number));
        up_to = All-push (λ (s : Source). s.number ≤ old.last + 1) old.list.items source
            (All-weaker (λ (s : Source). s.number ≤ old.last) (λ (s : Source). s.number ≤ old.last + 1) (λ s l. omega (arith, l))
            old.list.items tells.numbers.up_to) (omega (arith, number));
      };
      told = All-push (IsTold given) old.list.items source tells.told
          (let none : under source.number given ≡ [] = tells.none source.number (omega (arith, number)) in
          record {
            acts = ap (λ l. l ++ held source) none ∙ held_none source unheld
                ∙ sym (ap acts_of (nil_from_length (taken_by source.requests) untouched));
            known = known ∙ sym (ap (list_any is_connect) none);
            none = ap (list_any is_hung) none;
          });
      gone = λ m is. tells.gone m
          (λ k d l same. is k d (omega (arith, l, length-append old.list.items (source ∷ [])))
          (ap (λ (s : Source). s.number) (get_or_append_left old.list.items (source ∷ []) d k l) ∙ same));
      none = λ n above. tells.none n (omega (arith, above));
    }))

-- the number that was given is not used
pub passed : (old new : Sources) (given : List (ℕ × Act)) → new.list.items ≡ old.list.items → new.last ≡ old.last + 1 → Tells old given
    → Tells new given
passed old new given list last tells =
    subst (λ l. TellsOf l new.last given) (sym list) (subst (λ n. TellsOf old.list.items n given) (sym last) (record {
      numbers = record {
        rise = tells.numbers.rise;
        first = tells.numbers.first;
        up_to = All-weaker (λ (s : Source). s.number ≤ old.last) (λ (s : Source). s.number ≤ old.last + 1) (λ s l. omega (arith, l))
            old.list.items tells.numbers.up_to;
      };
      told = tells.told;
      gone = tells.gone;
      none = λ n above. tells.none n (omega (arith, above));
    }))

-- what is found at a place where a source is
pub found : (result : Next) (before now : Sources) (place : ℕ) (given : List (ℕ × Act)) (old new : Source) → place < length before.list.items
    → ((d : Source) → get_or before.list.items place d ≡ old) → now.list.items ≡ set before.list.items place new → now.last ≡ before.last
    → new.number ≡ old.number → Takes result old new
    → new.is_known ≡ known_after result old.is_known → Tells before given
    → Finds place result now given
found result before now place given old new within at list last number takes known tells =
    let told_old : IsTold given old = subst (IsTold given) (at old) (tells.told place old within) in
    let closes = gone before.list.items before.last place given old within at tells in
    go result takes known told_old (λ same. without_it same closes)
  where
    put_in : (after : List (ℕ × Act)) → ((n : ℕ) → (n ≡ old.number → ⊥) → under n after ≡ under n given) → IsTold after new → Tells now after
    put_in after others own =
        subst (λ l. TellsOf l now.last after) (sym list) (subst (λ n. TellsOf (set before.list.items place new) n after) (sym last)
        (set_tells before.list.items before.last place given after old new within at number others own tells))

    give : (act : Act) → ((acts : List FromClient) → IsGiven acts old → IsGiven (acts ++ act_of (request_of act)) new)
        → act_of (request_of act) ≡ request_of act ∷ [] → new.is_known ≡ known_with (request_of act) old.is_known
        → is_hung (request_of act) ≡ false → IsTold given old → Tells now (given ++ (old.number, act) ∷ [])
    give act gives same known off told =
        put_in (given ++ (old.number, act) ∷ []) (λ n off. under_other n old.number given act (λ e. off (sym e)))
        (told_more given old new act number (gives (under old.number given) told.acts) same known off told)

    keep : ((acts : List FromClient) → IsGiven acts old → IsGiven acts new) → new.is_known ≡ old.is_known → IsTold given old
        → Tells now given
    keep gives known told =
        put_in given (λ n off. refl)
        (let here : under new.number given ≡ under old.number given = ap (λ n. under n given) number in
        record {
          acts = ap (λ l. l ++ held new) here ∙ gives (under old.number given) told.acts;
          known = known ∙ told.known ∙ ap (list_any is_connect) (sym here);
          none = ap (list_any is_hung) here ∙ told.none;
        })

    rest : remove now.list.items place ≡ remove before.list.items place
    rest = ap (λ l. remove l place) list ∙ rest_same before.list.items place new

    here : known_at now.list.items place ≡ new.is_known
    here =
        ap (λ l. known_at l place) list
        ∙ ap knows (slice_get-get_or (set before.list.items place new) place new
        (subst (λ n. place < n) (sym (length-set before.list.items place new)) within)
        ∙ ap (λ s. Some s) (get_or-set_same before.list.items place new new within))

    without_it : new.is_known ≡ old.is_known → (0 < old.number) × Closes old.is_known old.number (remove before.list.items place) before.last given
        → TellsWithout place old.number now given
    without_it same it = (
      it.0,
      subst (λ b. Closes b old.number (remove now.list.items place) now.last given) (sym (here ∙ same))
          (subst (λ l. Closes old.is_known old.number l now.last given) (sym rest)
          (subst (λ n. Closes old.is_known old.number (remove before.list.items place) n given) (sym last) it.1)),
    )

    first : 0 < old.number
    first = subst (λ (s : Source). 0 < s.number) (at old) (tells.numbers.first place old within)

    go : (r : Next) → Takes r old new → new.is_known ≡ known_after r old.is_known
        → IsTold given old
        → (new.is_known ≡ old.is_known → TellsWithout place old.number now given) → Finds place r now given
    go next.Nothing gives known told without = keep gives known told
    go (next.End other) both known told without = subst (λ n. TellsWithout place n now given) (sym both.0) (without known)
    go (next.Request other put.Connect) both known told without =
        subst (λ n. Owes place n put.Connect now given) (sym both.0) (first, give done.Connect both.1 refl known refl told)
    go (next.Request other (put.Read read)) both known told without =
        subst (λ n. Owes place n (put.Read read) now given) (sym both.0)
        (without known, λ draw. give (done.Said draw read) both.1 refl known refl told)
    go (next.Request other (put.Ping payload)) both known told without =
        keep (λ acts is. ap (λ l. l ++ held new) (sym (append-nil acts)) ∙ both.1 acts is) known told
    go (next.Request other put.Hung) both known told without =
        subst (λ n. TellsWithout place n now given) (sym both.0) (without known)

-- what is found at a place where a source is, while no act may be given
pub found_aside : (result : Aside) (before now : Sources) (place : ℕ) (given : List (ℕ × Act)) (old new : Source)
    → place < length before.list.items → ((d : Source) → get_or before.list.items place d ≡ old)
    → now.list.items ≡ set before.list.items place new → now.last ≡ before.last → new.number ≡ old.number
    → ((acts : List FromClient) → IsGiven acts old → IsGiven acts new) → new.is_known ≡ old.is_known
    → Forgets result old.is_known → Tells before given → FindsAside place result now given
found_aside result before now place given old new within at list last number gives known none tells = go result none
  where
    kept : Tells now given
    kept = found next.Nothing before now place given old new within at list last number gives known tells

    inside : place < length now.list.items
    inside = subst (λ l. place < length l) (sym list) (subst (λ n. place < n) (sym (length-set before.list.items place new)) within)

    there : (d : Source) → get_or now.list.items place d ≡ new
    there d = ap (λ l. get_or l place d) list ∙ get_or-set_same before.list.items place new d within

    go : (r : Aside) → Forgets r old.is_known → FindsAside place r now given
    go aside.Nothing none = kept
    go (aside.Ping payload) none = kept
    go aside.Gone none =
        subst (λ b. Closes b new.number (remove now.list.items place) now.last given) (known ∙ none)
        (gone now.list.items now.last place given new inside there kept).1

-- the connection at a place went, and nothing of it was given
pub left : (old new : Sources) (place : ℕ) (given : List (ℕ × Act)) → new.list.items ≡ remove old.list.items place → new.last ≡ old.last
    → TellsOf (remove old.list.items place) old.last given → Tells new given
left old new place given list last tells =
    subst (λ l. TellsOf l new.last given) (sym list) (subst (λ n. TellsOf (remove old.list.items place) n given) (sym last) tells)

-- the connection at a place went
pub closed : (known : Bool) (old new : Sources) (place number : ℕ) (given : List (ℕ × Act)) → known ≡ known_at old.list.items place
    → new.list.items ≡ remove old.list.items place → new.last ≡ old.last → TellsWithout place number old given
    → Closes known number new.list.items new.last given
closed known old new place number given is list last without =
    subst (λ b. Closes b number new.list.items new.last given) (sym is)
    (subst (λ l. Closes (known_at old.list.items place) number l new.last given) (sym list)
    (subst (λ n. Closes (known_at old.list.items place) number (remove old.list.items place) n given) (sym last) without.1))

-- ---- events

pub gives_none : (node : ℕ) (sources : Sources) (given : List (Event Act)) → Saw node sources given → Saw node sources (given ++ [])
gives_none node sources given saw = subst (λ l. Saw node sources l) (sym (append-nil given)) saw

asked_more : (node : ℕ) (given : List (Event Act)) (event : Event Act)
    → asked_in node (given ++ event ∷ []) ≡ asked_in node given ++ asked_by node event
asked_more node given event =
    flat_map-append (asked_by node) given (event ∷ []) ∙ ap (λ l. asked_in node given ++ l) (append-nil (asked_by node event))

pub gives_act : (node number : ℕ) (act : Act) (sources : Sources) (given : List (Event Act)) → Adds number act sources (asked_in node given)
    → Saw node sources (given ++ Take node number act ∷ [])
gives_act node number act sources given adds =
    subst (Tells sources) (sym (asked_more node given (Take node number act) ∙ ap (λ l. asked_in node given ++ l) asked)) adds.1
  where
    asked : asked_by node (Take node number act) ≡ (number, act) ∷ []
    asked = rw (eq-eqb node node refl) (rw (lt-ltb 0 number adds.0) refl)

pub gives_other : (node : ℕ) (event : Event Act) (sources : Sources) (given : List (Event Act)) → asked_by node event ≡ []
    → Saw node sources given → Saw node sources (given ++ event ∷ [])
gives_other node event sources given none saw =
    subst (Tells sources)
    (sym (asked_more node given event ∙ ap (λ l. asked_in node given ++ l) none ∙ append-nil (asked_in node given))) saw

pub gives_others : (node : ℕ) (events : List (Event Act)) (sources : Sources) (given : List (Event Act)) → asked_in node events ≡ []
    → Saw node sources given → Saw node sources (given ++ events)
gives_others node events sources given none saw =
    subst (Tells sources)
    (sym (flat_map-append (asked_by node) given events ∙ ap (λ l. asked_in node given ++ l) none ∙ append-nil (asked_in node given))) saw

-- what was said of a node and its sources is said of the same ones
pub carried : (n m : ℕ) (x y : Sources) (given : List (Event Act)) → n ≡ m → x ≡ y → Saw n x given → Saw m y given
carried n m x y given node sources saw =
    subst (λ k. Saw k y given) node (subst (λ s. Saw n s given) sources saw)
