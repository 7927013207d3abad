-- What is said to one client after another is said to each of them, and the numbers of connections keep rising.
use Rattle.std.proofs.Common.{arith, ◌≡◌, ◌<◌, ◌≤◌, ◌⊎◌, inl, inr, ⊎_elim, ℕ, ◌==◌, Bool, true, false, List, [], ◌∷◌, ◌++◌}
use Rattle.std.proofs.Common.{refl, sym, ap, subst, ◌∙◌, le_refl, length, set, get_or, if◌then◌else◌, Option, MatchOption, Result, Ok, Err, Less, Greater}
use Rattle.std.specs.List.Sorted.{IsSearchInRange, IsBinarySearchResult, IsNonDecreasingBy}
use Rattle.std.specs.Ordering.{nat_cmp, ordering_index}
use Rattle.std.specs.Result.{result_ok}
use Rattle.std.proofs.lemmas.Cmp.{ranked}
use Rattle.std.proofs.lemmas.Bool.{cases_eq, cases_order, cond-true, cond-false, ne_eqb, eq-eqb, false≢true}
use Rattle.std.proofs.lemmas.Bool.Decides.{nat_tests}
use Rattle.std.proofs.lemmas.List.{append-nil, append_assoc, get_or-set_same, get_or-set_other, length-set}
use Rattle.std.proofs.lemmas.List.Elements.{All-push, All-weaker}
use Rattle.std.proofs.lemmas.List.Quantifiers.{all_pairs_push}
use Rattle.rtrb.specs.declared.producer.Producer.{Producer}
use Rattle.rtrb.specs.Ring.{sent, known_free, SameProducer}
use Rattle.client_listener.specs.declared.items.ToClient.{ToClient}
use Rattle.realm_machine.specs.declared.sayings.say.Say.{Say}
use Rattle.serve_feed.specs.declared.lane.Lane.{Lane}
use Rattle.serve_feed.specs.Hears.{AreLined, RunsFull, Hears, Hear, nothing, one, IsAt, IsNowhere, Stays, Ends}
use Rattle.serve_feed.specs.Says.{said_one, said_to}

-- ---- one connection

same_ring : (a b : Lane) → b.sayings ≡ a.sayings → SameProducer a.sayings b.sayings
same_ring a b e = subst (λ p. SameProducer a.sayings p) (sym e) ((refl, refl, refl, refl), refl)

pub ring_then : {T A P : Type 0} → (a b c : Producer T A P) → SameProducer a b → SameProducer b c → SameProducer a c
ring_then a b c h k = ((k.0.0 ∙ h.0.0, k.0.1 ∙ h.0.1, k.0.2 ∙ h.0.2, k.0.3 ∙ h.0.3), k.1 ∙ h.1)

pub hears_ended : (said : List ToClient) (lane : Lane) → lane.is_ended ≡ true → Hears said lane lane
hears_ended said lane is = record {
  number = refl;
  ring = same_ring lane lane refl;
  all = λ e. absurd (false≢true (sym e ∙ is));
  ended = λ e. (is, refl);
  full = λ e. inl is;
}

pub hears_put : (saying : ToClient) (old new : Lane) → new.number ≡ old.number → SameProducer old.sayings new.sayings → old.is_ended ≡ false
    → new.is_ended ≡ false → sent new.sayings ≡ sent old.sayings ++ saying ∷ [] → Hears (saying ∷ []) old new
hears_put saying old new number ring was is put = record {
  number = number;
  ring = ring;
  all = λ e. (was, put);
  ended = λ e. absurd (false≢true (sym was ∙ e));
  full = λ e. absurd (false≢true (sym is ∙ e));
}

-- there was no room, so the connection was ended
pub hears_refused : (saying : ToClient) (old middle new : Lane) → middle.number ≡ old.number → SameProducer old.sayings middle.sayings
    → old.is_ended ≡ false → sent middle.sayings ≡ sent old.sayings → known_free middle.sayings ≡ 0 → Ends middle new
    → Hears (saying ∷ []) old new
hears_refused saying old middle new number ring was same none ends = record {
  number = ends.number ∙ number;
  ring = ring_then old.sayings middle.sayings new.sayings ring (same_ring middle new ends.sayings);
  all = λ e. absurd (false≢true (sym e ∙ ends.is_ended));
  ended = λ e. absurd (false≢true (sym was ∙ e));
  full = λ e. inr (
    [],
    saying,
    [],
    refl,
    ap (λ p. sent p) ends.sayings ∙ same ∙ sym (append-nil (sent old.sayings)),
    ap (λ p. known_free p) ends.sayings ∙ none,
  );
}

pub stays_hears : (old new : Lane) → Stays old new → Hears [] old new
stays_hears old new stays = record {
  number = stays.number;
  ring = same_ring old new stays.sayings;
  all = λ e. (sym stays.is_ended ∙ e, ap (λ p. sent p) stays.sayings ∙ sym (append-nil (sent old.sayings)));
  ended = λ e. (stays.is_ended ∙ e, stays.sayings);
  full = λ e. inl (sym stays.is_ended ∙ e);
}

-- the ring was full before, or is by what is said then
full_before : (before after : List ToClient) (a b c : Lane) → c.sayings ≡ b.sayings → RunsFull before a b → RunsFull (before ++ after) a c
full_before before after a b c same (front, saying, rest, parts, put, none) = (
  front,
  saying,
  rest ++ after,
  sym (append_assoc front (saying ∷ rest) after) ∙ ap (λ l. l ++ after) parts,
  ap (λ p. sent p) same ∙ put,
  ap (λ p. known_free p) same ∙ none,
)

full_after : (before after : List ToClient) (a b c : Lane) → sent b.sayings ≡ sent a.sayings ++ before → RunsFull after b c
    → RunsFull (before ++ after) a c
full_after before after a b c all (front, saying, rest, parts, put, none) = (
  before ++ front,
  saying,
  rest,
  append_assoc before front (saying ∷ rest) ∙ ap (λ l. before ++ l) parts,
  put ∙ ap (λ l. l ++ front) all ∙ append_assoc (sent a.sayings) before front,
  none,
)

pub hears_then : (before after : List ToClient) (a b c : Lane) → Hears before a b → Hears after b c → Hears (before ++ after) a c
hears_then before after a b c h k = record {
  number = k.number ∙ h.number;
  ring = ring_then a.sayings b.sayings c.sayings h.ring k.ring;
  all = λ e. (
    (h.all (k.all e).0).0,
    (k.all e).1 ∙ ap (λ l. l ++ after) (h.all (k.all e).0).1 ∙ append_assoc (sent a.sayings) before after,
  );
  ended = λ e. ((k.ended (h.ended e).0).0, (k.ended (h.ended e).0).1 ∙ (h.ended e).1);
  full = λ e. ends b.is_ended refl e;
}
  where
    ends : (is : Bool) → b.is_ended ≡ is → c.is_ended ≡ true → (a.is_ended ≡ true) ⊎ RunsFull (before ++ after) a c
    ends true is e = ⊎_elim (λ was. inl was) (λ full. inr (full_before before after a b c (k.ended is).1 full)) (h.full is)
    ends false is e =
        ⊎_elim (λ was. absurd (false≢true (sym is ∙ was))) (λ full. inr (full_after before after a b c (h.all is).1 full)) (k.full e)

pub hears_stays : (said : List ToClient) (a b c : Lane) → Hears said a b → Stays b c → Hears said a c
hears_stays said a b c h stays =
    subst (λ l. Hears l a c) (append-nil said) (hears_then said [] a b c h (stays_hears b c stays))

-- ---- numbers that rise

pub lined_later : (lanes : List Lane) (last later : ℕ) → last ≤ later → AreLined lanes last → AreLined lanes later
lined_later lanes last later le lined = record {
  rise = lined.rise;
  up_to = All-weaker (λ (lane : Lane). lane.number ≤ last) (λ (lane : Lane). lane.number ≤ later) (λ lane l. omega (arith, l, le)) lanes lined.up_to;
}

lined_push : (lanes : List Lane) (lane : Lane) (last later : ℕ) → last < later → lane.number ≡ later → AreLined lanes last
    → AreLined (lanes ++ lane ∷ []) later
lined_push lanes lane last later lt number lined = record {
  rise = all_pairs_push (λ (a b : Lane). a.number < b.number) lanes lane lined.rise (λ k d l. omega (arith, number, lt, lined.up_to k d l));
  up_to = All-push (λ (lane : Lane). lane.number ≤ later) lanes lane (lined_later lanes last later (omega (arith, lt)) lined).up_to
      (omega (arith, number));
}

-- a connection comes, unless memory runs out
pub lined_come : (old new : List Lane) (lane : Lane) (comes : Bool) (last later : ℕ) → new ≡ (if comes then old ++ lane ∷ [] else old)
    → last < later → lane.number ≡ later → AreLined old last → AreLined new later
lined_come old new lane true last later is lt number lined =
    subst (λ l. AreLined l later) (sym is) (lined_push old lane last later lt number lined)
lined_come old new lane false last later is lt number lined =
    subst (λ l. AreLined l later) (sym is) (lined_later old last later (omega (arith, lt)) lined)

-- ---- one connection is changed

-- what holds of the one at the place, and of the others, holds of each
at_each : (lanes : List Lane) (place : ℕ) (new : Lane) (P : Lane → Lane → Type 0) → place < length lanes
    → ((d : Lane) → P (get_or lanes place d) new) → ((k : ℕ) (d : Lane) → k < length lanes → (k ≡ place → ⊥) → P (get_or lanes k d) (get_or lanes k d))
    → (k : ℕ) (d : Lane) → k < length lanes → P (get_or lanes k d) (get_or (set lanes place new) k d)
at_each lanes place new P within own others k d l = go (cases_eq k place)
  where
    go : ((k ≡ place) ⊎ (k ≡ place → ⊥)) → P (get_or lanes k d) (get_or (set lanes place new) k d)
    go (inl e) =
        subst (λ i. P (get_or lanes i d) (get_or (set lanes place new) i d)) (sym e)
        (subst (λ lane. P (get_or lanes place d) lane) (sym (get_or-set_same lanes place new d within)) (own d))
    go (inr off) = subst (λ lane. P (get_or lanes k d) lane) (sym (get_or-set_other lanes place k new d off)) (others k d l off)

-- the one at the place becomes another of its number
pub lined_set : (lanes : List Lane) (place last : ℕ) (old new : Lane) → place < length lanes → ((d : Lane) → get_or lanes place d ≡ old)
    → new.number ≡ old.number → AreLined lanes last → AreLined (set lanes place new) last
lined_set lanes place last old new within at same lined = record {
  rise = λ i j d lt l.
      let m : j < length lanes = subst (λ n. j < n) (length-set lanes place new) l in
      omega (arith, number i d (omega (arith, lt, m)), number j d m, lined.rise i j d lt m);
  up_to = λ k d l.
      let m : k < length lanes = subst (λ n. k < n) (length-set lanes place new) l in
      omega (arith, number k d m, lined.up_to k d m);
}
  where
    number : (k : ℕ) (d : Lane) → k < length lanes → (get_or (set lanes place new) k d).number ≡ (get_or lanes k d).number
    number =
        at_each lanes place new (λ (a b : Lane). b.number ≡ a.number) within
        (λ d. same ∙ ap (λ (lane : Lane). lane.number) (sym (at d))) (λ k d l off. refl)

itself : (lane : Lane) → Hears [] lane lane
itself lane = stays_hears lane lane (record { number = refl; is_ended = refl; sayings = refl })

one_here : (number other : ℕ) (saying : ToClient) → other ≡ number → one number saying other ≡ saying ∷ []
one_here number other saying same = cond-true (other == number) (saying ∷ []) [] (eq-eqb other number same)

one_elsewhere : (number other : ℕ) (saying : ToClient) → (other ≡ number → ⊥) → one number saying other ≡ []
one_elsewhere number other saying off = cond-false (other == number) (saying ∷ []) [] (ne_eqb other number off)

-- no other connection has the number of the one at this place
other_number : (lanes : List Lane) (place k last : ℕ) (d : Lane) → AreLined lanes last → place < length lanes → k < length lanes
    → (k ≡ place → ⊥) → (get_or lanes k d).number ≡ (get_or lanes place d).number → ⊥
other_number lanes place k last d lined within l off same = go (cases_order k place)
  where
    go : ((k ≡ place) ⊎ ((k < place) ⊎ (place < k))) → ⊥
    go (inl e) = off e
    go (inr (inl below)) = omega (arith, lined.rise k place d below within, same)
    go (inr (inr more)) = omega (arith, lined.rise place k d more l, same)

-- ---- all connections

pub hear_same : (lanes : List Lane) → Hear nothing lanes lanes
hear_same lanes = record { same = refl; each = λ k d l. itself (get_or lanes k d) }

pub hear_nowhere : (lanes : List Lane) (number : ℕ) (saying : ToClient) → IsNowhere lanes number → Hear (one number saying) lanes lanes
hear_nowhere lanes number saying off = record {
  same = refl;
  each = λ k d l.
      let lane = get_or lanes k d in
      subst (λ said. Hears said lane lane) (sym (one_elsewhere number lane.number saying (off k d l))) (itself lane);
}

pub hear_at : (lanes : List Lane) (number place last : ℕ) (saying : ToClient) (old new : Lane) → AreLined lanes last → IsAt lanes number place
    → ((d : Lane) → get_or lanes place d ≡ old) → Hears (saying ∷ []) old new → Hear (one number saying) lanes (set lanes place new)
hear_at lanes number place last saying old new lined is at hears = record {
  same = length-set lanes place new;
  each = at_each lanes place new (λ (a b : Lane). Hears (one number saying a.number) a b) is.within own others;
}
  where
    own : (d : Lane) → Hears (one number saying (get_or lanes place d).number) (get_or lanes place d) new
    own d =
        subst (λ said. Hears said (get_or lanes place d) new) (sym (one_here number (get_or lanes place d).number saying (is.has d)))
        (subst (λ lane. Hears (saying ∷ []) lane new) (sym (at d)) hears)

    others : (k : ℕ) (d : Lane) → k < length lanes → (k ≡ place → ⊥)
        → Hears (one number saying (get_or lanes k d).number) (get_or lanes k d) (get_or lanes k d)
    others k d l off =
        subst (λ said. Hears said (get_or lanes k d) (get_or lanes k d))
        (sym (one_elsewhere number (get_or lanes k d).number saying
        (λ e. other_number lanes place k last d lined is.within l off (e ∙ sym (is.has d)))))
        (itself (get_or lanes k d))

pub hear_stays : (lanes : List Lane) (place : ℕ) (old new : Lane) → place < length lanes → ((d : Lane) → get_or lanes place d ≡ old)
    → Stays old new → Hear nothing lanes (set lanes place new)
hear_stays lanes place old new within at stays = record {
  same = length-set lanes place new;
  each = at_each lanes place new (λ (a b : Lane). Hears [] a b) within
      (λ d. subst (λ lane. Hears [] lane new) (sym (at d)) (stays_hears old new stays)) (λ k d l off. itself (get_or lanes k d));
}

pub hear_then : (before after : ℕ → List ToClient) (a b c : List Lane) → Hear before a b → Hear after b c
    → Hear (λ number. before number ++ after number) a c
hear_then before after a b c h k = record {
  same = k.same ∙ h.same;
  each = λ i d l.
      let here = h.each i d l in
      let number = (get_or a i d).number in
      hears_then (before number) (after number) (get_or a i d) (get_or b i d) (get_or c i d) here
      (subst (λ n. Hears (after n) (get_or b i d) (get_or c i d)) here.number (k.each i d (omega (arith, l, h.same))));
}

pub hear_quiet : (said : ℕ → List ToClient) (a b c : List Lane) → Hear said a b → Hear nothing b c → Hear said a c
hear_quiet said a b c h k = record {
  same = k.same ∙ h.same;
  each = λ i d l.
      subst (λ said. Hears said (get_or a i d) (get_or c i d)) (append-nil (said (get_or a i d).number))
      ((hear_then said nothing a b c h k).each i d l);
}

-- ---- searching

ranks_rise : (a b number : ℕ) → a < b → ordering_index (nat_cmp a number) ≤ ordering_index (nat_cmp b number)
ranks_rise a b number rises = grind (arith, nat_tests)

comparisons_rise : (lanes : List Lane) (last number : ℕ) → AreLined lanes last
    → IsNonDecreasingBy (λ (lane : Lane). ordering_index (nat_cmp lane.number number)) lanes
comparisons_rise lanes last number lined i j d le within = go (cases_order i j)
  where
    go : ((i ≡ j) ⊎ ((i < j) ⊎ (j < i)))
        → ordering_index (nat_cmp (get_or lanes i d).number number) ≤ ordering_index (nat_cmp (get_or lanes j d).number number)
    go (inl e) =
        subst (λ k. ordering_index (nat_cmp (get_or lanes i d).number number) ≤ ordering_index (nat_cmp (get_or lanes k d).number number)) e
        (le_refl (ordering_index (nat_cmp (get_or lanes i d).number number)))
    go (inr (inl below)) = ranks_rise (get_or lanes i d).number (get_or lanes j d).number number (lined.rise i j d below within)
    go (inr (inr above)) = absurd (omega (arith, le, above))

-- a binary search ends at the place of the number, or no connection has it
found_at : (lanes : List Lane) (number : ℕ) (r : Result ℕ ℕ) → IsSearchInRange r (length lanes)
    → IsBinarySearchResult (λ (lane : Lane). nat_cmp lane.number number) lanes r
    → MatchOption (result_ok r) ((last : ℕ) → AreLined lanes last → IsNowhere lanes number) (IsAt lanes number)
found_at lanes number (Ok at) in_range equal = record {
  within = in_range;
  has = λ d. ranked (get_or lanes at d).number number _ (sym (equal d));
}
found_at lanes number (Err at) in_range parted = λ last lined k d l same. none last lined k d l same (cases_order k at)
  where
    above : (last : ℕ) → AreLined lanes last → (k : ℕ) (d : Lane) → k < length lanes → at ≤ k → number < (get_or lanes k d).number
    above last lined k d l le =
        ranked (get_or lanes k d).number number Greater (sym ((parted (comparisons_rise lanes last number lined)).1 k d le l))

    below : (last : ℕ) → AreLined lanes last → (k : ℕ) (d : Lane) → k < at → (get_or lanes k d).number < number
    below last lined k d lt =
        ranked (get_or lanes k d).number number Less (sym ((parted (comparisons_rise lanes last number lined)).0 k d (omega arith) lt))

    none : (last : ℕ) → AreLined lanes last → (k : ℕ) (d : Lane) → k < length lanes → (get_or lanes k d).number ≡ number
        → ((k ≡ at) ⊎ ((k < at) ⊎ (at < k))) → ⊥
    none last lined k d l same (inl e) = omega (arith, same, above last lined k d l (omega (arith, e)))
    none last lined k d l same (inr (inl lt)) = omega (arith, same, below last lined k d lt)
    none last lined k d l same (inr (inr more)) = omega (arith, same, above last lined k d l (omega (arith, more)))

pub placed : (lanes : List Lane) (number : ℕ) (r : Result ℕ ℕ) (o : Option ℕ) → o ≡ result_ok r → IsSearchInRange r (length lanes)
    → IsBinarySearchResult (λ (lane : Lane). nat_cmp lane.number number) lanes r
    → MatchOption o ((last : ℕ) → AreLined lanes last → IsNowhere lanes number) (IsAt lanes number)
placed lanes number r o same in_range by_number =
    subst (λ o. MatchOption o ((last : ℕ) → AreLined lanes last → IsNowhere lanes number) (IsAt lanes number)) (sym same)
    (found_at lanes number r in_range by_number)

-- ---- a run of sayings

pub hear_none : (node boot : ℕ) (says : List Say) (lanes : List Lane) → length says ≡ 0 → Hear (said_to node boot says) lanes lanes
hear_none node boot [] lanes none = hear_same lanes
hear_none node boot (say ∷ says) lanes none = absurd (omega (arith, none))

-- one saying, under the node's number and boot as they are then, and then the rest
pub hear_next : (node boot n m : ℕ) (says rest : List Say) (say : Say) (a b c : List Lane) → says ≡ say ∷ rest → n ≡ node → m ≡ boot
    → Hear (said_one n m say) a b → Hear (said_to node boot rest) b c → Hear (said_to node boot says) a c
hear_next node boot n m says rest say a b c is same_node same_boot h k =
    subst (λ (l : List Say). Hear (said_to node boot l) a c) (sym is)
    (hear_then (said_one node boot say) (said_to node boot rest) a b c
    (subst (λ i. Hear (said_one node i say) a b) same_boot (subst (λ i. Hear (said_one i m say) a b) same_node h)) k)
