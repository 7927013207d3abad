-- The transports that were handed something, member by member.
use Rattle.std.proofs.Common.{◌≡◌, ◌≢◌, ⊎_elim, inl, refl, sym, ap, ◌∙◌, subst, ℕ, zero, suc, ◌+◌, ◌≤◌, arith, ◌<◌}
use Rattle.std.proofs.Common.{Bool, true, false, cond, eqb, ◌&&◌, List, [], ◌∷◌, ◌++◌, length, Option, Some, None}
use Rattle.std.specs.Prelude.{⊤, slice_get, slice_index_or, All}
use Rattle.std.specs.Map.{lookup}
use Rattle.std.specs.Option.{option_map_or}
use Rattle.std.proofs.lemmas.Bool.{and_from, eq-eqb, cases_eq}
use Rattle.paxos_packets.specs.declared.entry.Entry.{Entry}
use Rattle.paxos_packets.specs.declared.packet.Packet.{Packet}
use Rattle.paxos_packets.specs.declared.transport.Transport.{Transport}
use Rattle.paxos_packets.specs.Transport.{same_transport}
use Rattle.replica_machine.specs.Replay.{Machine}
use Rattle.replica_follower.specs.Following.{Followed}
use Rattle.replica_follower.specs.Handed.{said_in, told_in, tellings, IsBefore, AreInOrder, TellAll}
use Rattle.replica_follower.proofs.Handing.{transport_is}
use Rattle.cluster_world.specs.Has.{Has, here, there}
use Rattle.cluster_world.specs.Members.{MemberState, machines_of, held_of}
use Rattle.cluster_world.specs.StandsAt.{told_by, machine_at, HandsToOwn, StandsIn}
use Rattle.cluster_world.specs.Told.{WereHanded, tell_members}
use Rattle.cluster_world.specs.World.{World, handed}
use Rattle.cluster_world.proofs.Lists.{has_left, has_right, has_cons, has_nil, has_first, has_cases}
use Rattle.cluster_world.proofs.Replacing.{get_map, get_unmap, some_same}

not_both : (t q : Transport) → IsBefore t q → IsBefore q t → ⊥
not_both t q h k =
    ⊎_elim
    (λ l. ⊎_elim (λ m. omega (arith, l, m)) (λ r. let e = r.0 in omega (arith, l, e)) k)
    (λ r. let e = r.0 in ⊎_elim (λ m. omega (arith, e, m))
    (λ s. ⊎_elim
    (λ l. ⊎_elim (λ m. omega (arith, l, m)) (λ u. let f = u.0 in omega (arith, l, f)) s.1)
    (λ v. let f = v.0 in let g = v.1 in ⊎_elim (λ m. omega (arith, f, m)) (λ u. let w = u.1 in omega (arith, g, w)) s.1)
    r.1) k)
    h

same_itself : (t : Transport) → same_transport t t ≡ true
same_itself t =
    and_from (eqb t.node t.node) (eqb t.boot t.boot && eqb t.number t.number) (eq-eqb t.node t.node refl)
    (and_from (eqb t.boot t.boot) (eqb t.number t.number) (eq-eqb t.boot t.boot refl) (eq-eqb t.number t.number refl))

all_has : {A : Type 0} (P : A → Type 0) (xs : List A) (x : A) → All P xs → Has xs x → P x
all_has P [] x h s = absurd (has_nil s)
all_has P (y ∷ xs) x h s =
    ⊎_elim (λ e. subst P e (h 0 y (omega arith))) (λ r. all_has P xs x (λ k d l. h (suc k) d (omega arith)) r) (has_cons s)

has_index : {A : Type 0} (xs : List A) (k : ℕ) (d : A) → k < length xs → Has xs (slice_index_or xs k d)
has_index [] k d l = absurd (omega arith)
has_index (x ∷ xs) zero d l = here
has_index (x ∷ xs) (suc k) d l = there (has_index xs k d (omega arith))

abbrev Tells : Type 0 → Type 0
Tells Y = List (Transport × List Y)

module _ {Y : Type 0} where
  -- in order, by what is there
  abbrev Ascend : Tells Y → Type 0
  Ascend [] = ⊤
  Ascend (p ∷ ps) = ((q : Transport × List Y) → Has ps q → IsBefore p.0 q.0) × Ascend ps

  ascend_of : (l : Tells Y) → AreInOrder l → Ascend l
  ascend_of [] h = tt
  ascend_of (p ∷ ps) h = (
    λ q s. all_has (λ z. IsBefore p.0 z.0) ps q (λ k d l. h 0 (suc k) d (omega arith) (omega arith)) s,
    ascend_of ps (λ i j d l w. h (suc i) (suc j) d (omega arith) (omega arith)),
  )

  in_order_of : (l : Tells Y) → Ascend l → AreInOrder l
  in_order_of [] h i j d l w = absurd (omega arith)
  in_order_of (p ∷ ps) h i zero d l w = absurd (omega arith)
  in_order_of (p ∷ ps) h zero (suc j) d l w = h.0 (slice_index_or ps j d) (has_index ps j d (omega arith))
  in_order_of (p ∷ ps) h (suc i) (suc j) d l w = in_order_of ps h.1 i j d (omega arith) (omega arith)

  ascend_on : (xs ys : Tells Y) → Ascend xs → Ascend ys → ((p q : Transport × List Y) → Has xs p → Has ys q → IsBefore p.0 q.0) → Ascend (xs ++ ys)
  ascend_on [] ys a b c = b
  ascend_on (x ∷ xs) ys a b c = (
    λ q s. ⊎_elim (λ l. a.0 q l) (λ r. c x q here r) (has_cases xs ys s),
    ascend_on xs ys a.1 b (λ p q s r. c p q (there s) r),
  )

  told_of : (t : Transport) (p : Transport × List Y) (ps : Tells Y) (b : Bool) → same_transport t p.0 ≡ b
      → told_in t (p ∷ ps) ≡ cond b p.1 (told_in t ps)
  told_of t p ps true e = ap (λ c. option_map_or (λ ys. ys) (cond c (Some p.1) (lookup (same_transport t) ps)) []) e
  told_of t p ps false e = ap (λ c. option_map_or (λ ys. ys) (cond c (Some p.1) (lookup (same_transport t) ps)) []) e

  -- what is there is what is listed
  has_told : (l : Tells Y) → Ascend l → (t : Transport) (ys : List Y) → Has l (t, ys) → told_in t l ≡ ys
  has_told [] h t ys s = absurd (has_nil s)
  has_told (p ∷ ps) h t ys s = go (has_told ps h.1 t ys) (same_transport t p.0) refl
    where
      go : (Has ps (t, ys) → told_in t ps ≡ ys) → (b : Bool) → same_transport t p.0 ≡ b → told_in t (p ∷ ps) ≡ ys
      go rest true e =
          told_of t p ps true e
          ∙ ⊎_elim (λ (q : p ≡ (t, ys)). ap (λ (z : Transport × List Y). z.1) q)
          (λ r. absurd (not_both t t (subst (λ z. IsBefore z t) (transport_is t p.0 e) (h.0 (t, ys) r))
          (subst (λ z. IsBefore z t) (transport_is t p.0 e) (h.0 (t, ys) r)))) (has_cons s)
      go rest false e =
          told_of t p ps false e
          ∙ ⊎_elim (λ (q : p ≡ (t, ys)). absurd (off (sym e ∙ ap (λ (z : Transport × List Y). same_transport t z.0) q ∙ same_itself t)))
          (λ r. rest r) (has_cons s)
        where
          off : false ≡ true → ⊥
          off e = cc

  told_has : (l : Tells Y) (t : Transport) → told_in t l ≢ [] → Has l (t, told_in t l)
  told_has [] t n = absurd (n refl)
  told_has (p ∷ ps) t n = go (told_has ps t) (same_transport t p.0) refl
    where
      go : (told_in t ps ≢ [] → Has ps (t, told_in t ps)) → (b : Bool) → same_transport t p.0 ≡ b → Has (p ∷ ps) (t, told_in t (p ∷ ps))
      go rest true e =
          let told = told_of t p ps true e in
          has_first ps (λ i. (transport_is t p.0 e i, sym told i))
      go rest false e =
          let told = told_of t p ps false e in
          there (subst (λ ys. Has ps (t, ys)) (sym told) (rest (λ z. n (told ∙ z))))

  -- two lists in order with the same elements are one
  one_list : (a b : Tells Y) → Ascend a → Ascend b → ((p : Transport × List Y) → Has a p → Has b p)
      → ((p : Transport × List Y) → Has b p → Has a p) → a ≡ b
  one_list [] [] h k go back = refl
  one_list [] (q ∷ b) h k go back = absurd (has_nil (back q here))
  one_list (p ∷ a) [] h k go back = absurd (has_nil (go p here))
  one_list (p ∷ a) (q ∷ b) h k go back =
      let heads : p ≡ q =
      ⊎_elim (λ e. sym e)
      (λ r. ⊎_elim (λ e. e) (λ s. absurd (not_both q.0 p.0 (k.0 p r) (h.0 q s))) (has_cons (back q here)))
      (has_cons (go p here)) in
      λ i. heads i ∷ one_list a b h.1 k.1
      (λ z s. ⊎_elim (λ (e : q ≡ z). absurd (twice p z (heads ∙ e) (h.0 z s))) (λ r. r) (has_cons (go z (there s))))
      (λ z s. ⊎_elim (λ (e : p ≡ z). absurd (twice q z (sym heads ∙ e) (k.0 z s))) (λ r. r) (has_cons (back z (there s)))) i
    where
      twice : (x y : Transport × List Y) → x ≡ y → IsBefore x.0 y.0 → ⊥
      twice x y e l = let m = subst (λ (z : Transport × List Y). IsBefore z.0 y.0) e l in not_both y.0 y.0 m m

  pub handed_is_one : {B S : Type 0} (m : Machine B S Y) (w : World B) (a b : Tells Y) → WereHanded m w a → WereHanded m w b → a ≡ b
  handed_is_one m w a b h k = one_list a b (ascend_of a h.in_order) (ascend_of b k.in_order) (over a b h k) (over b a k h)
    where
      over : (x y : Tells Y) → WereHanded m w x → WereHanded m w y → (p : Transport × List Y) → Has x p → Has y p
      over x y f g p s =
          let o = f.only p.0 p.1 s in
          subst (λ ys. Has y (p.0, ys)) (sym o.0) (g.each p.0 (λ e. o.1 (o.0 ∙ e)))

module _ {B M Y : Type 0} where
  -- of one member
  abbrev Owns : ℕ → Followed B M Y → Type 0
  Owns n f = TellAll f.told (tellings f.told) × HandsToOwn n f

  told_here : (f : Followed B M Y) → TellAll f.told (tellings f.told) → (t : Transport) (ys : List Y) → Has (tellings f.told) (t, ys)
      → said_in t f.told ≡ ys
  told_here f h t ys s = sym (h.each t) ∙ has_told (tellings f.told) (ascend_of (tellings f.told) h.in_order) t ys s

  full_here : (f : Followed B M Y) → TellAll f.told (tellings f.told) → (p : Transport × List Y) → Has (tellings f.told) p → p.1 ≢ []
  full_here f h p s = all_has (λ (z : Transport × List Y). z.1 ≢ []) (tellings f.told) p h.full s

  node_here : (n : ℕ) (f : Followed B M Y) → Owns n f → (p : Transport × List Y) → Has (tellings f.told) p → p.0.node ≡ n
  node_here n f h p s =
      ⊎_elim (λ e. e) (λ d. absurd (full_here f h.0 p s (sym (told_here f h.0 p.0 p.1 s) ∙ h.1 p.0 d))) (cases_eq p.0.node n)

  -- of all, from a number on
  abbrev AllOwn : ℕ → List (MemberState B M Y) → Type 0
  AllOwn n list = (i : ℕ) (s : MemberState B M Y) → slice_get list i ≡ Some s → Owns (n + i) s.machine

  first_owns : (n : ℕ) (s : MemberState B M Y) (list : List (MemberState B M Y)) → AllOwn n (s ∷ list) → Owns n s.machine
  first_owns n s list h = let e : n + 0 ≡ n = omega arith in subst (λ k. Owns k s.machine) e (h 0 s refl)

  others_own : (n : ℕ) (s : MemberState B M Y) (list : List (MemberState B M Y)) → AllOwn n (s ∷ list) → AllOwn (suc n) list
  others_own n s list h i x g = let e : n + suc i ≡ suc n + i = omega arith in subst (λ k. Owns k x.machine) e (h (suc i) x g)

  low : (n : ℕ) (list : List (MemberState B M Y)) → AllOwn n list → (p : Transport × List Y) → Has (tell_members list) p → n ≤ p.0.node
  low n [] h p s = absurd (has_nil s)
  low n (x ∷ list) h p s =
      ⊎_elim (λ a. let e = node_here n x.machine (first_owns n x list h) p a in omega (arith, e))
      (λ b. let l = low (suc n) list (others_own n x list h) p b in omega (arith, l))
      (has_cases (tellings x.machine.told) (tell_members list) s)

  ascend_all : (n : ℕ) (list : List (MemberState B M Y)) → AllOwn n list → Ascend (tell_members list)
  ascend_all n [] h = tt
  ascend_all n (x ∷ list) h =
      let first = first_owns n x list h in
      let others = others_own n x list h in
      ascend_on (tellings x.machine.told) (tell_members list) (ascend_of (tellings x.machine.told) first.0.in_order)
      (ascend_all (suc n) list others)
      (λ p q a b. inl (let e = node_here n x.machine first p a in let l = low (suc n) list others q b in omega (arith, e, l)))

  record Comes (n : ℕ) (list : List (MemberState B M Y)) (t : Transport) (ys : List Y) : Type 0 where
    place : ℕ
    member : MemberState B M Y
    at : slice_get list place ≡ Some member
    node : t.node ≡ n + place
    told : ys ≡ said_in t member.machine.told
    some : ys ≢ []

  comes : (n : ℕ) (list : List (MemberState B M Y)) → AllOwn n list → (t : Transport) (ys : List Y) → Has (tell_members list) (t, ys)
      → Comes n list t ys
  comes n [] h t ys s = absurd (has_nil s)
  comes n (x ∷ list) h t ys s =
      let first = first_owns n x list h in
      ⊎_elim
      (λ a. record {
        place = 0;
        member = x;
        at = refl;
        node = let e = node_here n x.machine first (t, ys) a in omega (arith, e);
        told = sym (told_here x.machine first.0 t ys a);
        some = full_here x.machine first.0 (t, ys) a;
      })
      (λ b. let c = comes (suc n) list (others_own n x list h) t ys b in
      record {
        place = suc c.place;
        member = c.member;
        at = c.at;
        node = let e = c.node in omega (arith, e);
        told = c.told;
        some = c.some;
      })
      (has_cases (tellings x.machine.told) (tell_members list) s)

  goes : (list : List (MemberState B M Y))
      → ((i : ℕ) (s : MemberState B M Y) → slice_get list i ≡ Some s → TellAll s.machine.told (tellings s.machine.told))
      → (t : Transport) (i : ℕ) (s : MemberState B M Y) → slice_get list i ≡ Some s → said_in t s.machine.told ≢ []
      → Has (tell_members list) (t, said_in t s.machine.told)
  goes [] h t i s g n = absurd (cc)
  goes (x ∷ list) h t zero s g n =
      let e = some_same g in
      let f = subst (λ (z : MemberState B M Y). TellAll z.machine.told (tellings z.machine.told)) e (h 0 x refl) in
      has_left (tell_members list)
      (subst (λ (z : MemberState B M Y). Has (tellings z.machine.told) (t, said_in t s.machine.told)) (sym e)
      (subst (λ ys. Has (tellings s.machine.told) (t, ys)) (f.each t)
      (told_has (tellings s.machine.told) t (λ q. n (sym (f.each t) ∙ q)))))
  goes (x ∷ list) h t (suc i) s g n = has_right (tellings x.machine.told) (goes list (λ j. h (suc j)) t i s g n)

  pub were_handed : {S : Type 0} (content : M → S) (loaded : List ℕ → Option S) (m : Machine B S Y) (members : ℕ)
      (list : List (MemberState B M Y)) (sent : List (Packet B)) (made : List (Entry B)) (first : List ℕ) (v : World B)
      → StandsIn content loaded m (held_of members list sent made first) v
      → ((i : ℕ) (s : MemberState B M Y) → slice_get list i ≡ Some s → TellAll s.machine.told (tellings s.machine.told))
      → WereHanded m v (tell_members list)
  were_handed content loaded m members list sent made first v h tell =
      record {
        in_order = in_order_of (tell_members list) (ascend_all 1 list own);
        only = λ t ys s. let c = comes 1 list own t ys s in
            let node : t.node ≡ suc c.place = let e = c.node in omega (arith, e) in
            (c.told ∙ (sym (told_at c.place c.member t c.at node) ∙ h.handed t), c.some);
        each = λ t n. member_of t t.node refl n (machine_at (machines_of list) t.node) refl;
      }
    where
      machine_is : (i : ℕ) (s : MemberState B M Y) → slice_get list i ≡ Some s → slice_get (machines_of list) i ≡ Some s.machine
      machine_is i s g = get_map (λ (z : MemberState B M Y). z.machine) list i s g

      own : AllOwn 1 list
      own i s g =
          let e : suc i ≡ 1 + i = omega arith in
          subst (λ k. Owns k s.machine) e (tell i s g, h.own i s.machine (machine_is i s g))

      told_at : (i : ℕ) (s : MemberState B M Y) (t : Transport) → slice_get list i ≡ Some s → t.node ≡ suc i
          → told_by (machine_at (machines_of list) t.node) t ≡ said_in t s.machine.told
      told_at i s t g e = ap (λ k. told_by (machine_at (machines_of list) k) t) e ∙ ap (λ f. told_by f t) (machine_is i s g)

      member_of : (t : Transport) (k : ℕ) → t.node ≡ k → handed m t v ≢ [] → (o : Option (Followed B M Y)) → machine_at (machines_of list) t.node ≡ o
          → Has (tell_members list) (t, handed m t v)
      member_of t k e n None q = absurd (n (sym (h.handed t) ∙ ap (λ f. told_by f t) q))
      member_of t zero e n (Some f) q = absurd (none (sym (ap (λ k. machine_at (machines_of list) k) e) ∙ q))
        where
          none : {A : Type 0} {x : A} → None ≡ Some x → ⊥
          none e = cc
      member_of t (suc i) e n (Some f) q =
          let s = get_unmap (λ (z : MemberState B M Y). z.machine) list i f (sym (ap (λ k. machine_at (machines_of list) k) e) ∙ q) in
          let said : said_in t s.0.machine.told ≡ handed m t v = sym (told_at i s.0 t s.1 e) ∙ h.handed t in
          subst (λ ys. Has (tell_members list) (t, ys)) said (goes list tell t i s.0 s.1 (λ z. n (sym said ∙ z)))
