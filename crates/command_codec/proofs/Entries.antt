-- Entries as octets: what is spelled is read again, and what is read was spelled so.
use Rattle.std.proofs.Common.{◌≡◌, ℕ, Bool, true, false, ◌&&◌, cond, eqb, refl, sym, ap, ◌∙◌, subst, List, [], ◌∷◌, ◌++◌}
use Rattle.std.proofs.Common.{Ok, Err, ◌≢◌, length, Option, Some, None, arith, lit<}
use Rattle.std.proofs.lemmas.Bool.{false≢true, eqb-true, and_parts, and_from}
use Rattle.std.proofs.lemmas.List.{append_assoc, append-nil}
use Rattle.paxos_packets.specs.declared.entry.Entry.{Entry}
use Rattle.paxos_packets.specs.declared.entry.Entry.TheVariants.{Noop, Boot, Lost, Item}
use Rattle.command_codec.specs.declared.fault.CodecFault.{CodecFault}
use Rattle.command_codec.specs.declared.fault.CodecFault.TheVariants.{Short, Tag, Range, Rest, Memory}
use Rattle.command_codec.specs.Coder.{AreOctets, and_then, IsReadAgain, IsSpelled}
use Rattle.command_codec.specs.Number.{Reading, number_octets, number_reading, is_within, node_form, boot_form, seq_form, transport_form}
use Rattle.command_codec.specs.Entry.{boot_octets, is_boot_spelled, boot_spelling, item_octets, is_item_spelled, numbers_spelling, joined}
use Rattle.command_codec.specs.Entry.{entry_spelling, boot_front, item_front, entry_front}
use Rattle.command_codec.specs.Laws.{AreApart}
use Rattle.command_codec.proofs.Numbers.{same_ok, number_again, number_spelled}

behind : (front rest : List ℕ) → AreOctets (front ++ rest) → AreOctets rest
behind [] rest all = all
behind (o ∷ front) rest all = behind front rest all.1

pub left_of : (octets front rest : List ℕ) → octets ≡ front ++ rest → AreOctets octets → AreOctets rest
left_of octets front rest is all = behind front rest (subst AreOctets is all)

-- a spelling that is there if a test holds
pub where_spelled : (b : Bool) (o octets : List ℕ) → cond b (Some o) None ≡ Some octets → (b ≡ true) × (octets ≡ o)
where_spelled true o octets h = (refl, cc)
where_spelled false o octets h = cc

pub joined_parts : (f b : Option (List ℕ)) (octets : List ℕ) → joined f b ≡ Some octets
    → (front : List ℕ) × (next : List ℕ) × (f ≡ Some front) × (b ≡ Some next) × (octets ≡ front ++ next)
joined_parts None b octets h = cc
joined_parts (Some f) None octets h = cc
joined_parts (Some f) (Some b) octets h = (f, b, refl, refl, cc)

pub then_parts : {A C : Type 0} (r : Reading A) (next : A → List ℕ → Reading C) (v : C) (rest : List ℕ) → and_then r next ≡ Ok (v, rest)
    → (x : A) × (mid : List ℕ) × (r ≡ Ok (x, mid)) × (next x mid ≡ Ok (v, rest))
then_parts (Ok p) next v rest h = (p.0, p.1, refl, h)
then_parts (Err f) next v rest h = cc

boot_again : (node boot : ℕ) (rest : List ℕ) → is_boot_spelled node boot ≡ true
    → boot_front (boot_octets node boot ++ rest) ≡ Ok ((node, boot), rest)
boot_again node boot rest h =
    let p = and_parts (is_within node_form node) (is_within boot_form boot) h in
    ap boot_front (append_assoc (number_octets node_form node) (number_octets boot_form boot) rest)
    ∙ ap (λ r. and_then r (λ n left. and_then (number_reading boot_form left) (λ b left. Ok ((n, b), left)))) (number_again node_form node
    (number_octets boot_form boot ++ rest) (lit< tt) p.0)
    ∙ ap (λ r. and_then r (λ b left. Ok ((node, b), left))) (number_again boot_form boot rest (lit< tt) p.1)

boot_spelled : (octets rest : List ℕ) (of : ℕ × ℕ) → AreOctets octets → boot_front octets ≡ Ok (of, rest)
    → (is_boot_spelled of.0 of.1 ≡ true) × (octets ≡ boot_octets of.0 of.1 ++ rest)
boot_spelled octets rest of all h =
    let p = then_parts (number_reading node_form octets) (λ n left. and_then (number_reading boot_form left) (λ b left. Ok
    ((n, b), left))) of rest h in
    let q = then_parts (number_reading boot_form p.1) (λ b left. Ok ((p.0, b), left)) of rest p.3 in
    let node = number_spelled node_form 0 p.0 octets p.1 refl all p.2 in
    let boot = number_spelled boot_form 7 q.0 p.1 q.1 refl (left_of octets (number_octets node_form p.0) p.1 node.1 all) q.2 in
    let of_is : (p.0, q.0) ≡ of = (same_ok (p.0, q.0) of q.1 rest q.3).0 in
    let left : q.1 ≡ rest = (same_ok (p.0, q.0) of q.1 rest q.3).1 in
    subst (λ (x : ℕ × ℕ). (is_boot_spelled x.0 x.1 ≡ true) × (octets ≡ boot_octets x.0 x.1 ++ rest)) of_is (
      and_from (is_within node_form p.0) (is_within boot_form q.0) node.0 boot.0,
      node.1 ∙ ap (λ l. number_octets node_form p.0 ++ l) (boot.1 ∙ ap (λ l. number_octets boot_form q.0 ++ l) left)
          ∙ sym (append_assoc (number_octets node_form p.0) (number_octets boot_form q.0) rest),
    )

refused : {B : Type 0} {e : Entry B} {P : Type 0} (fault : CodecFault) → ◌≡◌ {A = Reading (Entry B)} (Ok (e, [])) (Err fault) → P
refused fault h = cc

module _ {B : Type 0} (spelling : B → Option (List ℕ)) (reading : List ℕ → Reading B) (again : IsReadAgain spelling reading)
    (spelled : IsSpelled spelling reading) where
  item_again : (node boot seq transport : ℕ) (body : B) (o rest : List ℕ) → is_item_spelled node boot seq transport ≡ true
      → spelling body ≡ Some o
      → item_front reading ((item_octets node boot seq transport ++ o) ++ rest) ≡ Ok (Item node boot seq transport body, rest)
  item_again node boot seq transport body o rest h s =
      let p = and_parts (is_boot_spelled node boot && is_within seq_form seq) (is_within transport_form transport) h in
      let q = and_parts (is_boot_spelled node boot) (is_within seq_form seq) p.0 in
      let front = boot_octets node boot in
      let ss = number_octets seq_form seq in
      let ts = number_octets transport_form transport in
      let spread : (((front ++ (ss ++ ts)) ++ o) ++ rest) ≡ front ++ (ss ++ (ts ++ (o ++ rest))) = simp append_assoc in
      ap (item_front reading) spread
      ∙ ap (λ r. and_then r (λ of left. and_then (number_reading seq_form left) (λ q left. and_then (number_reading transport_form left)
      (λ t left. and_then (reading left) (λ x left. Ok (Item of.0 of.1 q t x, left)))))) (boot_again node boot (ss ++ (ts ++
      (o ++ rest))) q.0)
      ∙ ap (λ r. and_then r (λ q left. and_then (number_reading transport_form left) (λ t left. and_then (reading left) (λ x left. Ok
      (Item node boot q t x, left))))) (number_again seq_form seq (ts ++ (o ++ rest)) (lit< tt) q.1)
      ∙ ap (λ r. and_then r (λ t left. and_then (reading left) (λ x left. Ok (Item node boot seq t x, left))))
      (number_again transport_form transport (o ++ rest) (lit< tt) p.1)
      ∙ ap (λ r. and_then r (λ x left. Ok (Item node boot seq transport x, left))) (again body o rest s)

  pub entry_again : IsReadAgain (entry_spelling spelling) (entry_front reading)
  entry_again Noop octets rest h = let e : octets ≡ 0 ∷ [] = cc in ap (λ o. entry_front reading (o ++ rest)) e
  entry_again (Boot node boot) octets rest h =
      let w = where_spelled (is_boot_spelled node boot) (1 ∷ boot_octets node boot) octets h in
      ap (λ o. entry_front reading (o ++ rest)) w.1
      ∙ ap (λ r. and_then r (λ of left. Ok (Boot of.0 of.1, left))) (boot_again node boot rest w.0)
  entry_again (Lost node boot) octets rest h =
      let w = where_spelled (is_boot_spelled node boot) (2 ∷ boot_octets node boot) octets h in
      ap (λ o. entry_front reading (o ++ rest)) w.1
      ∙ ap (λ r. and_then r (λ of left. Ok (Lost of.0 of.1, left))) (boot_again node boot rest w.0)
  entry_again (Item node boot seq transport body) octets rest h =
      let j = joined_parts (numbers_spelling node boot seq transport) (spelling body) octets h in
      let w = where_spelled (is_item_spelled node boot seq transport) (3 ∷ item_octets node boot seq transport) j.0 j.2 in
      ap (λ o. entry_front reading (o ++ rest)) (j.4 ∙ ap (λ f. f ++ j.1) w.1) ∙ item_again node boot seq transport body j.1 rest w.0 j.3

  -- what is read, is spelled by the octets in front of what is left
  abbrev Spells : List ℕ → Entry B → List ℕ → Type 0
  Spells octets e rest = (front : List ℕ) × (entry_spelling spelling e ≡ Some front) × (octets ≡ front ++ rest)

  boot_of : (tag : ℕ) (make : ℕ → ℕ → Entry B) (same : (n b : ℕ) → entry_spelling spelling (make n b) ≡ boot_spelling tag n b)
      (octets rest : List ℕ) (e : Entry B)
      → AreOctets octets
      → and_then (boot_front octets) (λ of left. Ok (make of.0 of.1, left)) ≡ Ok (e, rest) → Spells (tag ∷ octets) e rest
  boot_of tag make same octets rest e all h =
      let p = then_parts (boot_front octets) (λ of left. Ok (make of.0 of.1, left)) e rest h in
      let b = boot_spelled octets p.1 p.0 all p.2 in
      let made : make p.0.0 p.0.1 ≡ e = (same_ok (make p.0.0 p.0.1) e p.1 rest p.3).0 in
      let left : p.1 ≡ rest = (same_ok (make p.0.0 p.0.1) e p.1 rest p.3).1 in (
        tag ∷ boot_octets p.0.0 p.0.1,
        ap (entry_spelling spelling) (sym made) ∙ same p.0.0 p.0.1 ∙ ap (λ t. cond t (Some (tag ∷ boot_octets p.0.0 p.0.1)) None) b.0,
        ap (λ l. tag ∷ l) (b.1 ∙ ap (λ l. boot_octets p.0.0 p.0.1 ++ l) left),
      )

  item_of : (octets rest : List ℕ) (e : Entry B) → AreOctets octets → item_front reading octets ≡ Ok (e, rest) → Spells (3 ∷ octets) e rest
  item_of octets rest e all h =
      let p = then_parts (boot_front octets) (λ of left. and_then (number_reading seq_form left) (λ q left. and_then
      (number_reading transport_form left) (λ t left. and_then (reading left) (λ x left. Ok
      (Item of.0 of.1 q t x, left))))) e rest h in
      let q = then_parts (number_reading seq_form p.1) (λ q left. and_then (number_reading transport_form left) (λ t left. and_then
      (reading left) (λ x left. Ok (Item p.0.0 p.0.1 q t x, left)))) e rest p.3 in
      let r = then_parts (number_reading transport_form q.1) (λ t left. and_then (reading left) (λ x left. Ok
      (Item p.0.0 p.0.1 q.0 t x, left))) e rest q.3 in
      let s = then_parts (reading r.1) (λ x left. Ok (Item p.0.0 p.0.1 q.0 r.0 x, left)) e rest r.3 in
      let front = boot_octets p.0.0 p.0.1 in
      let ss = number_octets seq_form q.0 in
      let ts = number_octets transport_form r.0 in
      let boot = boot_spelled octets p.1 p.0 all p.2 in
      let all_seq = left_of octets front p.1 boot.1 all in
      let seq = number_spelled seq_form 7 q.0 p.1 q.1 refl all_seq q.2 in
      let all_transport = left_of p.1 ss q.1 seq.1 all_seq in
      let transport = number_spelled transport_form 3 r.0 q.1 r.1 refl all_transport r.2 in
      let body = spelled s.0 r.1 s.1 (left_of q.1 ts r.1 transport.1 all_transport) s.2 in
      let made : Item p.0.0 p.0.1 q.0 r.0 s.0 ≡ e = (same_ok (Item p.0.0 p.0.1 q.0 r.0 s.0) e s.1 rest s.3).0 in
      let left : s.1 ≡ rest = (same_ok (Item p.0.0 p.0.1 q.0 r.0 s.0) e s.1 rest s.3).1 in
      let test = and_from (is_boot_spelled p.0.0 p.0.1 && is_within seq_form q.0) (is_within transport_form r.0)
      (and_from (is_boot_spelled p.0.0 p.0.1) (is_within seq_form q.0) boot.0 seq.0) transport.0 in
      let numbers = 3 ∷ (front ++ (ss ++ ts)) in
      let is : octets ≡ front ++ (ss ++ (ts ++ (body.0 ++ rest))) =
      boot.1 ∙ ap (λ l. front ++ l) (seq.1 ∙ ap (λ l. ss ++ l) (transport.1 ∙ ap (λ l. ts ++ l) (body.2 ∙ ap (λ l. body.0 ++ l) left))) in
      let spread : ((front ++ (ss ++ ts)) ++ body.0) ++ rest ≡ front ++ (ss ++ (ts ++ (body.0 ++ rest))) = simp append_assoc in (
        numbers ++ body.0,
        ap (entry_spelling spelling) (sym made)
            ∙ ap (λ t. joined (cond t (Some numbers) None) (spelling s.0)) test
            ∙ ap (λ o. joined (Some numbers) o) body.1,
        ap (λ l. 3 ∷ l) (is ∙ sym spread),
      )

  pub entry_spelled : IsSpelled (entry_spelling spelling) (entry_front reading)
  entry_spelled e [] rest all h = cc
  entry_spelled e (tag ∷ octets) rest all h = noop (eqb tag 0) refl h
    where
      item : (b : Bool) → eqb tag 3 ≡ b → cond b (item_front reading octets) (Err Tag) ≡ Ok (e, rest) → Spells (tag ∷ octets) e rest
      item true t h = subst (λ n. Spells (n ∷ octets) e rest) (sym (eqb-true tag 3 t)) (item_of octets rest e all.1 h)
      item false t h = cc

      lost : (b : Bool) → eqb tag 2 ≡ b
          → cond b (and_then (boot_front octets) (λ of left. Ok (Lost of.0 of.1, left))) (cond (eqb tag 3) (item_front reading octets)
          (Err Tag)) ≡ Ok (e, rest)
          → Spells (tag ∷ octets) e rest
      lost true t h = subst (λ n. Spells (n ∷ octets) e rest) (sym (eqb-true tag 2 t)) (boot_of 2 Lost (λ n b. refl) octets rest e all.1 h)
      lost false t h = item (eqb tag 3) refl h

      boot : (b : Bool) → eqb tag 1 ≡ b
          → cond b (and_then (boot_front octets) (λ of left. Ok (Boot of.0 of.1, left))) (cond (eqb tag 2) (and_then (boot_front octets)
          (λ of left. Ok (Lost of.0 of.1, left))) (cond (eqb tag 3) (item_front reading octets) (Err Tag))) ≡ Ok (e, rest)
          → Spells (tag ∷ octets) e rest
      boot true t h = subst (λ n. Spells (n ∷ octets) e rest) (sym (eqb-true tag 1 t)) (boot_of 1 Boot (λ n b. refl) octets rest e all.1 h)
      boot false t h = lost (eqb tag 2) refl h

      noop : (b : Bool) → eqb tag 0 ≡ b
          → cond b (Ok (Noop, octets)) (cond (eqb tag 1) (and_then (boot_front octets) (λ of left. Ok (Boot of.0 of.1, left))) (cond
          (eqb tag 2) (and_then (boot_front octets) (λ of left. Ok (Lost of.0 of.1, left))) (cond (eqb tag 3)
          (item_front reading octets) (Err Tag)))) ≡ Ok (e, rest)
          → Spells (tag ∷ octets) e rest
      noop true t h =
          let same = same_ok {A = Entry B} Noop e octets rest h in
          (0 ∷ [], ap (entry_spelling spelling) (sym same.0), ap (λ n. n ∷ octets) (eqb-true tag 0 t) ∙ ap (λ l. 0 ∷ l) same.1)
      noop false t h = boot (eqb tag 1) refl h

  pub entries_apart : AreApart (entry_spelling spelling)
  entries_apart x y u v p q hx hy same =
      (same_ok x y p q (sym (entry_again x u p hx) ∙ ap (entry_front reading) same ∙ entry_again y v q hy)).0

  -- octets that are wholly read are a spelling
  pub whole_spelled : (octets rest : List ℕ) (e : Entry B) → AreOctets octets → entry_front reading octets ≡ Ok (e, rest)
      → true ≡ eqb (length rest) 0
      → entry_spelling spelling e ≡ Some octets
  whole_spelled octets [] e all h t =
      let s = entry_spelled e octets [] all h in
      s.1 ∙ ap (λ o. Some o) (sym (s.2 ∙ append-nil s.0))
  whole_spelled octets (r ∷ rest) e all h t =
      let z : length (r ∷ rest) ≡ 0 = eqb-true (length (r ∷ rest)) 0 (sym t) in
      absurd (omega arith)

  front_again : (octets : List ℕ) (e : Entry B) → entry_spelling spelling e ≡ Some octets → entry_front reading octets ≡ Ok (e, [])
  front_again octets e h = ap (entry_front reading) (sym (append-nil octets)) ∙ entry_again e octets [] h

  -- what else is read of a spelling
  pub one_entry : (octets rest : List ℕ) (e x : Entry B) → entry_spelling spelling e ≡ Some octets
      → entry_front reading octets ≡ Ok (x, rest) → x ≡ e
  one_entry octets rest e x h r = (same_ok x e rest [] (sym r ∙ front_again octets e h)).0

  pub nothing_left : (octets rest : List ℕ) (e x : Entry B) → entry_spelling spelling e ≡ Some octets
      → entry_front reading octets ≡ Ok (x, rest)
      → false ≡ eqb (length rest) 0 → ⊥
  nothing_left octets rest e x h r t =
      false≢true (t ∙ ap (λ l. eqb (length l) 0) (same_ok x e rest [] (sym r ∙ front_again octets e h)).1)

  pub only_memory : (fault : CodecFault) (octets : List ℕ) (e : Entry B) → entry_spelling spelling e ≡ Some octets
      → (fault ≢ Memory → entry_front reading octets ≡ Err fault) → fault ≡ Memory
  only_memory Memory octets e h f = refl
  only_memory Short octets e h f = refused Short (sym (front_again octets e h) ∙ f (λ q. cc))
  only_memory Tag octets e h f = refused Tag (sym (front_again octets e h) ∙ f (λ q. cc))
  only_memory Range octets e h f = refused Range (sym (front_again octets e h) ∙ f (λ q. cc))
  only_memory Rest octets e h f = refused Rest (sym (front_again octets e h) ∙ f (λ q. cc))
