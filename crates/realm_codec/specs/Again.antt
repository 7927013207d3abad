-- Acts as octets: what is spelled is read again, whatever follows, and what is read was spelled so.
use Rattle.std.proofs.Common.{◌≡◌, ℕ, Bool, true, false, cond, eqb, leb, refl, sym, ap, ◌∙◌, subst, List, [], ◌∷◌, ◌++◌}
use Rattle.std.proofs.Common.{Ok, Err, ◌≤◌, length, take, drop, Option, Some, None, arith, lit<}
use Rattle.std.specs.Prelude.{find, Result}
use Rattle.std.proofs.lemmas.Bool.{eqb-true, and_parts, and_from, leb-true, le-leb}
use Rattle.std.proofs.lemmas.List.{append_assoc, length-append, length-take-le, take-append-drop}
use Rattle.std.proofs.Math.Seq.{take-append_seam, drop-append_seam}
use Rattle.std.proofs.lemmas.Slice.Eq.{bytes_eq-Decides}
use Rattle.command_codec.specs.declared.fault.CodecFault.{CodecFault}
use Rattle.command_codec.specs.declared.fault.CodecFault.TheVariants.{Short, Tag, Range}
use Rattle.command_codec.specs.Coder.{AreOctets, and_then, IsReadAgain, IsSpelled}
use Rattle.command_codec.specs.Entry.{joined}
use Rattle.command_codec.specs.Number.{number_octets, number_reading, is_within}
use Rattle.command_codec.proofs.Numbers.{same_ok, number_again, number_spelled}
use Rattle.command_codec.proofs.Entries.{left_of, where_spelled, joined_parts, then_parts}
use Rattle.wamp_message_types.specs.declared.fault.MessageFault.{MessageFault}
use Rattle.wamp_message_types.specs.declared.fault.MessageFault.TheVariants as fault
use Rattle.wamp_message_types.specs.Fault.{number_of}
use Rattle.wamp_message_types.specs.declared.message.Message.{Message}
use Rattle.wamp_message_types.specs.declared.read_result.UnfitKind.{UnfitKind}
use Rattle.wamp_message_types.specs.declared.read_result.UnfitKind.TheVariants as kind
use Rattle.wamp_message_types.specs.declared.read_result.Read.{Read}
use Rattle.wamp_message_types.specs.declared.read_result.Read.TheVariants.{Good, Unfit, Bad}
use Rattle.wamp_messages.specs.Reading.{read_of}
use Rattle.wamp_messages.specs.Writing.{text_of}
use Rattle.realm_acts.specs.declared.act.Act.{Act}
use Rattle.realm_acts.specs.declared.act.Act.TheVariants.{Connect, Said, Hung}
use Rattle.realm_acts.specs.Act.{same_read, read_itself, read_is}
use Rattle.realm_codec.specs.Parts.{id_form, length_form, tagged, chosen, choice_reading, kinds, kind_octet, quiets, quiet_octet, faults}
use Rattle.realm_codec.specs.Text.{is_text_spelled, text_octets, text_spelling, is_written, text_reading}
use Rattle.realm_codec.specs.Text.{read_before, text_behind, good_reading}
use Rattle.realm_codec.specs.Read.{may_be_quiet, is_unfit_spelled, unfit_octets, unfit_spelling, fault_spelling, read_spelling}
use Rattle.realm_codec.specs.Read.{unfit_reading, fault_reading, read_reading}
use Rattle.realm_codec.specs.Act.{draw_spelling, act_spelling, said_reading, act_reading}

-- ---- parts

tagged_parts : (tag : ℕ) (s : Option (List ℕ)) (octets : List ℕ) → tagged tag s ≡ Some octets
    → (o : List ℕ) × (s ≡ Some o) × (octets ≡ tag ∷ o)
tagged_parts tag None octets h = cc
tagged_parts tag (Some o) octets h = (o, refl, cc)

chosen_parts : {A : Type 0} (v : Option A) (l : List ℕ) (x : A) (rest : List ℕ) → chosen v l ≡ Ok (x, rest) → (v ≡ Some x) × (l ≡ rest)
chosen_parts None l x rest h = cc
chosen_parts (Some v) l x rest h = let s = same_ok v x l rest h in (ap (λ y. Some y) s.0, s.1)

found_step : {A : Type 0} (f : A → ℕ) (o : ℕ) (v x : A) (b : Bool) (left : Option A) → eqb o (f v) ≡ b
    → (left ≡ Some x → f x ≡ o) → cond b (Some v) left ≡ Some x → f x ≡ o
found_step {A} f o v x true left t more h = let same : ◌≡◌ {A = A} v x = cc in sym (eqb-true o (f v) t ∙ ap f same)
found_step f o v x false left t more h = more h

-- the value that is found has the octet
found_is : {A : Type 0} (f : A → ℕ) (o : ℕ) (vs : List A) (x : A) → find (λ v. eqb o (f v)) vs ≡ Some x → f x ≡ o
found_is f o [] x h = cc
found_is f o (v ∷ vs) x h =
    found_step f o v x (eqb o (f v)) (find (λ w. eqb o (f w)) vs) refl (λ k. found_is f o vs x k) h

choice_is : {A : Type 0} (f : A → ℕ) (vs : List A) (x : A) (octets rest : List ℕ) → choice_reading f vs octets ≡ Ok (x, rest)
    → octets ≡ f x ∷ rest
choice_is f vs x [] rest h = cc
choice_is f vs x (o ∷ os) rest h =
    let c = chosen_parts (find (λ v. eqb o (f v)) vs) os x rest h in
    ap (λ b. b ∷ os) (sym (found_is f o vs x c.0)) ∙ ap (λ l. f x ∷ l) c.1

kind_again : (k : UnfitKind) (rest : List ℕ) → choice_reading kind_octet kinds (kind_octet k ∷ rest) ≡ Ok (k, rest)
kind_again kind.Publish rest = refl
kind_again kind.Subscribe rest = refl
kind_again kind.Register rest = refl
kind_again kind.Call rest = refl
kind_again kind.Cancel rest = refl
kind_again kind.Yield rest = refl

fault_octet_again : (f : MessageFault) (rest : List ℕ) → choice_reading number_of faults (number_of f ∷ rest) ≡ Ok (f, rest)
fault_octet_again fault.NotJson rest = refl
fault_octet_again fault.NotArray rest = refl
fault_octet_again fault.Kind rest = refl
fault_octet_again fault.Length rest = refl
fault_octet_again fault.Shape rest = refl
fault_octet_again fault.IdRange rest = refl

quiet_again : (k : UnfitKind) (q : Bool) (rest : List ℕ) → may_be_quiet k q ≡ true
    → choice_reading quiet_octet (quiets k) (quiet_octet q ∷ rest) ≡ Ok (q, rest)
quiet_again kind.Publish false rest h = refl
quiet_again kind.Publish true rest h = refl
quiet_again kind.Subscribe false rest h = refl
quiet_again kind.Register false rest h = refl
quiet_again kind.Call false rest h = refl
quiet_again kind.Cancel false rest h = refl
quiet_again kind.Yield false rest h = refl
quiet_again kind.Subscribe true rest h = cc
quiet_again kind.Register true rest h = cc
quiet_again kind.Call true rest h = cc
quiet_again kind.Cancel true rest h = cc
quiet_again kind.Yield true rest h = cc

not_quiet : (b : Bool) (os rest : List ℕ) → chosen (cond b (Some false) None) os ≡ Ok (true, rest) → false ≡ true
not_quiet true os rest h = (same_ok false true os rest h).0
not_quiet false os rest h = cc

never_quiet : (octets rest : List ℕ) → choice_reading quiet_octet (false ∷ []) octets ≡ Ok (true, rest) → false ≡ true
never_quiet [] rest h = cc
never_quiet (o ∷ os) rest h = not_quiet (eqb o 0) os rest h

quiet_allowed : (k : UnfitKind) (q : Bool) (octets rest : List ℕ) → choice_reading quiet_octet (quiets k) octets ≡ Ok (q, rest)
    → may_be_quiet k q ≡ true
quiet_allowed k false octets rest h = refl
quiet_allowed kind.Publish true octets rest h = refl
quiet_allowed kind.Subscribe true octets rest h = never_quiet octets rest h
quiet_allowed kind.Register true octets rest h = never_quiet octets rest h
quiet_allowed kind.Call true octets rest h = never_quiet octets rest h
quiet_allowed kind.Cancel true octets rest h = never_quiet octets rest h
quiet_allowed kind.Yield true octets rest h = never_quiet octets rest h

-- ---- a message

written_is : (text : List ℕ) (r : Read) → is_written text r ≡ true → (m : Message) × (r ≡ Good m) × (text_of m ≡ text)
written_is text (Good m) t = (m, refl, (bytes_eq-Decides (text_of m) text).0 t)
written_is text (Unfit k q s) t = cc
written_is text (Bad f) t = cc

text_good : (text : List ℕ) (x : Read) → text_reading text ≡ Ok x
    → (m : Message) × (x ≡ Good m) × (text_of m ≡ text) × (same_read (read_of (text_of m)) (Good m) ≡ true)
unfolding text_reading
text_good text x h = go (is_written text (read_of text)) refl h
  where
    go : (b : Bool) → is_written text (read_of text) ≡ b → cond b (Ok (read_of text)) (Err Range) ≡ Ok x
        → (m : Message) × (x ≡ Good m) × (text_of m ≡ text) × (same_read (read_of (text_of m)) (Good m) ≡ true)
    go true t e =
        let w = written_is text (read_of text) t in
        let same : ◌≡◌ {A = Read} (read_of text) x = cc in
        let again : read_of (text_of w.0) ≡ Good w.0 = ap read_of w.2 ∙ w.1 in
        (w.0, sym same ∙ w.1, w.2, ap (λ r. same_read r (Good w.0)) again ∙ read_itself (Good w.0))
    go false t e = cc

text_again : (m : Message) → same_read (read_of (text_of m)) (Good m) ≡ true → text_reading (text_of m) ≡ Ok (Good m)
unfolding text_reading
text_again m h =
    ap (λ r. cond (is_written (text_of m) r) (Ok r) (Err Range)) (read_is (read_of (text_of m)) (Good m) h)
    ∙ ap (λ b. cond b (Ok (Good m)) (Err Range)) ((bytes_eq-Decides (text_of m) (text_of m)).1 refl)

text_made : (m : Message) → is_text_spelled m ≡ true → text_spelling m ≡ Some (text_octets m)
unfolding text_spelling
text_made m h = ap (λ b. cond b (Some (text_octets m)) None) h

behind_again : (text rest : List ℕ) (x : Read) → text_reading text ≡ Ok x → text_behind (length text) (text ++ rest) ≡ Ok (x, rest)
behind_again text rest x h =
    let n = length text in
    let all = length (text ++ rest) in
    let long : n ≤ all = (let e = length-append text rest in omega arith) in
    ap (λ b. cond b (read_before (drop n (text ++ rest)) (text_reading (take n (text ++ rest)))) (Err Short)) (le-leb n all long)
    ∙ ap (λ t. read_before (drop n (text ++ rest)) (text_reading t)) (take-append_seam text rest)
    ∙ ap (λ r. read_before (drop n (text ++ rest)) r) h
    ∙ ap (λ l. Ok (x, l)) (drop-append_seam text rest)

good_again : (m : Message) (octets rest : List ℕ) → text_spelling m ≡ Some octets → good_reading (octets ++ rest) ≡ Ok (Good m, rest)
unfolding text_spelling
good_again m octets rest h =
    let text = text_of m in
    let n = length text in
    let w = where_spelled (is_text_spelled m) (text_octets m) octets h in
    let p = and_parts (same_read (read_of text) (Good m)) (is_within length_form n) w.0 in
    ap (λ o. good_reading (o ++ rest)) w.1
    ∙ ap good_reading (append_assoc (number_octets length_form n) text rest)
    ∙ ap (λ r. and_then r text_behind) (number_again length_form n (text ++ rest) (lit< tt) p.1)
    ∙ behind_again text rest (Good m) (text_again m p.0)

before_parts : (r : Result Read CodecFault) (l : List ℕ) (x : Read) (rest : List ℕ) → read_before l r ≡ Ok (x, rest)
    → (r ≡ Ok x) × (l ≡ rest)
before_parts (Ok r) l x rest h = let s = same_ok r x l rest h in (ap (λ y. Ok y) s.0, s.1)
before_parts (Err f) l x rest h = cc

behind_parts : (n : ℕ) (mid : List ℕ) (x : Read) (rest : List ℕ) → text_behind n mid ≡ Ok (x, rest)
    → (n ≤ length mid) × (text_reading (take n mid) ≡ Ok x) × (drop n mid ≡ rest)
behind_parts n mid x rest h = go (leb n (length mid)) refl h
  where
    go : (b : Bool) → leb n (length mid) ≡ b
        → cond b (read_before (drop n mid) (text_reading (take n mid))) (Err Short) ≡ Ok (x, rest)
        → (n ≤ length mid) × (text_reading (take n mid) ≡ Ok x) × (drop n mid ≡ rest)
    go true t e =
        let c = before_parts (text_reading (take n mid)) (drop n mid) x rest e in (leb-true n (length mid) t, c.0, c.1)
    go false t e = cc

-- what is read, is spelled by the octets in front of what is left
abbrev Spells : List ℕ → Read → List ℕ → Type 0
Spells octets x rest = (front : List ℕ) × (read_spelling x ≡ Some front) × (octets ≡ front ++ rest)

good_spelled : (x : Read) (octets rest : List ℕ) → AreOctets octets → good_reading octets ≡ Ok (x, rest) → Spells (0 ∷ octets) x rest
good_spelled x octets rest all h =
    let p = then_parts (number_reading length_form octets) text_behind x rest h in
    let number = number_spelled length_form 3 p.0 octets p.1 refl all p.2 in
    let b = behind_parts p.0 p.1 x rest p.3 in
    let text = take p.0 p.1 in
    let g = text_good text x b.1 in
    let written = text_of g.0 in
    let long : length written ≡ p.0 = ap (λ l. length l) g.2 ∙ length-take-le p.0 p.1 b.0 in
    let within : is_within length_form (length written) ≡ true = ap (is_within length_form) long ∙ number.0 in
    let made = text_made g.0 (and_from (same_read (read_of written) (Good g.0)) (is_within length_form (length written)) g.3 within) in (
      0 ∷ text_octets g.0,
      ap read_spelling g.1 ∙ ap (tagged 0) made,
      ap (λ l. 0 ∷ l) (
          number.1
          ∙ ap (λ l. number_octets length_form p.0 ++ l) (sym (take-append-drop p.0 p.1))
          ∙ ap (λ l. number_octets length_form p.0 ++ (text ++ l)) b.2
          ∙ ap (λ t. number_octets length_form p.0 ++ (t ++ rest)) (sym g.2)
          ∙ ap (λ k. number_octets length_form k ++ (written ++ rest)) (sym long)
          ∙ sym (append_assoc (number_octets length_form (length written)) written rest)
          ),
    )

-- ---- an unfit request

unfit_again : (k : UnfitKind) (r : ℕ) (q : Bool) (octets rest : List ℕ) → unfit_spelling k r q ≡ Some octets
    → read_reading (octets ++ rest) ≡ Ok (Unfit k r q, rest)
unfit_again k r q octets rest h =
    let w = where_spelled (is_unfit_spelled k r q) (1 ∷ unfit_octets k r q) octets h in
    let p = and_parts (is_within id_form r) (may_be_quiet k q) w.0 in
    let number = number_octets id_form r in
    let behind = quiet_octet q ∷ rest in
    ap (λ o. read_reading (o ++ rest)) w.1
    ∙ ap (λ l. unfit_reading (kind_octet k ∷ l)) (append_assoc number (quiet_octet q ∷ []) rest)
    ∙ ap (λ d. and_then d (λ a left. and_then (number_reading id_form left) (λ b left. and_then
    (choice_reading quiet_octet (quiets a) left) (λ c left. Ok (Unfit a b c, left))))) (kind_again k (number ++ behind))
    ∙ ap (λ d. and_then d (λ b left. and_then (choice_reading quiet_octet (quiets k) left) (λ c left. Ok (Unfit k b c, left))))
    (number_again id_form r behind (lit< tt) p.0)
    ∙ ap (λ d. and_then d (λ c left. Ok (Unfit k r c, left))) (quiet_again k q rest p.1)

unfit_spelled : (x : Read) (octets rest : List ℕ) → AreOctets octets → unfit_reading octets ≡ Ok (x, rest) → Spells (1 ∷ octets) x rest
unfit_spelled x octets rest all h =
    let p = then_parts (choice_reading kind_octet kinds octets) (λ a left. and_then (number_reading id_form left) (λ b left. and_then
    (choice_reading quiet_octet (quiets a) left) (λ c left. Ok (Unfit a b c, left)))) x rest h in
    let q = then_parts (number_reading id_form p.1) (λ b left. and_then (choice_reading quiet_octet (quiets p.0) left) (λ c left. Ok
    (Unfit p.0 b c, left))) x rest p.3 in
    let s = then_parts (choice_reading quiet_octet (quiets p.0) q.1) (λ c left. Ok (Unfit p.0 q.0 c, left)) x rest q.3 in
    let made : Unfit p.0 q.0 s.0 ≡ x = (same_ok (Unfit p.0 q.0 s.0) x s.1 rest s.3).0 in
    let left : s.1 ≡ rest = (same_ok (Unfit p.0 q.0 s.0) x s.1 rest s.3).1 in
    let kind_is = choice_is kind_octet kinds p.0 octets p.1 p.2 in
    let number = number_spelled id_form 7 q.0 p.1 q.1 refl (subst AreOctets kind_is all).1 q.2 in
    let quiet_is = choice_is quiet_octet (quiets p.0) s.0 q.1 s.1 s.2 in
    let test = and_from (is_within id_form q.0) (may_be_quiet p.0 s.0) number.0 (quiet_allowed p.0 s.0 q.1 s.1 s.2) in
    let octets_of = number_octets id_form q.0 in (
      1 ∷ unfit_octets p.0 q.0 s.0,
      ap read_spelling (sym made) ∙ ap (λ t. cond t (Some (1 ∷ unfit_octets p.0 q.0 s.0)) None) test,
      ap (λ l. 1 ∷ l) (
          kind_is
          ∙ ap (λ l. kind_octet p.0 ∷ l) (
          number.1
          ∙ ap (λ l. octets_of ++ l) (quiet_is ∙ ap (λ l. quiet_octet s.0 ∷ l) left)
          ∙ sym (append_assoc octets_of (quiet_octet s.0 ∷ []) rest)
          )
          ),
    )

-- ---- a fault

fault_again : (f : MessageFault) (octets rest : List ℕ) → fault_spelling f ≡ Some octets → read_reading (octets ++ rest) ≡ Ok (Bad f, rest)
fault_again f octets rest h =
    let e : octets ≡ 2 ∷ number_of f ∷ [] = cc in
    ap (λ o. read_reading (o ++ rest)) e ∙ ap (λ d. and_then d (λ g left. Ok (Bad g, left))) (fault_octet_again f rest)

fault_spelled : (x : Read) (octets rest : List ℕ) → fault_reading octets ≡ Ok (x, rest) → Spells (2 ∷ octets) x rest
fault_spelled x octets rest h =
    let p = then_parts (choice_reading number_of faults octets) (λ g left. Ok (Bad g, left)) x rest h in
    let same = same_ok (Bad p.0) x p.1 rest p.3 in (
      2 ∷ number_of p.0 ∷ [],
      ap read_spelling (sym same.0),
      ap (λ l. 2 ∷ l) (choice_is number_of faults p.0 octets p.1 p.2 ∙ ap (λ l. number_of p.0 ∷ l) same.1),
    )

-- ---- what was read

read_again : IsReadAgain read_spelling read_reading
read_again (Good m) octets rest h =
    let t = tagged_parts 0 (text_spelling m) octets h in
    ap (λ o. read_reading (o ++ rest)) t.2 ∙ good_again m t.0 rest t.1
read_again (Unfit k r q) octets rest h = unfit_again k r q octets rest h
read_again (Bad f) octets rest h = fault_again f octets rest h

read_spelled : IsSpelled read_spelling read_reading
read_spelled x [] rest all h = cc
read_spelled x (tag ∷ octets) rest all h = good (eqb tag 0) refl h
  where
    bad : (b : Bool) → eqb tag 2 ≡ b → cond b (fault_reading octets) (Err Tag) ≡ Ok (x, rest) → Spells (tag ∷ octets) x rest
    bad true t e = subst (λ n. Spells (n ∷ octets) x rest) (sym (eqb-true tag 2 t)) (fault_spelled x octets rest e)
    bad false t e = cc

    unfit : (b : Bool) → eqb tag 1 ≡ b
        → cond b (unfit_reading octets) (cond (eqb tag 2) (fault_reading octets) (Err Tag)) ≡ Ok (x, rest) → Spells (tag ∷ octets) x rest
    unfit true t e = subst (λ n. Spells (n ∷ octets) x rest) (sym (eqb-true tag 1 t)) (unfit_spelled x octets rest all.1 e)
    unfit false t e = bad (eqb tag 2) refl e

    good : (b : Bool) → eqb tag 0 ≡ b
        → cond b (good_reading octets) (cond (eqb tag 1) (unfit_reading octets) (cond (eqb tag 2) (fault_reading octets) (Err Tag)))
        ≡ Ok (x, rest)
        → Spells (tag ∷ octets) x rest
    good true t e = subst (λ n. Spells (n ∷ octets) x rest) (sym (eqb-true tag 0 t)) (good_spelled x octets rest all.1 e)
    good false t e = unfit (eqb tag 1) refl e

-- ---- acts

said_again : (draw : ℕ) (read : Read) (octets rest : List ℕ) → act_spelling (Said draw read) ≡ Some octets
    → act_reading (octets ++ rest) ≡ Ok (Said draw read, rest)
said_again draw read octets rest h =
    let j = joined_parts (draw_spelling draw) (read_spelling read) octets h in
    let w = where_spelled (is_within id_form draw) (2 ∷ number_octets id_form draw) j.0 j.2 in
    let number = number_octets id_form draw in
    ap (λ o. act_reading (o ++ rest)) (j.4 ∙ ap (λ f. f ++ j.1) w.1)
    ∙ ap said_reading (append_assoc number j.1 rest)
    ∙ ap (λ d. and_then d (λ a left. and_then (read_reading left) (λ b left. Ok (Said a b, left))))
    (number_again id_form draw (j.1 ++ rest) (lit< tt) w.0)
    ∙ ap (λ d. and_then d (λ b left. Ok (Said draw b, left))) (read_again read j.1 rest j.3)

pub act_again : IsReadAgain act_spelling act_reading
act_again Connect octets rest h = let e : octets ≡ 0 ∷ [] = cc in ap (λ o. act_reading (o ++ rest)) e
act_again Hung octets rest h = let e : octets ≡ 1 ∷ [] = cc in ap (λ o. act_reading (o ++ rest)) e
act_again (Said draw read) octets rest h = said_again draw read octets rest h

abbrev SpellsAct : List ℕ → Act → List ℕ → Type 0
SpellsAct octets x rest = (front : List ℕ) × (act_spelling x ≡ Some front) × (octets ≡ front ++ rest)

said_spelled : (x : Act) (octets rest : List ℕ) → AreOctets octets → said_reading octets ≡ Ok (x, rest) → SpellsAct (2 ∷ octets) x rest
said_spelled x octets rest all h =
    let p = then_parts (number_reading id_form octets) (λ a left. and_then (read_reading left) (λ b left. Ok (Said a b, left))) x rest h in
    let q = then_parts (read_reading p.1) (λ b left. Ok (Said p.0 b, left)) x rest p.3 in
    let same = same_ok (Said p.0 q.0) x q.1 rest q.3 in
    let number = number_spelled id_form 7 p.0 octets p.1 refl all p.2 in
    let octets_of = number_octets id_form p.0 in
    let body = read_spelled q.0 p.1 q.1 (left_of octets octets_of p.1 number.1 all) q.2 in (
      2 ∷ (octets_of ++ body.0),
      ap act_spelling (sym same.0)
          ∙ ap (λ t. joined (cond t (Some (2 ∷ octets_of)) None) (read_spelling q.0)) number.0
          ∙ ap (λ o. joined (Some (2 ∷ octets_of)) o) body.1,
      ap (λ l. 2 ∷ l) (
          number.1
          ∙ ap (λ l. octets_of ++ l) (body.2 ∙ ap (λ l. body.0 ++ l) same.1)
          ∙ sym (append_assoc octets_of body.0 rest)
          ),
    )

pub act_spelled : IsSpelled act_spelling act_reading
act_spelled x [] rest all h = cc
act_spelled x (tag ∷ octets) rest all h = connect (eqb tag 0) refl h
  where
    said : (b : Bool) → eqb tag 2 ≡ b → cond b (said_reading octets) (Err Tag) ≡ Ok (x, rest) → SpellsAct (tag ∷ octets) x rest
    said true t e = subst (λ n. SpellsAct (n ∷ octets) x rest) (sym (eqb-true tag 2 t)) (said_spelled x octets rest all.1 e)
    said false t e = cc

    hung : (b : Bool) → eqb tag 1 ≡ b
        → cond b (Ok (Hung, octets)) (cond (eqb tag 2) (said_reading octets) (Err Tag)) ≡ Ok (x, rest) → SpellsAct (tag ∷ octets) x rest
    hung true t e =
        let same = same_ok {A = Act} Hung x octets rest e in
        (1 ∷ [], ap act_spelling (sym same.0), ap (λ n. n ∷ octets) (eqb-true tag 1 t) ∙ ap (λ l. 1 ∷ l) same.1)
    hung false t e = said (eqb tag 2) refl e

    connect : (b : Bool) → eqb tag 0 ≡ b
        → cond b (Ok (Connect, octets)) (cond (eqb tag 1) (Ok (Hung, octets)) (cond (eqb tag 2) (said_reading octets) (Err Tag)))
        ≡ Ok (x, rest)
        → SpellsAct (tag ∷ octets) x rest
    connect true t e =
        let same = same_ok {A = Act} Connect x octets rest e in
        (0 ∷ [], ap act_spelling (sym same.0), ap (λ n. n ∷ octets) (eqb-true tag 0 t) ∙ ap (λ l. 0 ∷ l) same.1)
    connect false t e = hung (eqb tag 1) refl e
