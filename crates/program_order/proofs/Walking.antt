-- What the parser makes of words in plain form: a subcommand's name, and options, each written `--name value`.
use Rattle.std.proofs.Common.{◌≡◌, refl, ap, sym, ◌∙◌, subst, ℕ, Bool, true, false, List, [], ◌∷◌, ◌++◌, map, Option, Some, None}
use Rattle.std.specs.Prelude.{⊤, cond, ◌==◌, bytes_eq, fold, find, is_some}
use Rattle.std.specs.List.{list_all}
use Rattle.std.proofs.lemmas.Bool.{false≢true, and_parts, or_parts}
use Rattle.std.proofs.lemmas.Slice.Eq.{bytes_eq-Decides}
use Rattle.std.proofs.lemmas.List.{append-nil, append_assoc}
use Rattle.clap.specs.Lexer.{long_of}
use Rattle.clap.specs.Walk.{Row, Rule, Text, Names, Held, Walk, idle, option, first_of, has_row, without, at_row, more_values}
use Rattle.clap.specs.Walk.{arg_by_long, arg_by_id, reading_by, walked, walk, walk_from, nothing_held, settled_rows, finished}
use Rattle.clap.specs.Walk.{rows_after, with_default, default_rows, answers_to}
use Rattle.clap.specs.Simple.{App, Shape, filled, names_of, label_of, entered}
use Rattle.clap.specs.Takes.{turn_passes, walk_passes, settle_passes, default_passes, is_valid, is_given as is_used, level_passes}
use Rattle.clap.specs.Takes.{built_takes}
use Rattle.clap.specs.declared.parser.matches.ValueSource.TheVariants.{CommandLine}
use Rattle.program_order.specs.Program.{option_rule}
use Rattle.program_order.specs.Order.{Options, option_words, given_in, is_given, is_name}

-- an option as it is once the parser has built it
abbrev pub rule : Text → Bool → Rule
rule name needed = filled (record (option_rule name) { required = needed })

-- an option of this name is among the rules
pub record Knows (rules : List Rule) (name : Text) : Type 0 where
  pub needed : Bool
  pub spelled : long_of (45 ∷ 45 ∷ name) ≡ Some (name, None)
  pub no_end : bytes_eq (45 ∷ 45 ∷ name) (45 ∷ 45 ∷ []) ≡ false
  pub by_long : arg_by_long rules name ≡ Some (rule name needed)
  pub by_id : arg_by_id rules name ≡ Some (rule name needed)

-- ---- one option

-- what is found for an option
abbrev pub row_of : Text × Text → Row
row_of o = record {
  id = o.0;
  values = o.1 ∷ [];
  count = None;
  source = Some CommandLine;
  reading = reading_by (rule o.0 false);
}

abbrev held : List Row → Option (Text × List Text) → Held
held rows pending = record { rows = rows; pending = pending; skip = 0 }

-- where the walk is between two options: the last one is still to be settled
abbrev between : List Row → Option (Text × List Text) → Walk
between rows pending = record {
  held = held rows pending;
  waiting = idle;
  position = 1;
  is_trailing = false;
  stopped = None;
}

-- where it is between an option's name and its value
abbrev within : List Row → Text → Walk
within rows name = record {
  held = held rows (Some (name, []));
  waiting = option name;
  position = 1;
  is_trailing = false;
  stopped = None;
}

same_text : (a : Text) → bytes_eq a a ≡ true
same_text a = (bytes_eq-Decides a a).1 refl

module _ (s : Shape) (name : Text) (k : Knows s.rules name) (rows : List Row) where
  name_walked : (p : Option (Text × List Text)) →
      walked s.rules [] (between rows p) (45 ∷ 45 ∷ name) ≡ within (settled_rows s.rules p rows) name
  unfolding walked
  name_walked p = rw (k.no_end, k.spelled, k.by_long) refl

  value_walked : (x : ℕ) (xs : List ℕ) → (x == 45) ≡ false
      → walked s.rules [] (within rows name) (x ∷ xs) ≡ between rows (Some (name, (x ∷ xs) ∷ []))
  unfolding walked
  value_walked x xs h = rw (h, h, k.by_id, same_text name) refl

  name_passes : (p : Option (Text × List Text)) → settle_passes s.rules s.args_override_self (held rows p) ≡ true
      → turn_passes s [] (between rows p) (45 ∷ 45 ∷ name) ≡ true
  name_passes p t = rw (k.no_end, k.spelled, k.by_long, t) refl

  value_passes : (x : ℕ) (xs : List ℕ) → (x == 45) ≡ false → turn_passes s [] (within rows name) (x ∷ xs) ≡ true
  value_passes x xs h = rw (h, h) refl

-- ---- an option is settled: it is found as it was given

-- nothing was found for it before
at_row_new : (id : Text) (change : Row → List Row) (missing rows : List Row) → has_row id rows ≡ false
    → at_row id change missing rows ≡ rows ++ missing
at_row_new id change missing [] h = refl
at_row_new id change missing (r ∷ rs) h =
    let p = or_parts (bytes_eq r.id id) (has_row id rs) h in
    rw p.0 (ap (λ (xs : List Row). r ∷ xs) (at_row_new id change missing rs p.1))

without_new : (id : Text) (rows : List Row) → has_row id rows ≡ false → without id rows ≡ rows
without_new id rows h = at_row_new id (λ _. []) [] rows h ∙ append-nil rows

abbrev pending_of : Text × Text → Option (Text × List Text)
pending_of o = Some (o.0, o.1 ∷ [])

module _ (rules : List Rule) (again : Bool) (o : Text × Text) (k : Knows rules o.0) (rows : List Row)
    (new : has_row o.0 rows ≡ false) where
  settles : settled_rows rules (pending_of o) rows ≡ rows ++ row_of o ∷ []
  settles =
      let none = without_new o.0 rows new in
      rw (k.by_id, none) (at_row_new o.0 (more_values CommandLine (o.1 ∷ [])) (row_of o ∷ []) rows new)

  settles_well : settle_passes rules again (held rows (pending_of o)) ≡ true
  settles_well = rw (k.by_id, new) refl

-- ---- all options

has_row_then : (id : Text) (rows : List Row) (o : Text × Text) → has_row id rows ≡ false → bytes_eq o.0 id ≡ false
    → has_row id (rows ++ row_of o ∷ []) ≡ false
has_row_then id [] o h d = rw d refl
has_row_then id (r ∷ rs) o h d =
    let p = or_parts (bytes_eq r.id id) (has_row id rs) h in rw p.0 (has_row_then id rs o p.1 d)

differs : (a b : Text) → bytes_eq a b ≡ false → bytes_eq b a ≡ false
differs a b h = go (bytes_eq b a) refl
  where
    go : (t : Bool) → bytes_eq b a ≡ t → t ≡ false
    go true e = absurd (false≢true (sym h ∙ (bytes_eq-Decides a b).1 (sym ((bytes_eq-Decides b a).0 e))))
    go false e = refl

-- nothing was found for these options
abbrev Fresh : List Row → Options → Type 0
Fresh rows [] = ⊤
Fresh rows (o ∷ os) = (has_row o.0 rows ≡ false) × Fresh rows os

fresh_first : (os : Options) → Fresh [] os
fresh_first [] = tt
fresh_first (o ∷ os) = (refl, fresh_first os)

fresh_then : (rows : List Row) (o : Text × Text) (os : Options) → Fresh rows os → is_given o.0 os ≡ false
    → Fresh (rows ++ row_of o ∷ []) os
fresh_then rows o [] f h = tt
fresh_then rows o (p ∷ os) f h =
    let d = or_parts (bytes_eq p.0 o.0) (is_given o.0 os) h in
    (has_row_then p.0 rows o f.0 (differs p.0 o.0 d.0), fresh_then rows o os f.1 d.1)

-- what is known of each option
abbrev pub Known : List Rule → Options → Type 0
Known rules [] = ⊤
Known rules (o ∷ os) = Knows rules o.0 × (is_name o.1 ≡ true) × (is_given o.0 os ≡ false) × Known rules os

named : (value : Text) → is_name value ≡ true → (P : Text → Type 0) → ((x : ℕ) (xs : List ℕ) → (x == 45) ≡ false → P (x ∷ xs)) → P value
named [] h P f = absurd (false≢true h)
named (x ∷ xs) h P f = go (x == 45) refl
  where
    go : (b : Bool) → (x == 45) ≡ b → P (x ∷ xs)
    go true e = let bad : is_name (x ∷ xs) ≡ false = rw e refl in absurd (false≢true (sym bad ∙ h))
    go false e = f x xs e

-- the walk over these words passes, from here on, and these rows are found
record Finds (s : Shape) (w : Walk) (words : List Text) (rows : List Row) : Type 0 where
  passes : walk_passes s [] w words ≡ true
  settled_last : settle_passes s.rules s.args_override_self (fold (walked s.rules []) w words).held ≡ true
  found : settled_rows s.rules (fold (walked s.rules []) w words).held.pending (fold (walked s.rules []) w words).held.rows ≡ rows

-- two more words
finds_two : (s : Shape) (w v u : Walk) (a b : Text) (words : List Text) (rows : List Row)
    → walked s.rules [] w a ≡ v → walked s.rules [] v b ≡ u → turn_passes s [] w a ≡ true → turn_passes s [] v b ≡ true
    → Finds s u words rows → Finds s w (a ∷ b ∷ words) rows
unfolding walk_passes
finds_two s w v u a b words rows wv vu pa pb f = record {
  passes = rw (pa, wv, pb, vu) f.passes;
  settled_last = subst (λ (x : Walk). settle_passes s.rules s.args_override_self x.held ≡ true) (sym on) f.settled_last;
  found = subst (λ (x : Walk). settled_rows s.rules x.held.pending x.held.rows ≡ rows) (sym on) f.found;
}
  where
    on : fold (walked s.rules []) w (a ∷ b ∷ words) ≡ fold (walked s.rules []) u words
    on = ap (λ (x : Walk). fold (walked s.rules []) (walked s.rules [] x b) words) wv ∙ ap (λ (x : Walk). fold (walked s.rules []) x words) vu

finds_option : (s : Shape) (rows : List Row) (p : Option (Text × List Text)) (o : Text × Text) (words : List Text) (all : List Row)
    → Knows s.rules o.0 → is_name o.1 ≡ true → settle_passes s.rules s.args_override_self (held rows p) ≡ true
    → Finds s (between (settled_rows s.rules p rows) (pending_of o)) words all
    → Finds s (between rows p) ((45 ∷ 45 ∷ o.0) ∷ (o.1 ∷ words)) all
finds_option s rows p o words all k v t =
    named o.1 v (λ (value : Text). Finds s (between (settled_rows s.rules p rows) (pending_of (o.0, value))) words all
    → Finds s (between rows p) ((45 ∷ 45 ∷ o.0) ∷ (value ∷ words)) all)
    (λ x xs h. finds_two s _ _ _ _ _ words all (name_walked s o.0 k rows p)
    (value_walked s o.0 k (settled_rows s.rules p rows) x xs h) (name_passes s o.0 k rows p t)
    (value_passes s o.0 k (settled_rows s.rules p rows) x xs h))

finds_more : (s : Shape) (rows : List Row) (o : Text × Text) (os : Options) → Known s.rules (o ∷ os) → Fresh rows (o ∷ os)
    → Finds s (between rows (pending_of o)) (option_words os) (rows ++ map row_of (o ∷ os))
unfolding walk_passes
finds_more s rows o [] k f = record {
  passes = refl;
  settled_last = settles_well s.rules s.args_override_self o k.0 rows f.0;
  found = settles s.rules s.args_override_self o k.0 rows f.0;
}
finds_more s rows o (p ∷ os) k f =
    let is = settles s.rules s.args_override_self o k.0 rows f.0 in
    let fresh = fresh_then rows o (p ∷ os) f.1 k.2 in
    let rest = finds_more s (rows ++ row_of o ∷ []) p os k.3 fresh in
    let all : (rows ++ row_of o ∷ []) ++ map row_of (p ∷ os) ≡ rows ++ map row_of (o ∷ (p ∷ os)) =
    append_assoc rows (row_of o ∷ []) (map row_of (p ∷ os)) in
    finds_option s rows (pending_of o) p (option_words os) (rows ++ map row_of (o ∷ (p ∷ os))) k.3.0 k.3.1
    (settles_well s.rules s.args_override_self o k.0 rows f.0)
    (subst (λ (rs : List Row). Finds s (between rs (pending_of p)) (option_words os) (rows ++ map row_of (o ∷ (p ∷ os)))) (sym is)
    (subst (λ (rs : List Row). Finds s (between (rows ++ row_of o ∷ []) (pending_of p)) (option_words os) rs) all rest))

finds_all : (s : Shape) (os : Options) → Known s.rules os → Finds s (walk_from nothing_held) (option_words os) (map row_of os)
unfolding walk_passes
finds_all s [] k = record { passes = refl; settled_last = refl; found = refl }
finds_all s (o ∷ os) k =
    finds_option s [] None o (option_words os) (map row_of (o ∷ os)) k.0 k.1 refl
    (finds_more s [] o os k (fresh_first (o ∷ os)))

-- ---- a subcommand's options

abbrev pub has_none : List Text → Bool
has_none [] = true
has_none (d ∷ ds) = false

no_default : (r : Rule) (ds : List Text) (rows : List Row) → has_none ds ≡ true → default_rows r.id (reading_by r) ds rows ≡ rows
no_default r [] rows h = refl
no_default r (d ∷ ds) rows h = absurd (false≢true h)

undefaulted : (r : Rule) (rows : List Row) → has_none r.defaults ≡ true → with_default rows r ≡ rows
undefaulted r rows h = go (has_row r.id rows)
  where
    go : (b : Bool) → cond b rows (default_rows r.id (reading_by r) r.defaults rows) ≡ rows
    go true = refl
    go false = no_default r r.defaults rows h

no_defaults : (rules : List Rule) (rows : List Row) → list_all (λ r. has_none r.defaults) rules ≡ true → fold with_default rows rules ≡ rows
no_defaults [] rows h = refl
no_defaults (r ∷ rs) rows h =
    let p = and_parts (has_none r.defaults) (list_all (λ r. has_none r.defaults) rs) h in
    ap (λ (x : List Row). fold with_default x rs) (undefaulted r rows p.0) ∙ no_defaults rs rows p.1

-- a subcommand without defaults
pub record Plain (s : Shape) : Type 0 where
  pub undefaulted : list_all (λ r. has_none r.defaults) s.rules ≡ true
  pub default_pass : list_all default_passes s.rules ≡ true

module _ (s : Shape) (plain : Plain s) (os : Options) (k : Known s.rules os) where
  pub rows_are : rows_after s.rules [] (option_words os) ≡ map row_of os
  rows_are = let f = finds_all s os k in ap (λ (rows : List Row). fold with_default rows s.rules) f.found
      ∙ no_defaults s.rules (map row_of os) plain.undefaulted

  pub passes_are : is_valid s (map row_of os) false ≡ true → level_passes s [] nothing_held (option_words os) false ≡ true
  passes_are valid =
      let f = finds_all s os k in
      rw (f.passes, f.settled_last, plain.default_pass) (subst (λ (rows : List Row). is_valid s rows false ≡ true) (sym rows_are) valid)

-- ---- the subcommand's name

abbrev pub stopped_at : Text → List Text → Walk
stopped_at name words = record (walk_from nothing_held) { stopped = Some (name, words) }

stopped_walk : (rules : List Rule) (names : Names) (name : Text) (met words : List Text)
    → fold (walked rules names) (stopped_at name met) words ≡ stopped_at name (met ++ words)
unfolding walked
stopped_walk rules names name met [] = ap (stopped_at name) (sym (append-nil met))
stopped_walk rules names name met (word ∷ words) =
    stopped_walk rules names name (met ++ word ∷ []) words ∙ ap (stopped_at name) (append_assoc met (word ∷ []) words)

stopped_passes : (s : Shape) (names : Names) (name : Text) (met words : List Text) → walk_passes s names (stopped_at name met) words ≡ true
unfolding walk_passes walked
stopped_passes s names name met [] = refl
stopped_passes s names name met (word ∷ words) = stopped_passes s names name (met ++ word ∷ []) words

-- the name enters the subcommand
pub record Enters (a : App) (name : Text) (leaf : Shape) : Type 0 where
  pub walks : walked a.top.rules (names_of a) (walk_from nothing_held) name ≡ stopped_at name []
  pub passes : turn_passes a.top (names_of a) (walk_from nothing_held) name ≡ true
  pub found : find (λ s. answers_to name (label_of s)) a.subs ≡ Some leaf
  pub is_called : leaf.name ≡ name
  pub default_pass : list_all default_passes a.top.rules ≡ true
  pub valid : is_valid a.top (finished a.top.rules nothing_held) true ≡ true

module _ (a : App) (name : Text) (leaf : Shape) (e : Enters a name leaf) (words : List Text) where
  walk_stops : walk a.top.rules (names_of a) nothing_held (name ∷ words) ≡ stopped_at name words
  walk_stops = ap (λ (w : Walk). fold (walked a.top.rules (names_of a)) w words) e.walks
      ∙ stopped_walk a.top.rules (names_of a) name [] words

  pub enters : entered a (walk a.top.rules (names_of a) nothing_held (name ∷ words)).stopped
      ≡ Some (name, rows_after leaf.rules [] words)
  enters = rw (walk_stops, e.found, e.is_called) refl

  pub takes_words : level_passes leaf [] nothing_held words false ≡ true → built_takes a nothing_held (name ∷ words) ≡ true
  unfolding walk_passes
  takes_words t =
      let more : walk_passes a.top (names_of a) (stopped_at name []) words ≡ true = stopped_passes a.top (names_of a) name [] words in
      rw (enters, walk_stops, e.found, t, e.passes, e.walks, more, e.default_pass) e.valid

-- ---- values by name

pub first_is : (os : Options) (id : Text) → first_of id (map row_of os) ≡ given_in os id
first_is [] id = refl
first_is (o ∷ os) id = go (bytes_eq o.0 id) refl (first_is os id)
  where
    go : (b : Bool) → bytes_eq o.0 id ≡ b → first_of id (map row_of os) ≡ given_in os id
        → first_of id (map row_of (o ∷ os)) ≡ given_in (o ∷ os) id
    go true e h = rw e refl
    go false e h = rw e h

pub used_is : (os : Options) (id : Text) → is_used id (map row_of os) ≡ is_some (given_in os id)
used_is [] id = refl
used_is (o ∷ os) id = go (bytes_eq o.0 id) refl (used_is os id)
  where
    go : (b : Bool) → bytes_eq o.0 id ≡ b → is_used id (map row_of os) ≡ is_some (given_in os id)
        → is_used id (map row_of (o ∷ os)) ≡ is_some (given_in (o ∷ os) id)
    go true e h = rw e refl
    go false e h = rw e h
