-- What the parser makes of a command line in plain words.
use Rattle.std.proofs.Common.{◌≡◌, refl, ap, sym, ◌∙◌, subst, ℕ, Bool, true, false, List, [], ◌∷◌, map, Option, Some, None}
use Rattle.std.proofs.Common.{Result, Ok, Err, codes}
use Rattle.std.specs.Prelude.{⊤, ◌&&◌, not, bytes_eq, is_some, unwrap_or}
use Rattle.std.specs.List.{list_any}
use Rattle.std.proofs.Math.Path.{fun_ext}
use Rattle.std.proofs.lemmas.Bool.{false≢true, and_parts}
use Rattle.std.proofs.lemmas.Option.{option_and_then_some, none-some}
use Rattle.std.proofs.lemmas.Slice.Eq.{bytes_eq-Decides}
use Rattle.clap.proofs.OnLiterals.{clap_on_literals}
use Rattle.clap.specs.Walk.{Rule, Text, first_of}
use Rattle.clap.specs.Simple.{Shape, argument_words, built, built_leaf, inherited, marked_built, with_leaf_noted}
use Rattle.clap.specs.Takes.{is_valid}
use Rattle.clap.specs.Words.{takes}
use Rattle.program_order.specs.declared.order.Order.{Order}
use Rattle.program_order.specs.declared.usage.UsageFault.{UsageFault}
use Rattle.program_order.specs.Program.{program, stream_shape, script_shape, serve_shape}
use Rattle.program_order.specs.Order.{Asked, Options, Asks, AnswersWords, AnswersAsked, asked_of, asked_in, asked_by}
use Rattle.program_order.specs.Order.{script_by, serve_by, nodes_in, port_in, key_in, given_in, is_given, is_name}
use Rattle.program_order.specs.Order.{are_options, option_words, options_of}
use Rattle.program_order.proofs.Parsing.{program_is_simple}
use Rattle.program_order.proofs.Walking.{Knows, Known, Plain, Enters, row_of, passes_are, rows_are, enters, takes_words, first_is, used_is}

-- the parser takes the words, and finds what they ask for
abbrev Takes : List Text → Option Asked → Type 0
Takes words asked = (takes program words ≡ true) × (asked_in words ≡ asked)

plain_words : (words : List Text) → argument_words program words ≡ words
unfolding program
plain_words words = refl

-- ---- what options are

abbrev KnowsAll : List Rule → List Text → Type 0
KnowsAll rules [] = ⊤
KnowsAll rules (name ∷ names) = Knows rules name × KnowsAll rules names

same_name : (a b : Text) → bytes_eq a b ≡ true → a ≡ b
same_name a b h = (bytes_eq-Decides a b).0 h

knows_at : (rules : List Rule) (names : List Text) (name : Text) → KnowsAll rules names → list_any (λ n. bytes_eq name n) names ≡ true
    → Knows rules name
knows_at rules [] name k h = absurd (false≢true h)
knows_at rules (n ∷ ns) name k h = go (bytes_eq name n) refl (knows_at rules ns name k.1)
  where
    go : (b : Bool) → bytes_eq name n ≡ b → (list_any (λ n. bytes_eq name n) ns ≡ true → Knows rules name) → Knows rules name
    go true e f = subst (λ (x : Text). Knows rules x) (sym (same_name name n e)) k.0
    go false e f = f (rw e at h)

not_true : (b : Bool) → not b ≡ true → b ≡ false
not_true true h = absurd (false≢true h)
not_true false h = refl

known : (rules : List Rule) (names : List Text) (os : Options) → KnowsAll rules names → are_options names os ≡ true → Known rules os
known rules names [] k h = tt
known rules names (o ∷ os) k h =
    let p = and_parts (list_any (λ name. bytes_eq o.0 name) names) (is_name o.1 && (not (is_given o.0 os) && are_options names os)) h in
    let q = and_parts (is_name o.1) (not (is_given o.0 os) && are_options names os) p.1 in
    let r = and_parts (not (is_given o.0 os)) (are_options names os) q.1 in
    (knows_at rules names o.0 k p.0, q.0, not_true (is_given o.0 os) r.0, known rules names os k r.1)

-- ---- a subcommand

module _ (name : Text) (names : List Text) (s : Shape) (e : Enters (built program) name s) (plain : Plain s) (k : KnowsAll s.rules names)
    (os : Options) (asked : Asked) (are : are_options names os ≡ true) (valid : is_valid s (map row_of os) false ≡ true)
    (is : asked_by name (given_in os) ≡ Some asked) where
  answered : Takes (name ∷ option_words os) (Some asked)
  answered =
      let of = known s.rules names os k are in
      let words = name ∷ option_words os in
      let passes = takes_words (built program) name s e (option_words os) (passes_are s plain os of valid) in
      let found = enters (built program) name s e (option_words os) in
      let values : (λ (id : Text). first_of id (map row_of os)) ≡ given_in os = fun_ext (λ id. first_is os id) in (
        rw (program_is_simple, plain_words words, passes) refl,
        rw (plain_words words, found, rows_are s plain os of) (ap (asked_by name) values ∙ is),
      )

-- ---- the program's subcommands

-- a subcommand as it is once the parser has built it
abbrev leaf : Shape → Shape
leaf s = built_leaf (inherited (with_leaf_noted (marked_built program.top)) s)

abbrev realm : Text
realm = codes "realm"

abbrev nodes : Text
nodes = codes "nodes"

abbrev port : Text
port = codes "port"

abbrev key : Text
key = codes "key"

abbrev dir : Text
dir = codes "dir"

stream_enters : Enters (built program) (codes "stream") (leaf stream_shape)
unfolding program clap_on_literals
stream_enters = record { walks = refl; passes = refl; found = refl; is_called = refl; default_pass = refl; valid = refl }

script_enters : Enters (built program) (codes "script") (leaf script_shape)
unfolding program clap_on_literals
script_enters = record { walks = refl; passes = refl; found = refl; is_called = refl; default_pass = refl; valid = refl }

serve_enters : Enters (built program) (codes "serve") (leaf serve_shape)
unfolding program clap_on_literals
serve_enters = record { walks = refl; passes = refl; found = refl; is_called = refl; default_pass = refl; valid = refl }

stream_plain : Plain (leaf stream_shape)
unfolding program
stream_plain = record { undefaulted = refl; default_pass = refl }

script_plain : Plain (leaf script_shape)
unfolding program
script_plain = record { undefaulted = refl; default_pass = refl }

serve_plain : Plain (leaf serve_shape)
unfolding program
serve_plain = record { undefaulted = refl; default_pass = refl }

knows_stream : KnowsAll (leaf stream_shape).rules (realm ∷ [])
unfolding program
knows_stream = (record { needed = false; spelled = refl; no_end = refl; by_long = refl; by_id = refl }, tt)

knows_script : KnowsAll (leaf script_shape).rules (nodes ∷ realm ∷ [])
unfolding program
knows_script = (
  record { needed = true; spelled = refl; no_end = refl; by_long = refl; by_id = refl },
  (record { needed = false; spelled = refl; no_end = refl; by_long = refl; by_id = refl }, tt),
)

knows_serve : KnowsAll (leaf serve_shape).rules (nodes ∷ port ∷ key ∷ dir ∷ realm ∷ [])
unfolding program
knows_serve = (
  record { needed = true; spelled = refl; no_end = refl; by_long = refl; by_id = refl },
  (
    record { needed = true; spelled = refl; no_end = refl; by_long = refl; by_id = refl },
    (
      record { needed = true; spelled = refl; no_end = refl; by_long = refl; by_id = refl },
      (
        record { needed = false; spelled = refl; no_end = refl; by_long = refl; by_id = refl },
        (record { needed = false; spelled = refl; no_end = refl; by_long = refl; by_id = refl }, tt),
      ),
    ),
  ),
)

-- ---- what is required is given

from_nodes : (given : Option Text) (n : ℕ) → nodes_in given ≡ Some n → is_some given ≡ true
from_nodes None n h = absurd (none-some n h)
from_nodes (Some text) n h = refl

from_port : (given : Option Text) (n : ℕ) → port_in given ≡ Some n → is_some given ≡ true
from_port None n h = absurd (none-some n h)
from_port (Some text) n h = refl

from_key : (given : Option Text) (n : ℕ) → key_in given ≡ Some n → is_some given ≡ true
from_key None n h = absurd (none-some n h)
from_key (Some text) n h = refl

module _ (os : Options) (asked : Asked) where
  stream_valid : is_valid (leaf stream_shape) (map row_of os) false ≡ true
  unfolding program
  stream_valid = refl

  script_valid : script_by (given_in os) ≡ Some asked → is_valid (leaf script_shape) (map row_of os) false ≡ true
  unfolding program
  script_valid h = option_and_then_some _ (nodes_in (given_in os nodes)) asked h
      (λ n is rest. rw (used_is os nodes ∙ from_nodes (given_in os nodes) n is) refl)

  serve_valid : serve_by (given_in os) ≡ Some asked → is_valid (leaf serve_shape) (map row_of os) false ≡ true
  unfolding program
  serve_valid h = option_and_then_some _ (nodes_in (given_in os nodes)) asked h (λ n is_n g.
      option_and_then_some _ (port_in (given_in os port)) asked g (λ p is_p f.
      option_and_then_some _ (key_in (given_in os key)) asked f (λ k is_k rest. rw (
        used_is os nodes ∙ from_nodes (given_in os nodes) n is_n,
        used_is os port ∙ from_port (given_in os port) p is_p,
        used_is os key ∙ from_key (given_in os key) k is_k,
      ) refl)))

-- ---- all subcommands

module _ (options : Options) (asked : Asked) where
  abbrev Answered : Text → Type 0
  Answered name = are_options (options_of name) options ≡ true → asked_by name (given_in options) ≡ Some asked
      → Takes (name ∷ option_words options) (Some asked)

  stream_asks : Answered (codes "stream")
  stream_asks are is = answered (codes "stream") (realm ∷ []) (leaf stream_shape) stream_enters stream_plain knows_stream
      options asked are (stream_valid options asked) is

  script_asks : Answered (codes "script")
  script_asks are is = answered (codes "script") (nodes ∷ realm ∷ []) (leaf script_shape) script_enters script_plain knows_script
      options asked are (script_valid options asked is) is

  serve_asks : Answered (codes "serve")
  serve_asks are is = answered (codes "serve") (nodes ∷ port ∷ key ∷ dir ∷ realm ∷ []) (leaf serve_shape) serve_enters serve_plain knows_serve
      options asked are (serve_valid options asked is) is

  asks : (name : Text) → Answered name
  asks name are is =
      go (bytes_eq name (codes "stream")) (bytes_eq name (codes "script")) (bytes_eq name (codes "serve")) refl refl refl
    where
      called : (other : Text) → bytes_eq name other ≡ true → Answered other → Takes (name ∷ option_words options) (Some asked)
      called other e f = subst (λ (n : Text). Answered n) (sym (same_name name other e)) f are is

      go : (a b c : Bool) → bytes_eq name (codes "stream") ≡ a → bytes_eq name (codes "script") ≡ b → bytes_eq name (codes "serve") ≡ c
          → Takes (name ∷ option_words options) (Some asked)
      go true b c s t u = called (codes "stream") s stream_asks
      go false true c s t u = called (codes "script") t script_asks
      go false false true s t u = called (codes "serve") u serve_asks
      go false false false s t u = absurd (none-some asked (rw (s, t, u) at is))

asks_taken : (words : List Text) (asked : Asked) → Asks words asked → Takes words (Some asked)
asks_taken words asked a =
    subst (λ (ws : List Text). Takes ws (Some asked)) (sym a.are_words) (asks a.options asked a.name a.are_options a.is_asked)

pub answers_asked : (words : List Text) (result : Result Order UsageFault) → AnswersWords words result → AnswersAsked words result
answers_asked words (Ok order) h asked a =
    let same : Some asked ≡ Some (asked_of order) = sym (asks_taken words asked a).1 ∙ h in
    sym (ap (λ (o : Option Asked). unwrap_or o asked) same)
answers_asked words (Err fault) h asked a = let t = asks_taken words asked a in h t.0 (ap is_some t.1)
