-- Which words are an order, and what it asks for.
use Rattle.std.specs.Prelude.{◌≡◌, ℕ, ◌<◌, ◌≤◌, ◌^◌, Bool, true, false, not, ◌&&◌, ◌==◌, nat_le, List, [], ◌∷◌, Option, Some, None, is_some}
use Rattle.std.specs.Prelude.{if◌then◌else◌, IfSome}
use Rattle.std.specs.Prelude.{codes, bytes_eq, find, option_map, option_and_then, MatchResult, Result, Ok, Err}
use Rattle.std.specs.List.{list_any}
use Rattle.std.specs.String.{string_bytes}
use Rattle.clap.specs.Words.{Row, Text, first_of, subcommand_of, takes}
use Rattle.program_order.specs.declared.order.Order.{Order}
use Rattle.program_order.specs.declared.order.Order.TheVariants.{Stream, Script, Serve}
use Rattle.program_order.specs.declared.usage.UsageFault.{UsageFault}
use Rattle.program_order.specs.declared.usage.UsageFault.TheVariants.{Memory}
use Rattle.program_order.specs.Number.{number_in}
use Rattle.program_order.specs.Program.{program}

-- an order, in plain values
pub data Asked : Type 0 where
  stream : (realm : Text) → Asked
  script : (nodes : ℕ) (realm : Text) → Asked
  serve : (nodes port key : ℕ) (dir : Option Text) (realm : Text) → Asked

abbrev pub asked_of : Order → Asked
asked_of (Stream realm) = stream (string_bytes realm)
asked_of (Script members realm) = script members (string_bytes realm)
asked_of (Serve members port key dir realm) = serve members port key (option_map (λ s. string_bytes s) dir) (string_bytes realm)

-- ---- values of options

-- a text that is not empty and does not begin with `-`
abbrev pub is_name : Text → Bool
is_name [] = false
is_name (first ∷ more) = not (first == 45)

abbrev pub name_in : Text → Option Text
name_in text = if is_name text then Some text else None

-- the realm that is named, or `realm1`
abbrev pub realm_in : Option Text → Option Text
realm_in None = Some (codes "realm1")
realm_in (Some text) = name_in text

abbrev pub are_nodes : ℕ → Bool
are_nodes count = nat_le 3 count && nat_le count 7

abbrev pub nodes_of : ℕ → Option ℕ
nodes_of count = if are_nodes count then Some count else None

-- a number of nodes from 3 to 7
abbrev pub nodes_in : Option Text → Option ℕ
nodes_in given = option_and_then nodes_of (option_and_then (number_in 255) given)

abbrev pub port_of : ℕ → Option ℕ
port_of port = if nat_le 1024 port then Some port else None

-- a port from 1024 to 65529, so that the ports of seven nodes are ports
abbrev pub port_in : Option Text → Option ℕ
port_in given = option_and_then port_of (option_and_then (number_in 65529) given)

-- a number of 64 bits
abbrev pub key_in : Option Text → Option ℕ
key_in given = option_and_then (number_in 18446744073709551615) given

-- the folder that is named, if one is
abbrev pub dir_in : Option Text → Option (Option Text)
dir_in None = Some None
dir_in (Some text) = option_map (λ name. Some name) (name_in text)

-- ---- what a subcommand asks for, by the value that is given for each option

abbrev pub stream_by : (Text → Option Text) → Option Asked
stream_by given = option_map stream (realm_in (given (codes "realm")))

abbrev pub script_by : (Text → Option Text) → Option Asked
script_by given =
    option_and_then (λ nodes. option_map (script nodes) (realm_in (given (codes "realm")))) (nodes_in (given (codes "nodes")))

abbrev pub serve_by : (Text → Option Text) → Option Asked
serve_by given =
    option_and_then (λ nodes. option_and_then (λ port. option_and_then (λ key. option_and_then (λ dir.
    option_map (serve nodes port key dir) (realm_in (given (codes "realm")))) (dir_in (given (codes "dir"))))
    (key_in (given (codes "key")))) (port_in (given (codes "port")))) (nodes_in (given (codes "nodes")))

abbrev pub asked_by : Text → (Text → Option Text) → Option Asked
asked_by name given =
    if bytes_eq name (codes "stream") then stream_by given
    else (if bytes_eq name (codes "script") then script_by given
    else (if bytes_eq name (codes "serve") then serve_by given
    else None))

-- by what the parser found for the subcommand's options
abbrev pub asked_in_rows : Text → List Row → Option Asked
asked_in_rows name rows = asked_by name (λ id. first_of id rows)

abbrev pub asked_in : List Text → Option Asked
asked_in words = option_and_then (λ met. asked_in_rows met.0 met.1) (subcommand_of program words)

-- ---- what a result says

abbrev pub IsFolder : Option Text → Type 0
IsFolder dir = IfSome dir (λ name. is_name name ≡ true)

-- each option has an allowed value
abbrev pub IsAllowed : Asked → Type 0
IsAllowed (stream realm) = is_name realm ≡ true
IsAllowed (script nodes realm) = (3 ≤ nodes) × (nodes ≤ 7) × (is_name realm ≡ true)
IsAllowed (serve nodes port key dir realm) = (3 ≤ nodes) × (nodes ≤ 7) × (1024 ≤ port) × (port ≤ 65529) × (key < 2 ^ 64)
    × IsFolder dir × (is_name realm ≡ true)

-- the value is the one that the option is given; if that is an allowed one, the only possible fault is memory
abbrev pub Gives : {T : Type 0} → Option T → Result T UsageFault → Type 0
Gives given (Ok value) = given ≡ Some value
Gives given (Err fault) = is_some given ≡ true → fault ≡ Memory

-- the order is what is asked for; if something is, the only possible fault is memory
abbrev pub Answers : Option Asked → Result Order UsageFault → Type 0
Answers asked (Ok order) = asked ≡ Some (asked_of order)
Answers asked (Err fault) = is_some asked ≡ true → fault ≡ Memory

abbrev pub AnswersWords : List Text → Result Order UsageFault → Type 0
AnswersWords words (Ok order) = asked_in words ≡ Some (asked_of order)
AnswersWords words (Err fault) = takes program words ≡ true → is_some (asked_in words) ≡ true → fault ≡ Memory

-- ---- a command line in plain words: the name of a subcommand, and then its options

abbrev pub Options : Type 0
Options = List (Text × Text)

-- each option as `--name value`
abbrev pub option_words : Options → List Text
option_words [] = []
option_words (o ∷ os) = (45 ∷ 45 ∷ o.0) ∷ (o.1 ∷ option_words os)

abbrev pub is_given : Text → Options → Bool
is_given name options = list_any (λ o. bytes_eq o.0 name) options

abbrev pub given_in : Options → Text → Option Text
given_in options name = option_map (λ o. o.1) (find (λ o. bytes_eq o.0 name) options)

-- each has one of these names, none twice, and a value that is not empty and does not begin with `-`
abbrev pub are_options : List Text → Options → Bool
are_options names [] = true
are_options names (o ∷ os) =
    list_any (λ name. bytes_eq o.0 name) names && (is_name o.1 && (not (is_given o.0 os) && are_options names os))

abbrev pub options_of : Text → List Text
options_of name =
    if bytes_eq name (codes "stream") then codes "realm" ∷ []
    else (if bytes_eq name (codes "script") then codes "nodes" ∷ codes "realm" ∷ []
    else (if bytes_eq name (codes "serve") then codes "nodes" ∷ codes "port" ∷ codes "key" ∷ codes "dir" ∷ codes "realm" ∷ []
    else []))

-- the words are a subcommand's name, followed by its required options once and its others at most once, in any order, each with an
-- allowed value; and this is what they ask for
pub record Asks (words : List Text) (asked : Asked) : Type 0 where
  pub name : Text
  pub options : Options
  pub are_words : words ≡ name ∷ option_words options
  pub are_options : are_options (options_of name) options ≡ true
  pub is_asked : asked_by name (given_in options) ≡ Some asked

-- such words give the order that they ask for, unless memory runs out
abbrev pub AnswersAsked : List Text → Result Order UsageFault → Type 0
AnswersAsked words result =
    (asked : Asked) → Asks words asked → MatchResult result (λ order. asked_of order ≡ asked) (λ fault. fault ≡ Memory)
