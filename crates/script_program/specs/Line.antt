-- What one line of a script spells (docs/SCRIPTS.md, "Lines").
use Rattle.std.specs.Prelude.{ℕ, zero, suc, ◌-◌, ◌^◌, Bool, ◌==◌, List, [], ◌∷◌, Option, Some, None, if◌then◌else◌}
use Rattle.std.specs.Prelude.{codes, bytes_eq, option_map, option_and_then}
use Rattle.std.specs.List.{slice_split, join_with_byte}
use Rattle.std.specs.Str.{is_utf8}
use Rattle.paxos_packets.specs.Members.{no_nodes, set_with}
use Rattle.realm_acts.specs.declared.act.Act.{Act}
use Rattle.realm_acts.specs.declared.act.Act.TheVariants.{Connect, Said, Hung}
use Rattle.wamp_messages.specs.Reading.{read_of}
use Rattle.script_program.specs.declared.lines.line.Line.{Line}
use Rattle.script_program.specs.declared.lines.line.Line.TheVariants as line
use Rattle.script_program.specs.Number.{number_in}

-- the words of a line: what is before, between and after its spaces, each of which separates two words
abbrev pub words : List ℕ → List (List ℕ)
words octets = slice_split (λ octet. octet == 32) octets

-- the words after the first, if there is something after it
abbrev pub words_behind : Option (List ℕ) → List (List ℕ)
words_behind None = []
words_behind (Some rest) = words rest

-- the greatest numbers of a transport and of a packet
abbrev pub last_transport : ℕ
last_transport = 2 ^ 32 - 1

abbrev pub last_packet : ℕ
last_packet = 2 ^ 64 - 1

-- ---- takes

abbrev pub bare_act : List ℕ → Option Act
bare_act what = if bytes_eq what (codes "connect") then Some Connect else (if bytes_eq what (codes "hung") then Some Hung else None)

abbrev pub said_in : ℕ → List ℕ → List ℕ → Option Act
said_in draw what text = if bytes_eq what (codes "say") then Some (Said draw (read_of text)) else None

-- the act, which follows the transport; what is said is the rest of the line, with its spaces, and may be empty
abbrev pub act_in : ℕ → List (List ℕ) → Option Act
act_in draw [] = None
act_in draw (what ∷ []) = bare_act what
act_in draw (what ∷ (text ∷ more)) = said_in draw what (join_with_byte 32 (text ∷ more))

abbrev pub take_of : ℕ → ℕ → List ℕ → List ℕ → List (List ℕ) → Option Line
take_of members draw node number act =
    option_and_then (λ n. option_and_then (λ t. option_map (λ a. line.Take n t a) (act_in draw act)) (number_in last_transport number))
    (number_in members node)

abbrev pub take_in : ℕ → ℕ → List (List ℕ) → Option Line
take_in members draw (node ∷ (number ∷ act)) = take_of members draw node number act
take_in members draw ws = None

-- ---- one node, two nodes, a packet

abbrev pub one_in : ℕ → List (List ℕ) → Option ℕ
one_in most (number ∷ []) = number_in most number
one_in most ws = None

abbrev pub suspect_in : ℕ → List (List ℕ) → Option Line
suspect_in members (node ∷ ws) = option_and_then (λ n. option_map (λ k. line.Suspect n k) (one_in members ws)) (number_in members node)
suspect_in members ws = None

-- ---- flushes

abbrev pub all_nodes : ℕ → List Bool
all_nodes zero = no_nodes
all_nodes (suc n) = set_with (all_nodes n) (suc n)

-- the set with the nodes that these words list
abbrev pub listed : ℕ → List Bool → List (List ℕ) → Option (List Bool)
listed members set [] = Some set
listed members set (word ∷ ws) = option_and_then (λ n. listed members (set_with set n) ws) (number_in members word)

-- all nodes, if none are listed
abbrev pub among_in : ℕ → List (List ℕ) → Option (List Bool)
among_in members [] = Some (all_nodes members)
among_in members (word ∷ ws) = listed members no_nodes (word ∷ ws)

-- ---- lines

-- what the line is, by its first word

abbrev pub other_line : ℕ → List ℕ → List (List ℕ) → Option Line
other_line members verb ws =
    if bytes_eq verb (codes "tick") then option_map (λ n. line.Tick n) (one_in members ws)
    else (if bytes_eq verb (codes "start") then option_map (λ n. line.Start n) (one_in members ws)
    else (if bytes_eq verb (codes "suspect") then suspect_in members ws
    else (if bytes_eq verb (codes "deliver") then option_map (λ p. line.Deliver p) (one_in last_packet ws)
    else (if bytes_eq verb (codes "cut") then option_map (λ n. line.Cut n) (one_in members ws)
    else (if bytes_eq verb (codes "crash") then option_map (λ n. line.Crash n) (one_in members ws)
    else (if bytes_eq verb (codes "restart") then option_map (λ n. line.Restart n) (one_in members ws)
    else (if bytes_eq verb (codes "flush") then option_map (λ among. line.Flush among) (among_in members ws)
    else None)))))))

abbrev pub line_by : ℕ → ℕ → List ℕ → List (List ℕ) → Option Line
line_by members draw verb ws = if bytes_eq verb (codes "take") then take_in members draw ws else other_line members verb ws

abbrev pub line_of_words : ℕ → ℕ → List (List ℕ) → Option Line
line_of_words members draw [] = None
line_of_words members draw (verb ∷ ws) = line_by members draw verb ws

-- the line that these octets spell in a cluster of this many members, if what they say has this draw; none if they spell no line
unfoldable pub line_of : ℕ → ℕ → List ℕ → Option Line
line_of members draw octets = if is_utf8 octets then line_of_words members draw (words octets) else None
