-- What callers see of a table and of a node's seat at it.
use Rattle.std.specs.Prelude.{◌≡◌, ◌≤◌, ℕ, zero, suc, ◌+◌, ◌*◌, ◌==◌, ◌&&◌, Bool}
use Rattle.std.specs.Prelude.{true, List, [], ◌∷◌, ◌++◌, length, map, fold, replicate, slice_set}
use Rattle.std.specs.List.{list_any, list_all}
use Rattle.atomic_table.specs.Seated.{TableId}
use Rattle.logbook.specs.Pages.{Book}
use Rattle.paxos_packets.specs.Members.{IsMember}
use Rattle.mail_table.specs.declared.part.Doing.TheVariants.{Idle}
use Rattle.mail_table.specs.declared.part.Part.{Part}
use Rattle.mail_table.specs.declared.size.Size.{Size}
use Rattle.mail_table.specs.Boxes.{Sat, sits}
use Rattle.mail_table.specs.Views.{length_in, only, place, unopened}

-- the office in which it was founded, the table's number there, the number of its nodes, and how many packets a box holds at most
pub record Mailed : Type 0 where
  pub office : Book
  pub table : ℕ
  pub members : ℕ
  pub most : ℕ

-- the office and the number of its table, the number of the table's nodes, and what the seat knows of its node
pub record Seated (B : Type 0) : Type 0 where
  pub office : Book
  pub table : ℕ
  pub members : ℕ
  pub part : Part B

-- the seat is one of this table: the same number in the same office, and so of as many nodes
abbrev pub Owns : {B : Type 0} → Mailed → Seated B → Type 0
Owns m s = (s.office ≡ m.office) × (s.table ≡ m.table) × (s.members ≡ m.members)

-- the seat after a step: at the same table, and this is what it knows
abbrev pub knows : {B : Type 0} → Part B → Seated B → Seated B
knows x s = record { office = s.office; table = s.table; members = s.members; part = x }

-- the seats that a table is founded with, by ascending node
abbrev pub new_seats : {B : Type 0} → Mailed → ℕ → List (Seated B)
new_seats m zero = []
new_seats m (suc k) = new_seats m k ++ record { office = m.office; table = m.table; members = m.members; part = unopened (suc k) } ∷ []

-- what the seats know
abbrev pub parts_of : {B : Type 0} → List (Seated B) → List (Part B)
parts_of seats = map (λ s. s.part) seats

-- every node up to this one sits
abbrev pub all_sit : {B : Type 0} → ℕ → List (Seated B) → Bool
all_sit zero seats = true
all_sit (suc k) seats = all_sit k seats && list_any (λ s. s.part.me == suc k) seats

-- just one seat for each node, all of this table
abbrev pub is_whole : {B : Type 0} → Mailed → List (Seated B) → Bool
is_whole m seats = (length seats == m.members) && (list_all (λ s. s.table == m.table) seats && all_sit m.members seats)

-- the lengths of the logs, by node
abbrev pub with_length : {B : Type 0} → List ℕ → Seated B → List ℕ
with_length lengths s = slice_set lengths (place s.part.me) (length_in s.part.seen)

abbrev pub lengths_of : {B : Type 0} → List (Seated B) → List ℕ
lengths_of seats = fold with_length (replicate 7 0) seats

-- a table of n nodes, whose boxes hold so many packets at most, has eight words and slots for each ordered pair, and eight words for each node:
-- the first of each is used
pub record IsSized (n most : ℕ) (of : Size) (t : TableId) : Type 0 where
  pub count : of.nodes ≡ n
  pub bound : of.most ≡ most
  pub some : 1 ≤ most
  pub words : t.words ≡ 8 * (n * n + n)
  pub slots : t.slots ≡ 8 * (n * n)
  pub least : 3 ≤ n
  pub few : n ≤ 7

-- the seat knows of one node alone, which is at no box, and holds no slot; its word has counted this many events, its log is this long
pub record IsAlone {B : Type 0} (n me_is count length_is : ℕ) (t : TableId) (me : Sat B) : Type 0 where
  pub alone : me ≡ sits (only me.0) []
  pub node : (only me.0).me ≡ me_is
  pub idle : (only me.0).doing ≡ Idle
  pub events : (only me.0).events ≡ count
  pub log : length_in (only me.0).seen ≡ length_is
  pub member : IsMember n me_is
  pub slots : t.slots ≡ 8 * (n * n)
  pub most : n ≤ 7
