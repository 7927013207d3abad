-- An office: the tables that were founded in it, in order, by their names.
use Rattle.std.specs.Prelude.{◌≡◌, ℕ, ◌==◌, true, List, [], ◌∷◌, ◌++◌, length, MatchBool, Some, slice_get}
use Rattle.atomic_table.specs.Seated.{TableId}
use Rattle.logbook.specs.Pages.{Cell, Step, View, Book, Named}
use Rattle.mail_table.specs.declared.name.Name.{Name}

-- the name of a table; two tables with one name are one
abbrev pub name_of : TableId → Name
name_of t =
    record {
      words = t.words;
      slots = t.slots;
      views_name = t.views_name;
      atom = t.atom;
      block = t.block;
      offset = t.offset;
      slot_names = t.slot_names;
    }

-- the first word is the number of tables that were founded; a book has two words, of which this one leaves the second at 0
abbrev pub IsCounted : List Cell → List Name → Type 0
IsCounted cells log = cells ≡ (length log, true) ∷ (0, true) ∷ []

abbrev pub head_of : Book → Named
head_of b = record { tracked = true; key = 0; book = b }

-- the name was added to all that had been seen; or there are more, and all were seen
abbrev pub Adds : Step Name → View Name ℕ → ℕ → View Name ℕ → Type 0
Adds s v found w = MatchBool (found == s.old) (w.0 ≡ v.0 ++ s.ask ∷ []) (length w.0 ≡ found)

-- both lists have one and the same name under this number
abbrev pub SameName : List Name → List Name → ℕ → Type 0
SameName xs ys k = slice_get xs k ≡ slice_get ys k

-- what callers see of an office: which it is, and how many tables were founded
pub record Officed : Type 0 where
  pub book : Book
  pub founded : ℕ
