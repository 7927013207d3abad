-- An option of a message: what its dictionary holds at a key (WAMP specification, "Protocol Messages": Options|dict).
use Rattle.std.specs.Prelude.{ℕ, List, Bool, Option, Some, None}
use Rattle.serde_json.specs.Data.{Data}
use Rattle.serde_json.specs.Find.{get, as_str, as_bool}
use Rattle.wamp_values.specs.declared.found.Found.{Found}
use Rattle.wamp_values.specs.declared.found.Found.TheVariants.{Absent, Is, Other}

abbrev pub is_or_other : {A : Type 0} → Option A → Found A
is_or_other None = Other
is_or_other (Some a) = Is a

-- nothing at the key, a value of the type that `read` reads, or one of another type
abbrev pub found_by : {A : Type 0} → (Data → Option A) → Option Data → Found A
found_by read None = Absent
found_by read (Some d) = is_or_other (read d)

abbrev pub found_map : {A B : Type 0} → (A → B) → Found A → Found B
found_map f Absent = Absent
found_map f (Is a) = Is (f a)
found_map f Other = Other

abbrev pub text_at : List ℕ → Data → Found (List ℕ)
text_at key d = found_by as_str (get key d)

abbrev pub bool_at : List ℕ → Data → Found Bool
bool_at key d = found_by as_bool (get key d)
