-- What is written is read again, whatever follows: one part after another, lists, numbers.
use Rattle.std.proofs.Common.{◌≡◌, ℕ, ◌^◌, ◌<◌, ◌≤◌, true, ◌&&◌, leb, List, [], ◌∷◌, ◌++◌, length, Ok, refl, sym, ap, ◌∙◌, subst}
use Rattle.std.proofs.Common.{arith, lit<}
use Rattle.std.specs.List.{flat_map}
use Rattle.std.specs.Int.{bytes_high_first}
use Rattle.std.proofs.lemmas.Bool.{le-leb, and_from}
use Rattle.std.proofs.lemmas.List.{append_assoc}
use Rattle.wamp_ids.specs.Id.{is_id}
use Rattle.command_codec.specs.declared.number.Form.{Form}
use Rattle.command_codec.specs.Coder.{and_then}
use Rattle.command_codec.specs.Number.{Reading, number_octets, number_reading, is_within, boot_form, transport_form}
use Rattle.command_codec.proofs.Numbers.{number_again}
use Rattle.realm_snapshot.specs.Forms.{count_form, length_form, limit_form, id_form, id_or_none_form}
use Rattle.realm_snapshot.specs.Writing.{one_octet, two_octets, four_octets, eight_octets, list_octets}
use Rattle.realm_snapshot.specs.Reading.{id_reading, elements_reading, list_reading}
use Rattle.realm_snapshot.specs.Snapshot.{Backs}

-- ---- one part after another

-- the first part is read, and then the others
pub step : {A C : Type 0} (reading : List ℕ → Reading A) (octets : List ℕ) (value : A) (next : A → List ℕ → Reading C) (more : List ℕ)
    (end : Reading C) → Backs reading octets value → next value more ≡ end → and_then (reading (octets ++ more)) next ≡ end
step reading octets value next more end first second = ap (λ r. and_then r next) (first more) ∙ second

-- two parts, one after the other
pub then_back : {A C : Type 0} (reading : List ℕ → Reading A) (octets : List ℕ) (value : A) (next : A → List ℕ → Reading C)
    (more : List ℕ) (whole : C) → Backs reading octets value → Backs (next value) more whole
    → Backs (λ all. and_then (reading all) next) (octets ++ more) whole
then_back reading octets value next more whole first second rest =
    ap (λ all. and_then (reading all) next) (append_assoc octets more rest)
    ∙ step reading octets value next (more ++ rest) (Ok (whole, rest)) first (second rest)

-- the value is another one of what is read
pub mapped_back : {A C : Type 0} (reading : List ℕ → Reading A) (octets : List ℕ) (value : A) (f : A → C)
    → Backs reading octets value → Backs (λ all. and_then (reading all) (λ read rest. Ok (f read, rest))) octets (f value)
mapped_back reading octets value f first rest = ap (λ r. and_then r (λ read rest. Ok (f read, rest))) (first rest)

-- ---- lists

-- each element has it
abbrev pub Each : {A : Type 0} → (A → Type 0) → List A → Type 0
Each P [] = Unit {0}
Each P (x ∷ xs) = P x × Each P xs

pub elements_back : {A : Type 0} (octets_of : A → List ℕ) (reading : List ℕ → Reading A) (list : List A)
    → Each (λ x. Backs reading (octets_of x) x) list → Backs (elements_reading reading (length list)) (flat_map octets_of list) list
elements_back octets_of reading [] each rest = refl
elements_back octets_of reading (x ∷ xs) each rest =
    then_back reading (octets_of x) x
    (λ first left. and_then (elements_reading reading (length xs) left) (λ more left. Ok (first ∷ more, left)))
    (flat_map octets_of xs) (x ∷ xs) each.0
    (mapped_back (elements_reading reading (length xs)) (flat_map octets_of xs) xs (λ more. x ∷ more)
    (elements_back octets_of reading xs each.1)) rest

pub list_back : {A : Type 0} (octets_of : A → List ℕ) (reading : List ℕ → Reading A) (list : List A)
    → Backs (number_reading count_form) (eight_octets (length list)) (length list)
    → Each (λ x. Backs reading (octets_of x) x) list → Backs (list_reading reading) (list_octets octets_of list) list
list_back octets_of reading list count each =
    then_back (number_reading count_form) (eight_octets (length list)) (length list) (elements_reading reading)
    (flat_map octets_of list) list count (elements_back octets_of reading list each)

-- ---- numbers

pub number_back : (form : Form) (n : ℕ) → form.high < 256 ^ form.width → is_within form n ≡ true
    → Backs (number_reading form) (bytes_high_first form.width n) n
unfolding number_octets
number_back form n fits within rest = number_again form n rest fits within

-- a number from 0 on
pub from_none : (n high : ℕ) → n ≤ high → (leb 0 n && leb n high) ≡ true
from_none n high most = and_from (leb 0 n) (leb n high) (le-leb 0 n (omega arith)) (le-leb n high most)

pub count_back : (n : ℕ) → n < 2 ^ 64 → Backs (number_reading count_form) (eight_octets n) n
unfolding eight_octets
count_back n small = number_back count_form n (lit< tt) (from_none n 18446744073709551615 (omega arith))

pub limit_back : (n : ℕ) → n < 2 ^ 32 → Backs (number_reading limit_form) (four_octets n) n
unfolding four_octets
limit_back n small = number_back limit_form n (lit< tt) (from_none n 4294967295 (omega arith))

pub length_back : (n : ℕ) → n ≤ 1024 → Backs (number_reading length_form) (two_octets n) n
unfolding two_octets
length_back n small = number_back length_form n (lit< tt) (from_none n 65535 (omega arith))

pub id_back : (n : ℕ) → is_id n ≡ true → Backs id_reading (eight_octets n) n
unfolding eight_octets
id_back n within = number_back id_form n (lit< tt) within

pub last_back : (n : ℕ) → n ≤ 9007199254740992 → Backs (number_reading id_or_none_form) (eight_octets n) n
unfolding eight_octets
last_back n within = number_back id_or_none_form n (lit< tt) (from_none n 9007199254740992 within)

-- a number of one octet
pub octet_back : (form : Form) (n : ℕ) → form.width ≡ 1 → form.high < 256 → is_within form n ≡ true
    → Backs (number_reading form) (one_octet n) n
octet_back form n narrow fits within =
    subst (λ w. Backs (number_reading form) (bytes_high_first w n) n) narrow
    (number_back form n (subst (λ w. form.high < 256 ^ w) (sym narrow) fits) within)

-- the octets of a boot and of a transport's number
pub boot_back : (n : ℕ) → is_within boot_form n ≡ true → Backs (number_reading boot_form) (eight_octets n) n
unfolding eight_octets
boot_back n within = number_back boot_form n (lit< tt) within

pub transport_number_back : (n : ℕ) → is_within transport_form n ≡ true → Backs (number_reading transport_form) (four_octets n) n
unfolding four_octets
transport_number_back n within = number_back transport_form n (lit< tt) within
