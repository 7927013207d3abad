-- What is read of octets that were written, if anything is, is what was written, also where a number is out of its range.
use Rattle.std.proofs.Common.{◌≡◌, ℕ, zero, suc, ◌+◌, ◌*◌, ◌/◌, ◌%◌, ◌^◌, ◌<◌, Bool, true, false, ◌||◌, cond, ltb, List, [], ◌∷◌, ◌++◌}
use Rattle.std.proofs.Common.{length, Ok, Err, IfOk, refl, sym, ap, ◌∙◌, subst, arith}
use Rattle.std.specs.List.{flat_map}
use Rattle.std.specs.Int.{byte_at, bytes_high_first}
use Rattle.std.proofs.lemmas.List.{append_assoc}
use Rattle.std.proofs.Math.Nat.{pow-suc, div-div-eq-div-mul, div-eq_of_lt}
use Rattle.paxos_packets.specs.declared.transport.Transport.{Transport}
use Rattle.command_codec.specs.declared.fault.CodecFault.TheVariants.{Range}
use Rattle.command_codec.specs.declared.number.Form.{Form}
use Rattle.command_codec.specs.Coder.{and_then}
use Rattle.command_codec.specs.Number.{Reading, cut, number_from, number_reading, node_form, boot_form, transport_form}
use Rattle.realm_sessions.specs.declared.links.Link.{Link}
use Rattle.realm_machine.specs.Machine.{Live}
use Rattle.realm_machine.specs.Parts.{Lists, lists_of}
use Rattle.realm_snapshot.specs.Forms.{count_form, id_or_none_form}
use Rattle.realm_snapshot.specs.Writing.{one_octet, four_octets, eight_octets, list_octets, transport_octets, session_octets, link_octets}
use Rattle.realm_snapshot.specs.Writing.{registration_octets, subscription_octets, call_octets, config_octets, lists_octets, saved}
use Rattle.realm_snapshot.specs.Reading.{elements_reading, list_reading, transport_reading, session_reading, link_reading}
use Rattle.realm_snapshot.specs.Reading.{registration_reading, subscription_reading, call_reading, config_reading, lists_reading}
use Rattle.realm_snapshot.specs.Reading.{made_reading}
use Rattle.realm_snapshot.specs.Snapshot.{Backs, ReadsNoOther}
use Rattle.realm_snapshot.proofs.RoundTrip.{Each}
use Rattle.realm_snapshot.proofs.PartsBack.{two_before, three_before, four_before}

-- ---- one part after another

-- what is read again, is read as nothing else
pub no_other : {A : Type 0} (reading : List ℕ → Reading A) (octets : List ℕ) (value : A) → Backs reading octets value
    → ReadsNoOther reading octets value
no_other {A} reading octets value back rest =
    subst (λ (r : Reading A). IfOk r (λ read. read ≡ (value, rest))) (sym (back rest)) refl

after : {A C : Type 0} (next : A → List ℕ → Reading C) (P : C × List ℕ → Type 0) (value : A) (more : List ℕ) (r : Reading A)
    → IfOk r (λ read. read ≡ (value, more)) → IfOk (next value more) P → IfOk (and_then r next) P
after {A} next P value more (Ok read) is second = subst (λ (r : A × List ℕ). IfOk (next r.0 r.1) P) (sym is) second
after next P value more (Err fault) is second = tt

-- the first part is read as nothing else, and then the others
pub only_step : {A C : Type 0} (reading : List ℕ → Reading A) (octets : List ℕ) (value : A) (next : A → List ℕ → Reading C)
    (more : List ℕ) (P : C × List ℕ → Type 0) → ReadsNoOther reading octets value → IfOk (next value more) P
    → IfOk (and_then (reading (octets ++ more)) next) P
only_step reading octets value next more P first second = after next P value more (reading (octets ++ more)) (first more) second

-- what is read at the octets as they are joined here, is read at those
joined : {A : Type 0} (reading : List ℕ → Reading A) (value : A) (rest here there : List ℕ) → there ≡ here
    → IfOk (reading here) (λ read. read ≡ (value, rest)) → IfOk (reading there) (λ read. read ≡ (value, rest))
joined reading value rest here there is only = subst (λ l. IfOk (reading l) (λ read. read ≡ (value, rest))) (sym is) only

-- ---- lists

elements_only : {A : Type 0} (octets_of : A → List ℕ) (reading : List ℕ → Reading A) (list : List A)
    → Each (λ x. ReadsNoOther reading (octets_of x) x) list
    → ReadsNoOther (elements_reading reading (length list)) (flat_map octets_of list) list
elements_only octets_of reading [] each rest = refl
elements_only octets_of reading (x ∷ xs) each rest =
    let more = flat_map octets_of xs in
    joined (elements_reading reading (suc (length xs))) (x ∷ xs) rest (octets_of x ++ (more ++ rest)) ((octets_of x ++ more) ++ rest)
    (append_assoc (octets_of x) more rest)
    (only_step reading (octets_of x) x _ (more ++ rest) _ each.0
    (only_step (elements_reading reading (length xs)) more xs _ rest _ (elements_only octets_of reading xs each.1) refl))

pub list_only : {A : Type 0} (octets_of : A → List ℕ) (reading : List ℕ → Reading A) (list : List A)
    → Backs (number_reading count_form) (eight_octets (length list)) (length list)
    → Each (λ x. ReadsNoOther reading (octets_of x) x) list → ReadsNoOther (list_reading reading) (list_octets octets_of list) list
list_only octets_of reading list count each rest =
    let front = eight_octets (length list) in
    let more = flat_map octets_of list in
    joined (list_reading reading) list rest (front ++ (more ++ rest)) ((front ++ more) ++ rest) (append_assoc front more rest)
    (only_step (number_reading count_form) front (length list) (elements_reading reading) (more ++ rest) _
    (no_other (number_reading count_form) front (length list) count) (elements_only octets_of reading list each rest))

-- ---- numbers

cut_more : (n k : ℕ) → cut n (suc k) * 256 + byte_at k n ≡ cut n k
cut_more n k =
    ap (λ b. cut n (suc k) * 256 + b) (byte_is k)
    ∙ ap (λ c. c * 256 + cut n k % 256) (ap (λ u. n / u) (pow-suc 256 k) ∙ sym (div-div-eq-div-mul n (256 ^ k) 256))
    ∙ (let m = cut n k in omega arith)
  where
    byte_is : (k : ℕ) → byte_at k n ≡ cut n k % 256
    byte_is zero = ap (λ m. m % 256) (let z : n ≡ cut n 0 = omega arith in z)
    byte_is (suc k) = refl

unless : {A : Type 0} (P : A × List ℕ → Type 0) (b : Bool) (r : Reading A) → IfOk r P → IfOk (cond b (Err Range) r) P
unless P true r h = tt
unless P false r h = h

from_number : (k n so_far low high : ℕ) (rest : List ℕ) → so_far ≡ cut n k
    → IfOk (number_from so_far k low high (bytes_high_first k n ++ rest)) (λ read. read ≡ (n, rest))
from_number zero n so_far low high rest come = ap (λ m. (m, rest)) (come ∙ (let z : cut n 0 ≡ n = omega arith in z))
from_number (suc k) n so_far low high rest come =
    let next = so_far * 256 + byte_at k n in
    unless (λ read. read ≡ (n, rest)) (ltb next (cut low k) || ltb (cut high k) next)
    (number_from next k low high (bytes_high_first k n ++ rest))
    (from_number k n next low high rest (ap (λ s. s * 256 + byte_at k n) come ∙ cut_more n k))

-- whatever range it is looked for in
pub number_only : (form : Form) (n : ℕ) → n < 256 ^ form.width
    → ReadsNoOther (number_reading form) (bytes_high_first form.width n) n
unfolding number_reading
number_only form n fits rest = from_number form.width n 0 form.low form.high rest (sym (div-eq_of_lt fits))

node_only : (n : ℕ) → n < 256 → ReadsNoOther (number_reading node_form) (one_octet n) n
node_only n small = number_only node_form n small

boot_only : (n : ℕ) → n < 2 ^ 64 → ReadsNoOther (number_reading boot_form) (eight_octets n) n
unfolding eight_octets
boot_only n small = number_only boot_form n small

connection_only : (n : ℕ) → n < 2 ^ 32 → ReadsNoOther (number_reading transport_form) (four_octets n) n
unfolding four_octets
connection_only n small = number_only transport_form n small

-- ---- what a realm holds

pub transport_only : (t : Transport) → t.node < 256 → t.boot < 2 ^ 64 → t.number < 2 ^ 32
    → ReadsNoOther transport_reading (transport_octets t) t
transport_only t node boot number rest =
    let front = one_octet t.node in
    let middle = eight_octets t.boot in
    let end = four_octets t.number in
    joined transport_reading t rest (front ++ (middle ++ (end ++ rest))) (transport_octets t ++ rest) (three_before front middle end rest)
    (only_step (number_reading node_form) front t.node _ _ _ (node_only t.node node)
    (only_step (number_reading boot_form) middle t.boot _ _ _ (boot_only t.boot boot)
    (only_step (number_reading transport_form) end t.number _ _ _ (connection_only t.number number) refl)))

pub link_only : (link : Link) → ReadsNoOther transport_reading (transport_octets link.transport) link.transport
    → Backs session_reading (session_octets link.session) link.session → ReadsNoOther link_reading (link_octets link) link
link_only link transport session rest =
    let front = transport_octets link.transport in
    let end = session_octets link.session in
    joined link_reading link rest (front ++ (end ++ rest)) (link_octets link ++ rest) (two_before front end rest)
    (only_step transport_reading front link.transport _ _ _ transport
    (only_step session_reading end link.session _ _ _ (no_other session_reading end link.session session) refl))

-- ---- a realm

pub lists_only : (lists : Lists) → Backs (number_reading id_or_none_form) (eight_octets lists.last_registration) lists.last_registration
    → Backs (number_reading id_or_none_form) (eight_octets lists.last_subscription) lists.last_subscription
    → ReadsNoOther (list_reading link_reading) (list_octets link_octets lists.links) lists.links
    → Backs (list_reading registration_reading) (list_octets registration_octets lists.registrations) lists.registrations
    → Backs (list_reading subscription_reading) (list_octets subscription_octets lists.subscriptions) lists.subscriptions
    → Backs (list_reading call_reading) (list_octets call_octets lists.calls) lists.calls
    → ReadsNoOther lists_reading (lists_octets lists) lists
lists_only lists first second links registrations subscriptions calls rest =
    let a = eight_octets lists.last_registration in
    let b = eight_octets lists.last_subscription in
    let c = list_octets link_octets lists.links in
    let d = list_octets registration_octets lists.registrations in
    let e = list_octets subscription_octets lists.subscriptions in
    let f = list_octets call_octets lists.calls in
    joined lists_reading lists rest (a ++ (b ++ (c ++ (d ++ (e ++ (f ++ rest)))))) (lists_octets lists ++ rest)
    (four_before a b c (d ++ (e ++ f)) rest ∙ ap (λ l. a ++ (b ++ (c ++ l))) (three_before d e f rest))
    (only_step (number_reading id_or_none_form) a lists.last_registration _ _ _ (no_other (number_reading id_or_none_form) a _ first)
    (only_step (number_reading id_or_none_form) b lists.last_subscription _ _ _ (no_other (number_reading id_or_none_form) b _ second)
    (only_step (list_reading link_reading) c lists.links _ _ _ links
    (only_step (list_reading registration_reading) d lists.registrations _ _ _
    (no_other (list_reading registration_reading) d _ registrations)
    (only_step (list_reading subscription_reading) e lists.subscriptions _ _ _
    (no_other (list_reading subscription_reading) e _ subscriptions)
    (only_step (list_reading call_reading) f lists.calls _ _ _ (no_other (list_reading call_reading) f _ calls) refl))))))

pub made_only : (live : Live) → Backs config_reading (config_octets live.config) live.config
    → ReadsNoOther lists_reading (lists_octets (lists_of live.content)) (lists_of live.content)
    → ReadsNoOther made_reading (saved live) (record { config = live.config; lists = lists_of live.content })
made_only live config lists rest =
    let a = config_octets live.config in
    let b = lists_octets (lists_of live.content) in
    joined made_reading (record { config = live.config; lists = lists_of live.content }) rest (a ++ (b ++ rest)) (saved live ++ rest)
    (two_before a b rest)
    (only_step config_reading a live.config _ _ _ (no_other config_reading a live.config config)
    (only_step lists_reading b (lists_of live.content) _ _ _ lists refl))
