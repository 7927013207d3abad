-- What a realm holds is read again, whatever follows, if its numbers and texts are.
use Rattle.std.proofs.Common.{◌≡◌, ℕ, ◌≤◌, Bool, true, false, ◌&&◌, cond, eqb, leb, ltb, List, [], ◌++◌, length}
use Rattle.std.proofs.Common.{take, drop, Option, None, Some, Result, Ok, Err, refl, ap, ◌∙◌, arith, lit<}
use Rattle.std.specs.Str.{is_utf8}
use Rattle.std.proofs.lemmas.Bool.{le-leb, ltb-false, ne_eqb, cond-true, cond-false, and_parts, and_from}
use Rattle.std.proofs.lemmas.List.{append_assoc, length-append, take_at, drop_at}
use Rattle.paxos_packets.specs.declared.transport.Transport.{Transport}
use Rattle.wamp_ids.specs.declared.policy.Match.{Match}
use Rattle.wamp_ids.specs.declared.policy.Match.TheVariants.{Exact, Prefix, Wildcard}
use Rattle.wamp_ids.specs.declared.policy.Invoke.{Invoke}
use Rattle.wamp_ids.specs.declared.policy.Invoke.TheVariants.{Single, First, Last, RoundRobin}
use Rattle.wamp_ids.specs.declared.uri.UriFault.{UriFault}
use Rattle.wamp_ids.specs.declared.uri.UriFault.TheVariants.{TooLong}
use Rattle.wamp_ids.specs.Pattern.{PatternValue, pattern_of, IsPattern}
use Rattle.command_codec.specs.declared.fault.CodecFault.TheVariants.{Short, Range}
use Rattle.command_codec.specs.Number.{number_reading, node_form, boot_form, transport_form}
use Rattle.realm_sessions.specs.declared.links.Session.{Session}
use Rattle.realm_sessions.specs.declared.links.Link.{Link}
use Rattle.realm_sessions.specs.Restoring.{is_numbered}
use Rattle.realm_registrations.specs.declared.registration.Registration.{Registration}
use Rattle.realm_subscriptions.specs.declared.subscription.Subscription.{Subscription}
use Rattle.realm_calls.specs.declared.calls.Open.{Open}
use Rattle.command_codec.proofs.Numbers.{number_bounds}
use Rattle.realm_snapshot.specs.Forms.{count_form, limit_form, length_form, id_form, id_or_none_form, flag_form, match_form, invoke_form}
use Rattle.realm_snapshot.specs.Writing.{one_octet, two_octets, four_octets, eight_octets, flag_octets, option_octets, list_octets}
use Rattle.realm_snapshot.specs.Writing.{name_octets, text_octets, match_number, invoke_number, transport_octets, session_octets}
use Rattle.realm_snapshot.specs.Writing.{link_octets, registration_octets, subscription_octets, call_octets}
use Rattle.realm_snapshot.specs.Reading.{id_reading, flag_reading, option_of, option_reading, match_of, match_reading, invoke_of}
use Rattle.realm_snapshot.specs.Reading.{invoke_reading, unless_text, octets_reading, name_reading, text_reading, unless_faulty}
use Rattle.realm_snapshot.specs.Reading.{pattern_reading, list_reading, transport_reading, session_reading, link_reading}
use Rattle.realm_snapshot.specs.Reading.{registration_reading, subscription_reading, call_reading}
use Rattle.realm_snapshot.specs.Snapshot.{Backs}
use Rattle.realm_snapshot.proofs.RoundTrip.{step, then_back, mapped_back, length_back, last_back, octet_back, boot_back}
use Rattle.realm_snapshot.proofs.RoundTrip.{transport_number_back}

-- ---- numbers that stand for something else

pub flag_back : (flag : Bool) → Backs flag_reading (flag_octets flag) flag
flag_back false = mapped_back (number_reading flag_form) (one_octet 0) 0 (λ n. eqb n 1) (octet_back flag_form 0 refl (lit< tt) refl)
flag_back true = mapped_back (number_reading flag_form) (one_octet 1) 1 (λ n. eqb n 1) (octet_back flag_form 1 refl (lit< tt) refl)

pub match_back : (matching : Match) → Backs match_reading (one_octet (match_number matching)) matching
match_back Exact = mapped_back (number_reading match_form) (one_octet 0) 0 match_of (octet_back match_form 0 refl (lit< tt) refl)
match_back Prefix = mapped_back (number_reading match_form) (one_octet 1) 1 match_of (octet_back match_form 1 refl (lit< tt) refl)
match_back Wildcard = mapped_back (number_reading match_form) (one_octet 2) 2 match_of (octet_back match_form 2 refl (lit< tt) refl)

pub invoke_back : (invoke : Invoke) → Backs invoke_reading (one_octet (invoke_number invoke)) invoke
invoke_back Single = mapped_back (number_reading invoke_form) (one_octet 0) 0 invoke_of (octet_back invoke_form 0 refl (lit< tt) refl)
invoke_back First = mapped_back (number_reading invoke_form) (one_octet 1) 1 invoke_of (octet_back invoke_form 1 refl (lit< tt) refl)
invoke_back Last = mapped_back (number_reading invoke_form) (one_octet 2) 2 invoke_of (octet_back invoke_form 2 refl (lit< tt) refl)
invoke_back RoundRobin = mapped_back (number_reading invoke_form) (one_octet 3) 3 invoke_of (octet_back invoke_form 3 refl (lit< tt) refl)

pub none_back : Backs option_reading (option_octets None) None
none_back = mapped_back (number_reading id_or_none_form) (eight_octets 0) 0 option_of (last_back 0 (omega arith))

-- an id is one of the numbers from 1 on
pub some_back : (id : ℕ) → Backs id_reading (eight_octets id) id → Backs option_reading (option_octets (Some id)) (Some id)
some_back id again rest =
    let bounds = number_bounds id_form 7 id (eight_octets id ++ []) [] refl (again []) in
    mapped_back (number_reading id_or_none_form) (eight_octets id) id option_of (last_back id bounds.1) rest
    ∙ ap (λ (o : Option ℕ). Ok (o, rest)) (cond-false (eqb id 0) None (Some id) (ne_eqb id 0 (λ e. let least = bounds.0 in omega arith)))

-- ---- texts

pub octets_back : (text : List ℕ) → is_utf8 text ≡ true → Backs (octets_reading (length text)) text text
octets_back text valid rest =
    let all = text ++ rest in
    let count = length text in
    let fits : count ≤ length all = (let both = length-append text rest in omega arith) in
    cond-true (leb count (length all)) (unless_text (take count all) (drop count all)) (Err Short) (le-leb count (length all) fits)
    ∙ ap (λ front. unless_text front (drop count all)) (take_at text rest count refl)
    ∙ ap (λ behind. unless_text text behind) (drop_at text rest count refl)
    ∙ cond-true (is_utf8 text) (Ok (text, rest)) (Err Range) valid

pub name_back : (name : List ℕ) → Backs (number_reading count_form) (eight_octets (length name)) (length name) → is_utf8 name ≡ true
    → Backs name_reading (name_octets name) name
name_back name count valid =
    then_back (number_reading count_form) (eight_octets (length name)) (length name) octets_reading name name count (octets_back name valid)

pub text_back : (text : List ℕ) → length text ≤ 1024 → is_utf8 text ≡ true → Backs text_reading (text_octets text) text
text_back text short valid =
    then_back (number_reading length_form) (two_octets (length text)) (length text) octets_reading text text
    (length_back (length text) short) (octets_back text valid)

not_long : (b : Bool) (other : Result PatternValue UriFault) (pattern : PatternValue) → cond b (Err TooLong) other ≡ Ok pattern → b ≡ false
not_long true other pattern h = cc
not_long false other pattern h = refl

-- a pattern's text has at most 1,024 octets
pub is_short : (pattern : PatternValue) → IsPattern pattern → length pattern.text ≤ 1024
is_short pattern is = ltb-false 1024 (length pattern.text) (not_long (ltb 1024 (length pattern.text)) _ pattern is)

pub pattern_back : (pattern : PatternValue) → IsPattern pattern → is_utf8 pattern.text ≡ true
    → Backs (pattern_reading pattern.matching) (text_octets pattern.text) pattern
pattern_back pattern is valid rest =
    step text_reading (text_octets pattern.text) pattern.text (λ text left. unless_faulty (pattern_of text pattern.matching) left) rest
    (Ok (pattern, rest)) (text_back pattern.text (is_short pattern is) valid) (ap (λ made. unless_faulty made rest) is)

-- ---- what a realm holds

-- what follows comes after the parts
pub two_before : (a b rest : List ℕ) → (a ++ b) ++ rest ≡ a ++ (b ++ rest)
two_before a b rest = append_assoc a b rest

pub three_before : (a b c rest : List ℕ) → (a ++ (b ++ c)) ++ rest ≡ a ++ (b ++ (c ++ rest))
three_before a b c rest = append_assoc a (b ++ c) rest ∙ ap (λ l. a ++ l) (append_assoc b c rest)

pub four_before : (a b c d rest : List ℕ) → (a ++ (b ++ (c ++ d))) ++ rest ≡ a ++ (b ++ (c ++ (d ++ rest)))
four_before a b c d rest = append_assoc a (b ++ (c ++ d)) rest ∙ ap (λ l. a ++ l) (three_before b c d rest)

pub five_before : (a b c d e rest : List ℕ) → (a ++ (b ++ (c ++ (d ++ e)))) ++ rest ≡ a ++ (b ++ (c ++ (d ++ (e ++ rest))))
five_before a b c d e rest = append_assoc a (b ++ (c ++ (d ++ e))) rest ∙ ap (λ l. a ++ l) (four_before b c d e rest)

pub transport_back : (t : Transport) → Backs (number_reading limit_form) (four_octets t.number) t.number → is_numbered t ≡ true
    → Backs transport_reading (transport_octets t) t
transport_back t again numbered rest =
    let halves = and_parts (leb 1 t.node && leb t.node 7) ((leb 1 t.boot && leb t.boot 281474976710655) && leb 1 t.number) numbered in
    let later = and_parts (leb 1 t.boot && leb t.boot 281474976710655) (leb 1 t.number) halves.1 in
    let bounds = number_bounds limit_form 3 t.number (four_octets t.number ++ []) [] refl (again []) in
    let number = and_from (leb 1 t.number) (leb t.number 4294967295) later.1 (le-leb t.number 4294967295 bounds.1) in
    let front = one_octet t.node in
    let middle = eight_octets t.boot in
    let end = four_octets t.number in
    ap transport_reading (three_before front middle end rest)
    ∙ step (number_reading node_form) front t.node _ _ _ (octet_back node_form t.node refl (lit< tt) halves.0)
    (step (number_reading boot_form) middle t.boot _ _ _ (boot_back t.boot later.0)
    (step (number_reading transport_form) end t.number _ _ _ (transport_number_back t.number number) refl))

pub no_session_back : Backs session_reading (session_octets None) None
no_session_back rest =
    ap session_reading (three_before (eight_octets 0) (one_octet 0) (eight_octets 0) rest)
    ∙ step option_reading (eight_octets 0) None _ _ _ none_back
    (step flag_reading (one_octet 0) false _ _ _ (flag_back false) (step option_reading (eight_octets 0) None _ _ _ none_back refl))

pub session_back : (session : Session) → Backs id_reading (eight_octets session.id) session.id
    → Backs option_reading (option_octets session.last_invocation) session.last_invocation
    → Backs session_reading (session_octets (Some session)) (Some session)
session_back session id last rest =
    let front = eight_octets session.id in
    let middle = flag_octets session.canceling in
    let end = option_octets session.last_invocation in
    ap session_reading (three_before front middle end rest)
    ∙ step option_reading front (Some session.id) _ _ _ (some_back session.id id)
    (step flag_reading middle session.canceling _ _ _ (flag_back session.canceling)
    (step option_reading end session.last_invocation _ _ _ last refl))

pub link_back : (link : Link) → Backs transport_reading (transport_octets link.transport) link.transport
    → Backs session_reading (session_octets link.session) link.session → Backs link_reading (link_octets link) link
link_back link transport session rest =
    let front = transport_octets link.transport in
    let end = session_octets link.session in
    ap link_reading (two_before front end rest)
    ∙ step transport_reading front link.transport _ _ _ transport (step session_reading end link.session _ _ _ session refl)

pub registration_back : (it : Registration) → Backs id_reading (eight_octets it.id) it.id
    → Backs (pattern_reading it.pattern.matching) (text_octets it.pattern.text) it.pattern
    → Backs (list_reading id_reading) (list_octets eight_octets it.callees) it.callees
    → Backs registration_reading (registration_octets it) it
registration_back it id pattern callees rest =
    let a = eight_octets it.id in
    let b = one_octet (match_number it.pattern.matching) in
    let c = one_octet (invoke_number it.invoke) in
    let d = text_octets it.pattern.text in
    let e = list_octets eight_octets it.callees in
    ap registration_reading (five_before a b c d e rest)
    ∙ step id_reading a it.id _ _ _ id
    (step match_reading b it.pattern.matching _ _ _ (match_back it.pattern.matching)
    (step invoke_reading c it.invoke _ _ _ (invoke_back it.invoke)
    (step (pattern_reading it.pattern.matching) d it.pattern _ _ _ pattern
    (step (list_reading id_reading) e it.callees _ _ _ callees refl))))

pub subscription_back : (it : Subscription) → Backs id_reading (eight_octets it.id) it.id
    → Backs (pattern_reading it.pattern.matching) (text_octets it.pattern.text) it.pattern
    → Backs (list_reading id_reading) (list_octets eight_octets it.members) it.members
    → Backs subscription_reading (subscription_octets it) it
subscription_back it id pattern members rest =
    let a = eight_octets it.id in
    let b = one_octet (match_number it.pattern.matching) in
    let c = text_octets it.pattern.text in
    let d = list_octets eight_octets it.members in
    ap subscription_reading (four_before a b c d rest)
    ∙ step id_reading a it.id _ _ _ id
    (step match_reading b it.pattern.matching _ _ _ (match_back it.pattern.matching)
    (step (pattern_reading it.pattern.matching) c it.pattern _ _ _ pattern
    (step (list_reading id_reading) d it.members _ _ _ members refl)))

pub call_back : (call : Open) → Backs id_reading (eight_octets call.caller) call.caller
    → Backs id_reading (eight_octets call.request) call.request → Backs id_reading (eight_octets call.callee) call.callee
    → Backs id_reading (eight_octets call.invocation) call.invocation → Backs call_reading (call_octets call) call
call_back call caller request callee invocation rest =
    let a = eight_octets call.caller in
    let b = eight_octets call.request in
    let c = eight_octets call.callee in
    let d = eight_octets call.invocation in
    let e = flag_octets call.progress in
    ap call_reading (five_before a b c d e rest)
    ∙ step id_reading a call.caller _ _ _ caller
    (step id_reading b call.request _ _ _ request
    (step id_reading c call.callee _ _ _ callee
    (step id_reading d call.invocation _ _ _ invocation (step flag_reading e call.progress _ _ _ (flag_back call.progress) refl))))
