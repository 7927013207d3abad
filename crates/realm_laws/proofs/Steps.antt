-- Every input, and the traces of every list of inputs.
use Rattle.std.proofs.Common.{◌≡◌, ℕ, ◌+◌, ◌≤◌, ◌==◌, Bool, true, false, ◌&&◌, refl, sym, ◌∙◌, subst}
use Rattle.std.proofs.Common.{if◌then◌else◌}
use Rattle.std.proofs.Common.{List, [], ◌∷◌, ◌++◌, Option, Some, None, arith}
use Rattle.std.specs.List.{flat_map}
use Rattle.std.proofs.lemmas.Bool.{cond_both, and_parts, and_from, eqb-true, eq-eqb, both_ways, false≢true}
use Rattle.paxos_packets.specs.declared.transport.Transport.{Transport}
use Rattle.paxos_packets.specs.Transport.{same_transport}
use Rattle.replica_machine.specs.declared.input.Input.{Input}
use Rattle.replica_machine.specs.declared.input.Input.TheVariants.{Boot, Lost, Item}
use Rattle.wamp_message_types.specs.declared.request_kind.RequestKind.{RequestKind}
use Rattle.wamp_message_types.specs.declared.request_kind.RequestKind.TheVariants as kind
use Rattle.wamp_message_types.specs.declared.error.Error as error
use Rattle.wamp_message_types.specs.declared.message.Message.{Message}
use Rattle.wamp_message_types.specs.declared.message.Message.TheVariants.{Hello, Welcome, Abort, Goodbye, Error, Publish}
use Rattle.wamp_message_types.specs.declared.message.Message.TheVariants.{Published}
use Rattle.wamp_message_types.specs.declared.message.Message.TheVariants.{Subscribe, Subscribed, Unsubscribe, Unsubscribed}
use Rattle.wamp_message_types.specs.declared.message.Message.TheVariants.{Event, Register}
use Rattle.wamp_message_types.specs.declared.message.Message.TheVariants.{Registered, Unregister, Unregistered, Call, Cancel}
use Rattle.wamp_message_types.specs.declared.message.Message.TheVariants.{CallResult, Invocation}
use Rattle.wamp_message_types.specs.declared.message.Message.TheVariants.{Interrupt, Yield}
use Rattle.wamp_message_types.specs.declared.read_result.UnfitKind.{UnfitKind}
use Rattle.wamp_message_types.specs.declared.read_result.UnfitKind.TheVariants as unfit
use Rattle.wamp_message_types.specs.declared.read_result.Read.{Read}
use Rattle.wamp_message_types.specs.declared.read_result.Read.TheVariants.{Good, Unfit, Bad}
use Rattle.realm_sessions.specs.Links.{by_transport, of_origin}
use Rattle.realm_sessions.proofs.SoundLinks.{same_is, is_same, nothing_sound}
use Rattle.realm_calls.specs.declared.calls.Open.{Open}
use Rattle.realm_calls.proofs.SoundCalls.{nothing_sound as no_calls}
use Rattle.realm_sessions.specs.Links.{is_taken}
use Rattle.realm_acts.specs.declared.act.Act.{Act}
use Rattle.realm_acts.specs.declared.act.Act.TheVariants.{Connect, Said, Hung}
use Rattle.realm_machine.specs.declared.sayings.say.Say.{Say}
use Rattle.realm_machine.specs.Sayings.{invalid_argument}
use Rattle.realm_machine.specs.declared.requester.Requester.{Requester}
use Rattle.realm_machine.specs.Config.{Config}
use Rattle.realm_machine.specs.Content.{Content, Step, empty, quiet, refuse}
use Rattle.realm_machine.specs.Step.{on_unfit, on_error, on_request, on_opening, on_read, on_transport}
use Rattle.realm_machine.specs.Step.{step, after_input, said_at}
use Rattle.realm_laws.specs.Trace.{Letter, Asked, Progressed, Answered, is_call_of, is_call_read, asks, is_final, is_progress, asked, told}
use Rattle.realm_laws.specs.Trace.{letters, trace}
use Rattle.realm_laws.specs.Trace.{begins_with_reply, replies_after_answer}
use Rattle.realm_laws.specs.Laws.{RepliesAnswerCalls, after, EveryOpenCallIsSound, AreSoundOpenCalls}
use Rattle.realm_sessions.specs.Laws.{AreSoundLinks}
use Rattle.realm_calls.specs.Calls.{is_call}
use Rattle.realm_calls.specs.Laws.{AreOtherRequests}
use Rattle.realm_laws.proofs.Has.{has_nil, All-has, all_of}
use Rattle.realm_laws.proofs.Counts.{bit, count_once}
use Rattle.realm_laws.proofs.Standing.{at, session_at, one_id}
use Rattle.realm_laws.proofs.Moves.{holds, opens, finals, partials, IsSilent, Base, Moves, said_moves, quiet_moves, remove_moves, violation_moves}
use Rattle.realm_laws.proofs.Moves.{aborted_moves}
use Rattle.realm_laws.proofs.Moves.{goodbye_moves, all_gone_moves}
use Rattle.realm_laws.proofs.Arms.{connect_moves, open_moves, subscribe_moves, unsubscribe_moves, publish_moves}
use Rattle.realm_laws.proofs.Arms.{register_moves}
use Rattle.realm_laws.proofs.Arms.{unregister_moves}
use Rattle.realm_laws.proofs.CallArms.{Continues, moves_continues, yield_moves, failure_moves, on_cancel_moves, Owes, call_owes, unfit_call_owes}

-- what a step owes, if its input asks as this test says
record Steps (c : Content) (asking : Transport → ℕ → Bool) (s : Step) : Type 0 where
  base : Base s.content
  owed : (t : Transport) (r : ℕ) → asking t r ≡ true → opens s.content t r + finals t r s.says ≤ 1
  paid : (t : Transport) (r : ℕ) → asking t r ≡ false → opens s.content t r + finals t r s.says ≤ opens c t r
  -- whoever is told a progressive result has an open call afterwards
  stays : (t : Transport) (r : ℕ) → partials t r s.says ≤ opens s.content t r

abbrev Once : Content → Type 0
Once c = (t : Transport) (r : ℕ) → opens c t r ≤ 1

continues_step : (c : Content) (asking : Transport → ℕ → Bool) (s : Step) → Once c → Continues c s → Steps c asking s
continues_step c asking s once moves = record {
  base = moves.base;
  owed = λ t r _. let one : opens s.content t r + finals t r s.says ≤ opens c t r = moves.pays t r in
      let most : opens c t r ≤ 1 = once t r in omega (arith, one, most);
  paid = λ t r _. moves.pays t r;
  stays = moves.stays;
}

moves_step : (c : Content) (asking : Transport → ℕ → Bool) (s : Step) → Once c → Moves c s → Steps c asking s
moves_step c asking s once moves = continues_step c asking s once (moves_continues c s moves)

-- if the input asks only at this transport under this request
owes_step : (c : Content) (t : Transport) (r : ℕ) (s : Step) → Owes c t r s
    → Steps c (λ u q. r == q && same_transport t u) s
owes_step c t r s owes = record {
  base = owes.base;
  owed = λ u q h.
      let parts = and_parts (r == q) (same_transport t u) h in
      subst (λ (v : Transport). opens s.content v q + finals v q s.says ≤ 1) (same_is t u parts.1)
      (subst (λ (n : ℕ). opens s.content t n + finals t n s.says ≤ 1) (eqb-true r q parts.0) owes.owed);
  paid = λ u q off.
      owes.paid u q
      (λ same_t same_r. both_ways (r == q && same_transport t u) off
      (and_from (r == q) (same_transport t u) (eq-eqb r q same_r) (is_same t u same_t)));
  stays = λ u q. let none : partials u q s.says ≡ 0 = owes.plain u q in omega (arith, none);
}

-- ---- each case of the table

-- how a message asks, said at this transport
abbrev Asking : Transport → Message → Transport → ℕ → Bool
Asking t m u q = is_call_of q m && same_transport t u

abbrev requester_of : Transport → ℕ → ℕ → Requester
requester_of t session draw = record { transport = t; session = session; draw = draw }

error_moves : (c : Content) (requester : Requester) (k : RequestKind) (it : error.Error) → Base c
    → Moves c (on_error c requester k it)
error_moves c requester kind.Invocation it base = failure_moves c requester it.request it.error it.args base
error_moves c requester kind.Publish it base = violation_moves c requester.transport base
error_moves c requester kind.Subscribe it base = violation_moves c requester.transport base
error_moves c requester kind.Unsubscribe it base = violation_moves c requester.transport base
error_moves c requester kind.Call it base = violation_moves c requester.transport base
error_moves c requester kind.Cancel it base = violation_moves c requester.transport base
error_moves c requester kind.Register it base = violation_moves c requester.transport base
error_moves c requester kind.Unregister it base = violation_moves c requester.transport base

request_step : (config : Config) (c : Content) (t : Transport) (session draw : ℕ) (m : Message) → Base c → Once c
    → at c.sessions.list t session ≡ true → Steps c (Asking t m) (on_request config c (requester_of t session draw) m)
request_step config c t session draw (Hello it) base once here = moves_step c _ _ once (violation_moves c t base)
request_step config c t session draw (Abort it) base once here = moves_step c _ _ once (aborted_moves c t base)
request_step config c t session draw (Goodbye it) base once here = moves_step c _ _ once (goodbye_moves c t base)
request_step config c t session draw (Error it) base once here =
    moves_step c _ _ once (error_moves c (requester_of t session draw) it.kind it base)
request_step config c t session draw (Publish it) base once here =
    moves_step c _ _ once (publish_moves c (requester_of t session draw) it base)
request_step config c t session draw (Subscribe it) base once here =
    moves_step c _ _ once (subscribe_moves c (requester_of t session draw) it base)
request_step config c t session draw (Unsubscribe it) base once here =
    moves_step c _ _ once (unsubscribe_moves c (requester_of t session draw) it base)
request_step config c t session draw (Register it) base once here =
    moves_step c _ _ once (register_moves c (requester_of t session draw) it base)
request_step config c t session draw (Unregister it) base once here =
    moves_step c _ _ once (unregister_moves c (requester_of t session draw) it base)
request_step config c t session draw (Call it) base once here =
    owes_step c t it.request _ (call_owes c (requester_of t session draw) it base (once t it.request) here)
request_step config c t session draw (Cancel it) base once here =
    moves_step c _ _ once (on_cancel_moves c (requester_of t session draw) it base here)
request_step config c t session draw (Yield it) base once here =
    continues_step c _ _ once (yield_moves c (requester_of t session draw) it base)
request_step config c t session draw (Welcome it) base once here = moves_step c _ _ once (violation_moves c t base)
request_step config c t session draw (Published it) base once here = moves_step c _ _ once (violation_moves c t base)
request_step config c t session draw (Subscribed it) base once here = moves_step c _ _ once (violation_moves c t base)
request_step config c t session draw (Unsubscribed it) base once here = moves_step c _ _ once (violation_moves c t base)
request_step config c t session draw (Event it) base once here = moves_step c _ _ once (violation_moves c t base)
request_step config c t session draw (Registered it) base once here = moves_step c _ _ once (violation_moves c t base)
request_step config c t session draw (Unregistered it) base once here = moves_step c _ _ once (violation_moves c t base)
request_step config c t session draw (CallResult it) base once here = moves_step c _ _ once (violation_moves c t base)
request_step config c t session draw (Invocation it) base once here = moves_step c _ _ once (violation_moves c t base)
request_step config c t session draw (Interrupt it) base once here = moves_step c _ _ once (violation_moves c t base)

opening_moves : (config : Config) (c : Content) (t : Transport) (draw : ℕ) (m : Message) → Base c
    → by_transport c.sessions.list t ≡ Some None → Moves c (on_opening config c t draw m)
opening_moves config c t draw (Hello it) base here = open_moves config c t draw it base here
opening_moves config c t draw (Abort it) base here = aborted_moves c t base
opening_moves config c t draw (Welcome it) base here = violation_moves c t base
opening_moves config c t draw (Goodbye it) base here = violation_moves c t base
opening_moves config c t draw (Error it) base here = violation_moves c t base
opening_moves config c t draw (Publish it) base here = violation_moves c t base
opening_moves config c t draw (Published it) base here = violation_moves c t base
opening_moves config c t draw (Subscribe it) base here = violation_moves c t base
opening_moves config c t draw (Subscribed it) base here = violation_moves c t base
opening_moves config c t draw (Unsubscribe it) base here = violation_moves c t base
opening_moves config c t draw (Unsubscribed it) base here = violation_moves c t base
opening_moves config c t draw (Event it) base here = violation_moves c t base
opening_moves config c t draw (Register it) base here = violation_moves c t base
opening_moves config c t draw (Registered it) base here = violation_moves c t base
opening_moves config c t draw (Unregister it) base here = violation_moves c t base
opening_moves config c t draw (Unregistered it) base here = violation_moves c t base
opening_moves config c t draw (Call it) base here = violation_moves c t base
opening_moves config c t draw (Cancel it) base here = violation_moves c t base
opening_moves config c t draw (CallResult it) base here = violation_moves c t base
opening_moves config c t draw (Invocation it) base here = violation_moves c t base
opening_moves config c t draw (Interrupt it) base here = violation_moves c t base
opening_moves config c t draw (Yield it) base here = violation_moves c t base

refused_moves : (c : Content) (t : Transport) (k : RequestKind) (request : ℕ) (is_quiet : Bool)
    → IsSilent (refuse c t k request invalid_argument).says → Base c
    → Moves c (if is_quiet then quiet c else refuse c t k request invalid_argument)
refused_moves c t k request is_quiet silent base =
    cond_both is_quiet (quiet c) (refuse c t k request invalid_argument) (λ (s : Step). Moves c s)
    (λ _. quiet_moves c base) (λ _. said_moves c (refuse c t k request invalid_argument).says base silent)

-- how an unfit request asks
abbrev AskingUnfit : Transport → UnfitKind → ℕ → Transport → ℕ → Bool
AskingUnfit t kind request u q = is_call_read q (Unfit kind request false) && same_transport t u

unfit_step : (c : Content) (t : Transport) (session draw : ℕ) (k : UnfitKind) (request : ℕ) (is_quiet : Bool) → Base c
    → Once c
    → at c.sessions.list t session ≡ true
    → Steps c (AskingUnfit t k request) (on_unfit c (requester_of t session draw) k request is_quiet)
unfit_step c t session draw unfit.Publish request is_quiet base once here =
    moves_step c _ _ once (refused_moves c t kind.Publish request is_quiet (λ u q. refl) base)
unfit_step c t session draw unfit.Subscribe request is_quiet base once here =
    moves_step c _ _ once (refused_moves c t kind.Subscribe request is_quiet (λ u q. refl) base)
unfit_step c t session draw unfit.Register request is_quiet base once here =
    moves_step c _ _ once (refused_moves c t kind.Register request is_quiet (λ u q. refl) base)
unfit_step c t session draw unfit.Call request is_quiet base once here =
    owes_step c t request _
    (unfit_call_owes c (requester_of t session draw) request is_quiet base (once t request) here)
unfit_step c t session draw unfit.Cancel request is_quiet base once here =
    moves_step c _ _ once (refused_moves c t kind.Cancel request is_quiet (λ u q. refl) base)
unfit_step c t session draw unfit.Yield request is_quiet base once here =
    moves_step c _ _ once (failure_moves c (requester_of t session draw) request invalid_argument _ base)

abbrev AskingRead : Transport → Read → Transport → ℕ → Bool
AskingRead t read u q = is_call_read q read && same_transport t u

read_step : (config : Config) (c : Content) (t : Transport) (session : Option ℕ) (draw : ℕ) (read : Read)
    → by_transport c.sessions.list t ≡ Some session → Base c → Once c
    → Steps c (AskingRead t read) (on_read config c t session draw read)
read_step config c t None draw (Good m) e base once = moves_step c _ _ once (opening_moves config c t draw m base e)
read_step config c t (Some session) draw (Good m) e base once =
    request_step config c t session draw m base once (session_at c.sessions.list t session e)
read_step config c t None draw (Unfit k request is_quiet) e base once = moves_step c _ _ once (violation_moves c t base)
read_step config c t (Some session) draw (Unfit k request is_quiet) e base once =
    unfit_step c t session draw k request is_quiet base once (session_at c.sessions.list t session e)
read_step config c t None draw (Bad fault) e base once = moves_step c _ _ once (violation_moves c t base)
read_step config c t (Some session) draw (Bad fault) e base once = moves_step c _ _ once (violation_moves c t base)

transport_step : (config : Config) (c : Content) (t : Transport) (draw : ℕ) (read : Read) (o : Option (Option ℕ))
    → by_transport c.sessions.list t ≡ o → Base c → Once c
    → Steps c (AskingRead t read) (on_transport config c t draw read o)
transport_step config c t draw read None e base once = moves_step c _ _ once (quiet_moves c base)
transport_step config c t draw read (Some session) e base once = read_step config c t session draw read e base once

step_goes : (config : Config) (c : Content) (input : Input Act) → Base c → Once c
    → Steps c (λ t r. asks t r input) (step config c input)
step_goes config c (Boot node boot) base once =
    moves_step c _ _ once (all_gone_moves (of_origin c.sessions.list node) c base)
step_goes config c (Lost node boot) base once =
    moves_step c _ _ once (all_gone_moves (of_origin c.sessions.list node) c base)
step_goes config c (Item t Connect) base once = moves_step c _ _ once (connect_moves c t base)
step_goes config c (Item t (Said draw read)) base once =
    transport_step config c t draw read (by_transport c.sessions.list t) refl base once
step_goes config c (Item t Hung) base once = moves_step c _ _ once (remove_moves c t base)

once_after : (config : Config) (c : Content) (input : Input Act) → Base c → Once c → Once (after_input config c input)
once_after config c input base once t r =
    let s = step_goes config c input base once in by_asking (asks t r input) refl s
  where
    by_asking : (b : Bool) → asks t r input ≡ b → Steps c (λ t r. asks t r input) (step config c input)
        → opens (after_input config c input) t r ≤ 1
    by_asking true e s =
        let h : opens (after_input config c input) t r + finals t r (said_at config c input) ≤ 1 =
        s.owed t r e in omega (arith, h)
    by_asking false e s =
        let h : opens (after_input config c input) t r + finals t r (said_at config c input) ≤ opens c t r =
        s.paid t r e in
        let most : opens c t r ≤ 1 = once t r in
        omega (arith, h, most)

-- ---- traces

-- each reply comes after what asks, with no final one between
abbrev answers_calls : Bool → List Letter → Bool
answers_calls pending [] = true
answers_calls pending (Asked ∷ letters) = answers_calls true letters
answers_calls pending (Progressed ∷ letters) = pending && answers_calls pending letters
answers_calls pending (Answered ∷ letters) = pending && answers_calls false letters

-- one thing that is said, before n final replies and m progressive results, with k calls open after all of them
one_told : (final progress : Bool) (k n m : ℕ) (p : Bool) (more rest : List Letter) → k + (bit final + n) ≤ bit p
    → bit progress + m ≤ k
    → ((q : Bool) → k + n ≤ bit q → answers_calls q (more ++ rest) ≡ true)
    → answers_calls p ((told final progress ++ more) ++ rest) ≡ true
one_told true progress k n m true more rest few stays go =
    let most : k + (1 + n) ≤ 1 = few in go false (omega (arith, most))
one_told true progress k n m false more rest few stays go =
    let none : k + (1 + n) ≤ 0 = few in absurd (omega (arith, none))
one_told false true k n m true more rest few stays go =
    let most : k + (0 + n) ≤ 1 = few in go true (omega (arith, most))
one_told false true k n m false more rest few stays go =
    let none : k + (0 + n) ≤ 0 = few in let one : 1 + m ≤ k = stays in absurd (omega (arith, none, one))
one_told false false k n m p more rest few stays go =
    let most : k + (0 + n) ≤ bit p = few in go p (omega (arith, most))

all_told : (t : Transport) (r : ℕ) (said : List Say) (k : ℕ) (p : Bool) (rest : List Letter) → k + finals t r said ≤ bit p
    → partials t r said ≤ k
    → ((q : Bool) → k ≤ bit q → answers_calls q rest ≡ true)
    → answers_calls p (flat_map (λ it. told (is_final t r it) (is_progress t r it)) said ++ rest) ≡ true
all_told t r [] k p rest few stays go = go p (omega (arith, few))
all_told t r (it ∷ said) k p rest few stays go =
    let here : bit (is_progress t r it) + partials t r said ≤ k = stays in
    one_told (is_final t r it) (is_progress t r it) k (finals t r said) (partials t r said) p
    (flat_map (λ it. told (is_final t r it) (is_progress t r it)) said) rest few stays
    (λ q fewer. all_told t r said k q rest fewer (omega (arith, here)) go)

after_input_trace : (a : Bool) (t : Transport) (r : ℕ) (said : List Say) (k : ℕ) (p : Bool) (rest : List Letter)
    → (a ≡ true → k + finals t r said ≤ 1) → (a ≡ false → k + finals t r said ≤ bit p) → partials t r said ≤ k
    → ((q : Bool) → k ≤ bit q → answers_calls q rest ≡ true)
    → answers_calls p ((asked a ++ flat_map (λ it. told (is_final t r it) (is_progress t r it)) said) ++ rest) ≡ true
after_input_trace true t r said k p rest owed paid stays go = all_told t r said k true rest (owed refl) stays go
after_input_trace false t r said k p rest owed paid stays go = all_told t r said k p rest (paid refl) stays go

trace_from : (config : Config) (t : Transport) (r : ℕ) (inputs : List (Input Act)) (c : Content) (pending : Bool)
    → Once c → Base c
    → opens c t r ≤ bit pending → answers_calls pending (trace config t r c inputs) ≡ true
trace_from config t r [] c pending once base most = refl
trace_from config t r (input ∷ inputs) c pending once base most =
    let s = step_goes config c input base once in
    let said = said_at config c input in
    after_input_trace (asks t r input) t r said (opens (after_input config c input) t r) pending
    (trace config t r (after_input config c input) inputs)
    (s.owed t r)
    (λ e. let h : opens (after_input config c input) t r + finals t r said ≤ opens c t r = s.paid t r e in
    omega (arith, h, most))
    (s.stays t r)
    (λ q few. trace_from config t r inputs (after_input config c input) q
    (once_after config c input base once) s.base few)

begins_not : (letters : List Letter) → answers_calls false letters ≡ true → begins_with_reply letters ≡ false
begins_not [] h = refl
begins_not (Asked ∷ letters) h = refl
begins_not (Progressed ∷ letters) h = absurd (false≢true h)
begins_not (Answered ∷ letters) h = absurd (false≢true h)

none_after : (p : Bool) (letters : List Letter) → answers_calls p letters ≡ true → replies_after_answer letters ≡ false
none_after p [] h = refl
none_after p (Asked ∷ letters) h = none_after true letters h
none_after true (Progressed ∷ letters) h = none_after true letters h
none_after false (Progressed ∷ letters) h = absurd (false≢true h)
none_after true (Answered ∷ letters) h =
    rw (begins_not letters h) (none_after false letters h)
none_after false (Answered ∷ letters) h = absurd (false≢true h)

empty_base : (config : Config) → Base (empty config.limits)
empty_base config = record {
  links = nothing_sound;
  known = λ call h. absurd (has_nil h);
  served = λ call h. absurd (has_nil h);
  calls = no_calls;
}

pub replies_answer : RepliesAnswerCalls
replies_answer config inputs t r =
    let all =
    trace_from config t r inputs (empty config.limits) false (λ u q. omega arith) (empty_base config) (omega arith) in
    record {
      begins = begins_not (trace config t r (empty config.limits) inputs) all;
      one = none_after false (trace config t r (empty config.limits) inputs) all;
    }

-- ---- open calls

base_after : (config : Config) (inputs : List (Input Act)) (c : Content) → Base c → Once c
    → Base (after config c inputs)
base_after config [] c base once = base
base_after config (input ∷ inputs) c base once =
    base_after config inputs (after_input config c input) (step_goes config c input base once).base
    (once_after config c input base once)

pub open_calls_sound : EveryOpenCallIsSound
open_calls_sound config inputs =
    let c = after config (empty config.limits) inputs in
    let base = base_after config inputs (empty config.limits) (empty_base config) (λ u q. omega arith) in
    record {
      calls = base.calls;
      callers = all_of (λ (call : Open). is_taken c.sessions.list call.caller ≡ true) c.calls.list base.known;
      callees = all_of (λ (call : Open). is_taken c.sessions.list call.callee ≡ true) c.calls.list base.served;
    }

-- ---- open calls, after one input

-- of two calls at most one is under a request of a transport
one_open : (c : Content) → Base c → Once c
one_open c base t r =
    count_once (holds c.sessions.list t r) AreOtherRequests c.calls.list base.calls.requests
    (λ a b apart first second.
    let p = and_parts (a.request == r) (at c.sessions.list t a.caller) first in
    let q = and_parts (b.request == r) (at c.sessions.list t b.caller) second in
    both_ways (is_call b.caller b.request a) apart
    (and_from (a.caller == b.caller) (a.request == b.request)
    (eq-eqb a.caller b.caller (one_id c.sessions.list t a.caller b.caller base.links p.1 q.1))
    (eq-eqb a.request b.request (eqb-true a.request r p.0 ∙ sym (eqb-true b.request r q.0)))))

pub calls_after : (config : Config) (c : Content) (input : Input Act) → AreSoundLinks c.sessions.list → AreSoundOpenCalls c
    → AreSoundOpenCalls (after_input config c input)
calls_after config c input links calls =
    let base : Base c = record {
      links = links;
      known = λ call h. All-has (λ (it : Open). is_taken c.sessions.list it.caller ≡ true) calls.callers h;
      served = λ call h. All-has (λ (it : Open). is_taken c.sessions.list it.callee ≡ true) calls.callees h;
      calls = calls.calls;
    } in
    let d = after_input config c input in
    let after = (step_goes config c input base (one_open c base)).base in
    record {
      calls = after.calls;
      callers = all_of (λ (call : Open). is_taken d.sessions.list call.caller ≡ true) d.calls.list after.known;
      callees = all_of (λ (call : Open). is_taken d.sessions.list call.callee ≡ true) d.calls.list after.served;
    }
