-- What each act does, by what the client sends: one case for each row of the realm's table (docs/PROTOCOL.md, "The realm").
use Rattle.std.specs.Prelude.{ℕ, Bool, List, Option, None, Some, if◌then◌else◌}
use Rattle.paxos_packets.specs.declared.transport.Transport.{Transport}
use Rattle.replica_machine.specs.declared.input.Input.{Input}
use Rattle.replica_machine.specs.declared.input.Input.TheVariants.{Boot, Lost, Item}
use Rattle.wamp_message_types.specs.declared.request_kind.RequestKind.{RequestKind}
use Rattle.wamp_message_types.specs.declared.request_kind.RequestKind.TheVariants as kind
use Rattle.wamp_message_types.specs.declared.error.Error as error
use Rattle.wamp_message_types.specs.declared.message.Message.{Message}
use Rattle.wamp_message_types.specs.declared.message.Message.TheVariants.{Hello, Welcome, Abort, Goodbye, Error, Publish, Published}
use Rattle.wamp_message_types.specs.declared.message.Message.TheVariants.{Subscribe, Subscribed, Unsubscribe, Unsubscribed, Event, Register}
use Rattle.wamp_message_types.specs.declared.message.Message.TheVariants.{Registered, Unregister, Unregistered, Call, Cancel, CallResult, Invocation}
use Rattle.wamp_message_types.specs.declared.message.Message.TheVariants.{Interrupt, Yield}
use Rattle.wamp_message_types.specs.declared.read_result.UnfitKind.{UnfitKind}
use Rattle.wamp_message_types.specs.declared.read_result.UnfitKind.TheVariants as unfit
use Rattle.wamp_message_types.specs.declared.read_result.Read.{Read}
use Rattle.wamp_message_types.specs.declared.read_result.Read.TheVariants.{Good, Unfit, Bad}
use Rattle.realm_acts.specs.declared.act.Act.{Act}
use Rattle.realm_acts.specs.declared.act.Act.TheVariants.{Connect, Said, Hung}
use Rattle.realm_machine.specs.declared.sayings.say.Say.{Say}
use Rattle.realm_machine.specs.Sayings.{invalid_argument}
use Rattle.realm_machine.specs.declared.requester.Requester.{Requester}
use Rattle.realm_machine.specs.Config.{Config}
use Rattle.realm_sessions.specs.Links.{by_transport, connect}
use Rattle.realm_machine.specs.Content.{Content, Step, quiet, refuse, with_links}
use Rattle.realm_machine.specs.Leaving.{remove, violation, aborted, goodbye, gone}
use Rattle.realm_machine.specs.Opening.{open_at}
use Rattle.realm_machine.specs.Subscribing.{subscribe}
use Rattle.realm_machine.specs.Unsubscribing.{unsubscribe}
use Rattle.realm_machine.specs.Publishing.{publish}
use Rattle.realm_machine.specs.Registering.{register, unregister}
use Rattle.realm_machine.specs.Calling.{on_call, on_cancel, on_yield, on_failure, unfit_call, unfit_yield}

abbrev pub refuse_unless : Content → Requester → RequestKind → ℕ → Bool → Step
refuse_unless c requester kind request is_quiet =
    if is_quiet then quiet c else refuse c requester.transport kind request invalid_argument

-- an unfit request, of a client with a session
abbrev pub on_unfit : Content → Requester → UnfitKind → ℕ → Bool → Step
on_unfit c requester unfit.Publish request is_quiet = refuse_unless c requester kind.Publish request is_quiet
on_unfit c requester unfit.Subscribe request is_quiet = refuse_unless c requester kind.Subscribe request is_quiet
on_unfit c requester unfit.Register request is_quiet = refuse_unless c requester kind.Register request is_quiet
on_unfit c requester unfit.Call request is_quiet =
    unfit_call c requester request (refuse_unless c requester kind.Call request is_quiet)
on_unfit c requester unfit.Cancel request is_quiet = refuse_unless c requester kind.Cancel request is_quiet
on_unfit c requester unfit.Yield request is_quiet = unfit_yield c requester request

-- an ERROR answers an invocation, or breaks the protocol
abbrev pub on_error : Content → Requester → RequestKind → error.Error → Step
on_error c requester kind.Invocation it = on_failure c requester it.request it.error it.args
on_error c requester kind it = violation c requester.transport

-- a client with a session, and the last kinds are those that only the router sends
abbrev pub on_request : Config → Content → Requester → Message → Step
on_request config c requester (Hello it) = violation c requester.transport
on_request config c requester (Abort it) = aborted c requester.transport
on_request config c requester (Goodbye it) = goodbye c requester.transport
on_request config c requester (Error it) = on_error c requester it.kind it
on_request config c requester (Publish it) = publish c requester it
on_request config c requester (Subscribe it) = subscribe c requester it
on_request config c requester (Unsubscribe it) = unsubscribe c requester it
on_request config c requester (Register it) = register c requester it
on_request config c requester (Unregister it) = unregister c requester it
on_request config c requester (Call it) = on_call c requester it
on_request config c requester (Cancel it) = on_cancel c requester it
on_request config c requester (Yield it) = on_yield c requester it
on_request config c requester (Welcome it) = violation c requester.transport
on_request config c requester (Published it) = violation c requester.transport
on_request config c requester (Subscribed it) = violation c requester.transport
on_request config c requester (Unsubscribed it) = violation c requester.transport
on_request config c requester (Event it) = violation c requester.transport
on_request config c requester (Registered it) = violation c requester.transport
on_request config c requester (Unregistered it) = violation c requester.transport
on_request config c requester (CallResult it) = violation c requester.transport
on_request config c requester (Invocation it) = violation c requester.transport
on_request config c requester (Interrupt it) = violation c requester.transport

-- a client without a session: whatever it sends but HELLO and ABORT breaks the protocol
abbrev pub on_opening : Config → Content → Transport → ℕ → Message → Step
on_opening config c t draw (Hello it) = open_at config c t draw it
on_opening config c t draw (Abort it) = aborted c t
on_opening config c t draw message = violation c t

abbrev pub on_message : Config → Content → Transport → Option ℕ → ℕ → Message → Step
on_message config c t None draw message = on_opening config c t draw message
on_message config c t (Some session) draw message =
    on_request config c (record { transport = t; session = session; draw = draw }) message

abbrev pub on_read : Config → Content → Transport → Option ℕ → ℕ → Read → Step
on_read config c t session draw (Good message) = on_message config c t session draw message
on_read config c t None draw (Unfit kind request is_quiet) = violation c t
on_read config c t (Some session) draw (Unfit kind request is_quiet) =
    on_unfit c (record { transport = t; session = session; draw = draw }) kind request is_quiet
on_read config c t session draw (Bad fault) = violation c t

-- at a transport that is connected, with a session or without one, or that is not connected
abbrev pub on_transport : Config → Content → Transport → ℕ → Read → Option (Option ℕ) → Step
on_transport config c t draw read None = quiet c
on_transport config c t draw read (Some session) = on_read config c t session draw read

-- ---- acts and inputs

abbrev pub on_act : Config → Content → Transport → Act → Step
on_act config c t Connect = quiet (with_links c (connect c.sessions.list t))
on_act config c t (Said draw read) = on_transport config c t draw read (by_transport c.sessions.list t)
on_act config c t Hung = remove c t

-- the content after an act at a transport, and what is said
abbrev pub next : Config → Content → Transport → Act → Content
next config c t act = (on_act config c t act).content

abbrev pub says : Config → Content → Transport → Act → List Say
says config c t act = (on_act config c t act).says

-- what an entry of the log that takes effect brings about
abbrev pub step : Config → Content → Input Act → Step
step config c (Boot node boot) = gone c node
step config c (Lost node boot) = gone c node
step config c (Item t act) = on_act config c t act

-- the content after an input, and what is said
abbrev pub after_input : Config → Content → Input Act → Content
after_input config c input = (step config c input).content

abbrev pub said_at : Config → Content → Input Act → List Say
said_at config c input = (step config c input).says
