-- The kinds of request that an ERROR answers, and their codes (WAMP specification, "Message Codes"; that 49 is among them is this
-- profile's: docs/PROTOCOL.md, "Messages").
use Rattle.std.specs.Prelude.{ℕ, ◌==◌, Bool, true, false, Option, Some, None, if◌then◌else◌}
use Rattle.wamp_message_types.specs.Codes as code
use Rattle.wamp_message_types.specs.declared.request_kind.RequestKind.{RequestKind}
use Rattle.wamp_message_types.specs.declared.request_kind.RequestKind.TheVariants as kind

abbrev pub code_of : RequestKind → ℕ
code_of kind.Publish = code.publish
code_of kind.Subscribe = code.subscribe
code_of kind.Unsubscribe = code.unsubscribe
code_of kind.Call = code.call
code_of kind.Cancel = code.cancel
code_of kind.Register = code.register
code_of kind.Unregister = code.unregister
code_of kind.Invocation = code.invocation

-- the kind of request of a code
abbrev pub kind_of : ℕ → Option RequestKind
kind_of n =
    if n == code.publish then Some kind.Publish
    else (if n == code.subscribe then Some kind.Subscribe
    else (if n == code.unsubscribe then Some kind.Unsubscribe
    else (if n == code.call then Some kind.Call
    else (if n == code.cancel then Some kind.Cancel
    else (if n == code.register then Some kind.Register
    else (if n == code.unregister then Some kind.Unregister
    else (if n == code.invocation then Some kind.Invocation
    else None)))))))

-- whether an ERROR on such a request answers an invocation
abbrev pub is_invocation : RequestKind → Bool
is_invocation kind.Publish = false
is_invocation kind.Subscribe = false
is_invocation kind.Unsubscribe = false
is_invocation kind.Call = false
is_invocation kind.Cancel = false
is_invocation kind.Register = false
is_invocation kind.Unregister = false
is_invocation kind.Invocation = true
