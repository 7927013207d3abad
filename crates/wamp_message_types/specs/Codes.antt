-- The codes of messages (WAMP specification, "Message Codes").
use Rattle.std.specs.Prelude.{ℕ}

abbrev pub hello : ℕ
hello = 1

abbrev pub welcome : ℕ
welcome = 2

abbrev pub abort : ℕ
abort = 3

abbrev pub goodbye : ℕ
goodbye = 6

abbrev pub error : ℕ
error = 8

abbrev pub publish : ℕ
publish = 16

abbrev pub published : ℕ
published = 17

abbrev pub subscribe : ℕ
subscribe = 32

abbrev pub subscribed : ℕ
subscribed = 33

abbrev pub unsubscribe : ℕ
unsubscribe = 34

abbrev pub unsubscribed : ℕ
unsubscribed = 35

abbrev pub event : ℕ
event = 36

abbrev pub call : ℕ
call = 48

abbrev pub cancel : ℕ
cancel = 49

abbrev pub result : ℕ
result = 50

abbrev pub register : ℕ
register = 64

abbrev pub registered : ℕ
registered = 65

abbrev pub unregister : ℕ
unregister = 66

abbrev pub unregistered : ℕ
unregistered = 67

abbrev pub invocation : ℕ
invocation = 68

abbrev pub interrupt : ℕ
interrupt = 69

abbrev pub yield : ℕ
yield = 70
