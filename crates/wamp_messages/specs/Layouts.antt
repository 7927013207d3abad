-- The layout of each message: what follows its code (WAMP specification, "Message Definitions" and "Message Codes"; the layouts of
-- this profile: docs/PROTOCOL.md, "Messages").
use Rattle.std.specs.Prelude.{ℕ, ◌==◌, true, false, [], Option, Some, None, if◌then◌else◌}
use Rattle.serde_json.specs.Data.{Items}
use Rattle.wamp_message_types.specs.Codes as code
use Rattle.wamp_message_layouts.specs.Layouts.{Layout, text_dictionary, id_dictionary, dictionary_text, dictionary_text_args, refusal}
use Rattle.wamp_message_layouts.specs.Layouts.{id_dictionary_text, id_dictionary_text_args, one_id, two_ids, two_ids_keys_args, id_keys_args, id_mode}
use Rattle.wamp_messages.specs.Publish.{event_keys}
use Rattle.wamp_messages.specs.Call.{progress_keys, invocation_keys}

-- by the code and what follows it; none if no message has that code
abbrev pub layout_of : ℕ → Items → Option Layout
layout_of n ds =
    if n == code.hello then Some text_dictionary
    else (if n == code.welcome then Some id_dictionary
    else (if n == code.abort then Some dictionary_text_args
    else (if n == code.goodbye then Some dictionary_text
    else (if n == code.error then Some (refusal ds)
    else (if n == code.publish then Some id_dictionary_text_args
    else (if n == code.published then Some two_ids
    else (if n == code.subscribe then Some id_dictionary_text
    else (if n == code.subscribed then Some two_ids
    else (if n == code.event then Some (two_ids_keys_args event_keys)
    else (if n == code.unsubscribe then Some two_ids
    else (if n == code.unsubscribed then Some one_id
    else (if n == code.register then Some id_dictionary_text
    else (if n == code.registered then Some two_ids
    else (if n == code.unregister then Some two_ids
    else (if n == code.unregistered then Some one_id
    else (if n == code.call then Some id_dictionary_text_args
    else (if n == code.cancel then Some id_dictionary
    else (if n == code.result then Some (id_keys_args progress_keys false)
    else (if n == code.invocation then Some (two_ids_keys_args invocation_keys)
    else (if n == code.interrupt then Some id_mode
    else (if n == code.yield then Some (id_keys_args [] true)
    else None)))))))))))))))))))))
