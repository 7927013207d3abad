-- An array of too few or too many elements has that fault.
use Rattle.std.proofs.Common.{◌≡◌, Bool, false, refl, List}
use Rattle.std.specs.Prelude.{Err}
use Rattle.serde_json.specs.Data.{Data, Items, no_items, item}
use Rattle.wamp_message_layouts.specs.declared.elements.Given.{Given}
use Rattle.wamp_message_types.specs.declared.fault.MessageFault.TheVariants.{Length}
use Rattle.wamp_message_layouts.specs.Elements.{is_one, is_two, is_three, has_two, has_three, has_four, args_given}
use Rattle.wamp_message_layouts.specs.Layouts.{taken, checked_with, args_taken, two_ids, two_ids_of, text_dictionary, named_of, id_dictionary, numbered_of}
use Rattle.wamp_message_layouts.specs.Layouts.{dictionary_text, dictionary_text_args, reason_of, id_dictionary_text, id_dictionary_text_args}
use Rattle.wamp_message_layouts.specs.Layouts.{asked_of, two_ids_keys_args, keyed_of, refusal, refusal_of}
use Rattle.wamp_message_layouts.specs.Layouts.{one_id, one_id_of, id_mode, stopped_of, id_keys_args, answer_of}
use Rattle.wamp_message_layouts.specs.declared.keys.Key.{Key}

pub two_ids_length : (ds : Items) → is_two ds ≡ false → Err Length ≡ taken two_ids two_ids_of ds
two_ids_length no_items h = refl
two_ids_length (item a no_items) h = refl
two_ids_length (item a (item b no_items)) h = cc
two_ids_length (item a (item b (item c ds))) h = refl

pub text_dictionary_length : (ds : Items) → is_two ds ≡ false → Err Length ≡ taken text_dictionary named_of ds
text_dictionary_length no_items h = refl
text_dictionary_length (item a no_items) h = refl
text_dictionary_length (item a (item b no_items)) h = cc
text_dictionary_length (item a (item b (item c ds))) h = refl

pub id_dictionary_length : (ds : Items) → is_two ds ≡ false → Err Length ≡ taken id_dictionary numbered_of ds
id_dictionary_length no_items h = refl
id_dictionary_length (item a no_items) h = refl
id_dictionary_length (item a (item b no_items)) h = cc
id_dictionary_length (item a (item b (item c ds))) h = refl

pub dictionary_text_length : (ds : Items) → is_two ds ≡ false → Err Length ≡ taken dictionary_text reason_of ds
dictionary_text_length no_items h = refl
dictionary_text_length (item a no_items) h = refl
dictionary_text_length (item a (item b no_items)) h = cc
dictionary_text_length (item a (item b (item c ds))) h = refl

pub dictionary_text_args_length : (ds : Items) → has_two ds ≡ false → Err Length ≡ taken dictionary_text_args reason_of ds
dictionary_text_args_length no_items h = refl
dictionary_text_args_length (item a no_items) h = refl
dictionary_text_args_length (item a (item b ds)) h = cc

pub id_dictionary_text_length : (ds : Items) → is_three ds ≡ false → Err Length ≡ taken id_dictionary_text asked_of ds
id_dictionary_text_length no_items h = refl
id_dictionary_text_length (item a no_items) h = refl
id_dictionary_text_length (item a (item b no_items)) h = refl
id_dictionary_text_length (item a (item b (item c no_items))) h = cc
id_dictionary_text_length (item a (item b (item c (item d ds)))) h = refl

pub id_dictionary_text_args_length : (ds : Items) → has_three ds ≡ false → Err Length ≡ taken id_dictionary_text_args asked_of ds
id_dictionary_text_args_length no_items h = refl
id_dictionary_text_args_length (item a no_items) h = refl
id_dictionary_text_args_length (item a (item b no_items)) h = refl
id_dictionary_text_args_length (item a (item b (item c ds))) h = cc

pub two_ids_keys_args_length : (keys : List Key) (ds : Items) → has_three ds ≡ false → Err Length ≡ taken (two_ids_keys_args keys) keyed_of ds
two_ids_keys_args_length keys no_items h = refl
two_ids_keys_args_length keys (item a no_items) h = refl
two_ids_keys_args_length keys (item a (item b no_items)) h = refl
two_ids_keys_args_length keys (item a (item b (item c ds))) h = cc

pub refusal_length : (ds : Items) → has_four ds ≡ false → Err Length ≡ taken (refusal ds) refusal_of ds
refusal_length no_items h = refl
refusal_length (item a no_items) h = refl
refusal_length (item a (item b no_items)) h = refl
refusal_length (item a (item b (item c no_items))) h = refl
refusal_length (item a (item b (item c (item d ds)))) h = cc

pub one_id_length : (ds : Items) → is_one ds ≡ false → Err Length ≡ taken one_id one_id_of ds
one_id_length no_items h = refl
one_id_length (item a no_items) h = cc
one_id_length (item a (item b ds)) h = refl

pub id_mode_length : (ds : Items) → is_two ds ≡ false → Err Length ≡ taken id_mode stopped_of ds
id_mode_length no_items h = refl
id_mode_length (item a no_items) h = refl
id_mode_length (item a (item b no_items)) h = cc
id_mode_length (item a (item b (item c ds))) h = refl

pub id_keys_args_length : (keys : List Key) (may_be_inexact : Bool) (ds : Items) → has_two ds ≡ false
    → Err Length ≡ taken (id_keys_args keys may_be_inexact) answer_of ds
id_keys_args_length keys may_be_inexact no_items h = refl
id_keys_args_length keys may_be_inexact (item a no_items) h = refl
id_keys_args_length keys may_be_inexact (item a (item b ds)) h = cc

-- the first two elements and what is given after them are all that is taken
pub id_keys_args_taken : (keys : List Key) (may_be_inexact : Bool) (ds es : Items) (a b : Data) (given : Given)
    → ds ≡ item a (item b es) → given ≡ args_given es
    → checked_with (id_keys_args keys may_be_inexact).kinds (answer_of (item a (item b no_items))) (item a (item b no_items))
    (args_taken may_be_inexact given)
    ≡ taken (id_keys_args keys may_be_inexact) answer_of ds
id_keys_args_taken keys may_be_inexact ds es a b given all behind = rw (all, behind) refl
