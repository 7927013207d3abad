-- A publication whose options are given by flags is read as one whose options are an object.
use Rattle.std.proofs.Common.{◌≡◌, ℕ, Bool, true, false, List, Option, Some, None, Result, Ok, Err, if◌then◌else◌, codes, refl, ap, ◌∙◌}
use Rattle.serde_json.specs.Data.{unsigned, negative, float, Data, null, boolean, number, string, array, object, Items, no_items, item, Members, no_members}
use Rattle.serde_json.specs.Find.{get, as_bool, as_number, as_u64}
use Rattle.std.specs.Prelude.{option_and_then}
use Rattle.wamp_values.specs.Found.{bool_at}
use Rattle.wamp_values.specs.declared.args.Args.{Args}
use Rattle.wamp_message_layouts.specs.Elements.{args_given, id_of, text_of}
use Rattle.wamp_message_layouts.specs.Layouts.{checked_with, id_dictionary_text_args, Asked, asked_of, args_taken}
use Rattle.wamp_values.specs.Options.{flag_in}
use Rattle.wamp_message_types.specs.declared.fault.MessageFault.{MessageFault}
use Rattle.wamp_message_types.specs.declared.fault.MessageFault.TheVariants.{Shape, IdRange}
use Rattle.wamp_messages.specs.Flags.{Tells, flag_of, flagged_read, flagged_in}
use Rattle.wamp_messages.specs.Publish.{publish_with, publish_read, publish_in}
use Rattle.wamp_messages.specs.ReadResult.{read_as}
use Rattle.wamp_messages.specs.declared.flags.Flags.{Flags}

-- the number that a code is
pub is_code : (d : Data) (n : ℕ) → option_and_then as_u64 (as_number d) ≡ Some n → d ≡ number (unsigned n)
is_code null n e = absurd (cc)
is_code (boolean b) n e = absurd (cc)
is_code (number (unsigned m)) n e = cc
is_code (number (negative z)) n e = absurd (cc)
is_code (number (float x)) n e = absurd (cc)
is_code (string s) n e = absurd (cc)
is_code (array ds) n e = absurd (cc)
is_code (object ms) n e = absurd (cc)

told_by : (key : List ℕ) (missing : Bool) (d : Data) (o : Option Data) (b : Option Bool) → get key d ≡ o → option_and_then as_bool o ≡ b
    → flag_of missing (bool_at key d) ≡ flag_in key missing d
told_by key missing d None b e f = rw e refl
told_by key missing d (Some v) None e f = rw (e, f) refl
told_by key missing d (Some v) (Some truth) e f = rw (e, f) refl

flag_told : (key : List ℕ) (missing : Bool) (d : Data) → flag_of missing (bool_at key d) ≡ flag_in key missing d
flag_told key missing d = told_by key missing d (get key d) _ refl refl

module _ (flags : Flags) (ms : Members) (tells : Tells flags ms) where
  same_parts : (request : ℕ) (uri : List ℕ) (args : Option Args)
      → publish_with request (flag_of false flags.acknowledge) (flag_of true flags.exclude_me) uri args
      ≡ publish_with request (flag_in (codes "acknowledge") false (object ms)) (flag_in (codes "exclude_me") true (object ms)) uri args
  same_parts request uri args =
      let first = ap (flag_of false) tells.0 ∙ flag_told (codes "acknowledge") false (object ms) in
      let second = ap (flag_of true) tells.1 ∙ flag_told (codes "exclude_me") true (object ms) in
      ap (λ f. publish_with request f (flag_of true flags.exclude_me) uri args) first
      ∙ ap (λ f. publish_with request (flag_in (codes "acknowledge") false (object ms)) f uri args) second

  chosen : (shaped ranged : Bool) (a b : Asked) → flagged_read flags a ≡ publish_read b
      → read_as (flagged_read flags) (if shaped then (if ranged then Ok a else Err IdRange) else Err Shape)
      ≡ read_as publish_read (if shaped then (if ranged then Ok b else Err IdRange) else Err Shape)
  chosen true true a b e = e
  chosen true false a b e = refl
  chosen false ranged a b e = refl

  with_tail : (request topic : Data) (rest : Items) (t : Result (Option Args) MessageFault)
      → (let low = item request (item (object no_members) (item topic rest)) in read_as (flagged_read flags) (checked_with id_dictionary_text_args.kinds (asked_of low) low t))
      ≡ (let high = item request (item (object ms) (item topic rest)) in read_as publish_read (checked_with id_dictionary_text_args.kinds (asked_of high) high t))
  with_tail request topic rest (Err fault) = refl
  with_tail request topic rest (Ok args) =
      chosen _ _ _ _ (same_parts (id_of request) (text_of topic) args)

  pub flagged_is : (request : Data) (tail : Items) → flagged_in flags (item request (item (object no_members) tail)) ≡ publish_in (item request (item (object ms) tail))
  flagged_is request no_items = refl
  flagged_is request (item topic rest) = with_tail request topic rest (args_taken true (args_given rest))
