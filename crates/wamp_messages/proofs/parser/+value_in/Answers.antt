use Rattle.std.proofs.Common.{◌≡◌, ◌-◌, ◌<◌, [], ◌∷◌, length, Some, None, string_bytes, refl, sym, ap, ◌∙◌, arith, rules}
use Rattle.json.specs.Token.{Token}
use Rattle.json.specs.Json.{parse_map, after_end_array, read_key, items, members, value}
use Rattle.json.specs.Reads.{token_of}
use Rattle.json.proofs.Grammar.{value_is, value-begin_array, value-begin_object, read_key-shorter}
use Rattle.serde_json.specs.Data.{null, boolean, number, string, array, object, put}
use Rattle.serde_json.specs.Read.{of_json, of_items, of_members, converted}
use Rattle.serde_json.specs.View.{view, number_view, items_view, members_view}
use Rattle.serde_json.specs.declared.value.Value.{String, Number, Bool, Null, the_lemmas}
use Rattle.serde_json.proofs.Views.{view-Array, view-Object, members_view-insert_entry}
use Rattle.wamp_messages.proofs.Tokens.{array_of, object_of, item_read, items_over, member_read, members_over, before_none, one_more}
use Rattle.wamp_messages.specs.Outermost.{before}
use Rattle.wamp_messages.proofs.parser.+value_in.Goals as goal

pub value_in-returns-in_ok-from_str-in-String-clause-value : goal.value_in-returns-in_ok-from_str-in-String-clause-value
value_in-returns-in_ok-from_str-in-String-clause-value t c =
    let first : c.args.reader.now ≡ token_of c.in_ok-token.token ∷ c.next.new.self = grind arith in
    let is : c.args.reader.now ≡ Token.string c.in-String.text.now ∷ c.next.new.self = grind (arith, first) in
    let seen : view (String c.in_ok-from_str-in-String.field-0) ≡ string c.in-String.text.now = search (rules, the_lemmas) in
    ap (converted of_json) (ap (value c.args.depth) is ∙ value_is c.args.depth _) ∙ ap (λ d. Some (d, c.next.new.self)) (sym seen)

pub value_in-returns-in-Some-clause-value : goal.value_in-returns-in-Some-clause-value
value_in-returns-in-Some-clause-value t c =
    let first : c.args.reader.now ≡ token_of c.in_ok-token.token ∷ c.next.new.self = grind arith in
    let is : c.args.reader.now ≡ Token.number c.in-Number.text.now ∷ c.next.new.self = grind (arith, first) in
    let seen : view (Number c.in-Some.number) ≡ number (number_view c.in-Some.number) = search (rules, the_lemmas) in
    ap (converted of_json) (ap (value c.args.depth) is ∙ value_is c.args.depth _) ∙ rw (c.in-Some.ensures, seen)

pub value_in-returns-in-Bool-clause-value : goal.value_in-returns-in-Bool-clause-value
value_in-returns-in-Bool-clause-value t c =
    let first : c.args.reader.now ≡ token_of c.in_ok-token.token ∷ c.next.new.self = grind arith in
    let is : c.args.reader.now ≡ Token.boolean c.in-Bool.truth ∷ c.next.new.self = grind (arith, first) in
    let seen : view (Bool c.in-Bool.truth) ≡ boolean c.in-Bool.truth = search (rules, the_lemmas) in
    ap (converted of_json) (ap (value c.args.depth) is ∙ value_is c.args.depth _) ∙ ap (λ d. Some (d, c.next.new.self)) (sym seen)

pub value_in-returns-in-Null-clause-value : goal.value_in-returns-in-Null-clause-value
value_in-returns-in-Null-clause-value t c =
    let first : c.args.reader.now ≡ token_of c.in_ok-token.token ∷ c.next.new.self = grind arith in
    let is : c.args.reader.now ≡ Token.null ∷ c.next.new.self = grind (arith, first) in
    let seen : view (Null) ≡ null = search (rules, the_lemmas) in
    ap (converted of_json) (ap (value c.args.depth) is ∙ value_is c.args.depth _) ∙ ap (λ d. Some (d, c.next.new.self)) (sym seen)

pub value_in-returns-in_ok-items_in-in-BeginArray-clause-value : goal.value_in-returns-in_ok-items_in-in-BeginArray-clause-value
value_in-returns-in_ok-items_in-in-BeginArray-clause-value t c =
    let first : c.args.reader.now ≡ token_of c.in_ok-token.token ∷ c.next.new.self = grind arith in
    let opened = ap (converted of_json)
    (ap (value c.args.depth) (first ∙ ap (λ k. token_of k ∷ c.next.new.self) c.in-BeginArray.is) ∙ value-begin_array c.args.depth c.next.new.self (omega arith))
    ∙ array_of (items (value (c.args.depth - 1)) (length c.next.new.self) c.next.new.self) in
    let found = c.in_ok-items_in-in-BeginArray in
    opened ∙ ap (parse_map array) found.ensures.value ∙ ap (λ d. Some (d, c.items_in.new.reader)) (sym (view-Array found.field-0))

pub value_in-returns-in_ok-members_in-in-BeginObject-clause-value : goal.value_in-returns-in_ok-members_in-in-BeginObject-clause-value
value_in-returns-in_ok-members_in-in-BeginObject-clause-value t c =
    let first : c.args.reader.now ≡ token_of c.in_ok-token.token ∷ c.next.new.self = grind arith in
    let opened = ap (converted of_json)
    (ap (value c.args.depth) (first ∙ ap (λ k. token_of k ∷ c.next.new.self) c.in-BeginObject.is) ∙ value-begin_object c.args.depth c.next.new.self (omega arith))
    ∙ object_of (members (value (c.args.depth - 1)) (length c.next.new.self) c.next.new.self) in
    let found = c.in_ok-members_in-in-BeginObject in
    opened ∙ ap (parse_map object) found.ensures.value ∙ ap (λ d. Some (d, c.members_in.new.reader)) (sym (view-Object found.field-0))

pub items_in-returns-then-take_end_array-clause-value : goal.items_in-returns-then-take_end_array-clause-value
items_in-returns-then-take_end_array-clause-value t c =
    let r = c.take_end_array.new.self in
    let empty : c.new.result.items ≡ [] = search rules in
    items_over (value c.args.depth) (length c.args.reader.now) c.args.reader.now r (omega arith) (grind arith)
    ∙ ap (λ vs. Some (items_view vs, r)) (sym empty)

pub more_items-items-init : goal.more_items-items-init
more_items-items-init t c = (λ m enough. (m, enough, refl), omega arith)

pub more_items-items-preserved : goal.more_items-items-preserved
more_items-items-preserved t c =
    let p = value c.args.depth in
    let l = c.items in
    let going : (after_end_array l.reader ≡ None) × (c.take_end_array.new.self ≡ l.reader) = grind arith in
    let done = c.in_ok-item.ensures in
    let v = c.in_ok-item.item in
    let r = c.value_in.new.reader in
    let less : length r < length l.reader = rw (← going.1) done.shorter in (
      λ m enough.
          let was = l.invariant.0 m enough in
          let n = was.0 in
          let turn = item_read p n l.reader r (view v) (omega (arith, was.1)) going.0 (rw (← going.1) done.value) in (
            n - 1,
            omega (arith, was.1),
            was.2 ∙ ap (parse_map (before l.all.items)) turn ∙ one_more l.all.items v _
                ∙ ap (λ vs. parse_map (before vs) (converted of_items (items p (n - 1) r))) (sym c.in_ok-push.ensures.items),
          ),
      omega (arith, l.invariant.1),
    )

pub more_items-returns-clause-value : goal.more_items-returns-clause-value
more_items-returns-clause-value t c n enough =
    let p = value c.args.depth in
    let l = c.items in
    let was = l.invariant.0 n enough in
    let r = c.take_end_array.new.self in
    was.2 ∙ ap (parse_map (before l.all.items)) (items_over p was.0 l.reader r was.1 (grind arith)) ∙ ap (λ ds. Some (ds, r)) (before_none l.all.items)

pub members_in-members-preserved : goal.members_in-members-preserved
members_in-members-preserved t c =
    let p = value c.args.depth in
    let l = c.members in
    let n = l.invariant.0 in
    let old = members_view l.found.entries in
    let k = c.in-Some.name.now in
    let s = c.next_key.new.self in
    let named : read_key l.reader ≡ Some (Some k, s) = grind arith in
    let done = c.in_ok-member.ensures in
    let v = c.in_ok-member.member in
    let r = c.value_in.new.reader in
    let less = read_key-shorter l.reader (Some k) s named in
    let lesser = done.shorter in
    let copied : string_bytes c.in_ok-key.key ≡ k = search rules in
    let inserted : members_view c.insert.new.self.entries ≡ put k (view v) old =
    ap members_view c.in_ok-insert.ensures.entries ∙ members_view-insert_entry l.found.entries c.in_ok-key.key v ∙ ap (λ name. put name (view v) old) copied in (
      n - 1,
      omega (arith, l.invariant.1),
      l.invariant.2 ∙ member_read p old n k l.reader s r (view v) (omega (arith, l.invariant.1)) named done.value
          ∙ ap (λ found. converted (λ ms. of_members ms found) (members p (n - 1) r)) (sym inserted),
      omega (arith, l.invariant.3),
    )

pub members_in-returns-clause-value : goal.members_in-returns-clause-value
members_in-returns-clause-value t c =
    let p = value c.args.depth in
    let l = c.members in
    let n = l.invariant.0 in
    let old = members_view l.found.entries in
    l.invariant.2 ∙ members_over p old n l.reader c.next_key.new.self l.invariant.1 (grind arith)
