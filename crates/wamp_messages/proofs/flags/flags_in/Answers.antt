use Rattle.std.proofs.Common.{◌≡◌, ◌-◌, length, Some, refl, ◌∙◌, arith}
use Rattle.json.specs.Json.{value, read_key}
use Rattle.json.proofs.Grammar.{read_key-shorter}
use Rattle.serde_json.specs.Data.{no_members, put}
use Rattle.serde_json.specs.View.{view}
use Rattle.wamp_messages.proofs.Tokens.{member_read, members_over}
use Rattle.wamp_messages.proofs.flags.flags_in.Goals as goal

pub members-init : goal.members-init
members-init c = (no_members, (refl, refl), length c.args.reader.now, omega arith, refl, omega arith)

pub members-preserved : goal.members-preserved
members-preserved c =
    let p = value c.args.depth in
    let l = c.members in
    let old = l.invariant.0 in
    let n = l.invariant.2 in
    let enough = l.invariant.3 in
    let k = c.in-Some.name.now in
    let s = c.next_key.new.self in
    let named : read_key l.reader ≡ Some (Some k, s) = grind arith in
    let done = c.in_ok-member.ensures in
    let v = c.in_ok-member.member in
    let r = c.value_in.new.reader in
    let less = read_key-shorter l.reader (Some k) s named in
    let lesser = done.shorter in (
      put k (view v) old,
      c.with-flags.ensures old l.invariant.1,
      n - 1,
      omega (arith, enough),
      l.invariant.4 ∙ member_read p old n k l.reader s r (view v) (omega (arith, enough)) named done.value,
      omega (arith, l.invariant.5),
    )

pub returns-clause-value : goal.returns-clause-value
returns-clause-value c =
    let p = value c.args.depth in
    let l = c.members in
    let old = l.invariant.0 in
    (old, l.invariant.4 ∙ members_over p old l.invariant.2 l.reader c.next_key.new.self l.invariant.3 (grind arith), l.invariant.1)
