use Rattle.std.proofs.Common.{◌≡◌, ◌∷◌, ◌++◌, ◌∙◌, [], List, ap, refl, rules, sym}
use Rattle.std.proofs.lemmas.List.{append_assoc, append-nil, nil_from_length}
use Rattle.std.specs.Vec.Iter.{into_iter_items}
use Rattle.actor_parts.specs.declared.tried.Tried.{Tried}
use Rattle.actor_parts.proofs.TakingOver.{all_taken, none_taken, stays_else_on}
use Rattle.actor_parts.proofs.parts.Parts.take_over_all.Goals as goal

pub loop-one-init : goal.loop-one-init
loop-one-init g c =
    let all : into_iter_items c.into_iter-one-iterator.result ≡ c.args.staged.tried = search rules in (
      (
        [],
        sym (append-nil c.args.says.now.items),
        none_taken g.M.Machine.steps g.M.Machine.content c.boot-boot.result c.args.self.now
            c.limits.ensures c.requires.alive c.requires.end,
      ),
      (c.requires.alive, c.requires.end),
      record { node = refl; keeper = refl; failed = refl; spoiled = refl; me = refl; members = refl },
      all,
    )

pub loop-one-preserved : goal.loop-one-preserved
loop-one-preserved g c =
    let was = c.loop-one.invariant in
    let taken = c.take_over_one-done.ensures in
    let rest : List (Tried g.row.M-Body.Denot) = into_iter_items c.next.new.self in
    let step : into_iter_items c.loop-one.one-iterator ≡ c.in-Some.one ∷ rest = search rules in (
      taken.takes c.loop-one.yielded c.args.self.now c.args.says.now.items was.2.me was.2.members was.0,
      taken.ready,
      stays_else_on c.args.self.now c.loop-one.self c.take_over_one-done.new.self was.2 (record {
        node = taken.node;
        keeper = taken.keeper;
        failed = taken.failed;
        spoiled = taken.spoiled;
        me = taken.me;
        members = taken.members;
      }),
      append_assoc c.loop-one.yielded (c.in-Some.one ∷ []) rest ∙ ap (λ ts. c.loop-one.yielded ++ ts) (sym step) ∙ was.3,
    )

pub returns : goal.returns
returns g c =
    let was = c.loop-one.invariant in
    let none : into_iter_items c.loop-one.one-iterator ≡ [] =
    nil_from_length (into_iter_items c.loop-one.one-iterator) (sym c.loop-one.one-iterator.rest.ok.0 ∙ c.in-None.ensures.steps.0) in
    let all : c.loop-one.yielded ≡ c.args.staged.tried =
    sym (append-nil c.loop-one.yielded) ∙ (ap (λ ts. c.loop-one.yielded ++ ts) (sym none) ∙ was.3) in
    record {
      takes = all_taken g.M.Machine.steps g.M.Machine.content c.boot-boot.result c.args.self.now.node.state.rows.boot c.loop-one.yielded
          c.args.staged.tried c.args.self.now c.loop-one.self c.args.says.now.items c.loop-one.says.items c.loop-one.done c.boot-boot.ensures all
          was.0;
      node = was.2.node;
      keeper = was.2.keeper;
      failed = was.2.failed;
      spoiled = was.2.spoiled;
      me = was.2.me;
      members = was.2.members;
    }
