use Rattle.std.proofs.Common.{ℕ, nat_eq, option_copied, sym, ap, ◌∙◌}
use Rattle.std.proofs.lemmas.List.{take_all}
use Rattle.std.proofs.lemmas.List.Folds.{list_any_more}
use Rattle.realm_lists.proofs.Gathering.{put_found, put_none, gathered_all}
use Rattle.realm_lists.proofs.ordered_list.gather.Goals as goal
use Rattle.realm_lists.proofs.ordered_list.gather.Goals.{in-Some+in_ok-insert, in_default}

pub loop-place-preserved : goal.loop-place-preserved
loop-place-preserved g c =
    let more = λ (q : ℕ). list_any_more (nat_eq q) c.args.places.now c.loop-place.place-index 0 c.loop-place-test.true in
    elim c.match-get.branch [
      | in-Some+in_ok-insert w ↦ record {
        found = λ q. let m = more q in rw (w.found-is, m)
            (put_found c.args.rows.now.entries _ q _ _ _ _ (sym w.in-Some.ensures.value) (c.loop-place.invariant.found q)
            (w.in_ok-insert.ensures.updates.0 q));
        ordered = rw w.found-is w.in_ok-insert.ensures.ordered;
      }
      | in_default w ↦ record {
        found = λ q. let m = more q in rw (w.found-is, m)
            (put_none c.args.rows.now.entries _ q _ _ (sym c.get.ensures.value ∙ ap option_copied w.in_default.is)
            (c.loop-place.invariant.found q));
        ordered = rw w.found-is c.loop-place.invariant.ordered;
      }
    ]

pub returns-clause-members : goal.returns-clause-members
returns-clause-members g c =
    gathered_all c.args.places.now c.args.rows.now.entries c.loop-place.found c.requires c.loop-place.invariant.ordered
    (rw (take_all c.loop-place.place-index c.args.places.now c.loop-place-test.false) at c.loop-place.invariant.found)
