use Rattle.std.proofs.Common.{◌∷◌, [], ◌++◌, ◌∙◌, ap, sym, subst}
use Rattle.realm_acts.specs.declared.act.Act.TheVariants.{Said}
use Rattle.serve_feed.specs.Tells.{Tells, Owes}
use Rattle.serve_feed.proofs.lanes.Lanes.treat.Goals as goal

pub returns-in-Some : goal.returns-in-Some
returns-in-Some c =
    record {
      treats = λ given owes.
          let owed = subst (λ r. Owes c.args.place c.args.number r c.args.self.now.sources given) c.in-Read.is owes in (
            owed.0.0,
            subst (λ s. Tells s (given ++ (c.args.number, c.said.result) ∷ [])) (sym c.took-in-Some.ensures.sources)
                (subst (λ act. Tells c.args.self.now.sources (given ++ (c.args.number, act) ∷ []))
                (sym (c.said.ensures.1 ∙ ap (Said c.said.ensures.0) c.in-Some.ensures)) (owed.1 c.said.ensures.0)),
          );
    }
