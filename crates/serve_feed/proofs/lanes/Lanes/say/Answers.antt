use Rattle.std.proofs.Common.{ℕ, refl, subst}
use Rattle.serve_feed.specs.Hears.{AreLined, IsAt, IsNowhere}
use Rattle.serve_feed.proofs.Hearing.{hear_nowhere}
use Rattle.serve_feed.proofs.lanes.Lanes.say.Goals as goal

pub returns-in-Some : goal.returns-in-Some
returns-in-Some c =
    record {
      sources = c.put_at.ensures.sources;
      hears = c.put_at.ensures.hears c.args.number
          (subst (λ l. IsAt l c.args.number c.in-Some.place) c.as_slice.ensures.value c.in-Some.ensures);
    }

pub returns-in-None : goal.returns-in-None
returns-in-None c =
    let self = c.args.self.now in
    let off : (last : ℕ) → AreLined self.lanes.items last → IsNowhere self.lanes.items c.args.number =
    subst (λ l. (last : ℕ) → AreLined l last → IsNowhere l c.args.number) c.as_slice.ensures.value c.in-None.ensures in
    record { sources = refl; hears = hear_nowhere self.lanes.items c.args.number c.args.saying (off self.sources.last self.lined) }
