use Rattle.std.proofs.Common.{◌∙◌, sym}
use Rattle.std.specs.Cow.{cow_slice_items}
use Rattle.std.proofs.lemmas.Map.Lookups.{exact_bytes}
use Rattle.wamp_patterns.specs.Texts.{same_text}
use Rattle.wamp_patterns.proofs.Keyed.{looked_up}
use Rattle.wamp_patterns.proofs.texts.Texts.stored.Goals as goal

pub returns-in-Some : goal.returns-in-Some
returns-in-Some g c = (
  c.as_slice.ensures.value ∙ sym (exact_bytes c.args.text.now (cow_slice_items c.in-Some.key.now) c.in-Some.ensures.same_key),
  rw (← c.self.view_is)
      (sym (looked_up cow_slice_items (same_text c.args.text.now) c.self.inside.map.entries) ∙ sym c.in-Some.ensures.value),
)

pub returns-in-None : goal.returns-in-None
returns-in-None g c = rw (← c.self.view_is)
    (sym (looked_up cow_slice_items (same_text c.args.text.now) c.self.inside.map.entries) ∙ sym c.in-None.ensures.value)
