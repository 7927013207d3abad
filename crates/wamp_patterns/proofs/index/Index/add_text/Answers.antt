-- What is stored is put as it is.
use Rattle.std.proofs.Common.{◌∙◌, ap, sym}
use Rattle.std.specs.BTreeMap.{insert_entry}
use Rattle.wamp_ids.specs.declared.policy.Match.TheVariants.{Exact}
use Rattle.wamp_patterns.specs.Kinds.{with_value}
use Rattle.wamp_patterns.specs.Texts.{shown, text_cmp}
use Rattle.wamp_patterns.proofs.Keyed.{put_shown}
use Rattle.wamp_patterns.proofs.index.Index.add_text.Goals as goal

pub returns : goal.returns
returns g c =
    let texts = c.args.self.now.texts in
    let hits = c.args.hits.now.entries in
    let value = c.in-Some.value in
    ap shown c.in_ok-insert.ensures.entries
    ∙ put_shown hits c.in-Some.text value
    ∙ ap (λ t. insert_entry text_cmp (shown hits) t value.now) c.in-Some.ensures.0
    ∙ sym (ap (λ o. with_value Exact texts c.args.text.now o (shown hits)) c.in-Some.ensures.1)
