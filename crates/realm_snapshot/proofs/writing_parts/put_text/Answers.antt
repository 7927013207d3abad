use Rattle.std.proofs.Common.{◌≡◌, true, ◌∙◌, subst}
use Rattle.std.specs.Str.{is_utf8}
use Rattle.std.proofs.lemmas.Str.{is_utf8-from_IsUtf8}
use Rattle.realm_snapshot.proofs.PartsBack.{pattern_back}
use Rattle.realm_snapshot.proofs.writing_parts.put_text.Goals as goal

pub returns-clause-back : goal.returns-clause-back
returns-clause-back c =
    pattern_back c.args.pattern.now c.as_str-text.ensures.pattern
    (subst (λ t. is_utf8 t ≡ true) (c.as_bytes.ensures.value ∙ c.as_str-text.ensures.text)
    (is_utf8-from_IsUtf8 c.as_bytes.result.now c.as_bytes.ensures.utf8))
