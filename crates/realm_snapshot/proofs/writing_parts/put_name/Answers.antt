use Rattle.std.proofs.lemmas.Str.{is_utf8-from_IsUtf8}
use Rattle.realm_snapshot.proofs.PartsBack.{name_back}
use Rattle.realm_snapshot.proofs.writing_parts.put_name.Goals as goal

pub returns-clause-back : goal.returns-clause-back
returns-clause-back c =
    let name = c.args.name.now in
    name_back name c.in_ok-put_count.ensures.back (is_utf8-from_IsUtf8 name c.utf8.name)
