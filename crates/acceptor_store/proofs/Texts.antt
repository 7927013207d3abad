-- What the texts mean under the schema.
use Rattle.std.proofs.Common.{◌≡◌, pos, List, [], ◌∷◌, Ok, refl}
use Rattle.sqlite_value.specs.declared.value.Value.TheVariants.{Null, Int}
use Rattle.sqlite_sql.specs.Term.{Term, lit, col}
use Rattle.sqlite_schema.specs.declared.command.Source.TheVariants.{Values}
use Rattle.sqlite_schema.specs.declared.command.Conflict.TheVariants.{Replace}
use Rattle.sqlite_schema.specs.declared.command.Command.TheVariants.{InsertOr, CreateTable}
use Rattle.sqlite_resolve.specs.Compile.{table_defined_by}
use Rattle.sqlite_tied.specs.Compute.{everything}
use Rattle.sqlite.specs.Listing.{understood}
use Rattle.sqlite.proofs.Callers.{IsPlain, command_of, statement_of}
use Rattle.acceptor_store.specs.Tables.{meta_table, vote_table, snapshot_table, store_schema, old_schema, schema_of, empty_schema, create_meta_text, create_vote_text, create_snapshot_text, put_meta_text, put_vote_text, put_snapshot_text}

pub create_meta_is : (command_of (understood empty_schema create_meta_text) ≡ CreateTable)
    × (statement_of create_meta_text (understood empty_schema create_meta_text) ≡ create_meta_text)
    × (table_defined_by create_meta_text ≡ Ok meta_table)
unfolding understood everything
create_meta_is = (refl, refl, refl)

pub create_meta_plain : IsPlain (understood empty_schema create_meta_text)
unfolding understood everything
create_meta_plain = (refl, refl)

pub create_vote_is : (command_of (understood (schema_of (meta_table ∷ [])) create_vote_text) ≡ CreateTable)
    × (statement_of create_vote_text (understood (schema_of (meta_table ∷ [])) create_vote_text) ≡ create_vote_text)
    × (table_defined_by create_vote_text ≡ Ok (record vote_table { tree = 0 }))
unfolding understood everything
create_vote_is = (refl, refl, refl)

pub create_vote_plain : IsPlain (understood (schema_of (meta_table ∷ [])) create_vote_text)
unfolding understood everything
create_vote_plain = (refl, refl)

pub create_snapshot_is : (command_of (understood old_schema create_snapshot_text) ≡ CreateTable)
    × (statement_of create_snapshot_text (understood old_schema create_snapshot_text) ≡ create_snapshot_text)
    × (table_defined_by create_snapshot_text ≡ Ok (record snapshot_table { tree = 0 }))
unfolding understood everything
create_snapshot_is = (refl, refl, refl)

pub create_snapshot_plain : IsPlain (understood old_schema create_snapshot_text)
unfolding understood everything
create_snapshot_plain = (refl, refl)

abbrev pub put_meta_terms : List Term
put_meta_terms = lit (Int (pos 1)) ∷ lit Null ∷ lit (Int (pos 2)) ∷ col 0 0 ∷ col 0 1 ∷ col 0 2 ∷ []

abbrev pub put_vote_terms : List Term
put_vote_terms = col 0 0 ∷ lit Null ∷ col 0 1 ∷ col 0 2 ∷ col 0 3 ∷ []

abbrev pub put_snapshot_terms : List Term
put_snapshot_terms = lit (Int (pos 1)) ∷ lit Null ∷ col 0 0 ∷ col 0 1 ∷ []

pub put_meta_is : command_of (understood store_schema put_meta_text) ≡ InsertOr 0 Replace (Values put_meta_terms 6) []
unfolding understood everything
put_meta_is = refl

pub put_meta_plain : IsPlain (understood store_schema put_meta_text)
unfolding understood everything
put_meta_plain = (refl, refl)

pub put_vote_is : command_of (understood store_schema put_vote_text) ≡ InsertOr 1 Replace (Values put_vote_terms 5) []
unfolding understood everything
put_vote_is = refl

pub put_vote_plain : IsPlain (understood store_schema put_vote_text)
unfolding understood everything
put_vote_plain = (refl, refl)

pub put_snapshot_is : command_of (understood store_schema put_snapshot_text) ≡ InsertOr 2 Replace (Values put_snapshot_terms 4) []
unfolding understood everything
put_snapshot_is = refl

pub put_snapshot_plain : IsPlain (understood store_schema put_snapshot_text)
unfolding understood everything
put_snapshot_plain = (refl, refl)
