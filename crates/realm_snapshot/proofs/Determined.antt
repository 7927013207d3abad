-- What a realm's octets load as, if as anything, is that realm.
use Rattle.std.proofs.Common.{◌≡◌, ℕ, List, [], Option, None, Some, option_map, Ok, Err, IfOk, IfSome, refl, sym, ap, ◌∙◌, subst}
use Rattle.std.proofs.lemmas.List.{append-nil}
use Rattle.command_codec.specs.Entry.{whole, whole_of}
use Rattle.command_codec.specs.Number.{Reading}
use Rattle.realm_machine.specs.Content.{Content, limits_in}
use Rattle.realm_machine.specs.Machine.{Live}
use Rattle.realm_machine.specs.Parts.{lists_of, content_of}
use Rattle.realm_machine.proofs.Filled.{content_by, content_is}
use Rattle.realm_snapshot.specs.Reading.{Made, made_reading}
use Rattle.realm_snapshot.specs.Writing.{saved}
use Rattle.realm_snapshot.specs.Snapshot.{found, loaded, realm_of, ReadsNoOther}

-- what its lists make, if anything, under the limits that it has, is its content
mapped : (live : Live) → limits_in live.content ≡ live.config.limits → (o : Option Content)
    → content_of live.config.limits (lists_of live.content) ≡ o
    → IfSome (option_map (λ (c : Content). record { config = live.config; content = c }) o) (λ made. made ≡ live)
mapped live same None is = tt
mapped live same (Some c) is =
    ap (λ (d : Content). record { config = live.config; content = d })
    (sym (content_is live.config.limits (lists_of live.content) c is)
    ∙ ap (λ limits. content_by limits (lists_of live.content)) (sym same))

read_as : (live : Live) (r : Reading Made)
    → IfOk r (λ read. read ≡ (record { config = live.config; lists = lists_of live.content }, []))
    → IfSome (realm_of (record { config = live.config; lists = lists_of live.content })) (λ made. made ≡ live)
    → IfSome (found (whole r)) (λ made. made ≡ live)
read_as live (Ok read) is made =
    subst (λ (r : Made × List ℕ). IfSome (found (whole_of r.0 r.1)) (λ made. made ≡ live)) (sym is) made
read_as live (Err fault) is made = tt

pub loads_only : (live : Live) (octets : List ℕ) → octets ≡ saved live → limits_in live.content ≡ live.config.limits
    → ReadsNoOther made_reading (saved live) (record { config = live.config; lists = lists_of live.content })
    → IfSome (loaded octets) (λ made. made ≡ live)
loads_only live octets is same only =
    subst (λ l. IfSome (loaded l) (λ made. made ≡ live)) (sym is)
    (read_as live (made_reading (saved live))
    (subst (λ l. IfOk (made_reading l) (λ read. read ≡ (record { config = live.config; lists = lists_of live.content }, [])))
    (append-nil (saved live)) (only []))
    (mapped live same (content_of live.config.limits (lists_of live.content)) refl))
