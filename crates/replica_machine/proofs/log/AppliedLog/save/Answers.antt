use Rattle.std.proofs.Common.{rules, ◌≡◌, ◌++◌, sym, ap, ◌∙◌, subst, Some}
use Rattle.std.specs.Prelude.{IfOk, IfSome}
use Rattle.std.proofs.lemmas.Result.{IfOk-weaker}
use Rattle.replica_machine.specs.Log.{LogState, length_in}
use Rattle.replica_machine.specs.Snapshot.{kept_of, kept_octets, loaded_log}
use Rattle.replica_machine.proofs.Snapshots.{saves_back, reads_only, seven_kept}
use Rattle.replica_machine.proofs.log.AppliedLog.save.Goals as goal

pub returns-clause-back : goal.returns-clause-back
returns-clause-back g c = λ first under stands sound given within.
    let now = c.args.self.now in
    let content = g.M.Machine.content in
    let saved = g.M.Machine.saved in
    let loaded = g.M.Machine.loaded in
    let did = c.in_ok-machine.ensures in
    let written : IfOk c.and.result (λ octets. octets.items ≡ kept_octets saved (kept_of content now)) = search rules in
    let back = subst (λ (v : LogState g.row.M-Body.Denot g.row.M.Denot).
    g.M.Machine.is_sound (content v.machine) → loaded (saved (content v.machine)) ≡ Some (content v.machine)) c.self.view_is
    (λ is. ap loaded (sym did.octets) ∙ did.back is) in
    IfOk-weaker c.and.result (λ octets. octets.items ≡ kept_octets saved (kept_of content now))
    (λ octets. loaded_log loaded octets.items ≡ Some (kept_of content now))
    (λ octets are.
    saves_back g.M.Machine.steps content g.M.Machine.is_sound g.met.M.Machine.keeps loaded first under now
    (saved (content now.machine)) octets.items stands sound given within back are) written

pub returns-clause-only : goal.returns-clause-only
returns-clause-only g c = λ first under stands given within.
    let now = c.args.self.now in
    let content = g.M.Machine.content in
    let saved = g.M.Machine.saved in
    let loaded = g.M.Machine.loaded in
    let did = c.in_ok-machine.ensures in
    let written : IfOk c.and.result (λ octets. octets.items ≡ kept_octets saved (kept_of content now)) = search rules in
    let only = subst (λ (v : LogState g.row.M-Body.Denot g.row.M.Denot).
    IfSome (loaded (saved (content v.machine))) (λ made. made ≡ content v.machine)) c.self.view_is
    (subst (λ l. IfSome (loaded l) (λ made. made ≡ content c.self.inside.machine)) did.octets did.only) in
    IfOk-weaker c.and.result (λ octets. octets.items ≡ kept_octets saved (kept_of content now))
    (λ octets. IfSome (loaded_log loaded octets.items) (λ kept. kept ≡ kept_of content now))
    (λ octets are.
    reads_only loaded (length_in now) now.roll (content now.machine) (saved (content now.machine)) octets.items within
    (seven_kept (under ++ now.applied) now.roll given stands.stands.1) only are) written
