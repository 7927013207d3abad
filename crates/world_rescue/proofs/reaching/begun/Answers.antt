use Rattle.std.proofs.Common.{◌≡◌, ◌<◌, ◌^◌, suc, [], ◌∷◌, sym, ap, refl, ◌∙◌, subst, rules}
use Rattle.paxos_packets.specs.declared.entry.Entry.TheVariants.{Boot}
use Rattle.world_rescue.proofs.Levelling.{begun_is}
use Rattle.world_rescue.proofs.reaching.begun.Goals as goal

pub returns-clause-level : goal.returns-clause-level
returns-clause-level g c =
    let first : c.push.new.self.items ≡ Boot c.me.result c.next-boot.result ∷ [] = search rules in
    begun_is _ c.args.own.now.me c.args.own.now.state c.args.snapshot.now
    (λ h. c.next-boot.ensures (subst (λ k. k < 2 ^ 48) (sym c.boot.ensures) h) ∙ ap suc c.boot.ensures) c.requires refl (c.at.ensures ∙ c.floor.ensures)
    (first ∙ (λ i. Boot (c.me.ensures i) c.next-boot.result ∷ [])) refl
