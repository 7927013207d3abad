use Rattle.std.proofs.Common.{◌≡◌, ◌<◌, length, get_or, sym, refl, rules}
use Rattle.std.proofs.lemmas.List.{get_or_read}
use Rattle.serve_feed.proofs.Giving.{found}
use Rattle.serve_feed.proofs.sources.Sources.next.Goals as goal

pub returns-in-Some : goal.returns-in-Some
returns-in-Some c =
    let items = c.args.self.now.list.items in
    let within : c.args.place < length items = search rules in
    let read : c.in-Some.source.now ≡ get_or items c.args.place c.in-Some.source.now = c.in-Some.ensures.value in
    record {
      finds = λ given. found c.next.result c.args.self.now _ c.args.place given c.in-Some.source.now c.next.new.self within
          (λ d. sym (get_or_read items c.args.place c.in-Some.source.now within read d)) refl refl c.next.ensures.number c.next.ensures.takes c.next.ensures.known;
      last = refl;
    }
