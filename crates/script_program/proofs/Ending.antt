-- How a run ends.
use Rattle.std.proofs.Common.{◌≡◌, inl, inr, ℕ, List, [], Option, Result, Ok, Err, refl, sym, ◌∙◌, subst}
use Rattle.std.specs.declared.vec.Vec.{Vec}
use Rattle.std.specs.Io.KnownBytes.{Appends, IsAtEnd}
use Rattle.std.proofs.KnownBytes.{Appends-nil, Appends-trans}
use Rattle.paxos_packets.specs.declared.transport.Transport.{Transport}
use Rattle.realm_acts.specs.declared.act.Act.{Act}
use Rattle.realm_machine.specs.declared.sayings.say.Say.{Say}
use Rattle.realm_machine.specs.Config.{Config}
use Rattle.realm_machine.specs.Machine.{realm_of}
use Rattle.realm_machine.specs.Laws.{live_realm}
use Rattle.cluster_world.specs.Has.{Has}
use Rattle.cluster_world.specs.Told.{WereHanded}
use Rattle.cluster_world.specs.World.{World}
use Rattle.script_program.specs.declared.lines.line.Line.{Line}
use Rattle.script_program.specs.declared.lines.LinesFault.{LinesFault}
use Rattle.script_program.specs.declared.lines.LinesFault.TheVariants as lines
use Rattle.script_program.specs.Lines.{script_of, FailsBy}
use Rattle.script_program.specs.Playing.{HandsOutAsRealm, events_of, world_behind}
use Rattle.script_program.specs.declared.fault.ScriptFault.{ScriptFault}
use Rattle.script_program.specs.declared.fault.ScriptFault.TheVariants as fault
use Rattle.script_program.specs.Reading.{WereRead, StopsBy}
use Rattle.script_program.specs.Printing.{Passes, Prints, PrintsSome, Closes, Writes, WritesSome}
use Rattle.script_program.specs.WorldText.{nodes_text, told_text, world_text, world_of, IsTextOf}
use Rattle.script_program.specs.Run.{fault_of, LacksLines, ReadsLines, Ends}
use Rattle.script_program.proofs.Pages.{prints_part, prints_then}

-- ---- lines

pub unread_lines : (members : ℕ) (f : ScriptFault) (input left : Option (List ℕ)) → StopsBy f input left
    → LacksLines members f input left
unread_lines members (fault.Line number) input left p = absurd p
unread_lines members fault.Memory input left p = p
unread_lines members fault.Read input left p = p
unread_lines members fault.Write input left p = p
unread_lines members fault.Reads input left p = p

pub bad_lines : (members : ℕ) (f : LinesFault) (octets : List ℕ) (input left : Option (List ℕ)) → WereRead 0 input left octets
    → IsAtEnd left → FailsBy f (script_of members octets) → LacksLines members (fault_of f) input left
bad_lines members (lines.NotAnEvent number) octets input left p e bad = (octets, p, e, bad)
bad_lines members lines.Memory octets input left p e bad = (octets, p)

-- ---- the text of a world

-- transports are handed what the realm says
as_realm : HandsOutAsRealm → (config : Config) (w : World Act) (told : List (Transport × List Say)) → WereHanded (live_realm config) w told
    → WereHanded (realm_of config) w told
as_realm alike config w told p = record {
  in_order = p.in_order;
  only = λ t ys has. ((p.only t ys has).0 ∙ alike config t w, (p.only t ys has).1);
  each = λ t some. subst (λ (ys : List Say). Has told (t, ys)) (alike config t w) (p.each t (λ none. some (sym (alike config t w) ∙ none)));
}

module _ (alike : HandsOutAsRealm) (config : Config) (members m : ℕ) (ls : List Line) (same : m ≡ members)
    (told : List (Transport × List Say))
    (were : WereHanded (live_realm config) (world_behind config m (events_of config members ls)) told) where
  abbrev the_text : List ℕ
  the_text = world_text members (world_of config members ls) told

  is_text : IsTextOf config members ls the_text
  is_text = record {
    told = told;
    were_handed = as_realm alike config (world_of config members ls) told
        (subst (λ (k : ℕ). WereHanded (live_realm config) (world_behind config k (events_of config members ls)) told) same were);
    is_text = refl;
  }

  module _ (old mid : Option (List ℕ)) (waited between : List ℕ) where
    abbrev PrintsNodes : Result (Unit {0}) ScriptFault → ℕ → Type 0
    PrintsNodes result k = Prints result old mid waited between (nodes_text members (world_behind config k (events_of config members ls)))

    pub world_wrong : (f : ScriptFault) → PrintsNodes (Err f) m → PrintsSome (IsTextOf config members ls) (Err f) old mid waited between
    world_wrong f p = (
      the_text,
      is_text,
      prints_part f old mid waited between (nodes_text members (world_of config members ls)) (told_text told) the_text refl
          (subst (PrintsNodes (Err f)) same p),
    )

    pub world_printed : PrintsNodes (Ok tt) m → (result : Result (Unit {0}) ScriptFault) (new : Option (List ℕ)) (waits : List ℕ)
        → Prints result mid new between waits (told_text told) → PrintsSome (IsTextOf config members ls) result old new waited waits
    world_printed p result new waits q = (
      the_text,
      is_text,
      prints_then old mid waited between (nodes_text members (world_of config members ls)) (told_text told)
          (subst (PrintsNodes (Ok tt)) same p) result
          new waits q,
    )

-- ---- it is written

module _ (IsText : List ℕ → Type 0) (old mid : Option (List ℕ)) (waited waits : List ℕ) (none : waited ≡ []) where
  wrong : (f : ScriptFault) (text : List ℕ) → Prints (Err f) old mid [] waits text → Writes (Err f) old mid text
  wrong (fault.Line number) text p = p
  wrong fault.Memory text p = p
  wrong fault.Read text p = p
  wrong fault.Write text p = p
  wrong fault.Reads text p = p

  pub written_wrong : (f : ScriptFault) → PrintsSome IsText (Err f) old mid waited waits → WritesSome IsText (Err f) old mid
  written_wrong f p = (p.0, p.1, wrong f p.0 (subst (λ (w : List ℕ). Prints (Err f) old mid w waits p.0) none p.2))

  whole : (result : Result (Unit {0}) ScriptFault) (new : Option (List ℕ)) (text : List ℕ) → Passes old mid [] waits text
      → Closes result mid new waits → Writes result old new text
  whole (Ok x) new text p a =
      subst (λ (t : List ℕ). Appends old new t) (sym p.is_all) (Appends-trans old mid new p.written waits p.is_written a)
  whole (Err f) new text p e = subst (λ (g : ScriptFault). Writes (Err g) old new text) (sym e) tt

  pub written_whole : (result : Result (Unit {0}) ScriptFault) (new : Option (List ℕ)) → PrintsSome IsText (Ok tt) old mid waited waits
      → Closes result mid new waits → WritesSome IsText result old new
  written_whole result new p a =
      (p.0, p.1, whole result new p.0 (subst (λ (w : List ℕ). Passes old mid w waits p.0) none p.2) a)

-- ---- the run

module _ (config : Config) (members : ℕ) (input left old : Option (List ℕ)) where
  -- nothing is played
  pub ends_unread : (f : ScriptFault) → LacksLines members f input left → Ends config members (Err f) input left old old
  ends_unread (fault.Line number) p = (p.0, p.1.are_read, (p.3, p.2, Appends-nil old))
  ends_unread fault.Memory p = (p.0, p.1.are_read, inl (Appends-nil old))
  ends_unread fault.Read p = (p.0, p.1.are_read, Appends-nil old)
  ends_unread fault.Write p = absurd p
  ends_unread fault.Reads p = (p.0, p.1.are_read, (p.1.enough, Appends-nil old))

  module _ {Z : Type 0} (ls : Vec Line Z) (p : ReadsLines members (Ok ls) input left) where
    pub ends_unplayed : Ends config members (Err fault.Memory) input left old old
    ends_unplayed = (p.0, p.1.are_read, inl (Appends-nil old))

    pub ends_played : (result : Result (Unit {0}) ScriptFault) (new : Option (List ℕ))
        → WritesSome (IsTextOf config members ls.items) result old new
        → Ends config members result input left old new
    ends_played (Ok x) new q = (p.0, p.1.are_read, (q.0, record { lines = ls.items; spelled = p.3; is_text = q.1 }, p.2, q.2))
    ends_played (Err (fault.Line number)) new q = absurd q.2
    ends_played (Err fault.Memory) new q =
        (p.0, p.1.are_read, inr (q.0, record { lines = ls.items; spelled = p.3; is_text = q.1 }, p.2, q.2))
    ends_played (Err fault.Read) new q = absurd q.2
    ends_played (Err fault.Write) new q = (p.0, p.1.are_read, (q.0, record { lines = ls.items; spelled = p.3; is_text = q.1 }, p.2))
    ends_played (Err fault.Reads) new q = absurd q.2
