-- The laws of the realm at the whole logs of a world's nodes.
use Rattle.std.proofs.Common.{◌≡◌, ℕ, suc, ◌+◌, ◌≤◌, ap, sym, ◌∙◌, subst, refl, arith, Bool, true, false, not, List, [], ◌∷◌, ◌++◌, take}
use Rattle.std.specs.Prelude.{filter, All, if◌then◌else◌}
use Rattle.std.specs.List.{prefix_len}
use Rattle.std.proofs.lemmas.Bool.{false≢true}
use Rattle.std.proofs.lemmas.List.Elements.{All-nil, All-cons}
use Rattle.paxos_packets.specs.Transport.{same_transport}
use Rattle.paxos_packets.specs.declared.entry.Entry.{Entry}
use Rattle.paxos_packets.specs.declared.transport.Transport.{Transport}
use Rattle.paxos_node.specs.declared.event.Event.{Event}
use Rattle.replica_machine.specs.Effects.{is_boot}
use Rattle.replica_machine.specs.Replay.{said}
use Rattle.realm_acts.specs.declared.act.Act.{Act}
use Rattle.realm_acts.specs.Act.{same_act, act_itself, act_is}
use Rattle.realm_machine.specs.Config.{Config}
use Rattle.realm_machine.specs.Laws.{live_realm}
use Rattle.realm_machine.specs.Machine.{realm_of, live_of}
use Rattle.realm_machine.proofs.Along.{follows, says_so}
use Rattle.realm_laws.proofs.LogLaws.{registrations_sound_in_logs, realm_sound_in_logs, open_calls_sound_in_logs, replies_answer_in_logs}
use Rattle.realm_laws.proofs.Unbegun.{unbegun_told_nothing}
use Rattle.realm_laws.specs.Unbegun.{IsUnbegun}
use Rattle.realm_snapshot.specs.Snapshot.{loaded}
use Rattle.realm_snapshot.specs.Writing.{saved}
use Rattle.cluster_world.specs.Answers.{IsPresent, BeginsUnsaid, before_boot}
use Rattle.cluster_world.specs.Saving.{played_of, tell_all}
use Rattle.cluster_world.specs.StandsAt.{StandsAt, under_at}
use Rattle.cluster_world.specs.World.{World, first_world, node_at, log_of, played, handed}
use Rattle.cluster_world.proofs.Handing.{handed_is_said}
use Rattle.cluster_world.proofs.Saving.{plays_told}
use Rattle.replicated_laws.specs.Replicated.{Realms, AreSoundAlongLogs, RepliesAnswerCallsAlongLogs, RealmsFollow, AnswersAreOfRealms}

pub sound : (v : World Act) → AreSoundAlongLogs v
sound v =
    record {
      registrations = λ config node n. registrations_sound_in_logs config (log_of v node) n;
      realm = λ config node n. realm_sound_in_logs config (log_of v node) n;
      calls = λ config node n. open_calls_sound_in_logs config (log_of v node) n;
    }

pub replies : (v : World Act) → RepliesAnswerCallsAlongLogs v
replies v config node t request = replies_answer_in_logs config (log_of v node) t request

-- ---- before a boot begins

not_true : (b : Bool) → not b ≡ true → b ≡ false
not_true true e = absurd (false≢true e)
not_true false e = refl

begins_later : (t : Transport) (log : List (Entry Act)) → IsUnbegun t (before_boot t log)
begins_later t [] = All-nil (λ (e : Entry Act). is_boot t.node t.boot e ≡ false)
begins_later t (e ∷ es) = go (not (is_boot t.node t.boot e)) refl (begins_later t es)
  where
    P : Entry Act → Type 0
    P x = is_boot t.node t.boot x ≡ false

    more : ℕ
    more = prefix_len (λ (x : Entry Act). not (is_boot t.node t.boot x)) es

    one_more : suc more ≡ 1 + more
    one_more = omega arith

    go : (b : Bool) → not (is_boot t.node t.boot e) ≡ b → All P (take more es) → All P (take (if b then 1 + more else 0) (e ∷ es))
    go true i all = subst (λ k. All P (take k (e ∷ es))) one_more (All-cons P e (take more es) (not_true (is_boot t.node t.boot e) i) all)
    go false i all = All-nil P

-- ---- realms of one configuration

module _ (config : Config) (es : List (Event Act)) (w : Realms) (h : StandsAt same_act live_of saved loaded (live_realm config) w es) where
  abbrev v : World Act
  v = played_of saved (live_realm config) same_act w.members es

  pub realms_follow : RealmsFollow config w v
  realms_follow i f at up = ((h.follows i f at up).stands.0 ∙ follows config (under_at v (suc i) ++ f.log.applied), h.shows.logs i f at)

  -- what a realm says is what the one of its configuration says
  as_realm : (t : Transport) (log : List (Entry Act)) → said (live_realm config) t log ≡ said (realm_of config) t log
  as_realm t log = ap (λ ys. filter (λ y. same_transport ((realm_of config).to y) t) ys) (says_so config log)

  unsaid : (t : Transport) (log : List (Entry Act)) → BeginsUnsaid (live_realm config) t log
  unsaid t log = as_realm t (before_boot t log) ∙ unbegun_told_nothing config (before_boot t log) t (begins_later t log)

  pub answers_of_realms : w.members ≤ 7 → AnswersAreOfRealms config w v
  answers_of_realms few t p =
      h.handed t ∙ (handed_so (subst (λ ns. IsPresent t (node_at ns t.node)) h.shows.nodes p) ∙ as_realm t (log_of v t.node))
    where
      HandedSo : World Act → Type 0
      HandedSo z = IsPresent t (node_at z.nodes t.node) → handed (live_realm config) t z ≡ said (live_realm config) t (log_of z t.node)

      told : List (Event Act)
      told = tell_all saved (live_realm config) same_act w.members (first_world w.members) es

      handed_so : HandedSo v
      handed_so =
          subst (λ (z : World Act). HandedSo z) (sym (plays_told saved (live_realm config) same_act w.members es))
          (λ present. handed_is_said same_act (record { reflexive = act_itself; sound = act_is }) (live_realm config) w.members few told t present (unsaid t (log_of (played same_act w.members told) t.node)))
