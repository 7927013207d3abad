-- A realm and its octets, for the examples of the module `laws`.
use Rattle.std.specs.Prelude.{ℕ, true, List, [], ◌∷◌, ◌++◌, Some}
use Rattle.wamp_ids.specs.declared.policy.Match.TheVariants.{Prefix}
use Rattle.wamp_ids.specs.declared.policy.Invoke.TheVariants.{RoundRobin}
use Rattle.realm_sessions.specs.declared.links.Link.{Link}
use Rattle.realm_calls.specs.declared.calls.Open.{Open}
use Rattle.realm_machine.specs.Machine.{Live}

-- one session, 5, which is connected as number 2 of node 1 in its boot 256, announced canceling and was invoked thrice; it is called for
-- what begins with `x`, told of every topic, and has called itself
abbrev pub alone : Live
alone = record {
  config = record {
    name = 114 ∷ [];
    limits = record { sessions = 1; registrations = 2; subscriptions = 3; calls = 4 };
  };
  content = record {
    sessions = record {
      limit = 1;
      list = record {
        transport = record { node = 1; boot = 256; number = 2 };
        session = Some (record { id = 5; canceling = true; last_invocation = Some 3 });
      } ∷ [];
    };
    registrations = record {
      limit = 2;
      list = record {
        id = 1;
        pattern = record { text = 120 ∷ []; matching = Prefix };
        invoke = RoundRobin;
        callees = 5 ∷ [];
      } ∷ [];
      last = 4;
    };
    subscriptions = record {
      limit = 3;
      list = record { id = 9; pattern = record { text = []; matching = Prefix }; members = 5 ∷ [] } ∷ [];
      last = 9;
    };
    calls = record {
      limit = 4;
      list = record { caller = 5; request = 7; callee = 5; invocation = 3; progress = true } ∷ [];
    };
  };
}

-- a number below 256 in eight octets
abbrev pub small : ℕ → List ℕ
small n = 0 ∷ 0 ∷ 0 ∷ 0 ∷ 0 ∷ 0 ∷ 0 ∷ n ∷ []

-- its octets, as the layout has them
abbrev pub alone_octets : List ℕ
alone_octets =
    (1 ∷ []) ++ (small 1 ++ ((114 ∷ []) ++ ((0 ∷ 0 ∷ 0 ∷ 1 ∷ 0 ∷ 0 ∷ 0 ∷ 2 ∷ 0 ∷ 0 ∷ 0 ∷ 3 ∷ 0 ∷ 0 ∷ 0 ∷ 4 ∷ []) ++ (small 4 ++ (small 9
    ++ (small 1 ++ ((1 ∷ 0 ∷ 0 ∷ 0 ∷ 0 ∷ 0 ∷ 0 ∷ 1 ∷ 0 ∷ 0 ∷ 0 ∷ 0 ∷ 2 ∷ []) ++ (small 5 ++ ((1 ∷ []) ++ (small 3
    ++ (small 1 ++ (small 1 ++ ((1 ∷ 3 ∷ 0 ∷ 1 ∷ 120 ∷ []) ++ (small 1 ++ (small 5
    ++ (small 1 ++ (small 9 ++ ((1 ∷ 0 ∷ 0 ∷ []) ++ (small 1 ++ (small 5
    ++ (small 1 ++ (small 5 ++ (small 7 ++ (small 5 ++ (small 3 ++ (1 ∷ []))))))))))))))))))))))))))

-- its link, before what follows
abbrev pub its_link : Link
its_link = record {
  transport = record { node = 1; boot = 256; number = 2 };
  session = Some (record { id = 5; canceling = true; last_invocation = Some 3 });
}

abbrev pub its_link_octets : List ℕ → List ℕ
its_link_octets rest = (1 ∷ 0 ∷ 0 ∷ 0 ∷ 0 ∷ 0 ∷ 0 ∷ 1 ∷ 0 ∷ 0 ∷ 0 ∷ 0 ∷ 2 ∷ []) ++ (small 5 ++ ((1 ∷ []) ++ (small 3 ++ rest)))

-- its call, and one under another request, before what follows
abbrev pub its_call : Open
its_call = record { caller = 5; request = 7; callee = 5; invocation = 3; progress = true }

abbrev pub its_call_octets : ℕ → List ℕ → List ℕ
its_call_octets request rest = small 5 ++ (small request ++ (small 5 ++ (small 3 ++ ((1 ∷ []) ++ rest))))

-- the same realm, but its sessions are held to another limit than its configuration has
abbrev pub unlike : Live
unlike = record {
  config = alone.config;
  content = record alone.content { sessions = record { limit = 7; list = alone.content.sessions.list } };
}
