-- A call that clashes with none is put in as it is opened.
use Rattle.std.proofs.Common.{◌≡◌, ℕ, true, false, ◌||◌, List, [], Some, Err, option_map, sym, ap, ◌∙◌}
use Rattle.std.proofs.lemmas.Bool.{or_parts}
use Rattle.realm_sessions.specs.Apart.{is_refused, put_all}
use Rattle.realm_sessions.specs.declared.fault.RestoreFault.{RestoreFault}
use Rattle.realm_sessions.specs.declared.fault.RestoreFault.TheVariants.{Damaged, Memory}
use Rattle.realm_sessions.specs.Restoring.{Becomes, Restores}
use Rattle.realm_sessions.proofs.Apart.{put_checked}
use Rattle.realm_sessions.proofs.PutLinks.{any_or}
use Rattle.realm_calls.specs.declared.calls.Open.{Open}
use Rattle.realm_calls.specs.Calls.{is_call, is_invocation, has, has_invocation}
use Rattle.realm_calls.specs.Restoring.{is_faulty, clash, calls_of}

clash_is : (held : List Open) (call : Open) → is_refused is_faulty clash held call
    ≡ (has held call.caller call.request || has_invocation held call.callee call.invocation)
clash_is held call = any_or (is_call call.caller call.request) (is_invocation call.callee call.invocation) held

pub by_request : (held : List Open) (call : Open) → has held call.caller call.request ≡ true → true ≡ is_refused is_faulty clash held call
by_request held call h = sym (clash_is held call ∙ ap (λ b. b || has_invocation held call.callee call.invocation) h)

pub by_invocation : (held : List Open) (call : Open) → has held call.caller call.request ≡ false
    → has_invocation held call.callee call.invocation ≡ is_refused is_faulty clash held call
by_invocation held call h = sym (clash_is held call ∙ ap (λ b. b || has_invocation held call.callee call.invocation) h)

pub apart : (held : List Open) (call : Open) → is_refused is_faulty clash held call ≡ false
    → (has held call.caller call.request ≡ false) × (has_invocation held call.callee call.invocation ≡ false)
apart held call h =
    or_parts (has held call.caller call.request) (has_invocation held call.callee call.invocation) (sym (clash_is held call) ∙ h)

-- ---- all calls

pub none_made : (fault : RestoreFault) (limit : ℕ) (calls new : List Open) → Becomes (Err fault) new (put_all is_faulty clash [] calls)
    → Restores (Err fault) (calls_of limit calls)
none_made Damaged limit calls new h =
    ap (option_map (λ (list : List Open). record { limit = limit; list = list })) (sym (put_checked is_faulty clash calls) ∙ h)
none_made Memory limit calls new h = tt

pub all_made : (limit : ℕ) (calls new : List Open) → put_all is_faulty clash [] calls ≡ Some new
    → calls_of limit calls ≡ Some (record { limit = limit; list = new })
all_made limit calls new h =
    ap (option_map (λ (list : List Open). record { limit = limit; list = list })) (sym (put_checked is_faulty clash calls) ∙ h)
