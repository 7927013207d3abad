-- What is written through a buffer, piece by piece.
use Rattle.std.proofs.Common.{◌≡◌, ℕ, List, [], ◌++◌, Option, Result, Ok, Err, refl, sym, ◌∙◌, ap, subst, append_assoc, append-nil}
use Rattle.std.specs.Io.KnownBytes.{Appends}
use Rattle.std.proofs.KnownBytes.{Appends-nil, Appends-trans}
use Rattle.script_program.specs.declared.fault.ScriptFault.{ScriptFault}
use Rattle.script_program.specs.declared.fault.ScriptFault.TheVariants as fault
use Rattle.script_program.specs.Printing.{Passes, Breaks, Prints, Underway}

-- a text was appended to what waited, and nothing was written
pub passes_put : (old : Option (List ℕ)) (waited waits text : List ℕ) → waits ≡ waited ++ text → Passes old old waited waits text
passes_put old waited waits text e = record { written = []; is_written = Appends-nil old; is_all = sym e }

pub passes_nothing : (old : Option (List ℕ)) (waited : List ℕ) → Passes old old waited waited []
passes_nothing old waited = passes_put old waited waited [] (sym (append-nil waited))

-- all that waited was written
pub passes_written : (old new : Option (List ℕ)) (waited waits : List ℕ) → Appends old new waited → waits ≡ []
    → Passes old new waited waits []
passes_written old new waited waits a e = record { written = waited; is_written = a; is_all = ap (λ w. waited ++ w) (sym e) }

module _ (old mid : Option (List ℕ)) (waited between text more : List ℕ) (p : Passes old mid waited between text) where
  together : (rest written : List ℕ) → between ++ more ≡ written ++ rest → waited ++ (text ++ more) ≡ (p.written ++ written) ++ rest
  together rest written e =
      sym (append_assoc waited text more) ∙ ap (λ x. x ++ more) p.is_all ∙ append_assoc p.written between more ∙ ap (λ x. p.written ++ x) e
      ∙ sym (append_assoc p.written written rest)

  pub passes_then : (new : Option (List ℕ)) (waits : List ℕ) → Passes mid new between waits more
      → Passes old new waited waits (text ++ more)
  passes_then new waits q = record {
    written = p.written ++ q.written;
    is_written = Appends-trans old mid new p.written q.written p.is_written q.is_written;
    is_all = together waits q.written q.is_all;
  }

  breaks_then : (new : Option (List ℕ)) → Breaks mid new (between ++ more) → Breaks old new (waited ++ (text ++ more))
  breaks_then new q = record {
    written = p.written ++ q.written;
    rest = q.rest;
    is_written = Appends-trans old mid new p.written q.written p.is_written q.is_written;
    is_all = together q.rest q.written q.is_all;
  }

  -- a text was appended to another
  pub prints_then : (result : Result (Unit {0}) ScriptFault) (new : Option (List ℕ)) (waits : List ℕ)
      → Prints result mid new between waits more
      → Prints result old new waited waits (text ++ more)
  prints_then (Ok x) new waits q = passes_then new waits q
  prints_then (Err (fault.Line number)) new waits q = q
  prints_then (Err fault.Memory) new waits q = breaks_then new q
  prints_then (Err fault.Read) new waits q = q
  prints_then (Err fault.Write) new waits q = q
  prints_then (Err fault.Reads) new waits q = q

-- memory ran out for a text
pub breaks_unput : (old : Option (List ℕ)) (all : List ℕ) → Breaks old old all
breaks_unput old all = record { written = []; rest = all; is_written = Appends-nil old; is_all = refl }

-- the beginning of a beginning is a beginning
pub prints_same : (result : Result (Unit {0}) ScriptFault) (old new : Option (List ℕ)) (waited waits text same : List ℕ) → text ≡ same
    → Prints result old new waited waits text → Prints result old new waited waits same
prints_same result old new waited waits text same e p =
    let P : List ℕ → Type 0 = λ t. Prints result old new waited waits t in subst P e p

breaks_more : (old new : Option (List ℕ)) (waited text rest whole : List ℕ) → text ++ rest ≡ whole → Breaks old new (waited ++ text)
    → Breaks old new (waited ++ whole)
breaks_more old new waited text rest whole e p = record {
  written = p.written;
  rest = p.rest ++ rest;
  is_written = p.is_written;
  is_all = ap (λ x. waited ++ x) (sym e) ∙ sym (append_assoc waited text rest) ∙ ap (λ x. x ++ rest) p.is_all
      ∙ append_assoc p.written p.rest rest;
}

-- what ends the printing of a part ends that of the whole
pub prints_part : (fault : ScriptFault) (old new : Option (List ℕ)) (waited waits text rest whole : List ℕ) → text ++ rest ≡ whole
    → Prints (Err fault) old new waited waits text → Prints (Err fault) old new waited waits whole
prints_part (fault.Line number) old new waited waits text rest whole e p = p
prints_part fault.Memory old new waited waits text rest whole e p = breaks_more old new waited text rest whole e p
prints_part fault.Read old new waited waits text rest whole e p = p
prints_part fault.Write old new waited waits text rest whole e p = p
prints_part fault.Reads old new waited waits text rest whole e p = p

-- ---- a text under way

pub begins : (old : Option (List ℕ)) (waited whole : List ℕ) → Underway old old waited waited whole whole
begins old waited whole = record { text = []; passes = passes_nothing old waited; is_whole = refl }

module _ (old mid : Option (List ℕ)) (waited between whole rest : List ℕ) (u : Underway old mid waited between whole rest) where
  -- the next piece is put, and more is to come
  pub goes_on : (new : Option (List ℕ)) (waits piece after : List ℕ) → rest ≡ piece ++ after → Passes mid new between waits piece
      → Underway old new waited waits whole after
  goes_on new waits piece after e p = record {
    text = u.text ++ piece;
    passes = passes_then old mid waited between u.text piece u.passes new waits p;
    is_whole = append_assoc u.text piece after ∙ ap (λ x. u.text ++ x) (sym e) ∙ u.is_whole;
  }

  -- the next piece is not put
  pub goes_wrong : (fault : ScriptFault) (new : Option (List ℕ)) (waits piece after : List ℕ) → rest ≡ piece ++ after
      → Prints (Err fault) mid new between waits piece → Prints (Err fault) old new waited waits whole
  goes_wrong fault new waits piece after e p =
      prints_part fault old new waited waits (u.text ++ piece) after whole
      (append_assoc u.text piece after ∙ ap (λ x. u.text ++ x) (sym e) ∙ u.is_whole)
      (prints_then old mid waited between u.text piece u.passes (Err fault) new waits p)

  -- nothing more is to come
  pub is_over : rest ≡ [] → Passes old mid waited between whole
  is_over e =
      let P : List ℕ → Type 0 = λ t. Passes old mid waited between t in
      subst P (sym (append-nil u.text) ∙ ap (λ x. u.text ++ x) (sym e) ∙ u.is_whole) u.passes
