-- Reading piece by piece.
use Rattle.std.proofs.Common.{◌≡◌, ℕ, ◌+◌, ◌≤◌, true, false, Ok, Err, arith, List, [], ◌++◌, Option, None, Some, sym, ◌∙◌, ap}
use Rattle.std.proofs.Common.{append_assoc, append-nil, length-append}
use Rattle.std.specs.Io.KnownBytes.{Keeps}
use Rattle.std.proofs.KnownBytes.{Consumes-nil, Consumes-trans}
use Rattle.script_program.specs.declared.fault.ScriptFault.{ScriptFault}
use Rattle.script_program.specs.declared.fault.ScriptFault.TheVariants as fault
use Rattle.script_program.specs.Reading.{WereRead, StopsBy, ReadsOnce, ReadsInto}

pub read_nothing : (input : Option (List ℕ)) → WereRead 0 input input []
read_nothing input = record { are_read = Consumes-nil input; enough = omega arith }

pub kept_nothing : (input left : Option (List ℕ)) → Keeps input left → WereRead 0 input left []
kept_nothing None left k = record { are_read = tt; enough = omega arith }
kept_nothing (Some x) None k = absurd k
kept_nothing (Some x) (Some y) k = record { are_read = sym k; enough = omega arith }

pub read_more : (m n : ℕ) (input mid left : Option (List ℕ)) (first second : List ℕ) → WereRead m input mid first
    → WereRead n mid left second
    → WereRead (m + n) input left (first ++ second)
read_more m n input mid left first second p q = record {
  are_read = Consumes-trans input mid left first second p.are_read q.are_read;
  enough = omega (arith, length-append first second, p.enough, q.enough);
}

pub read_fewer : (m n : ℕ) (input left : Option (List ℕ)) (octets : List ℕ) → m ≤ n → WereRead n input left octets
    → WereRead m input left octets
read_fewer m n input left octets le p = record { are_read = p.are_read; enough = omega (arith, le, p.enough) }

-- ---- the loop of reads

-- what was appended to the text so far, in at least this many reads
pub record Reading (count : ℕ) (input mid : Option (List ℕ)) (old text : List ℕ) : Type 0 where
  pub read : List ℕ
  pub were_read : WereRead count input mid read
  pub is_text : text ≡ old ++ read

pub reads_begin : (input : Option (List ℕ)) (old : List ℕ) → Reading 0 input input old old
reads_begin input old = record { read = []; were_read = read_nothing input; is_text = sym (append-nil old) }

module _ (count : ℕ) (input mid : Option (List ℕ)) (old text : List ℕ) (r : Reading count input mid old text)
    (left : Option (List ℕ)) (new : List ℕ) where
  pub reads_on : ReadsOnce (Ok true) mid left text new → Reading (count + 1) input left old new
  reads_on q = record {
    read = r.read ++ q.0;
    were_read = read_more count 1 input mid left r.read q.0 r.were_read q.1;
    is_text = q.2 ∙ ap (λ t. t ++ q.0) r.is_text ∙ append_assoc old r.read q.0;
  }

  pub reads_end : ReadsOnce (Ok false) mid left text new → ReadsInto (Ok tt) input left old new
  reads_end q = (
    r.read ++ [],
    read_fewer 0 (count + 0) input left (r.read ++ []) (omega arith) (read_more count 0 input mid left r.read [] r.were_read q.0),
    q.1,
    q.2 ∙ r.is_text ∙ ap (λ t. old ++ t) (sym (append-nil r.read)),
  )

  pub reads_stop : (f : ScriptFault) → ReadsOnce (Err f) mid left text new → StopsBy f input left
  reads_stop (fault.Line number) q = q
  reads_stop fault.Memory q = (
    r.read ++ q.0,
    read_fewer 0 (count + 0) input left (r.read ++ q.0) (omega arith)
        (read_more count 0 input mid left r.read q.0 r.were_read q.1),
  )
  reads_stop fault.Read q = (
    r.read ++ [],
    read_fewer 0 (count + 0) input left (r.read ++ []) (omega arith)
        (read_more count 0 input mid left r.read [] r.were_read q),
  )
  reads_stop fault.Write q = q
  reads_stop fault.Reads q = absurd q
