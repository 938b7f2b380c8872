-- What a put leaves on a sink, whatever it answers.
use Rattle.std.proofs.Common.{◌≡◌, ℕ, List, [], ◌∷◌, length, take, Option, Some, None, Result, Ok, Err, refl, sym, ap, ◌∙◌}
use Rattle.std.proofs.lemmas.List.{append-nil}
use Rattle.rh_base.specs.declared.sink.SinkFault.{SinkFault}
use Rattle.rh_base.specs.declared.sink.SinkFault.TheVariants as faults
use Rattle.rh_base.specs.Sink.{appended, PutGives}
use Rattle.rehearsal_core.specs.Runs.{AppendsFront}

-- the whole piece is its longest front
take_all : (piece : List ℕ) → take (length piece) piece ≡ piece
take_all [] = refl
take_all (b ∷ piece) = ap (λ t. b ∷ t) (take_all piece)

-- nothing appended leaves what was written
nothing : (written : Option (List ℕ)) → written ≡ appended [] written
nothing None = refl
nothing (Some bytes) = ap (λ b. Some b) (sym (append-nil bytes))

-- a front of the piece is there: all of it, some of it or nothing
pub put_front : (piece : List ℕ) (written : Option (List ℕ)) (before : ℕ) (result : Result (Unit {0}) SinkFault) (now_written : Option (List ℕ)) (now : ℕ)
    → PutGives piece written before result now_written now
    → AppendsFront piece (record { before = written; now = now_written; faults_before = before; faults_now = now })
put_front piece written before (Ok done) now_written now h = (length piece, h.1 ∙ ap (λ p. appended p written) (sym (take_all piece)))
put_front piece written before (Err faults.Failed) now_written now h = (h.1, h.2)
put_front piece written before (Err (faults.Memory m)) now_written now h = (0, h.0 ∙ nothing written)
