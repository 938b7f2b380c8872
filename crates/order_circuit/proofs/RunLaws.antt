-- Runs of the programs that codes tell.
use Rattle.std.proofs.Common.{◌≡◌, ℕ, zero, suc, ◌+◌, ◌<◌, ◌≤◌, ◌==◌, true, false, cond, List, [], ◌∷◌, ◌++◌, drop, map, length, get_or, Some, None, refl, sym, ap, subst, ◌∙◌, arith, eqb-true, nat_lt, ltb-true}
use Rattle.std.proofs.lemmas.Bool.{eqb-false, ltb-false, lt-ltb, le-ltb}
use Rattle.std.specs.Prelude.{slice_index_or}
use Rattle.bool_circuit.specs.declared.gate.Wire.{Wire}
use Rattle.bool_circuit.specs.declared.gate.Gate.{Gate}
use Rattle.fs_semantics.specs.FileTree.{Tree}
use Rattle.fs_semantics.specs.Programs.{Program as Steps, Id, Outcome, and_then, run}
use Rattle.fs_semantics.specs.Orders.{outcome}
use Rattle.fs_lang.specs.declared.program.Program.{Program}
use Rattle.fs_lang.specs.Meaning.{program_of, programs_in}
use Rattle.fs_interpreter.specs.Meanings.{Valuation, Grows}
use Rattle.fs_interpreter.specs.Places.{Listed, Covers, CoversSteps}
use Rattle.fs_interpreter.specs.States.{State}
use Rattle.fs_interpreter.specs.Standing.{StandsFor}
use Rattle.sym_run.specs.Wires.{AreWires, circuit_meanings}
use Rattle.order_circuit.specs.Codes.{node, nodes, AreRows}

-- rows of wires are so as the circuit grows
pub rows_stay : (old new : List Gate) (rows : List (List Wire)) → Grows (circuit_meanings old) (circuit_meanings new) → AreRows old rows → AreRows new rows
rows_stay old new [] g h = tt
rows_stay old new (ws ∷ rows) g h = (g.owns_code ws h.0, rows_stay old new rows g h.1)

-- and tell the same nodes
pub nodes_stay : (old new : List Gate) (rows : List (List Wire)) → Grows (circuit_meanings old) (circuit_meanings new) → AreRows old rows → (v : Valuation) → nodes new v rows ≡ nodes old v rows
nodes_stay old new [] g h v = refl
nodes_stay old new (ws ∷ rows) g h v = λ i. g.code ws h.0 v i ∷ nodes_stay old new rows g h.1 v i

-- one more code of wires makes the rows one more
pub rows_more : (gates : List Gate) (rows : List (List Wire)) (ws : List Wire) → AreRows gates rows → AreWires gates ws → AreRows gates (rows ++ ws ∷ [])
rows_more gates [] ws h k = (k, tt)
rows_more gates (r ∷ rows) ws h k = (h.0, rows_more gates rows ws h.1 k)

-- and tells one more node at the end
pub nodes_more : (gates : List Gate) (v : Valuation) (rows : List (List Wire)) (ws : List Wire) → nodes gates v (rows ++ ws ∷ []) ≡ nodes gates v rows ++ node gates v ws ∷ []
nodes_more gates v [] ws = refl
nodes_more gates v (r ∷ rows) ws = ap (λ ns. node gates v r ∷ ns) (nodes_more gates v rows ws)

-- the code at a place is of wires
pub row_at : (gates : List Gate) (rows : List (List Wire)) (i : ℕ) (code : List Wire) → code ≡ get_or rows i code → AreRows gates rows → i < length rows → AreWires gates code
row_at gates [] i code e h l = absurd (omega (arith, l))
row_at gates (r ∷ rows) zero code e h l = subst (AreWires gates) (sym e) h.0
row_at gates (r ∷ rows) (suc i) code e h l = row_at gates rows i code e h.1 (omega (arith, l))

-- what is read twice at a place is one code
pub row_same : (rows : List (List Wire)) (i : ℕ) (code other : List Wire) → code ≡ get_or rows i code → other ≡ get_or rows i other → i < length rows → other ≡ code
row_same [] i code other e f l = absurd (omega (arith, l))
row_same (r ∷ rows) zero code other e f l = f ∙ sym e
row_same (r ∷ rows) (suc i) code other e f l = row_same rows i code other e f (omega (arith, l))

-- the nodes from a place on are the one there and those behind it
pub nodes_from : (gates : List Gate) (v : Valuation) (rows : List (List Wire)) (i : ℕ) (code : List Wire) → code ≡ get_or rows i code → i < length rows → nodes gates v (drop i rows) ≡ node gates v code ∷ nodes gates v (drop (i + 1) rows)
nodes_from gates v [] i code e l = absurd (omega (arith, l))
nodes_from gates v (r ∷ rows) zero code e l = ap (λ ws. node gates v ws ∷ nodes gates v rows) (sym e)
nodes_from gates v (r ∷ rows) (suc i) code e l =
    let next : suc (i + 1) ≡ suc i + 1 = omega arith in
    nodes_from gates v rows i code e (omega (arith, l)) ∙ ap (λ k. node gates v code ∷ nodes gates v (drop k (r ∷ rows))) next

-- past the end no code is left
pub none_behind : (rows : List (List Wire)) (i : ℕ) → length rows ≤ i → drop i rows ≡ []
none_behind [] zero h = refl
none_behind [] (suc i) h = refl
none_behind (r ∷ rows) zero h = absurd (omega (arith, h))
none_behind (r ∷ rows) (suc i) h = none_behind rows i (omega (arith, h))

-- no further program leaves the outcome
pub no_more : (es : List Steps) (o : Outcome) → and_then o (outcome es []) ≡ o
no_more es None = refl
no_more es (Some t) = refl

-- of three steps of a run the last two may be taken together
pub after : (o : Outcome) (f : Tree → Outcome) (g : Tree → Outcome) → and_then (and_then o f) g ≡ and_then o (λ t. and_then (f t) g)
after None f g = refl
after (Some t) f g = refl

-- a table that has what all programs name has what the one at a place does
pub covers_at : (table : Listed) (programs : List Program) (i : ℕ) (p : Program) → CoversSteps table (programs_in programs) → p ≡ get_or programs i p → i < length programs → Covers table (program_of p)
covers_at table [] i p h e l = absurd (omega (arith, l))
covers_at table (q ∷ programs) zero p h e l = subst (λ r. Covers table (program_of r)) (sym e) h.0
covers_at table (q ∷ programs) (suc i) p h e l = covers_at table programs i p h.1 e (omega (arith, l))

-- the program at a place means what the code's program there means
pub program_at : (programs : List Program) (i : ℕ) (p : Program) → p ≡ get_or programs i p → i < length programs → slice_index_or (map program_of programs) i Id ≡ program_of p
program_at [] i p e l = absurd (omega (arith, l))
program_at (q ∷ programs) zero p e l = ap program_of (sym e)
program_at (q ∷ programs) (suc i) p e l = program_at programs i p e (omega (arith, l))

-- past the end stands the program that does nothing
pub no_program : (programs : List Program) (i : ℕ) → length programs ≤ i → slice_index_or (map program_of programs) i Id ≡ Id
no_program [] i h = refl
no_program (q ∷ programs) zero h = absurd (omega (arith, h))
no_program (q ∷ programs) (suc i) h = no_program programs i (omega (arith, h))

-- the program that does nothing leaves the outcome
pub as_before : (o : Outcome) → and_then o (run Id) ≡ o
as_before None = refl
as_before (Some t) = refl

-- one program more: it ran where the code tells it, else all stayed
pub run_step : (table : Listed) (es : List Steps) (i n : ℕ) (o : Outcome) (s t : State) → StandsFor table s (cond (nat_lt n i) (and_then o (run (slice_index_or es n Id))) o)
    → ((i == n) ≡ true → StandsFor table t (and_then o (run (slice_index_or es i Id)))) → ((i == n) ≡ false → t ≡ s)
    → StandsFor table t (cond (nat_lt n (i + 1)) (and_then o (run (slice_index_or es n Id))) o)
run_step table es i n o s t before ran stayed = elim (i == n) as (λ b. (i == n) ≡ b → StandsFor table t (cond (nat_lt n (i + 1)) (and_then o (run (slice_index_or es n Id))) o)) [
  | true ↦ λ e. let same = eqb-true i n e in
      subst (λ b. StandsFor table t (cond b (and_then o (run (slice_index_or es n Id))) o)) (sym (lt-ltb n (i + 1) (omega (arith, same))))
      (subst (λ k. StandsFor table t (and_then o (run (slice_index_or es k Id)))) same (ran e))
  | false ↦ λ e. let apart = eqb-false i n e in
      subst (λ b. StandsFor table t (cond b (and_then o (run (slice_index_or es n Id))) o)) (sym (further apart))
      (subst (λ x. StandsFor table x (cond (nat_lt n i) (and_then o (run (slice_index_or es n Id))) o)) (sym (stayed e)) before)
] refl
  where
    further : (i ≡ n → ⊥) → nat_lt n (i + 1) ≡ nat_lt n i
    further f = elim (nat_lt n i) as (λ b. nat_lt n i ≡ b → nat_lt n (i + 1) ≡ b) [
      | true ↦ λ e. let low = ltb-true n i e in lt-ltb n (i + 1) (omega (arith, low))
      | false ↦ λ e. let high = ltb-false n i e in elim (nat_lt n (i + 1)) as (λ b. nat_lt n (i + 1) ≡ b → b ≡ false) [
        | true ↦ λ k. let low = ltb-true n (i + 1) k in absurd (f (omega (arith, low, high)))
        | false ↦ λ k. refl
      ] refl
    ] refl

-- all programs are done
pub run_end : (table : Listed) (programs : List Program) (n : ℕ) (o : Outcome) (s : State) → StandsFor table s (cond (nat_lt n (length programs)) (and_then o (run (slice_index_or (map program_of programs) n Id))) o)
    → StandsFor table s (and_then o (run (slice_index_or (map program_of programs) n Id)))
run_end table programs n o s h = elim (nat_lt n (length programs)) as (λ b. nat_lt n (length programs) ≡ b → StandsFor table s (cond b (and_then o (run (slice_index_or (map program_of programs) n Id))) o) → StandsFor table s (and_then o (run (slice_index_or (map program_of programs) n Id)))) [
  | true ↦ λ e k. k
  | false ↦ λ e k. subst (StandsFor table s) (sym (ap (λ p. and_then o (run p)) (no_program programs n (ltb-false n (length programs) e)) ∙ as_before o)) k
] refl h

-- no program is done yet
pub run_start : (table : Listed) (es : List Steps) (n : ℕ) (o : Outcome) (s : State) → StandsFor table s o → StandsFor table s (cond (nat_lt n 0) (and_then o (run (slice_index_or es n Id))) o)
run_start table es n o s h = subst (λ b. StandsFor table s (cond b (and_then o (run (slice_index_or es n Id))) o)) (sym (le-ltb n 0 (omega arith))) h
