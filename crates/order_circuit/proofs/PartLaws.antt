-- Runs of a part of an order.
use Rattle.std.proofs.Common.{◌≡◌, ℕ, zero, suc, ◌+◌, ◌-◌, ◌<◌, ◌≤◌, ◌==◌, Bool, true, false, cond, List, [], ◌∷◌, take, drop, length, get_or, Some, None, refl, sym, ap, ◌∙◌, arith, eqb-true, nat_lt, ltb-true}
use Rattle.std.proofs.lemmas.Bool.{eqb-false, ltb-false, lt-ltb}
use Rattle.std.specs.Prelude.{slice_index_or}
use Rattle.fs_semantics.specs.FileTree.{Tree}
use Rattle.fs_semantics.specs.Programs.{Program as Steps, Id, Outcome, and_then, run}
use Rattle.fs_semantics.specs.Orders.{outcome}
use Rattle.bool_circuit.specs.declared.gate.Wire.{Wire}
use Rattle.bool_circuit.specs.declared.gate.Gate.{Gate}
use Rattle.fs_interpreter.specs.Meanings.{Valuation}
use Rattle.order_circuit.specs.Codes.{node, nodes, part_of, kept_from}

-- ---- the node at a place

-- the node at a place is the one that the code there tells
pub node_at : (gates : List Gate) (v : Valuation) (rows : List (List Wire)) (i : ℕ) (code : List Wire) → code ≡ get_or rows i code → i < length rows → slice_index_or (nodes gates v rows) i 0 ≡ node gates v code
node_at gates v [] i code e h = absurd (omega (arith, h))
node_at gates v (r ∷ rows) zero code e h = ap (node gates v) (sym e)
node_at gates v (r ∷ rows) (suc i) code e h = node_at gates v rows i code e (omega (arith, h))

-- what is seen of the node at place j among the first k
abbrev pub seen : ℕ → ℕ → List ℕ → ℕ
seen k j order = slice_index_or (take k order) j 0

-- at the place itself the node there is seen when one more is
seen_at : (k : ℕ) (order : List ℕ) → k < length order → seen (k + 1) k order ≡ slice_index_or order k 0
seen_at k [] h = absurd (omega (arith, h))
seen_at zero (i ∷ order) h = refl
seen_at (suc k) (i ∷ order) h = let one : suc k + 1 ≡ suc (k + 1) = omega arith in ap (λ n. seen n (suc k) (i ∷ order)) one ∙ seen_at k order (omega (arith, h))

-- what is seen at another place stays
seen_other : (k j : ℕ) (order : List ℕ) → (k ≡ j → ⊥) → seen (k + 1) j order ≡ seen k j order
seen_other k j [] d = nowhere k ∙ sym (nowhere_more k)
  where
    nowhere : (n : ℕ) → seen (n + 1) j [] ≡ 0
    nowhere n = empty (n + 1)
      where
        empty : (m : ℕ) → seen m j [] ≡ 0
        empty zero = refl
        empty (suc m) = refl

    nowhere_more : (n : ℕ) → seen n j [] ≡ 0
    nowhere_more zero = refl
    nowhere_more (suc n) = refl
seen_other zero zero (i ∷ order) d = absurd (d refl)
seen_other zero (suc j) (i ∷ order) d = refl
seen_other (suc k) zero (i ∷ order) d = let one : suc k + 1 ≡ suc (k + 1) = omega arith in ap (λ n. seen n 0 (i ∷ order)) one
seen_other (suc k) (suc j) (i ∷ order) d = let one : suc k + 1 ≡ suc (k + 1) = omega arith in ap (λ n. seen n (suc j) (i ∷ order)) one ∙ seen_other k j order (λ e. d (ap suc e))

-- when one more is seen, it is seen at its own place alone
pub seen_more : (k j : ℕ) (order : List ℕ) → k < length order → seen (k + 1) j order ≡ cond (k == j) (slice_index_or order k 0) (seen k j order)
seen_more k j order h = elim (k == j) as (λ b. (k == j) ≡ b → seen (k + 1) j order ≡ cond b (slice_index_or order k 0) (seen k j order)) [
  | true ↦ λ e. ap (λ n. seen (k + 1) n order) (sym (eqb-true k j e)) ∙ seen_at k order h
  | false ↦ λ e. seen_other k j order (eqb-false k j e)
] refl

-- when all are seen, each place's node is
pub all_seen : (j : ℕ) (order : List ℕ) → seen (length order) j order ≡ slice_index_or order j 0
all_seen j [] = refl
all_seen zero (i ∷ order) = refl
all_seen (suc j) (i ∷ order) = all_seen j order

-- ---- runs

module _ (es : List Steps) (blank : ℕ) (nothing : slice_index_or es blank Id ≡ Id) where
  -- a number without a program changes nothing
  skip : (order : List ℕ) (t : Tree) → outcome es (blank ∷ order) t ≡ outcome es order t
  skip order t = ap (λ p. and_then (run p t) (outcome es order)) nothing

  -- orders that end alike do so behind a program
  step : (i : ℕ) (a b : List ℕ) → ((t : Tree) → outcome es a t ≡ outcome es b t) → (t : Tree) → outcome es (i ∷ a) t ≡ outcome es (i ∷ b) t
  step i a b same t = from (run (slice_index_or es i Id) t)
    where
      from : (o : Outcome) → and_then o (outcome es a) ≡ and_then o (outcome es b)
      from None = refl
      from (Some u) = same u

  -- behind the place nothing is left of what stands ahead
  none_kept : (j k : ℕ) (order : List ℕ) → j ≤ k → (t : Tree) → outcome es (kept_from true blank j k order) t ≡ Some t
  none_kept j k [] h t = refl
  none_kept j k (i ∷ order) h t =
      ap (λ b. outcome es (cond b blank i ∷ kept_from true blank j (k + 1) order) t) (lt-ltb j (k + 1) (omega (arith, h)))
      ∙ skip (kept_from true blank j (k + 1) order) t ∙ none_kept j (k + 1) order (omega (arith, h)) t

  -- and all of what stands behind
  all_kept : (j k : ℕ) (order : List ℕ) → j ≤ k → kept_from false blank j k order ≡ order
  all_kept j k [] h = refl
  all_kept j k (i ∷ order) h = λ x. cond (lt-ltb j (k + 1) (omega (arith, h)) x) i blank ∷ all_kept j (k + 1) order (omega (arith, h)) x

  -- a run of the nodes ahead of a place, with the others blank, is a run of that front
  ahead_from : (j k : ℕ) (order : List ℕ) (t : Tree) → outcome es (kept_from true blank j k order) t ≡ outcome es (take (j - k) order) t
  ahead_from j k [] t = ap (λ xs. outcome es xs t) (sym (empty (j - k)))
    where
      empty : (n : ℕ) → ◌≡◌ {A = List ℕ} (take n []) []
      empty zero = refl
      empty (suc n) = refl
  ahead_from j k (i ∷ order) t = elim (nat_lt j (k + 1)) as (λ b. nat_lt j (k + 1) ≡ b → outcome es (kept_from true blank j k (i ∷ order)) t ≡ outcome es (take (j - k) (i ∷ order)) t) [
    | true ↦ λ e. let low = ltb-true j (k + 1) e in
        let none : j - k ≡ 0 = omega (arith, low) in
        none_kept j k (i ∷ order) (omega (arith, low)) t ∙ sym (ap (λ n. outcome es (take n (i ∷ order)) t) none)
    | false ↦ λ e. let high = ltb-false j (k + 1) e in
        let more : j - k ≡ suc (j - (k + 1)) = omega (arith, high) in
        ap (λ b. outcome es (cond b blank i ∷ kept_from true blank j (k + 1) order) t) e
        ∙ step i (kept_from true blank j (k + 1) order) (take (j - (k + 1)) order) (ahead_from j (k + 1) order) t
        ∙ sym (ap (λ n. outcome es (take n (i ∷ order)) t) more)
  ] refl

  -- a run of those from the place on, with the others blank, is a run of that rest
  behind_from : (j k : ℕ) (order : List ℕ) (t : Tree) → outcome es (kept_from false blank j k order) t ≡ outcome es (drop (j - k) order) t
  behind_from j k [] t = ap (λ xs. outcome es xs t) (sym (empty (j - k)))
    where
      empty : (n : ℕ) → ◌≡◌ {A = List ℕ} (drop n []) []
      empty zero = refl
      empty (suc n) = refl
  behind_from j k (i ∷ order) t = elim (nat_lt j (k + 1)) as (λ b. nat_lt j (k + 1) ≡ b → outcome es (kept_from false blank j k (i ∷ order)) t ≡ outcome es (drop (j - k) (i ∷ order)) t) [
    | true ↦ λ e. let low = ltb-true j (k + 1) e in
        let none : j - k ≡ 0 = omega (arith, low) in
        ap (λ xs. outcome es xs t) (all_kept j k (i ∷ order) (omega (arith, low))) ∙ sym (ap (λ n. outcome es (drop n (i ∷ order)) t) none)
    | false ↦ λ e. let high = ltb-false j (k + 1) e in
        let more : j - k ≡ suc (j - (k + 1)) = omega (arith, high) in
        ap (λ b. outcome es (cond b i blank ∷ kept_from false blank j (k + 1) order) t) e
        ∙ skip (kept_from false blank j (k + 1) order) t ∙ behind_from j (k + 1) order t
        ∙ sym (ap (λ n. outcome es (drop n (i ∷ order)) t) more)
  ] refl

  -- a run with what is outside of the part blank is a run of the part
  part_from : (ahead : Bool) (j : ℕ) (order : List ℕ) (t : Tree) → outcome es (kept_from ahead blank j 0 order) t ≡ outcome es (part_of ahead j order) t
  part_from true j order t = let all : j - 0 ≡ j = omega arith in ahead_from j 0 order t ∙ ap (λ n. outcome es (take n order) t) all
  part_from false j order t = let all : j - 0 ≡ j = omega arith in behind_from j 0 order t ∙ ap (λ n. outcome es (drop n order) t) all

  -- and it is so behind any outcome
  pub part_is : (ahead : Bool) (j : ℕ) (order : List ℕ) (o : Outcome) → and_then o (outcome es (kept_from ahead blank j 0 order)) ≡ and_then o (outcome es (part_of ahead j order))
  part_is ahead j order None = refl
  part_is ahead j order (Some t) = part_from ahead j order t

-- past the last program there is none
pub none_past : (es : List Steps) → slice_index_or es (length es) Id ≡ Id
none_past [] = refl
none_past (e ∷ es) = none_past es
