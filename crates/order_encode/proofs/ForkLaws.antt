-- Two programs that end apart behind a fork.
use Rattle.std.proofs.Common.{◌≡◌, ◌≢◌, ◌⊎◌, inl, inr, ℕ, zero, suc, ◌+◌, ◌-◌, ◌<◌, ◌≤◌, ◌==◌, Bool, true, false, cond, List, [], ◌∷◌, ◌++◌, length, take, drop, Some, None, refl, sym, ap, ◌∙◌, arith, nat_lt, ltb-true}
use Rattle.std.proofs.lemmas.Bool.{ltb-false}
use Rattle.std.specs.Prelude.{◌↔◌, ◌&&◌, ◌||◌, slice_index_or}
use Rattle.fs_semantics.specs.FileTree.{Tree}
use Rattle.fs_semantics.specs.Programs.{Program, Id, Outcome, and_then, run}
use Rattle.fs_semantics.specs.Orders.{IsFree, outcome}
use Rattle.bool_circuit.specs.declared.gate.Wire.{Wire}
use Rattle.bool_circuit.specs.declared.gate.Gate.{Gate}
use Rattle.fs_interpreter.specs.Meanings.{Valuation}
use Rattle.order_places.specs.Places.{around, exchanged}
use Rattle.order_circuit.specs.Codes.{node, nodes, AreRows}
use Rattle.order_circuit.proofs.RunLaws.{after}
use Rattle.order_encode.specs.Goals.{are_these, EndApartThen, EndApartAt}
use Rattle.fs_interpreter.proofs.HasLaws.{same_number}

-- a conjunction is true exactly where its first side is and what its second side says holds
pub both_is : {P : Type 0} (a b : Bool) → (b ≡ true) ↔ P → ((a && b) ≡ true) ↔ ((a ≡ true) × P)
both_is true b h = ((λ e. (refl, h.0 e)), (λ p. h.1 p.1))
both_is false b h = ((λ e. cc), (λ p. p.0))

-- a disjunction with a true right side is true
pub either_true : (a b : Bool) → b ≡ true → cond a a b ≡ true
either_true true b h = refl
either_true false b h = h

-- the one way is as good as the other
pub these_turned : (i k x y : ℕ) → are_these i k x y ≡ true → are_these k i x y ≡ true
these_turned i k x y h = turned ((i == x) && (k == y)) ((k == x) && (i == y)) h
  where
    turned : (a b : Bool) → (a || b) ≡ true → (b || a) ≡ true
    turned true true e = refl
    turned true false e = refl
    turned false true e = refl
    turned false false e = e

-- two programs that end apart do so the other way round
pub apart_turned : (es : List Program) (o : Outcome) (i k : ℕ) → EndApartAt es o i k → EndApartAt es o k i
apart_turned es o i k h = λ e. h (sym e)

-- two nodes are these two
pub themselves : (x y : ℕ) → are_these x y x y ≡ true
themselves x y = λ t. (same_number x t && same_number y t) || ((y == x) && (x == y))

-- ---- runs, one part after the other

-- a run of two orders joined is a run of the second behind the first
joined : (es : List Program) (front back : List ℕ) (o : Outcome) → and_then o (outcome es (front ++ back)) ≡ and_then (and_then o (outcome es front)) (outcome es back)
joined es front back None = refl
joined es [] back (Some t) = refl
joined es (i ∷ front) back (Some t) = joined es front back (run (slice_index_or es i Id) t)

-- two that end alike do so with what follows
alike_then : (es : List Program) (o : Outcome) (i k : ℕ) (rest : List ℕ) → and_then o (outcome es (i ∷ k ∷ [])) ≡ and_then o (outcome es (k ∷ i ∷ [])) → and_then o (outcome es (i ∷ k ∷ rest)) ≡ and_then o (outcome es (k ∷ i ∷ rest))
alike_then es o i k rest e = joined es (i ∷ k ∷ []) rest o ∙ ap (λ u. and_then u (outcome es rest)) e ∙ sym (joined es (k ∷ i ∷ []) rest o)

-- two programs that end apart with what follows do so alone
pub apart_at : (es : List Program) (o : Outcome) (i k : ℕ) (rest : List ℕ) → EndApartThen es o i k rest → EndApartAt es o i k
apart_at es o i k rest h = λ e. h (alike_then es o i k rest e)

-- what is implied may be asked besides
pub asked_besides : {P Q : Type 0} (near apart : Bool) → (Q → near ≡ true) → (P → Q) → (apart ≡ true) ↔ P → ((near && apart) ≡ true) ↔ P
asked_besides true apart known more is = is
asked_besides false apart known more is = ((λ e. cc), (λ p. cc (known (more p))))

-- of two numbers that differ one is less
pub one_of : (x y : ℕ) → x ≢ y → (x < y) ⊎ (y < x)
one_of x y d = elim (nat_lt x y) as (λ b. nat_lt x y ≡ b → (x < y) ⊎ (y < x)) [
  | true ↦ λ e. inl (ltb-true x y e)
  | false ↦ λ e. let past = ltb-false x y e in inr (above past)
] refl
  where
    above : y ≤ x → y < x
    above h = elim (nat_lt y x) as (λ b. nat_lt y x ≡ b → y < x) [
      | true ↦ λ e. ltb-true y x e
      | false ↦ λ e. let past = ltb-false y x e in absurd (d (omega (arith, h, past)))
    ] refl

-- two free nodes are free the other way round
pub free_turned : (before : ℕ → ℕ → Type 0) (i k : ℕ) → IsFree before i k → IsFree before k i
free_turned before i k f = record { differ = λ e. f.differ (sym e); not_before = f.not_after; not_after = f.not_before }

-- ---- a part and what follows

-- a run of a front, two nodes and the rest is a run of these two and the rest behind the front
pub run_joined : (es : List Program) (front : List ℕ) (i k : ℕ) (back : List ℕ) (t : Tree) → and_then (outcome es front t) (outcome es (i ∷ k ∷ back)) ≡ outcome es (front ++ i ∷ k ∷ back) t
run_joined es front i k back t = sym (joined es front (i ∷ k ∷ back) (Some t))

-- ---- cases

-- a number below one more than n, and other than n, is below n
pub below : (n k : ℕ) → n < k + 1 → (n ≡ k → ⊥) → n < k
below n k h d = elim (nat_lt n k) as (λ b. nat_lt n k ≡ b → n < k) [
  | true ↦ λ e. ltb-true n k e
  | false ↦ λ e. let past = ltb-false n k e in absurd (d (omega (arith, h, past)))
] refl

-- what follows from each of two cases follows
pub at_either : {A B P : Type 0} → A ⊎ B → (A → P) → (B → P) → P
at_either (inl a) f g = f a
at_either (inr b) f g = g b

-- ---- two programs and what follows

-- two programs and the rest, one after the other, are one run behind the outcome
pub two_more : (es : List Program) (i k : ℕ) (rest : List ℕ) (o : Outcome)
    → and_then (and_then (and_then o (run (slice_index_or es i Id))) (run (slice_index_or es k Id))) (outcome es rest) ≡ and_then o (outcome es (i ∷ k ∷ rest))
two_more es i k rest None = refl
two_more es i k rest (Some t) = after (run (slice_index_or es i Id) t) (run (slice_index_or es k Id)) (outcome es rest)

-- where two orders part, they end differently exactly where what follows does
pub apart_is_whole : (es : List Program) (j : ℕ) (order : List ℕ) (a b : ℕ) (t : Tree) → around j order a b ≡ order → around j order b a ≡ exchanged j order
    → EndApartThen es (outcome es (take j (take (length order - 2) order)) t) a b (drop j (drop 2 order)) ↔ (outcome es order t ≢ outcome es (exchanged j order) t)
apart_is_whole es j order a b t whole other =
    let front = take j (take (length order - 2) order) in
    let back = drop j (drop 2 order) in
    let left = run_joined es front a b back t ∙ ap (λ xs. outcome es xs t) whole in
    let right = run_joined es front b a back t ∙ ap (λ xs. outcome es xs t) other in
    ((λ h e. h (left ∙ e ∙ sym right)), (λ h e. h (sym left ∙ e ∙ right)))

-- two differ exactly where their equals do
pub differ_by : {X : Type 0} (a b c d : X) → a ≡ c → b ≡ d → (a ≢ b) ↔ (c ≢ d)
differ_by a b c d p q = ((λ h e. h (p ∙ e ∙ sym q)), (λ h e. h (sym p ∙ e ∙ q)))

-- what a truth value says may be told by any fact that is as good
pub same_for : {P Q : Type 0} (b : Bool) → (b ≡ true) ↔ P → P ↔ Q → (b ≡ true) ↔ Q
same_for b h k = ((λ e. k.0 (h.0 e)), (λ q. h.1 (k.1 q)))

-- ---- codes of a part

-- the codes ahead of a place are of wires
pub rows_ahead : (gates : List Gate) (n : ℕ) (rows : List (List Wire)) → AreRows gates rows → AreRows gates (take n rows)
rows_ahead gates zero rows h = tt
rows_ahead gates (suc n) [] h = tt
rows_ahead gates (suc n) (r ∷ rows) h = (h.0, rows_ahead gates n rows h.1)

-- and so are those from it on
pub rows_behind : (gates : List Gate) (n : ℕ) (rows : List (List Wire)) → AreRows gates rows → AreRows gates (drop n rows)
rows_behind gates zero rows h = h
rows_behind gates (suc n) [] h = tt
rows_behind gates (suc n) (r ∷ rows) h = rows_behind gates n rows h.1

-- and they tell the nodes ahead of it
pub nodes_ahead : (gates : List Gate) (v : Valuation) (n : ℕ) (rows : List (List Wire)) → nodes gates v (take n rows) ≡ take n (nodes gates v rows)
nodes_ahead gates v zero rows = refl
nodes_ahead gates v (suc n) [] = refl
nodes_ahead gates v (suc n) (r ∷ rows) = ap (λ xs. node gates v r ∷ xs) (nodes_ahead gates v n rows)

-- and those from it on
pub nodes_behind : (gates : List Gate) (v : Valuation) (n : ℕ) (rows : List (List Wire)) → nodes gates v (drop n rows) ≡ drop n (nodes gates v rows)
nodes_behind gates v zero rows = refl
nodes_behind gates v (suc n) [] = refl
nodes_behind gates v (suc n) (r ∷ rows) = nodes_behind gates v n rows

-- the node at a place without the first is the one at the next place
pub next_of : (j : ℕ) (order : List ℕ) → slice_index_or (drop 1 order) j 0 ≡ slice_index_or order (j + 1) 0
next_of j [] = refl
next_of j (i ∷ order) = let one : j + 1 ≡ suc j = omega arith in sym (ap (λ n. slice_index_or (i ∷ order) n 0) one)
