-- Of each type the first assumption counts, which is found by its place.
use Rattle.std.proofs.Common.{◌≡◌, ℕ, zero, suc, ◌+◌, ◌≤◌, Bool, true, false, true≢false, cond, List, [], ◌∷◌, ◌++◌, length, drop, slice_get, Option, Some, None, is_some, option_map, bytes_eq, refl, sym, ap, ◌∙◌, arith}
use Rattle.std.proofs.lemmas.Slice.Eq.{bytes_eq-Decides}
use Rattle.pp_value.specs.Keys.{value_at}
use Rattle.rh_base.specs.Reading.{◌>>=◌}
use Rattle.assumed_text.specs.declared.assumed.Subject.{Subject}
use Rattle.assumed_text.specs.declared.assumed.Subject.TheVariants.{One, EachOf}
use Rattle.assumed_text.specs.declared.assumed.Assumption.{Assumption}
use Rattle.assumed_text.specs.Assumptions.{is_of_type, assumed_of_type}
use Rattle.assumed_text.specs.Reading.{place_of_type, AreFirst, with_first, firsts}

-- the one, or else the other
abbrev or_else : Option ℕ → Option ℕ → Option ℕ
or_else None other = other
or_else (Some n) other = Some n

-- a place or else none is that place
or_nothing : (o : Option ℕ) → or_else o None ≡ o
or_nothing None = refl
or_nothing (Some n) = refl

-- with one more pair behind them, a type has the value that it had, or else that of the pair if this is of the type
value_last : (types : List (List ℕ × ℕ)) (kind other : List ℕ) (n : ℕ) → value_at kind (types ++ (other, n) ∷ []) ≡ or_else (value_at kind types) (cond (bytes_eq other kind) (Some n) None)
value_last [] kind other n = refl
value_last (p ∷ types) kind other n = at (bytes_eq p.0 kind) (value_last types kind other n)
  where
    at : (t : Bool) → value_at kind (types ++ (other, n) ∷ []) ≡ or_else (value_at kind types) (cond (bytes_eq other kind) (Some n) None)
        → cond t (Some p.1) (value_at kind (types ++ (other, n) ∷ [])) ≡ or_else (cond t (Some p.1) (value_at kind types)) (cond (bytes_eq other kind) (Some n) None)
    at true h = refl
    at false h = h

-- a place that is there is it, or else any other
has_it : (o other : Option ℕ) → is_some o ≡ true → o ≡ or_else o other
has_it None other h = absurd (true≢false (sym h))
has_it (Some n) other h = refl

-- with one more subject, a type has the place it had, or else that of the subject if this is of the type
noted : (s : Subject) (n : ℕ) (types : List (List ℕ × ℕ)) (kind : List ℕ) → value_at kind (with_first s n types) ≡ or_else (value_at kind types) (cond (is_of_type kind s) (Some n) None)
noted (One r) n types kind = sym (or_nothing (value_at kind types))
noted (EachOf other) n types kind = at (is_some (value_at other types)) (bytes_eq other kind) refl refl
  where
    at : (u t : Bool) → is_some (value_at other types) ≡ u → bytes_eq other kind ≡ t → value_at kind (cond u types (types ++ (other, n) ∷ [])) ≡ or_else (value_at kind types) (cond t (Some n) None)
    at true true e f = has_it (value_at kind types) (Some n) (ap (λ k. is_some (value_at k types)) (sym ((bytes_eq-Decides other kind).0 f)) ∙ e)
    at true false e f = sym (or_nothing (value_at kind types))
    at false t e f = value_last types kind other n ∙ ap (λ b. or_else (value_at kind types) (cond b (Some n) None)) f

-- a place counted from one later is one further
one_later : (n : ℕ) (v place : Option ℕ) (t : Bool) → or_else (or_else v (cond t (Some n) None)) (option_map (λ k. suc n + k) place) ≡ or_else v (option_map (λ k. n + k) (cond t (Some 0) (option_map suc place)))
one_later n (Some m) place t = refl
one_later n None place true = ap (λ k. Some k) (omega arith)
one_later n None None false = refl
one_later n None (Some k) false = ap (λ m. Some m) (omega arith)

-- with further assumptions, a type has the place it had, or else that of the first of them of the type
firsts_are : (types : List (List ℕ × ℕ)) (n : ℕ) (rows : List Assumption) (kind : List ℕ) → value_at kind (firsts types n rows) ≡ or_else (value_at kind types) (option_map (λ k. n + k) (place_of_type kind rows))
firsts_are types n [] kind = sym (or_nothing (value_at kind types))
firsts_are types n (a ∷ rows) kind =
    firsts_are (with_first a.subject n types) (suc n) rows kind
    ∙ (ap (λ v. or_else v (option_map (λ k. suc n + k) (place_of_type kind rows))) (noted a.subject n types kind)
    ∙ one_later n (value_at kind types) (place_of_type kind rows) (is_of_type kind a.subject))

-- a place counted from zero is itself
from_nothing : (o : Option ℕ) → option_map (λ k. 0 + k) o ≡ o
from_nothing None = refl
from_nothing (Some k) = ap (λ n. Some n) (omega arith)

-- the places that are made of all assumptions are those of the first of each type
are_first : (types : List (List ℕ × ℕ)) (rows : List Assumption) → types ≡ firsts [] 0 rows → AreFirst types rows
are_first types rows h kind = ap (value_at kind) h ∙ (firsts_are [] 0 rows kind ∙ from_nothing (place_of_type kind rows))

-- past the end nothing is left
past : (rows : List Assumption) (i : ℕ) → length rows ≤ i → drop i rows ≡ []
past [] zero h = refl
past [] (suc i) h = refl
past (a ∷ rows) zero h = absurd (omega (arith, h))
past (a ∷ rows) (suc i) h = past rows i (omega (arith, h))

-- when all are noted, each type has the place of its first assumption
pub all_noted : (types : List (List ℕ × ℕ)) (place i : ℕ) (rows : List Assumption) → length rows ≤ i → firsts types place (drop i rows) ≡ firsts [] 0 rows → AreFirst types rows
all_noted types place i rows h is = are_first types rows (sym (ap (firsts types place) (past rows i h)) ∙ is)

-- ---- what stands at the place

-- what the first assumption of a type says stands at its place
at_place : (kind : List ℕ) (rows : List Assumption) → assumed_of_type kind rows ≡ (place_of_type kind rows >>= (λ place. option_map (λ (a : Assumption). a.assumed) (slice_get rows place)))
at_place kind [] = refl
at_place kind (a ∷ rows) = at (is_of_type kind a.subject) (at_place kind rows)
  where
    later : (place : Option ℕ) → (place >>= (λ n. option_map (λ (b : Assumption). b.assumed) (slice_get rows n))) ≡ (option_map suc place >>= (λ n. option_map (λ (b : Assumption). b.assumed) (slice_get (a ∷ rows) n)))
    later None = refl
    later (Some n) = refl

    at : (t : Bool) → assumed_of_type kind rows ≡ (place_of_type kind rows >>= (λ place. option_map (λ (b : Assumption). b.assumed) (slice_get rows place)))
        → cond t (Some a.assumed) (assumed_of_type kind rows) ≡ (cond t (Some 0) (option_map suc (place_of_type kind rows)) >>= (λ place. option_map (λ (b : Assumption). b.assumed) (slice_get (a ∷ rows) place)))
    at true h = refl
    at false h = h ∙ later (place_of_type kind rows)

-- what stands at the place that is found is what is assumed of the type
pub found_at : (kind : List ℕ) (types : List (List ℕ × ℕ)) (rows : List Assumption) (place : ℕ) → AreFirst types rows → Some place ≡ value_at kind types
    → option_map (λ (a : Assumption). a.assumed) (slice_get rows place) ≡ assumed_of_type kind rows
found_at kind types rows place first is =
    sym (at_place kind rows ∙ ap (λ o. o >>= (λ n. option_map (λ (a : Assumption). a.assumed) (slice_get rows n))) (sym (first kind) ∙ sym is))

-- and where none is found nothing is assumed of it
pub not_found : (kind : List ℕ) (types : List (List ℕ × ℕ)) (rows : List Assumption) → AreFirst types rows → None ≡ value_at kind types → None ≡ assumed_of_type kind rows
not_found kind types rows first none =
    sym (at_place kind rows ∙ ap (λ o. o >>= (λ n. option_map (λ (a : Assumption). a.assumed) (slice_get rows n))) (sym (first kind) ∙ sym none))
