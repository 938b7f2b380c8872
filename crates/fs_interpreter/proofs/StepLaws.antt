-- Where programs write.
use Rattle.std.proofs.Common.{◌≡◌, ℕ, ◌<◌, ◌==◌, Bool, true, false, cond, List, [], ◌∷◌, ◌++◌, length, Option, Some, None, refl, sym, ap, ◌∙◌}
use Rattle.std.specs.Prelude.{◌||◌, ◌&&◌, not, IfSome}
use Rattle.std.specs.List.{AllByRecursion}
use Rattle.fs_semantics.specs.FileTree.{Path}
use Rattle.fs_semantics.specs.Programs.{Program, Programs, Id, Err, Mkdir, Creat, Link, Rm, Cp, Steps, If, none, next}
use Rattle.fs_interpreter.specs.Places.{Listed, place_in, has}
use Rattle.fs_interpreter.specs.States.{Cell, State}
use Rattle.fs_interpreter.specs.Steps.{file_at, file_cell, any_present, put, if_any, removed_at, copied_at, holds_in, stepped, all_stepped, written, all_written}
use Rattle.fs_interpreter.proofs.SearchLaws.{place_below}
use Rattle.std.proofs.lemmas.Bool.{or_right, or_left as or_true, or_left}
use Rattle.fs_semantics.proofs.Counts.{all_append}

-- a place below a bound, if there is one, is all that is listed
any_below : (n : ℕ) (o : Option ℕ) → IfSome o (λ i. i < n) → AllByRecursion (λ i. i < n) (if_any o)
any_below n None h = tt
any_below n (Some i) h = (h, tt)

-- programs write at places of the table
mutual
  -- the places at which a program may write are within the table
  pub written_below : (paths : List Path) (e : Program) → AllByRecursion (λ i. i < length paths) (written paths e)
  written_below paths Id = tt
  written_below paths Err = tt
  written_below paths (Mkdir p) = any_below _ _ (place_below paths p)
  written_below paths (Creat p content) = any_below _ _ (place_below paths p)
  written_below paths (Link p target) = any_below _ _ (place_below paths p)
  written_below paths (Rm p) = any_below _ _ (place_below paths p)
  written_below paths (Cp p q) = any_below _ _ (place_below paths q)
  written_below paths (Steps es) = all_written_below paths es
  written_below paths (If a e f) = all_append _ (written paths e) (written paths f) (written_below paths e) (written_below paths f)

  -- and so are those of several programs
  pub all_written_below : (paths : List Path) (es : Programs) → AllByRecursion (λ i. i < length paths) (all_written paths es)
  all_written_below paths none = tt
  all_written_below paths (next e es) = all_append _ (written paths e) (all_written paths es) (written_below paths e) (all_written_below paths es)

-- and those of two branches
pub both_below : (paths : List Path) (e f : Program) → AllByRecursion (λ i. i < length paths) (written paths e ++ written paths f)
both_below paths e f = all_append _ (written paths e) (written paths f) (written_below paths e) (written_below paths f)

-- a number is in two lists joined exactly where it is in one of them
pub has_append : (j : ℕ) (xs ys : List ℕ) → has j (xs ++ ys) ≡ (has j xs || has j ys)
has_append j [] ys = refl
has_append j (x ∷ xs) ys = ap (λ b. (j == x) || b) (has_append j xs ys) ∙ grouped (j == x) (has j xs) (has j ys)
  where
    grouped : (a b c : Bool) → (a || (b || c)) ≡ ((a || b) || c)
    grouped true b c = refl
    grouped false b c = refl

-- of a disjunction that is false the left side is false
left_out : (a b : Bool) → (a || b) ≡ false → a ≡ false
left_out true b h = h
left_out false b h = refl

-- of a disjunction that is false the right side is false
right_out : (a b : Bool) → (a || b) ≡ false → b ≡ false
right_out true b h = cc
right_out false b h = h

-- what is put leaves all other places
put_elsewhere : (o : Option ℕ) (ok : Bool) (c : Cell) (s : State) (j : ℕ) → has j (if_any o) ≡ false → (put o ok c s).cell j ≡ s.cell j
put_elsewhere None ok c s j h = refl
put_elsewhere (Some i) ok c s j h = ap (λ b. cond b c (s.cell j)) (left_out (j == i) false h)

-- what goes leaves all other places
removed_elsewhere : (o : Option ℕ) (children : List ℕ) (s : State) (j : ℕ) → has j (if_any o) ≡ false → (removed_at o children s).cell j ≡ s.cell j
removed_elsewhere None children s j h = refl
removed_elsewhere (Some i) children s j h = ap (λ b. cond b (record (s.cell i) { present = false }) (s.cell j)) (left_out (j == i) false h)

-- what is copied leaves all places but its own
copied_elsewhere : (o r : Option ℕ) (free : Bool) (s : State) (j : ℕ) → has j (if_any r) ≡ false → (copied_at o r free s).cell j ≡ s.cell j
copied_elsewhere None r free s j h = refl
copied_elsewhere (Some i) r free s j h = put_elsewhere r (file_at (Some i) s.cell && free) (file_cell (s.cell i).content) s j h

-- a program leaves each place at which it doesn't write
mutual
  -- a program leaves each place at which it doesn't write
  pub stays_elsewhere : (table : Listed) (e : Program) (s : State) (j : ℕ) → has j (written table.paths e) ≡ false → (stepped table e s).cell j ≡ s.cell j
  stays_elsewhere table Id s j h = refl
  stays_elsewhere table Err s j h = refl
  stays_elsewhere table (Mkdir p) s j h = put_elsewhere (place_in table.paths p) _ _ s j h
  stays_elsewhere table (Creat p content) s j h = put_elsewhere (place_in table.paths p) _ _ s j h
  stays_elsewhere table (Link p target) s j h = put_elsewhere (place_in table.paths p) _ _ s j h
  stays_elsewhere table (Rm p) s j h = removed_elsewhere (place_in table.paths p) _ s j h
  stays_elsewhere table (Cp p q) s j h = copied_elsewhere (place_in table.paths p) (place_in table.paths q) _ s j h
  stays_elsewhere table (Steps es) s j h = all_stay_elsewhere table es s j h
  stays_elsewhere table (If a e f) s j h =
      let either = sym (has_append j (written table.paths e) (written table.paths f)) ∙ h in
      elim (holds_in table a s.cell) as (λ b. (cond b (stepped table e s) (stepped table f s)).cell j ≡ s.cell j) [
        | true ↦ stays_elsewhere table e s j (left_out _ _ either)
        | false ↦ stays_elsewhere table f s j (right_out _ _ either)
      ]

  -- and so do several programs
  pub all_stay_elsewhere : (table : Listed) (es : Programs) (s : State) (j : ℕ) → has j (all_written table.paths es) ≡ false → (all_stepped table es s).cell j ≡ s.cell j
  all_stay_elsewhere table none s j h = refl
  all_stay_elsewhere table (next e es) s j h =
      let either = sym (has_append j (written table.paths e) (all_written table.paths es)) ∙ h in
      all_stay_elsewhere table es (stepped table e s) j (right_out _ _ either) ∙ stays_elsewhere table e s j (left_out _ _ either)

-- a put after Error is Error
put_errs : (o : Option ℕ) (ok : Bool) (c : Cell) (s : State) → s.error ≡ true → (put o ok c s).error ≡ true
put_errs None ok c s h = refl
put_errs (Some i) ok c s h = or_true s.error (not ok) h

-- a removal after Error is Error
removed_errs : (o : Option ℕ) (children : List ℕ) (s : State) → s.error ≡ true → (removed_at o children s).error ≡ true
removed_errs None children s h = refl
removed_errs (Some i) children s h = or_true s.error (not ((s.cell i).present && not ((s.cell i).folder && any_present children s.cell))) h

-- a copy after Error is Error
copied_errs : (o r : Option ℕ) (free : Bool) (s : State) → s.error ≡ true → (copied_at o r free s).error ≡ true
copied_errs None r free s h = refl
copied_errs (Some i) r free s h = put_errs r (file_at (Some i) s.cell && free) (file_cell (s.cell i).content) s h

mutual
  -- a program after Error leaves Error
  pub error_stays : (table : Listed) (e : Program) (s : State) → s.error ≡ true → (stepped table e s).error ≡ true
  error_stays table Id s h = h
  error_stays table Err s h = refl
  error_stays table (Mkdir p) s h = put_errs (place_in table.paths p) _ _ s h
  error_stays table (Creat p content) s h = put_errs (place_in table.paths p) _ _ s h
  error_stays table (Link p target) s h = put_errs (place_in table.paths p) _ _ s h
  error_stays table (Rm p) s h = removed_errs (place_in table.paths p) _ s h
  error_stays table (Cp p q) s h = copied_errs (place_in table.paths p) (place_in table.paths q) _ s h
  error_stays table (Steps es) s h = error_stays_in_all table es s h
  error_stays table (If a e f) s h = elim (holds_in table a s.cell) as (λ b. (cond b (stepped table e s) (stepped table f s)).error ≡ true) [
    | true ↦ error_stays table e s h
    | false ↦ error_stays table f s h
  ]

  -- and so do several programs
  pub error_stays_in_all : (table : Listed) (es : Programs) (s : State) → s.error ≡ true → (all_stepped table es s).error ≡ true
  error_stays_in_all table none s h = h
  error_stays_in_all table (next e es) s h = error_stays_in_all table es (stepped table e s) (error_stays table e s h)

-- where what a first thing implies is false, that first thing is false
absent : (a b : Bool) → (a ≡ true → b ≡ true) → b ≡ false → a ≡ false
absent true b h e = sym (h refl) ∙ e
absent false b h e = refl

-- a program leaves each place that isn't in a list of all at which it writes
pub leaves_others : (table : Listed) (e : Program) (places : List ℕ) → ((j : ℕ) → has j (written table.paths e) ≡ true → has j places ≡ true)
    → (s : State) (j : ℕ) → has j places ≡ false → (stepped table e s).cell j ≡ s.cell j
leaves_others table e places all s j other = stays_elsewhere table e s j (absent (has j (written table.paths e)) (has j places) (all j) other)

-- what is in the first list is in both joined
pub in_first : (j : ℕ) (xs ys : List ℕ) → has j xs ≡ true → has j (xs ++ ys) ≡ true
in_first j xs ys h = has_append j xs ys ∙ or_left (has j xs) (has j ys) h

-- what is in the second list is in both joined
pub in_second : (j : ℕ) (xs ys : List ℕ) → has j ys ≡ true → has j (xs ++ ys) ≡ true
in_second j xs ys h = has_append j xs ys ∙ or_right (has j xs) (has j ys) h
