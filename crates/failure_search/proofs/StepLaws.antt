-- Steps as programs in the order of their numbers.
use Rattle.std.proofs.Common.{◌≡◌, ◌⊎◌, inl, inr, ℕ, zero, suc, ◌+◌, ◌-◌, ◌<◌, ◌≤◌, List, [], ◌∷◌, ◌++◌, length, take, drop, map, get_or, Some, None, refl, sym, ap, subst, ◌∙◌, arith}
use Rattle.std.specs.Prelude.{slice_index_or}
use Rattle.fs_semantics.specs.FileTree.{Tree}
use Rattle.fs_semantics.specs.Programs as model
use Rattle.fs_semantics.specs.Programs.{Programs, Id, none, next, Outcome, and_then, run, run_all}
use Rattle.fs_semantics.specs.Orders.{outcome, up_from}
use Rattle.fs_lang.specs.declared.program.Program.{Program}
use Rattle.fs_lang.specs.Meaning.{program_of, programs_in}
use Rattle.failure_semantics.specs.Failures.{Failure, Choice, FailsIn, FailInSteps}
use Rattle.fs_lang.specs.Sizes.{programs_size}
use Rattle.failure_search.specs.declared.fronts.Searched.{Searched}
use Rattle.failure_search.specs.declared.fronts.Searched.TheVariants as searched
use Rattle.failure_search.specs.Found.{LeadsInto, IsSearched}
use Rattle.failure_semantics.proofs.Found.{ended}
use Rattle.fs_semantics.proofs.Ground.{shifted}

-- the numbers up to one more are those and the last
next_number : (j n : ℕ) → up_from j n ++ (j + n) ∷ [] ≡ up_from j (suc n)
next_number j zero = let same : j + 0 ≡ j = omega arith in ap (λ i. i ∷ []) same
next_number j (suc n) = let same : j + suc n ≡ suc j + n = omega arith in ap (λ i. j ∷ (up_from (suc j) n ++ i ∷ [])) same ∙ ap (λ o. j ∷ o) (next_number (suc j) n)

-- and so they are from zero on
pub one_more : (n : ℕ) → up_from 0 n ++ n ∷ [] ≡ up_from 0 (n + 1)
one_more n = let here : 0 + n ≡ n = omega arith in let one : suc n ≡ n + 1 = omega arith in ap (λ i. up_from 0 n ++ i ∷ []) (sym here) ∙ next_number 0 n ∙ ap (up_from 0) one

-- there are as many of them as are counted
numbers_long : (j n : ℕ) → length (up_from j n) ≡ n
numbers_long j zero = refl
numbers_long j (suc n) = let rest = numbers_long (suc j) n in omega (arith, rest)

-- the first so many of them are those up to there
numbers_ahead : (j n k : ℕ) → k ≤ n → take k (up_from j n) ≡ up_from j k
numbers_ahead j n zero h = refl
numbers_ahead j zero (suc k) h = absurd (omega (arith, h))
numbers_ahead j (suc n) (suc k) h = ap (λ o. j ∷ o) (numbers_ahead (suc j) n k (omega (arith, h)))

-- the number at a place is so many further
number_at : (j n k : ℕ) → k < n → slice_index_or (up_from j n) k 0 ≡ j + k
number_at j zero k h = absurd (omega (arith, h))
number_at j (suc n) zero h = omega arith
number_at j (suc n) (suc k) h = let rest = number_at (suc j) n k (omega (arith, h)) in rest ∙ omega arith

-- what is the same behind each tree is the same behind an outcome
then_alike : (o : Outcome) (f g : Tree → Outcome) → ((u : Tree) → f u ≡ g u) → and_then o f ≡ and_then o g
then_alike None f g h = refl
then_alike (Some u) f g h = h u

-- the programs of a list, as steps
abbrev listed : List model.Program → Programs
listed [] = none
listed (e ∷ es) = next e (listed es)

-- the steps of a list are its programs as steps
same_list : (es : List Program) → programs_in es ≡ listed (map program_of es)
same_list [] = refl
same_list (e ∷ es) = ap (next (program_of e)) (same_list es)

-- the first of some programs, and the rest from where it ends
first_ends : (x : model.Program) (es : List model.Program) (n : ℕ) (t u : Tree) → outcome (x ∷ es) (up_from 0 (suc n)) t ≡ Some u → (v : Tree) × (run x t ≡ Some v) × (outcome es (up_from 0 n) v ≡ Some u)
first_ends x es n t u h = elim (ended (run x t)) [
  | inl fails ↦ let gone = sym (ap (λ o. and_then o (outcome (x ∷ es) (up_from 1 n))) fails) ∙ h in cc
  | inr v ↦ (v.0, v.1, sym (shifted x es 0 n v.0) ∙ sym (ap (λ o. and_then o (outcome (x ∷ es) (up_from 1 n))) v.1) ∙ h)
]

-- a step leads into the steps from the tree in which those ahead of it end
step_leads : (es : List model.Program) (k : ℕ) (t u : Tree) → k < length es → outcome es (up_from 0 k) t ≡ Some u → LeadsInto (slice_index_or es k Id) u (listed es) t
step_leads [] k t u b h c f fails = absurd (omega (arith, b))
step_leads (x ∷ es) zero t u b h c f fails = let same : t ≡ u = cc in inl (subst (λ v. FailsIn c x v f) (sym same) fails)
step_leads (x ∷ es) (suc k) t u b h c f fails = let v = first_ends x es k t u h in inr (v.0, v.1, step_leads es k v.0 u (omega (arith, b)) v.2 c f fails)

-- what fails in the steps behind some that ended fails in all
rest_leads : (es : List model.Program) (n : ℕ) (t u : Tree) → outcome es (up_from 0 n) t ≡ Some u → n ≤ length es → (c : Choice) (f : Failure) → FailInSteps c (listed (drop n es)) u f → FailInSteps c (listed es) t f
rest_leads es zero t u h b c f fails = let same : t ≡ u = cc in subst (λ v. FailInSteps c (listed es) v f) (sym same) fails
rest_leads [] (suc n) t u h b c f fails = absurd (omega (arith, b))
rest_leads (x ∷ es) (suc n) t u h b c f fails = let v = first_ends x es n t u h in inr (v.0, v.1, rest_leads es n v.0 u v.2 (omega (arith, b)) c f fails)

-- where all end in Error and the first ones in a tree, the rest ends in Error from it
rest_fails : (es : List model.Program) (n : ℕ) (t u : Tree) → outcome es (up_from 0 n) t ≡ Some u → n ≤ length es → run_all (listed es) t ≡ None → run_all (listed (drop n es)) u ≡ None
rest_fails es zero t u h b e = let same : t ≡ u = cc in ap (run_all (listed es)) (sym same) ∙ e
rest_fails [] (suc n) t u h b e = absurd (omega (arith, b))
rest_fails (x ∷ es) (suc n) t u h b e = let v = first_ends x es n t u h in rest_fails es n v.0 u v.2 (omega (arith, b)) (sym (ap (λ o. and_then o (run_all (listed es))) v.1) ∙ e)

-- ---- of the programs of the code

-- the meanings of what is left are what is left of the meanings
drop_map : (es : List Program) (n : ℕ) → drop n (map program_of es) ≡ map program_of (drop n es)
drop_map es zero = refl
drop_map [] (suc n) = refl
drop_map (e ∷ es) (suc n) = drop_map es n

-- there are as many meanings as programs
long_map : (es : List Program) → length (map program_of es) ≡ length es
long_map [] = refl
long_map (e ∷ es) = let rest = long_map es in omega (arith, rest)

-- the meaning at a place is that of the program there
pub item_map : (es : List Program) (k : ℕ) (e : Program) → k < length es → e ≡ get_or es k e → slice_index_or (map program_of es) k Id ≡ program_of e
item_map [] k e b is = absurd (omega (arith, b))
item_map (x ∷ es) zero e b is = ap program_of (sym is)
item_map (x ∷ es) (suc k) e b is = item_map es k e (omega (arith, b)) is

-- a step of the code leads into all from the tree in which those ahead of it end
pub leads : (es : List Program) (n k : ℕ) (e : Program) (t u : Tree) → n ≤ length es → k < length (up_from 0 n) → e ≡ get_or es k e → outcome (map program_of es) (take k (up_from 0 n)) t ≡ Some u
    → LeadsInto (program_of e) u (programs_in es) t
leads es n k e t u b l is h =
    let long = numbers_long 0 n in
    let many = long_map es in
    let below : k < length es = omega (arith, b, l, long) in
    let front = ap (λ o. outcome (map program_of es) o t) (sym (numbers_ahead 0 n k (omega (arith, l, long)))) ∙ h in
    subst (λ ps. LeadsInto (program_of e) u ps t) (sym (same_list es))
    (subst (λ x. LeadsInto x u (listed (map program_of es)) t) (item_map es k e below is) (step_leads (map program_of es) k t u (omega (arith, below, many)) front))

-- where the step with a number ends in Error, the one of the code does
pub step_fails : (es : List Program) (n k : ℕ) (e : Program) (u : Tree) → n ≤ length es → k < length (up_from 0 n) → e ≡ get_or es k e → run (slice_index_or (map program_of es) (slice_index_or (up_from 0 n) k 0) Id) u ≡ None
    → run (program_of e) u ≡ None
step_fails es n k e u b l is h =
    let long = numbers_long 0 n in
    let here = number_at 0 n k (omega (arith, l, long)) in
    let same : slice_index_or (up_from 0 n) k 0 ≡ k = here ∙ omega arith in
    ap (λ x. run x u) (sym (item_map es k e (omega (arith, b, l, long)) is)) ∙ ap (λ i. run (slice_index_or (map program_of es) i Id) u) (sym same) ∙ h

-- a place among the first so many is below each greater count
pub below_all : (n k : ℕ) (m : ℕ) → n ≤ m → k < length (up_from 0 n) → k < m
below_all n k m b l = let long = numbers_long 0 n in omega (arith, b, l, long)

-- where all steps of the code end in Error and the first ones in a tree, the rest ends in Error from it
pub behind_fails : (es : List Program) (n : ℕ) (t u : Tree) → n ≤ length es → outcome (map program_of es) (up_from 0 n) t ≡ Some u → run_all (programs_in es) t ≡ None → run_all (programs_in (drop n es)) u ≡ None
behind_fails es n t u b h e =
    let many = long_map es in
    ap (λ ps. run_all ps u) (same_list (drop n es) ∙ ap listed (sym (drop_map es n)))
    ∙ rest_fails (map program_of es) n t u h (omega (arith, b, many)) (ap (λ ps. run_all ps t) (sym (same_list es)) ∙ e)

-- and what leads into the rest from there leads into all
pub behind_leads : (es : List Program) (n : ℕ) (t u : Tree) → n ≤ length es → outcome (map program_of es) (up_from 0 n) t ≡ Some u
    → (e : model.Program) (v : Tree) → LeadsInto e v (programs_in (drop n es)) u → LeadsInto e v (programs_in es) t
behind_leads es n t u b h e v inner c f fails =
    let many = long_map es in
    subst (λ ps. FailInSteps c ps t f) (sym (same_list es))
    (rest_leads (map program_of es) n t u h (omega (arith, b, many)) c f (subst (λ ps. FailInSteps c ps u f) (same_list (drop n es) ∙ ap listed (sym (drop_map es n))) (inner c f fails)))

-- ---- what the search in the first of them tells

-- the front of so many ends in the tree, and the next step fails from it
pub record IsStep (steps : List Program) (n i : ℕ) (t u : Tree) : Type 0 where
  pub below : i < length (up_from 0 n)
  pub ends : outcome (map program_of steps) (take i (up_from 0 n)) t ≡ Some u
  pub fails : run (slice_index_or (map program_of steps) (slice_index_or (up_from 0 n) i 0) Id) u ≡ None

-- a search that ends at a step has found such a step
pub a_step : (steps : List Program) (n i : ℕ) (order given : List ℕ) (x : Searched) (t u : Tree) → given ≡ order → order ≡ up_from 0 n → x ≡ searched.Fails i u → IsSearched (map program_of steps) given t x → IsStep steps n i t u
a_step steps n i order given x t u same numbers is h =
    let k = subst (IsSearched (map program_of steps) given t) is h in
    let all = same ∙ numbers in
    record {
      below = subst (λ o. i < length o) all k.0;
      ends = subst (λ o. outcome (map program_of steps) (take i o) t ≡ Some u) all k.1;
      fails = subst (λ o. run (slice_index_or (map program_of steps) (slice_index_or o i 0) Id) u ≡ None) all k.2;
    }

-- a search that finds none has run all of these
pub all_end : (steps : List Program) (n : ℕ) (order given : List ℕ) (x : Searched) (t u : Tree) → given ≡ order → order ≡ up_from 0 n → x ≡ searched.Ends u → IsSearched (map program_of steps) given t x
    → outcome (map program_of steps) (up_from 0 n) t ≡ Some u
all_end steps n order given x t u same numbers is h =
    let k = subst (IsSearched (map program_of steps) given t) is h in
    subst (λ o. outcome (map program_of steps) o t ≡ Some u) (same ∙ numbers) k

-- as many steps as are left are all that is left
take_rest : (steps : List Program) (n : ℕ) → take (length steps - n) (drop n steps) ≡ drop n steps
take_rest steps n = take_long (drop n steps) (length steps - n) (long_drop steps n)
  where
    long_drop : (xs : List Program) (n : ℕ) → length (drop n xs) ≤ length xs - n
    long_drop xs zero = omega arith
    long_drop [] (suc n) = omega arith
    long_drop (x ∷ xs) (suc n) = let rest = long_drop xs n in omega (arith, rest)

    take_long : (xs : List Program) (m : ℕ) → length xs ≤ m → take m xs ≡ xs
    take_long [] zero h = refl
    take_long [] (suc m) h = refl
    take_long (x ∷ xs) zero h = absurd (omega (arith, h))
    take_long (x ∷ xs) (suc m) h = ap (λ ys. x ∷ ys) (take_long xs m (omega (arith, h)))

-- the steps behind those that were run end in Error where all do
pub rest_run : (steps : List Program) (n : ℕ) (t u : Tree) → n ≤ length steps → outcome (map program_of steps) (up_from 0 n) t ≡ Some u → run_all (programs_in steps) t ≡ None
    → run_all (programs_in (take (length steps - n) (drop n steps))) u ≡ None
rest_run steps n t u b h e = ap (λ xs. run_all (programs_in xs) u) (take_rest steps n) ∙ behind_fails steps n t u b h e

-- and are fewer than all
pub rest_shorter : (steps : List Program) (n : ℕ) (t : Tree) → n ≤ length steps → (0 < length steps → 0 < n) → run_all (programs_in steps) t ≡ None → length (take (length steps - n) (drop n steps)) < length steps
rest_shorter [] n t b f e = cc
rest_shorter (x ∷ steps) n t b f e =
    let same = ap length (take_rest (x ∷ steps) n) in
    let less = shorter steps n (f (omega arith)) in
    omega (arith, same, less)
  where
    long_drop : (xs : List Program) (n : ℕ) → length (drop n xs) ≤ length xs
    long_drop xs zero = omega arith
    long_drop [] (suc n) = omega arith
    long_drop (y ∷ xs) (suc n) = let rest = long_drop xs n in omega (arith, rest)

    shorter : (xs : List Program) (n : ℕ) → 0 < n → length (drop n (x ∷ xs)) < suc (length xs)
    shorter xs zero h = absurd (omega (arith, h))
    shorter xs (suc n) h = let rest = long_drop xs n in omega (arith, rest)

-- and no larger
pub rest_smaller : (steps : List Program) (n : ℕ) → programs_size (programs_in (take (length steps - n) (drop n steps))) ≤ programs_size (programs_in steps)
rest_smaller steps n = let same = ap (λ xs. programs_size (programs_in xs)) (take_rest steps n) in let less = size_drop steps n in omega (arith, same, less)
  where
    size_drop : (xs : List Program) (n : ℕ) → programs_size (programs_in (drop n xs)) ≤ programs_size (programs_in xs)
    size_drop xs zero = omega arith
    size_drop [] (suc n) = omega arith
    size_drop (y ∷ xs) (suc n) = let rest = size_drop xs n in omega (arith, rest)

-- and what leads into them leads into all
pub rest_leads_in : (steps : List Program) (n : ℕ) (t u : Tree) → n ≤ length steps → outcome (map program_of steps) (up_from 0 n) t ≡ Some u
    → (e : model.Program) (v : Tree) → LeadsInto e v (programs_in (take (length steps - n) (drop n steps))) u → LeadsInto e v (programs_in steps) t
rest_leads_in steps n t u b h e v inner = behind_leads steps n t u b h e v (subst (λ xs. LeadsInto e v (programs_in xs) u) (take_rest steps n) inner)
