-- One turn of reading a list up to the word 0.
use Rattle.std.proofs.Common.{◌≡◌, ◌≢◌, ℕ, suc, ◌+◌, ◌-◌, ◌<◌, arith, cond, List, [], ◌∷◌, ◌++◌, Option, Some, None, refl, sym, ap, ◌∙◌, eq-eqb, append_assoc}
use Rattle.std.proofs.lemmas.Bool.{ne_eqb}
use Rattle.cnf.specs.declared.lit.Lit.{Lit}
use Rattle.cnf.specs.declared.log.Link.{Link}
use Rattle.cnf.specs.declared.log.Step.{Step}
use Rattle.cnf.specs.Clauses.{clause_of}
use Rattle.proof_check.specs.Refuted.{Refutation}
use Rattle.cnf.specs.ProofText.{Word}
use Rattle.proof_check.specs.Reading.{number_in}
use Rattle.std.specs.Prelude.{Result, Ok, Err}
use Rattle.std.specs.Result.{IsErrAnd}
use Rattle.rh_base.specs.declared.misread.Misread.{Misread}
use Rattle.rh_base.specs.declared.misread.Misread.TheVariants as misread
use Rattle.rh_base.specs.Reading.{Fails, Gives, ◌>>=◌}
use Rattle.proof_check.specs.WordReading.{Found, with_front, with_words, with_first, count_in, signed, literal_in, lits_or, lits_in, pivot_of, pivot_in, with_link, links_in, links_behind, clauses_in, step_in, steps_in, block_in, blocks_in}

-- the parts of what is read with the words behind it
with_some : {X : Type 0} (ws : List Word) (o : Option X) (x : X) (rest : List Word) → with_words ws o ≡ Some (x, rest) → (o ≡ Some x) × (ws ≡ rest)
with_some ws None x rest h = absurd cc
with_some {X} ws (Some y) x rest h =
    let same : ◌≡◌ {A = X × List Word} (y, ws) (x, rest) = cc in
    (ap (λ (p : X × List Word). Some p.0) same, ap (λ (p : X × List Word). p.1) same)

-- where nothing is found with words behind it, nothing is found
with_none : {X : Type 0} (ws : List Word) (o : Option X) → with_words ws o ≡ None → o ≡ None
with_none ws None h = refl
with_none ws (Some y) h = absurd cc

-- behind a literal the list goes on
pub lits_goes : (vars : ℕ) (ws rest : List Word) (l : Lit) → literal_in vars ws ≡ Some (Some l, rest) → lits_in vars ws ≡ with_first l (lits_in vars rest)
lits_goes vars [] rest l h = absurd cc
lits_goes vars (w ∷ ws) rest l h =
    let s = with_some ws (signed vars w) (Some l) rest h in
    ap (λ o. lits_or o (lits_in vars ws) ws) s.0 ∙ ap (λ us. with_first l (lits_in vars us)) s.1

-- at the word 0 the list of literals ends
pub lits_end : (vars : ℕ) (ws rest : List Word) → literal_in vars ws ≡ Some (None, rest) → lits_in vars ws ≡ Some ([], rest)
lits_end vars [] rest h = absurd cc
lits_end vars (w ∷ ws) rest h =
    let s = with_some ws (signed vars w) None rest h in
    ap (λ o. lits_or o (lits_in vars ws) ws) s.0 ∙ ap (λ us. Some ([], us)) s.1

-- where the next word is no literal, no list is read
pub lits_stop : (vars : ℕ) (ws : List Word) → literal_in vars ws ≡ None → lits_in vars ws ≡ None
lits_stop vars [] h = refl
lits_stop vars (w ∷ ws) h = ap (λ o. lits_or o (lits_in vars ws) ws) (with_none ws (signed vars w) h)

-- at the number 0 the list of links ends
pub links_end : (vars : ℕ) (ws rest : List Word) (n : ℕ) → count_in ws ≡ Some (n, rest) → n ≡ 0 → links_in vars ws ≡ Some ([], rest)
links_end vars [] rest n h z = absurd cc
links_end vars (w ∷ ws) rest n h z =
    let s = with_some ws (number_in w) n rest h in
    ap (λ o. links_behind vars o ws) s.0 ∙ by_rest ws ∙ ap (λ us. Some ([], us)) s.1
  where
    by_rest : (ws : List Word) → links_behind vars (Some n) ws ≡ Some ([], ws)
    by_rest [] = ap (λ b. cond b (Some ([], [])) None) (eq-eqb n 0 z)
    by_rest (v ∷ us) = ap (λ b. cond b (Some ([], v ∷ us)) (with_link n (signed vars v) (links_in vars us))) (eq-eqb n 0 z)

-- where the next word is no number, no links are read
pub links_no_number : (vars : ℕ) (ws : List Word) → count_in ws ≡ None → links_in vars ws ≡ None
links_no_number vars [] h = refl
links_no_number vars (w ∷ ws) h = ap (λ o. links_behind vars o ws) (with_none ws (number_in w) h) ∙ none ws
  where
    none : (ws : List Word) → links_behind vars None ws ≡ None
    none [] = refl
    none (v ∷ us) = refl

-- the links behind a number: a link with this pivot and more of them, or none where there is no pivot
pivot_or : ℕ → ℕ → Found Lit → Found (List Link)
pivot_or n vars None = None
pivot_or n vars (Some x) = with_first (record { number = n; pivot = x.0 }) (links_in vars x.1)

-- behind a number other than 0
behind : (vars n : ℕ) (ws mid : List Word) → n ≢ 0 → count_in ws ≡ Some (n, mid) → links_in vars ws ≡ pivot_or n vars (pivot_in vars mid)
unfolding pivot_or
behind vars n [] mid z h = absurd cc
behind vars n (w ∷ ws) mid z h =
    let s = with_some ws (number_in w) n mid h in
    ap (λ o. links_behind vars o ws) s.0 ∙ by_rest ws ∙ ap (λ us. pivot_or n vars (pivot_in vars us)) s.1
  where
    by_link : (us : List Word) (o : Option (Option Lit)) → with_link n o (links_in vars us) ≡ pivot_or n vars (with_words us o >>= pivot_of)
    by_link us None = refl
    by_link us (Some None) = refl
    by_link us (Some (Some l)) = refl

    by_rest : (ws : List Word) → links_behind vars (Some n) ws ≡ pivot_or n vars (pivot_in vars ws)
    by_rest [] = ap (λ b. cond b (Some ([], [])) None) (ne_eqb n 0 z)
    by_rest (v ∷ us) = ap (λ b. cond b (Some ([], v ∷ us)) (with_link n (signed vars v) (links_in vars us))) (ne_eqb n 0 z) ∙ by_link us (signed vars v)

-- behind a number other than 0 and a pivot the list goes on
pub links_goes : (vars n : ℕ) (ws mid rest : List Word) (l : Lit) → n ≢ 0 → count_in ws ≡ Some (n, mid) → pivot_in vars mid ≡ Some (l, rest) → links_in vars ws ≡ with_first (record { number = n; pivot = l }) (links_in vars rest)
unfolding pivot_or
links_goes vars n ws mid rest l z h k = behind vars n ws mid z h ∙ ap (pivot_or n vars) k

-- behind a number other than 0 without a pivot, no links are read
pub links_no_pivot : (vars n : ℕ) (ws mid : List Word) → n ≢ 0 → count_in ws ≡ Some (n, mid) → pivot_in vars mid ≡ None → links_in vars ws ≡ None
unfolding pivot_or
links_no_pivot vars n ws mid z h k = behind vars n ws mid z h ∙ ap (pivot_or n vars) k

-- what was read, and one more
pub first_more : {X : Type 0} (front : List X) (x : X) (r : Found (List X)) → with_front front (with_first x r) ≡ with_front (front ++ x ∷ []) r
first_more front x None = refl
first_more front x (Some r) = ap (λ xs. Some (xs, r.1)) (sym (append_assoc front (x ∷ []) r.0))

-- what stopped one step stops the whole
pub gives_err : {X Y Z : Type 0} (view : X → Y) (r : Result X Misread) (e : Misread) (a : Option Z) (read : Option Y) → IsErrAnd r (λ d. d ≡ e) → Fails e a → (a ≡ None → read ≡ None) → Gives view r read
gives_err view (Ok x) e a read h f g = absurd h
gives_err view (Err (misread.Form)) (misread.Form) a read h f g = g f
gives_err view (Err (misread.Form)) (misread.Memory m) a read h f g = absurd cc
gives_err view (Err (misread.Memory m)) e a read h f g = tt

-- nothing with a front is nothing
pub nothing_more : {X : Type 0} (front : List X) (r : Found (List X)) → r ≡ None → with_front front r ≡ None
nothing_more front None h = refl
nothing_more front (Some r) h = absurd cc

-- behind a clause the rest of so many clauses is read
pub clauses_goes : (vars : ℕ) (front : List (List Lit)) (n i : ℕ) (ws rest : List Word) (x : List Lit) → i < n → lits_in vars ws ≡ Some (x, rest)
    → with_front front (clauses_in vars (n - i) ws) ≡ with_front (front ++ (clause_of x) ∷ []) (clauses_in vars (n - (i + 1)) rest)
clauses_goes vars front n i ws rest x l h =
    let e : n - i ≡ suc (n - (i + 1)) = omega arith in
    ap (with_front front) (ap (λ k. clauses_in vars k ws) e ∙ ap (λ r. r >>= λ x. with_first (clause_of x.0) (clauses_in vars (n - (i + 1)) x.1)) h) ∙ first_more front (clause_of x) (clauses_in vars (n - (i + 1)) rest)

-- where the next clause isn't read, none of the list is
pub clauses_stop : (vars : ℕ) (front : List (List Lit)) (n i : ℕ) (ws : List Word) → i < n → lits_in vars ws ≡ None → with_front front (clauses_in vars (n - i) ws) ≡ None
clauses_stop vars front n i ws l h =
    let e : n - i ≡ suc (n - (i + 1)) = omega arith in
    ap (with_front front) (ap (λ k. clauses_in vars k ws) e ∙ ap (λ r. r >>= λ x. with_first (clause_of x.0) (clauses_in vars (n - (i + 1)) x.1)) h)

-- behind a step the rest of so many steps is read
pub steps_goes : (vars : ℕ) (front : List (Step)) (n i : ℕ) (ws rest : List Word) (x : Step) → i < n → step_in vars ws ≡ Some (x, rest)
    → with_front front (steps_in vars (n - i) ws) ≡ with_front (front ++ (x) ∷ []) (steps_in vars (n - (i + 1)) rest)
steps_goes vars front n i ws rest x l h =
    let e : n - i ≡ suc (n - (i + 1)) = omega arith in
    ap (with_front front) (ap (λ k. steps_in vars k ws) e ∙ ap (λ r. r >>= λ x. with_first (x.0) (steps_in vars (n - (i + 1)) x.1)) h) ∙ first_more front (x) (steps_in vars (n - (i + 1)) rest)

-- where the next step isn't read, none of the list is
pub steps_stop : (vars : ℕ) (front : List (Step)) (n i : ℕ) (ws : List Word) → i < n → step_in vars ws ≡ None → with_front front (steps_in vars (n - i) ws) ≡ None
steps_stop vars front n i ws l h =
    let e : n - i ≡ suc (n - (i + 1)) = omega arith in
    ap (with_front front) (ap (λ k. steps_in vars k ws) e ∙ ap (λ r. r >>= λ x. with_first (x.0) (steps_in vars (n - (i + 1)) x.1)) h)

-- behind a formula with its log the rest of so many is read
pub blocks_goes : (front : List (Refutation)) (n i : ℕ) (ws rest : List Word) (x : Refutation) → i < n → block_in ws ≡ Some (x, rest)
    → with_front front (blocks_in (n - i) ws) ≡ with_front (front ++ (x) ∷ []) (blocks_in (n - (i + 1)) rest)
blocks_goes front n i ws rest x l h =
    let e : n - i ≡ suc (n - (i + 1)) = omega arith in
    ap (with_front front) (ap (λ k. blocks_in k ws) e ∙ ap (λ r. r >>= λ x. with_first (x.0) (blocks_in (n - (i + 1)) x.1)) h) ∙ first_more front (x) (blocks_in (n - (i + 1)) rest)

-- where the next formula with its log isn't read, none of the list is
pub blocks_stop : (front : List (Refutation)) (n i : ℕ) (ws : List Word) → i < n → block_in ws ≡ None → with_front front (blocks_in (n - i) ws) ≡ None
blocks_stop front n i ws l h =
    let e : n - i ≡ suc (n - (i + 1)) = omega arith in
    ap (with_front front) (ap (λ k. blocks_in k ws) e ∙ ap (λ r. r >>= λ x. with_first (x.0) (blocks_in (n - (i + 1)) x.1)) h)
