-- Laws of the indexes of literals that keep a formula.
use Rattle.std.proofs.Common.{◌≡◌, ℕ, zero, suc, ◌+◌, ◌-◌, ◌*◌, ◌/◌, ◌%◌, ◌^◌, ◌<◌, ◌≤◌, Bool, true, false, List, [], ◌∷◌, ◌++◌, length, take, drop, get_or, map, slice_get, unwrap_or, Some, refl, sym, ap, ◌∙◌, subst, arith}
use Rattle.std.specs.List.{AllByRecursion, slice_range}
use Rattle.std.proofs.lemmas.List.{take-append-le, drop-append-le, take_all, drop_at, length-take, length-drop, length-append, length-map, get_or-take, get_or-drop, get_or-map}
use Rattle.std.proofs.lemmas.Bool.{eq-eqb, ne_eqb}
use Rattle.std.proofs.lemmas.Option.{slice_get-get_or}
use Rattle.cnf.specs.declared.lit.Lit.{Lit}
use Rattle.cnf.specs.Clauses.{IsClause, HasVariables}
use Rattle.cnf.specs.Formulas.{Formula, IsFormula, clause_at}
use Rattle.cnf.specs.Store.{index_of, lit_of, clauses_from, formula_of, Rise, IsStored, start_of}
use Rattle.rh_base.proofs.Lists.{all_last}

-- the literal that has a literal's index is that literal
pub lit_of-index_of : (l : Lit) → 1 ≤ l.var → lit_of (index_of l) ≡ l
lit_of-index_of l h = by l.var l.positive h
  where
    by : (x : ℕ) (p : Bool) → 1 ≤ x → lit_of (index_of (record { var = x; positive = p })) ≡ record { var = x; positive = p }
    by x true h =
        let e : (2 * (x - 1) + 0) / 2 + 1 ≡ x = omega arith in
        let f : (2 * (x - 1) + 0) % 2 ≡ 0 = omega arith in
        λ i. record { var = e i; positive = eq-eqb ((2 * (x - 1) + 0) % 2) 0 f i }
    by x false h =
        let e : (2 * (x - 1) + 1) / 2 + 1 ≡ x = omega arith in
        let f : (2 * (x - 1) + 1) % 2 ≡ 1 = omega arith in
        λ i. record { var = e i; positive = ne_eqb ((2 * (x - 1) + 1) % 2) 0 (λ g. omega arith) i }

-- the literals that have some literals' indexes are those literals
pub map_lit_of-map_index_of : (n : ℕ) (c : List Lit) → HasVariables n c → map lit_of (map index_of c) ≡ c
map_lit_of-map_index_of n [] h = refl
map_lit_of-map_index_of n (l ∷ c) h = ap (λ x. x ∷ map lit_of (map index_of c)) (lit_of-index_of l h.0.0) ∙ ap (λ x. l ∷ x) (map_lit_of-map_index_of n c h.1)

-- ---- one more clause
-- what stands in a part of the array stands there with more behind it
pub range_append : (literals more : List ℕ) (a b : ℕ) → a ≤ b → b ≤ length literals → slice_range (literals ++ more) a b ≡ slice_range literals a b
range_append literals more a b h k =
    ap (take (b - a)) (drop-append-le a literals more (omega arith)) ∙ take-append-le (b - a) (drop a literals) more (omega (arith, length-drop a literals))

-- what was put behind the array is what stands there up to the end
pub range_last : (literals more : List ℕ) (n : ℕ) → n ≡ length (literals ++ more) → slice_range (literals ++ more) (length literals) n ≡ more
range_last literals more n e =
    ap (take (n - length literals)) (drop_at literals more (length literals) refl) ∙ take_all (n - length literals) more (omega (arith, length-append literals more))

-- places that rise to an end begin no later than there
pub rise_within : (s : ℕ) (ends : List ℕ) (n : ℕ) → Rise s ends n → s ≤ n
rise_within s [] n h = omega arith
rise_within s (e ∷ ends) n h = let a = h.0 in let b = rise_within e ends n h.1 in omega arith

-- places that rise still do with one more that isn't earlier
pub rise_push : (s : ℕ) (ends : List ℕ) (n m : ℕ) → Rise s ends n → n ≤ m → Rise s (ends ++ m ∷ []) m
rise_push s [] n m h k = (omega arith, refl)
rise_push s (e ∷ ends) n m h k = (h.0, rise_push e ends n m h.1 k)

-- indexes that are put last, with their end, are one clause more
pub clauses_push : (s : ℕ) (literals more ends : List ℕ) (n : ℕ) → Rise s ends (length literals) → n ≡ length (literals ++ more)
    → clauses_from s (literals ++ more) (ends ++ n ∷ []) ≡ clauses_from s literals ends ++ map lit_of more ∷ []
clauses_push s literals more [] n h e = ap (λ (ls : List ℕ). map lit_of ls ∷ []) (ap (λ x. slice_range (literals ++ more) x n) h ∙ range_last literals more n e)
clauses_push s literals more (end ∷ ends) n h e =
    let within = rise_within end ends (length literals) h.1 in
    ap (λ (ls : List ℕ). map lit_of ls ∷ clauses_from end (literals ++ more) (ends ++ n ∷ [])) (range_append literals more s end h.0 within)
    ∙ ap (λ cs. map lit_of (slice_range literals s end) ∷ cs) (clauses_push end literals more ends n h.1 e)

-- ---- a clause by its index
-- there are as many clauses as ends
pub length-clauses_from : (s : ℕ) (literals ends : List ℕ) → length (clauses_from s literals ends) ≡ length ends
length-clauses_from s literals [] = refl
length-clauses_from s literals (e ∷ ends) = ap suc (length-clauses_from e literals ends)

-- the clause with an index has the literals whose indexes stand between where it begins and where it ends
pub clause_stands : (s : ℕ) (literals ends : List ℕ) (i : ℕ) → i < length ends
    → slice_get (clauses_from s literals ends) i ≡ Some (map lit_of (slice_range literals (start_of s ends i) (get_or ends i 0)))
clause_stands s literals [] i h = absurd (omega arith)
clause_stands s literals (e ∷ ends) zero h = refl
clause_stands s literals (e ∷ ends) (suc i) h = clause_stands e literals ends i (omega arith)

-- a clause begins where the one ahead of it ends
pub start_is : (s : ℕ) (ends : List ℕ) (i : ℕ) → i < length ends → start_of s ends (suc i) ≡ get_or ends i 0
start_is s [] i h = absurd (omega arith)
start_is s (e ∷ ends) zero h = refl
start_is s (e ∷ ends) (suc i) h = start_is e ends i (omega arith)

-- each clause begins no later than it ends, and ends within the array
pub rise_at : (s : ℕ) (ends : List ℕ) (n i : ℕ) → Rise s ends n → i < length ends → (start_of s ends i ≤ get_or ends i 0) × (get_or ends i 0 ≤ n)
rise_at s [] n i h k = absurd (omega arith)
rise_at s (e ∷ ends) n zero h k = (h.0, rise_within e ends n h.1)
rise_at s (e ∷ ends) n (suc i) h k = rise_at e ends n i h.1 (omega arith)

-- a part of the array is as long as its two places are apart
pub length-range : (literals : List ℕ) (a b : ℕ) → a ≤ b → b ≤ length literals → length (slice_range literals a b) ≡ b - a
length-range literals a b h k = length-take (b - a) (drop a literals) ∙ (let e = length-drop a literals in omega arith)

-- a literal of a clause has the index that stands as far behind the clause's beginning
pub lit_stands : (literals : List ℕ) (a b k : ℕ) → a ≤ b → b ≤ length literals → k < b - a → slice_get (map lit_of (slice_range literals a b)) k ≡ Some (lit_of (get_or literals (a + k) 0))
lit_stands literals a b k h l m =
    let r = slice_range literals a b in
    let n = length-range literals a b h l in
    slice_get-get_or (map lit_of r) k (lit_of 0) (omega (arith, length-map r lit_of))
    ∙ ap Some (get_or-map lit_of r k 0 (lit_of 0) (omega arith) ∙ ap lit_of (get_or-take (b - a) (drop a literals) k 0 m ∙ get_or-drop a literals k 0))

-- a formula has as many clauses as there are ends
pub count_is : (literals ends : List ℕ) → length (clauses_from 0 literals ends) ≡ length ends
count_is literals ends = length-clauses_from 0 literals ends

-- one more clause is kept
module _ (vars : ℕ) (literals ends : List ℕ) (c : List Lit) (s : IsStored vars literals ends) (variables : HasVariables vars c) where
  -- with the indexes of a clause's literals and their end behind, the formula has that clause more
  formula_push' : clauses_from 0 (literals ++ map index_of c) (ends ++ length (literals ++ map index_of c) ∷ []) ≡ clauses_from 0 literals ends ++ c ∷ []
  formula_push' = clauses_push 0 literals (map index_of c) ends (length (literals ++ map index_of c)) s.rise refl ∙ ap (λ d. clauses_from 0 literals ends ++ d ∷ []) (map_lit_of-map_index_of vars c variables)

  -- the same of the formula with its variables
  pub formula_push : formula_of vars (literals ++ map index_of c) (ends ++ length (literals ++ map index_of c) ∷ []) ≡ record { vars = vars; clauses = clauses_from 0 literals ends ++ c ∷ [] }
  formula_push = λ i. record { vars = vars; clauses = formula_push' i }

  -- indexes and ends keep a formula with one clause more over its variables
  pub stored_push : IsClause c → IsStored vars (literals ++ map index_of c) (ends ++ length (literals ++ map index_of c) ∷ [])
  stored_push clause = record {
    small = s.small;
    rise = rise_push 0 ends (length literals) (length (literals ++ map index_of c)) s.rise (let e = length-append literals (map index_of c) in omega arith);
    formula = subst IsFormula (sym formula_push) (record {
      clauses = all_last IsClause (clauses_from 0 literals ends) c s.formula.clauses clause;
      variables = all_last (HasVariables vars) (clauses_from 0 literals ends) c s.formula.variables variables;
    });
  }

-- one more variable
pub more_variables : (n m : ℕ) (c : List Lit) → n ≤ m → HasVariables n c → HasVariables m c
more_variables n m [] h k = tt
more_variables n m (l ∷ c) h k = ((k.0.0, let a = k.0.1 in omega arith), more_variables n m c h k.1)

-- clauses over some variables are clauses over more
all_more_variables : (n m : ℕ) (cs : List (List Lit)) → n ≤ m → AllByRecursion (HasVariables n) cs → AllByRecursion (HasVariables m) cs
all_more_variables n m [] h k = tt
all_more_variables n m (c ∷ cs) h k = (more_variables n m c h k.0, all_more_variables n m cs h k.1)

-- indexes and ends keep a formula of more variables, too
pub stored_more : (n m : ℕ) (literals ends : List ℕ) → n ≤ m → m ≤ 2 ^ 31 → IsStored n literals ends → IsStored m literals ends
stored_more n m literals ends h k s = record {
  small = k;
  rise = s.rise;
  formula = record { clauses = s.formula.clauses; variables = all_more_variables n m (clauses_from 0 literals ends) h s.formula.variables };
}

-- the clause with a number, and what stands in it
module _ (vars : ℕ) (literals ends : List ℕ) (s : IsStored vars literals ends) (i : ℕ) (low : 1 ≤ i) (high : i ≤ length ends) where
  -- a clause begins no later than it ends, and ends within the array
  pub bounds_at : (start_of 0 ends (i - 1) ≤ get_or ends (i - 1) 0) × (get_or ends (i - 1) 0 ≤ length literals)
  bounds_at = rise_at 0 ends (length literals) (i - 1) s.rise (omega arith)

  -- the clause with a number has the literals whose indexes stand between its bounds
  pub clause_is : clause_at (formula_of vars literals ends) i ≡ map lit_of (slice_range literals (start_of 0 ends (i - 1)) (get_or ends (i - 1) 0))
  clause_is = ap (λ o. unwrap_or o []) (clause_stands 0 literals ends (i - 1) (omega arith))

  -- its length is how far its bounds are apart
  pub length_is : length (clause_at (formula_of vars literals ends) i) ≡ get_or ends (i - 1) 0 - start_of 0 ends (i - 1)
  length_is =
      ap length clause_is
      ∙ length-map (slice_range literals (start_of 0 ends (i - 1)) (get_or ends (i - 1) 0)) lit_of
      ∙ length-range literals (start_of 0 ends (i - 1)) (get_or ends (i - 1) 0) bounds_at.0 bounds_at.1

  -- its literals have the indexes from where it begins on
  pub lit_is : (k : ℕ) → k < length (clause_at (formula_of vars literals ends) i) → slice_get (clause_at (formula_of vars literals ends) i) k ≡ Some (lit_of (get_or literals (start_of 0 ends (i - 1) + k) 0))
  lit_is k h =
      ap (λ c. slice_get c k) clause_is
      ∙ lit_stands literals (start_of 0 ends (i - 1)) (get_or ends (i - 1) 0) k bounds_at.0 bounds_at.1 (let e = length_is in omega arith)

-- the same of a formula that is kept, for its readers
pub record ClauseKept (literals ends : List ℕ) (f : Formula) (i : ℕ) : Type 0 where
  pub high : i ≤ length ends
  pub rises : start_of 0 ends (i - 1) ≤ get_or ends (i - 1) 0
  pub inside : get_or ends (i - 1) 0 ≤ length literals
  pub long : length (clause_at f i) ≡ get_or ends (i - 1) 0 - start_of 0 ends (i - 1)
  pub lits : (k : ℕ) → k < length (clause_at f i) → slice_get (clause_at f i) k ≡ Some (lit_of (get_or literals (start_of 0 ends (i - 1) + k) 0))

-- the same of the formula that indexes and ends keep
pub clause_kept : (vars : ℕ) (literals ends : List ℕ) (f : Formula) (i : ℕ) → IsStored vars literals ends → formula_of vars literals ends ≡ f → 1 ≤ i → i ≤ length f.clauses → ClauseKept literals ends f i
clause_kept vars literals ends f i s is low high =
    let e = ap (λ (g : Formula). length g.clauses) is in
    let n = count_is literals ends in
    let h : i ≤ length ends = omega arith in
    subst (λ g. ClauseKept literals ends g i) is (record {
      high = h;
      rises = (bounds_at vars literals ends s i low h).0;
      inside = (bounds_at vars literals ends s i low h).1;
      long = length_is vars literals ends s i low h;
      lits = lit_is vars literals ends s i low h;
    })

-- a clause behind the first begins where the one ahead of it ends
pub start_at : (ends : List ℕ) (i : ℕ) → 2 ≤ i → i ≤ length ends → start_of 0 ends (i - 1) ≡ get_or ends (i - 2) 0
start_at ends i h k =
    let e : i - 1 ≡ suc (i - 2) = omega arith in
    ap (start_of 0 ends) e ∙ start_is 0 ends (i - 2) (omega arith)

-- the same, of indexes and ends that were pushed
module _ (vars : ℕ) (literals ends literals' ends' : List ℕ) (c : List Lit) (s : IsStored vars literals ends) (variables : HasVariables vars c) (w : literals' ≡ literals ++ map index_of c) (e : ends' ≡ ends ++ length literals' ∷ []) where
  -- the new end is where the array ends now
  ends_are : ends' ≡ ends ++ length (literals ++ map index_of c) ∷ []
  ends_are = e ∙ ap (λ (ls : List ℕ). ends ++ length ls ∷ []) w

  -- after a clause was put last, indexes and ends keep a formula
  pub pushed_stored : IsClause c → IsStored vars literals' ends'
  pushed_stored clause =
      subst (λ ls. IsStored vars ls ends') (sym w) (subst (IsStored vars (literals ++ map index_of c)) (sym ends_are) (stored_push vars literals ends c s variables clause))

  -- and it is the one from before with that clause behind it
  pub pushed_formula : formula_of vars literals' ends' ≡ record { vars = vars; clauses = clauses_from 0 literals ends ++ c ∷ [] }
  pushed_formula =
      ap (λ ls. formula_of vars ls ends') w ∙ ap (formula_of vars (literals ++ map index_of c)) ends_are ∙ formula_push vars literals ends c s variables
