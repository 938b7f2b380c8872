-- What is spelled is read: searches.
use Rattle.std.proofs.Common.{◌≡◌, ℕ, zero, suc, ◌+◌, ◌<◌, ◌≤◌, true, false, cond, List, [], ◌∷◌, ◌++◌, length, Some, None, refl, sym, ap, ◌∙◌, length-append, arith}
use Rattle.std.specs.Prelude.{codes}
use Rattle.std.proofs.lemmas.List.{append-nil}
use Rattle.pp_syntax.specs.declared.token.Kind.{Kind}
use Rattle.pp_syntax.specs.declared.token.Kind.TheVariants as kind
use Rattle.pp_syntax.specs.declared.tree.Expr.{Expr}
use Rattle.pp_syntax.specs.declared.tree.Search.{Search}
use Rattle.pp_syntax.specs.declared.tree.Search.TheVariants as search
use Rattle.pp_syntax.specs.Tokens.{Lexeme}
use Rattle.pp_syntax.specs.Phrases as phrases
use Rattle.pp_syntax.specs.Phrases.{◌then◌, Sign, Keyword, Each, Separated}
use Rattle.pp_syntax.specs.Derivation.{PostfixOf}
use Rattle.pp_syntax.specs.Statements.{NameOf, word, keyword, AtomOf, ConjunctionOf, SearchOf, IsSearchAt, MaybeSearch}
use Rattle.pp_syntax.specs.Statements as grammar
use Rattle.pp_readers.specs.Marks.{mark, reach}
use Rattle.rh_base.specs.Reading.{◌>>=◌}
use Rattle.pp_readers.specs.Expressions.{with_front}
use Rattle.pp_readers.proofs.Reading.{Fit, fits_first, fits_second}
use Rattle.pp_readers.proofs.Tokens.{mark_found}
use Rattle.pp_readers.specs.Combining.{Reader, behind, begins, is_found}
use Rattle.pp_readers.specs.Statements.{compared_or, compared_with, atom_or, atom_with, all_of, ands_with, conjunction_with, any_of, ors_with, search_with, search_at, sought_with}
use Rattle.pp_readers.proofs.Combining.{Spells}
use Rattle.pp_readers.proofs.Blocks.{to_left}
use Rattle.pp_readers.proofs.Building.{Phrase, ReadsBefore, mark_here, mark_not, split, behind_read, before_read, many_read, row_quiet}
use Rattle.pp_readers.proofs.ReadBodies.{Quiet, by_token, by_first, token_solid, name_read}

-- no index and no selection stands first; no `and` either; no operator at all
abbrev pub NoSuffix : Phrase
NoSuffix rest = reach rest ≤ 7

-- no index, no selection and no operator that binds as tightly as `and` or tighter stands first
abbrev pub NoAnd : Phrase
NoAnd rest = reach rest ≤ 1

-- such a sign is no name
name_unmarked : (s x : List ℕ) (us rest : List Lexeme) → NameOf x us → mark kind.Sign s (us ++ rest) ≡ None
name_unmarked s x us rest (word t c) = ap (λ r. mark kind.Sign s (r ++ rest)) t.1
name_unmarked s x us rest (keyword t) = ap (λ r. mark kind.Sign s (r ++ rest)) t.1

-- where nothing that binds as tightly as `and` stands first, no `and` begins
no_and : (rest : List Lexeme) → NoAnd rest → begins kind.Keyword (codes "and") rest ≡ false
no_and rest q = ap is_found (mark_not kind.Keyword (codes "and") rest (λ x h. let r : reach rest ≡ 2 = ap reach (mark_found kind.Keyword (codes "and") rest x h) in omega arith))

-- where no operator at all stands first, no `or` begins
no_or : (rest : List Lexeme) → Quiet rest → begins kind.Keyword (codes "or") rest ≡ false
no_or rest q = ap is_found (mark_not kind.Keyword (codes "or") rest (λ x h. let r : reach rest ≡ 1 = ap reach (mark_found kind.Keyword (codes "or") rest x h) in omega arith))

-- where a token stands, the test finds it
pub begins_here : (k : Kind) (s : List ℕ) (B : Phrase) (us rest : List Lexeme) → (phrases.Some k s then B) us → begins k s (us ++ rest) ≡ true
begins_here k s B us rest p = ap (begins k s) (split p.front p.back rest us p.whole) ∙ ap is_found (mark_here k s p.front (p.back ++ rest) p.first)

-- items behind their signs are the first and the others
pub each_rest : {X : Type 0} (sep : Phrase) (A : Spells X) (x : X) (xs : List X) (us : List Lexeme) → Each sep A (x ∷ xs) us → ((sep then A x) then Each sep A xs) us
each_rest sep A x xs us h = to_left sep (A x) (Each sep A xs) us h

module _ (p : Reader Expr) (E : Spells Expr) (reads : ReadsBefore NoSuffix p (PostfixOf E)) (s : Reader Search) (S : Spells Search) (inner : ReadsBefore Quiet s S) where
  -- `==` and a value are read behind a name
  equal_read : (name : List ℕ) (v : Expr) (us rest : List Lexeme) → (Sign (codes "==") then PostfixOf E v) us → Fit us → NoSuffix rest → compared_with p name (us ++ rest) ≡ Some (search.Equal name v, rest)
  equal_read name v us rest h f q =
      ap (compared_with p name) (split h.front h.back rest us h.whole)
      ∙ ap (λ r. compared_or p name r (h.front ++ (h.back ++ rest))) (mark_here kind.Sign (codes "==") h.front (h.back ++ rest) h.first)
      ∙ ap (λ r. r >>= λ v. Some (search.Equal name v.0, v.1)) (reads v h.back rest h.second (fits_second h.front h.back h.whole f) q)

  -- `!=` and a value are read behind a name
  differ_read : (name : List ℕ) (v : Expr) (us rest : List Lexeme) → (Sign (codes "!=") then PostfixOf E v) us → Fit us → NoSuffix rest → compared_with p name (us ++ rest) ≡ Some (search.Differ name v, rest)
  differ_read name v us rest h f q =
      ap (compared_with p name) (split h.front h.back rest us h.whole)
      ∙ ap (λ u. compared_or p name (mark kind.Sign (codes "==") (u ++ (h.back ++ rest))) (h.front ++ (h.back ++ rest))) h.first.1
      ∙ ap (λ r. r >>= λ o. p o.1 >>= λ v. Some (search.Differ name v.0, v.1)) (mark_here kind.Sign (codes "!=") h.front (h.back ++ rest) h.first)
      ∙ ap (λ r. r >>= λ v. Some (search.Differ name v.0, v.1)) (reads v h.back rest h.second (fits_second h.front h.back h.whole f) q)

  -- a name, and a comparison that is read behind it, are read as an atom
  named : (x : List ℕ) (B : Phrase) (y : Search) (us rest : List Lexeme) (h : (NameOf x then B) us) → Fit us → compared_with p x (h.back ++ rest) ≡ Some (y, rest) → atom_with p s (us ++ rest) ≡ Some (y, rest)
  named x B y us rest h f c =
      ap (atom_with p s) (split h.front h.back rest us h.whole)
      ∙ ap (λ r. atom_or p s r (h.front ++ (h.back ++ rest))) (name_unmarked (codes "(") x h.front (h.back ++ rest) h.first)
      ∙ ap (λ r. r >>= λ n. compared_with p n.0 n.1) (name_read x h.front (h.back ++ rest) h.first (fits_first h.front h.back h.whole f) tt)
      ∙ c

  -- an atom of a search is read
  atom_read : ReadsBefore NoSuffix (atom_with p s) (AtomOf E S)
  atom_read y us rest (grammar.equal name v e h) f q =
      named name (Sign (codes "==") then PostfixOf E v) (search.Equal name v) us rest h f (equal_read name v h.back rest h.second (fits_second h.front h.back h.whole f) q) ∙ ap (λ z. Some (z, rest)) (sym e)
  atom_read y us rest (grammar.differ name v e h) f q =
      named name (Sign (codes "!=") then PostfixOf E v) (search.Differ name v) us rest h f (differ_read name v h.back rest h.second (fits_second h.front h.back h.whole f) q) ∙ ap (λ z. Some (z, rest)) (sym e)
  atom_read y us rest (grammar.AtomOf.enclosed h) f q =
      ap (atom_with p s) (split h.front h.back rest us h.whole)
      ∙ ap (λ r. atom_or p s r (h.front ++ (h.back ++ rest))) (mark_here kind.Sign (codes "(") h.front (h.back ++ rest) h.first)
      ∙ before_read s S Quiet inner kind.Sign (codes ")") (by_token kind.Sign (codes ")") Quiet (λ at more. omega arith)) y h.back rest h.second (fits_second h.front h.back h.whole f) tt

  -- ---- conjunctions

  -- `and` and an atom
  abbrev And : Search → Phrase
  And y = Keyword (codes "and") then AtomOf E S y

  -- `and` and an atom are read
  and_read : ReadsBefore NoSuffix (behind kind.Keyword (codes "and") (atom_with p s)) And
  and_read = behind_read (atom_with p s) (AtomOf E S) NoSuffix atom_read kind.Keyword (codes "and")

  -- where they stand, no index and no selection stands first
  and_quiet : (y : Search) (us rest : List Lexeme) → And y us → NoSuffix (us ++ rest)
  and_quiet y us rest h = by_first kind.Keyword (codes "and") (AtomOf E S y) NoSuffix (λ at more. omega arith) us rest h

  -- `and` with atoms are read, before anything that is no `and`
  ands_read : (ys : List Search) (n : ℕ) (us rest : List Lexeme) → Each (Keyword (codes "and")) (AtomOf E S) ys us → Fit us → NoAnd rest → length us < n → ands_with p s n (us ++ rest) ≡ Some (ys, rest)
  ands_read =
      many_read (begins kind.Keyword (codes "and")) (behind kind.Keyword (codes "and") (atom_with p s)) And (Each (Keyword (codes "and")) (AtomOf E S)) NoAnd NoSuffix and_read
      (λ y us rest h. begins_here kind.Keyword (codes "and") (AtomOf E S y) us rest h) (λ y us h. token_solid kind.Keyword (codes "and") (AtomOf E S y) us h) and_quiet no_and (λ rest q. omega arith) (λ us h. h)
      (each_rest (Keyword (codes "and")) (AtomOf E S))

  -- before them, as before what ends them, an atom can be read
  ands_quiet : (ys : List Search) (us rest : List Lexeme) → Each (Keyword (codes "and")) (AtomOf E S) ys us → NoAnd rest → NoSuffix (us ++ rest)
  ands_quiet =
      row_quiet (begins kind.Keyword (codes "and")) (behind kind.Keyword (codes "and") (atom_with p s)) And (Each (Keyword (codes "and")) (AtomOf E S)) NoAnd NoSuffix and_read
      (λ y us rest h. begins_here kind.Keyword (codes "and") (AtomOf E S y) us rest h) (λ y us h. token_solid kind.Keyword (codes "and") (AtomOf E S y) us h) and_quiet no_and (λ rest q. omega arith) (λ us h. h)
      (each_rest (Keyword (codes "and")) (AtomOf E S))

  -- an atom and others are read as the search that all of them make
  all_read : (x : Search) (ys : List Search) (z : Search) (us rest : List Lexeme) → (AtomOf E S x then Each (Keyword (codes "and")) (AtomOf E S) ys) us → Fit us → NoAnd rest → all_of (x ∷ ys) ≡ Some z → conjunction_with p s (us ++ rest) ≡ Some (z, rest)
  all_read x ys z us rest h f q e =
      ap (conjunction_with p s) (split h.front h.back rest us h.whole)
      ∙ ap (λ r. r >>= λ y. with_front (y.0 ∷ []) (ands_with p s (length y.1 + 1) y.1) >>= λ ys. all_of ys.0 >>= λ z. Some (z, ys.1)) (atom_read x h.front (h.back ++ rest) h.first (fits_first h.front h.back h.whole f) (ands_quiet ys h.back rest h.second q))
      ∙ ap (λ r. with_front (x ∷ []) r >>= λ ys. all_of ys.0 >>= λ z. Some (z, ys.1)) (ands_read ys (length (h.back ++ rest) + 1) h.back rest h.second (fits_second h.front h.back h.whole f) q (omega (arith, length-append h.back rest)))
      ∙ ap (λ r. r >>= λ z. Some (z, rest)) e

  -- a conjunction is read, before anything that is no `and`
  conjunction_read : ReadsBefore NoAnd (conjunction_with p s) (ConjunctionOf E S)
  conjunction_read y us rest (grammar.ConjunctionOf.atom a) f q = all_read y [] y us rest (record { front = us; back = []; first = a; second = refl; whole = sym (append-nil us) }) f q refl
  conjunction_read y us rest (grammar.ConjunctionOf.conjunction first second more e h) f q = all_read first (second ∷ more) (search.And (first ∷ second ∷ more)) us rest h f q refl ∙ ap (λ z. Some (z, rest)) (sym e)

  -- ---- disjunctions

  -- `or` and a conjunction
  abbrev Or : Search → Phrase
  Or y = Keyword (codes "or") then ConjunctionOf E S y

  -- `or` and a conjunction are read
  or_read : ReadsBefore NoAnd (behind kind.Keyword (codes "or") (conjunction_with p s)) Or
  or_read = behind_read (conjunction_with p s) (ConjunctionOf E S) NoAnd conjunction_read kind.Keyword (codes "or")

  -- where they stand, no `and` stands first
  or_quiet : (y : Search) (us rest : List Lexeme) → Or y us → NoAnd (us ++ rest)
  or_quiet y us rest h = by_first kind.Keyword (codes "or") (ConjunctionOf E S y) NoAnd (λ at more. omega arith) us rest h

  -- `or` with conjunctions are read, before anything that is no operator
  ors_read : (ys : List Search) (n : ℕ) (us rest : List Lexeme) → Each (Keyword (codes "or")) (ConjunctionOf E S) ys us → Fit us → Quiet rest → length us < n → ors_with p s n (us ++ rest) ≡ Some (ys, rest)
  ors_read =
      many_read (begins kind.Keyword (codes "or")) (behind kind.Keyword (codes "or") (conjunction_with p s)) Or (Each (Keyword (codes "or")) (ConjunctionOf E S)) Quiet NoAnd or_read
      (λ y us rest h. begins_here kind.Keyword (codes "or") (ConjunctionOf E S y) us rest h) (λ y us h. token_solid kind.Keyword (codes "or") (ConjunctionOf E S y) us h) or_quiet no_or (λ rest q. omega arith) (λ us h. h)
      (each_rest (Keyword (codes "or")) (ConjunctionOf E S))

  -- before them, as before what ends them, a conjunction can be read
  ors_quiet : (ys : List Search) (us rest : List Lexeme) → Each (Keyword (codes "or")) (ConjunctionOf E S) ys us → Quiet rest → NoAnd (us ++ rest)
  ors_quiet =
      row_quiet (begins kind.Keyword (codes "or")) (behind kind.Keyword (codes "or") (conjunction_with p s)) Or (Each (Keyword (codes "or")) (ConjunctionOf E S)) Quiet NoAnd or_read
      (λ y us rest h. begins_here kind.Keyword (codes "or") (ConjunctionOf E S y) us rest h) (λ y us h. token_solid kind.Keyword (codes "or") (ConjunctionOf E S y) us h) or_quiet no_or (λ rest q. omega arith) (λ us h. h)
      (each_rest (Keyword (codes "or")) (ConjunctionOf E S))

  -- a conjunction and others are read as the search that one of them makes
  any_read : (x : Search) (ys : List Search) (z : Search) (us rest : List Lexeme) → (ConjunctionOf E S x then Each (Keyword (codes "or")) (ConjunctionOf E S) ys) us → Fit us → Quiet rest → any_of (x ∷ ys) ≡ Some z → search_with p s (us ++ rest) ≡ Some (z, rest)
  any_read x ys z us rest h f q e =
      ap (search_with p s) (split h.front h.back rest us h.whole)
      ∙ ap (λ r. r >>= λ y. with_front (y.0 ∷ []) (ors_with p s (length y.1 + 1) y.1) >>= λ ys. any_of ys.0 >>= λ z. Some (z, ys.1)) (conjunction_read x h.front (h.back ++ rest) h.first (fits_first h.front h.back h.whole f) (ors_quiet ys h.back rest h.second q))
      ∙ ap (λ r. with_front (x ∷ []) r >>= λ ys. any_of ys.0 >>= λ z. Some (z, ys.1)) (ors_read ys (length (h.back ++ rest) + 1) h.back rest h.second (fits_second h.front h.back h.whole f) q (omega (arith, length-append h.back rest)))
      ∙ ap (λ r. r >>= λ z. Some (z, rest)) e

  -- a search is read, before anything that is no operator, if it holds of those in its brackets
  pub search_read : ReadsBefore Quiet (search_with p s) (SearchOf E S)
  search_read y us rest (grammar.SearchOf.conjunction a) f q = any_read y [] y us rest (record { front = us; back = []; first = a; second = refl; whole = sym (append-nil us) }) f q refl
  search_read y us rest (grammar.SearchOf.disjunction first second more e h) f q = any_read first (second ∷ more) (search.Or (first ∷ second ∷ more)) us rest h f q refl ∙ ap (λ z. Some (z, rest)) (sym e)

-- ---- Brackets nest less deep than there are tokens.

module _ {X : Type 0} (sep : Phrase) (A B : Spells X) (n : ℕ) (maps : (x : X) (us : List Lexeme) → A x us → length us ≤ n → B x us) where
  -- items of a rule that holds of few tokens are items of another, if they have few
  each_maps : (xs : List X) (us : List Lexeme) → Each sep A xs us → length us ≤ n → Each sep B xs us
  each_maps [] us h l = h
  each_maps (x ∷ xs) us h l =
      let s = h.second in
      record {
        front = h.front;
        back = h.back;
        first = h.first;
        second = record { front = s.front; back = s.back; first = maps x s.front s.first (omega (arith, ap length h.whole, length-append h.front h.back, ap length s.whole, length-append s.front s.back)); second = each_maps xs s.back s.second (omega (arith, ap length h.whole, length-append h.front h.back, ap length s.whole, length-append s.front s.back)); whole = s.whole };
        whole = h.whole;
      }

  -- so are items with signs between them
  separated_maps : (xs : List X) (us : List Lexeme) → Separated sep A xs us → length us ≤ n → Separated sep B xs us
  separated_maps [] us h l = h
  separated_maps (x ∷ xs) us h l = record {
    front = h.front;
    back = h.back;
    first = maps x h.front h.first (omega (arith, ap length h.whole, length-append h.front h.back));
    second = each_maps xs h.back h.second (omega (arith, ap length h.whole, length-append h.front h.back));
    whole = h.whole;
  }

module _ (E : Spells Expr) (S T : Spells Search) (n : ℕ) (maps : (y : Search) (us : List Lexeme) → S y us → length us + 2 ≤ n → T y us) where
  -- an atom is one by another rule for its brackets, if that holds of fewer tokens
  atom_maps : (y : Search) (us : List Lexeme) → AtomOf E S y us → length us ≤ n → AtomOf E T y us
  atom_maps y us (grammar.equal name v e h) l = grammar.equal name v e h
  atom_maps y us (grammar.differ name v e h) l = grammar.differ name v e h
  atom_maps y us (grammar.AtomOf.enclosed h) l =
      let s = h.second in
      let short : length s.front + 2 ≤ n = omega (arith, ap length h.whole, length-append h.front h.back, ap length s.whole, length-append s.front s.back, ap length h.first.1, ap length s.second.1) in
      grammar.AtomOf.enclosed (record { front = h.front; back = h.back; first = h.first; second = record { front = s.front; back = s.back; first = maps y s.front s.first short; second = s.second; whole = s.whole }; whole = h.whole })

  -- so is a conjunction
  conjunction_maps : (y : Search) (us : List Lexeme) → ConjunctionOf E S y us → length us ≤ n → ConjunctionOf E T y us
  conjunction_maps y us (grammar.ConjunctionOf.atom a) l = grammar.ConjunctionOf.atom (atom_maps y us a l)
  conjunction_maps y us (grammar.ConjunctionOf.conjunction first second more e h) l =
      grammar.ConjunctionOf.conjunction first second more e (separated_maps (Keyword (codes "and")) (AtomOf E S) (AtomOf E T) n atom_maps (first ∷ second ∷ more) us h l)

  -- so is a search
  search_maps : (y : Search) (us : List Lexeme) → SearchOf E S y us → length us ≤ n → SearchOf E T y us
  search_maps y us (grammar.SearchOf.conjunction a) l = grammar.SearchOf.conjunction (conjunction_maps y us a l)
  search_maps y us (grammar.SearchOf.disjunction first second more e h) l =
      grammar.SearchOf.disjunction first second more e (separated_maps (Keyword (codes "or")) (ConjunctionOf E S) (ConjunctionOf E T) n conjunction_maps (first ∷ second ∷ more) us h l)

-- a search isn't nested deeper than it has tokens
pub search_depth : (E : Spells Expr) (depth n : ℕ) (y : Search) (us : List Lexeme) → IsSearchAt E depth y us → length us < n → IsSearchAt E n y us
search_depth E depth zero y us h l = absurd (omega arith)
search_depth E zero (suc n) y us h l = absurd h
search_depth E (suc depth) (suc n) y us h l = search_maps E (IsSearchAt E depth) (IsSearchAt E n) n (λ y us h l. search_depth E depth n y us h (omega arith)) y us h (omega arith)

-- a search begins with a name or `(`
module _ (E : Spells Expr) (S : Spells Search) where
  -- an atom begins with no sign but `(`
  atom_unmarked : (s : List ℕ) (y : Search) (us rest : List Lexeme) → Rattle.std.specs.Str.bytes_eq (codes "(") s ≡ false → AtomOf E S y us → mark kind.Sign s (us ++ rest) ≡ None
  atom_unmarked s y us rest n (grammar.equal name v e h) = ap (mark kind.Sign s) (split h.front h.back rest us h.whole) ∙ name_unmarked s name h.front (h.back ++ rest) h.first
  atom_unmarked s y us rest n (grammar.differ name v e h) = ap (mark kind.Sign s) (split h.front h.back rest us h.whole) ∙ name_unmarked s name h.front (h.back ++ rest) h.first
  atom_unmarked s y us rest n (grammar.AtomOf.enclosed h) =
      ap (mark kind.Sign s) (split h.front h.back rest us h.whole) ∙ ap (λ r. mark kind.Sign s (r ++ (h.back ++ rest))) h.first.1 ∙ ap (λ v. cond v (Some (h.first.0, h.back ++ rest)) None) n

  -- nor does a conjunction
  conjunction_unmarked : (s : List ℕ) (y : Search) (us rest : List Lexeme) → Rattle.std.specs.Str.bytes_eq (codes "(") s ≡ false → ConjunctionOf E S y us → mark kind.Sign s (us ++ rest) ≡ None
  conjunction_unmarked s y us rest n (grammar.ConjunctionOf.atom a) = atom_unmarked s y us rest n a
  conjunction_unmarked s y us rest n (grammar.ConjunctionOf.conjunction first second more e h) = ap (mark kind.Sign s) (split h.front h.back rest us h.whole) ∙ atom_unmarked s first h.front (h.back ++ rest) n h.first

  -- nor does a search
  search_unmarked : (s : List ℕ) (y : Search) (us rest : List Lexeme) → Rattle.std.specs.Str.bytes_eq (codes "(") s ≡ false → SearchOf E S y us → mark kind.Sign s (us ++ rest) ≡ None
  search_unmarked s y us rest n (grammar.SearchOf.conjunction a) = conjunction_unmarked s y us rest n a
  search_unmarked s y us rest n (grammar.SearchOf.disjunction first second more e h) = ap (mark kind.Sign s) (split h.front h.back rest us h.whole) ∙ conjunction_unmarked s first h.front (h.back ++ rest) n h.first

-- the sign that ends a collector stands first
abbrev pub Collected : Phrase
Collected rest = (at : ℕ) × (more : List Lexeme) × (rest ≡ record { kind = kind.Sign; text = codes "|>"; at = at } ∷ more)

module _ (p : Reader Expr) (E : Spells Expr) (reads : ReadsBefore NoSuffix p (PostfixOf E)) where
  -- a search is read, with brackets nested less deep than this
  search_at_read : (depth : ℕ) → ReadsBefore Quiet (search_at p depth) (IsSearchAt E depth)
  search_at_read zero y us rest h f q = absurd h
  search_at_read (suc depth) y us rest h f q = search_read p E reads (search_at p depth) (IsSearchAt E depth) (search_at_read depth) y us rest h f q

  -- a search doesn't begin with the sign that ends a collector
  unmarked_at : (depth : ℕ) (y : Search) (us rest : List Lexeme) → IsSearchAt E depth y us → mark kind.Sign (codes "|>") (us ++ rest) ≡ None
  unmarked_at zero y us rest h = absurd h
  unmarked_at (suc depth) y us rest h = search_unmarked E (IsSearchAt E depth) (codes "|>") y us rest refl h

  -- a search, or none, is read before the sign that ends a collector
  pub sought_read : ReadsBefore Collected (sought_with p) (MaybeSearch E)
  sought_read None us rest h f q =
      ap (λ u. sought_with p (u ++ rest)) h ∙ ap (λ v. cond v (Some (None, rest)) (search_at p (length rest + 1) rest >>= λ y. Some (Some y.0, y.1))) (ap (begins kind.Sign (codes "|>")) q.2)
  sought_read (Some y) us rest h f q =
      let n = length (us ++ rest) + 1 in
      ap (λ v. cond v (Some (None, us ++ rest)) (search_at p n (us ++ rest) >>= λ y. Some (Some y.0, y.1))) (ap is_found (unmarked_at h.0 y us rest h.1))
      ∙ ap (λ r. r >>= λ y. Some (Some y.0, y.1)) (search_at_read n y us rest (search_depth E h.0 n y us h.1 (omega (arith, length-append us rest))) f (omega (arith, ap reach q.2)))
