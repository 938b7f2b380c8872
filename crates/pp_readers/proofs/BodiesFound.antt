-- What is read is spelled: attributes, bodies and searches.
use Rattle.std.proofs.Common.{◌≡◌, ◌≢◌, ℕ, zero, suc, ◌+◌, Bool, true, false, cond, List, [], ◌∷◌, ◌++◌, length, Option, Some, None, refl, sym, ap, subst, ◌∙◌, append_assoc}
use Rattle.std.specs.Prelude.{codes}
use Rattle.pp_syntax.specs.declared.token.Kind.TheVariants as kind
use Rattle.pp_syntax.specs.declared.tree.Expr.{Expr}
use Rattle.pp_syntax.specs.declared.tree.Attr.{Attr}
use Rattle.pp_syntax.specs.declared.tree.Body.{Body}
use Rattle.pp_syntax.specs.declared.tree.Search.{Search}
use Rattle.pp_syntax.specs.declared.tree.Search.TheVariants as search
use Rattle.pp_syntax.specs.Tokens.{Lexeme}
use Rattle.pp_syntax.specs.Phrases.{◌then◌, Sign, Keyword, Each, MaybeListed}
use Rattle.pp_syntax.specs.Derivation.{PostfixOf}
use Rattle.pp_syntax.specs.Statements.{NameOf, word, keyword, AttrOf, BodyOf, BodiesOf, AtomOf, ConjunctionOf, SearchOf, IsSearchAt, MaybeSearch}
use Rattle.pp_syntax.specs.Statements as grammar
use Rattle.pp_readers.specs.Marks.{Found, mark}
use Rattle.rh_base.specs.Reading.{◌>>=◌}
use Rattle.pp_readers.specs.Parsed.{Begins}
use Rattle.pp_readers.specs.Expressions.{with_front}
use Rattle.pp_readers.proofs.Tokens.{joins, maps, marked}
use Rattle.pp_readers.proofs.Finding.{Finds}
use Rattle.pp_readers.specs.Combining.{Reader, both, behind, begins, listed}
use Rattle.pp_readers.specs.Names.{taken, name_by, begins_name}
use Rattle.pp_readers.specs.Statements.{attr_of, attr_with, attrs_with, body_of, body_with, unclosed, bodies_with, compared_or, compared_with, atom_or, atom_with, all_of, ands_with, conjunction_with, any_of, ors_with, search_with, search_at, sought_with}
use Rattle.pp_readers.proofs.Combining.{Spells, both_found, behind_found, before_found, made_found, placed_found, many_found, ListedBy, listed_found, listed_some}
use Rattle.pp_readers.proofs.Names.{name_found}
use Rattle.rh_base.proofs.Options.{bind_some}

-- a name is no empty list of tokens
pub name_some : (x : List ℕ) → NameOf x [] → ⊥
name_some x (word t c) = let no : ◌≡◌ {A = List Lexeme} [] (record { kind = kind.Word; text = x; at = t.0 } ∷ []) = t.1 in cc
name_some x (keyword t) = let no : ◌≡◌ {A = List Lexeme} [] (record { kind = kind.Keyword; text = x; at = t.0 } ∷ []) = t.1 in cc

-- the front of an empty list is empty
pub front_nil : (us vs : List Lexeme) → [] ≡ us ++ vs → us ≡ []
front_nil [] vs e = refl
front_nil (t ∷ us) vs e = cc

-- what begins with something is something
pub then_some : (A B : List Lexeme → Type 0) → (A [] → ⊥) → (A then B) [] → ⊥
then_some A B never p = never (subst A (front_nil p.front p.back p.whole) p.first)

-- where a result is one of many
pub front_some : {X : Type 0} (y : X) (r : Found (List X)) (z : List X × List Lexeme) → with_front (y ∷ []) r ≡ Some z → (l : List X × List Lexeme) × (r ≡ Some l) × ((y ∷ l.0, l.1) ≡ z)
front_some y None z h = cc
front_some y (Some l) z h = (l, refl, cc)

-- one more in front of what each has in front
pub each_next : {X : Type 0} (sep : List Lexeme → Type 0) (A : Spells X) (x : X) (xs : List X) (us vs : List Lexeme) → (sep then A x) us → Each sep A xs vs → Each sep A (x ∷ xs) (us ++ vs)
each_next sep A x xs us vs p e = record {
  front = p.front;
  back = p.back ++ vs;
  first = p.first;
  second = record { front = p.back; back = vs; first = p.second; second = e; whole = refl };
  whole = ap (λ r. r ++ vs) p.whole ∙ append_assoc p.front p.back vs;
}

module _ (e : Reader Expr) (E : Spells Expr) (finds : Finds e E) where
  -- ---- attributes and bodies

  -- NAME => expr
  abbrev Parts : List ℕ × Expr → List Lexeme → Type 0
  Parts p = NameOf p.0 then (Sign (codes "=>") then E p.1)

  -- what is read as an attribute is spelled so
  attr_found : Finds (attr_with e) (AttrOf E)
  attr_found =
      placed_found attr_of (both (taken name_by) (behind kind.Sign (codes "=>") e)) Parts (AttrOf E)
      (both_found (taken name_by) (behind kind.Sign (codes "=>") e) NameOf (λ v. Sign (codes "=>") then E v) name_found (behind_found e E finds kind.Sign (codes "=>")))
      (λ p. then_some (NameOf p.0) (Sign (codes "=>") then E p.1) (name_some p.0)) (λ p us s. (refl, s))

  -- attributes with commas between them are attributes, or none
  some_attrs : (qs : List Attr) (us : List Lexeme) → ListedBy (codes ",") (AttrOf E) qs us → MaybeListed (AttrOf E) qs us
  some_attrs [] us h = h
  some_attrs (a ∷ qs) us h = h

  -- what is read as attributes is spelled so
  pub attrs_found : Finds (attrs_with e) (MaybeListed (AttrOf E))
  attrs_found ts x h = maps (some_attrs x.0) (listed_found (codes ",") begins_name (attr_with e) (AttrOf E) attr_found (length ts + 1) ts x h)

  -- what is read as a body is spelled so
  body_found : Finds (body_with e) (BodyOf E)
  body_found =
      made_found body_of (both e (behind kind.Sign (codes ":") (attrs_with e))) (λ p. E p.0 then (Sign (codes ":") then MaybeListed (AttrOf E) p.1)) (BodyOf E)
      (both_found e (behind kind.Sign (codes ":") (attrs_with e)) E (λ qs. Sign (codes ":") then MaybeListed (AttrOf E) qs) finds (behind_found (attrs_with e) (MaybeListed (AttrOf E)) attrs_found kind.Sign (codes ":")))
      (λ at p us s. s)

  -- one body or more with `;` between them are bodies
  some_bodies : (bs : List Body) (us : List Lexeme) → bs ≢ [] → ListedBy (codes ";") (BodyOf E) bs us → BodiesOf E bs us
  some_bodies [] us n h = absurd (n refl)
  some_bodies (b ∷ bs) us n h = h

  -- what is read as bodies is spelled so
  pub bodies_found : Finds (bodies_with e) (BodiesOf E)
  bodies_found ts x h = by_test (unclosed ts) refl h
    where
      by_test : (v : Bool) → unclosed ts ≡ v → cond v (listed (codes ";") unclosed (body_with e) (length ts + 1) ts) None ≡ Some x → Begins (BodiesOf E x.0) ts x.1
      by_test false p k = cc
      by_test true p k =
          maps (λ us. some_bodies x.0 us (listed_some (codes ";") unclosed (body_with e) (BodyOf E) body_found (length ts + 1) ts x p k)) (listed_found (codes ";") unclosed (body_with e) (BodyOf E) body_found (length ts + 1) ts x k)

-- ---- searches

module _ (p : Reader Expr) (E : Spells Expr) (finds : Finds p (PostfixOf E)) (s : Reader Search) (S : Spells Search) (inner : Finds s S) where
  -- what is read behind a name is a comparison of it, spelled so
  compared_found : (name : List ℕ) (ts mid : List Lexeme) (r : Found ℕ) (x : Search × List Lexeme) → Begins (NameOf name) ts mid → mark kind.Sign (codes "==") mid ≡ r → compared_or p name r mid ≡ Some x → Begins (AtomOf E S x.0) ts x.1
  compared_found name ts mid (Some o) x n q h =
      let v = bind_some (p o.1) (λ v. Some (search.Equal name v.0, v.1)) x h in
      let same : ◌≡◌ {A = Search × List Lexeme} (search.Equal name v.0.0, v.0.1) x = cc in
      subst (λ (y : Search × List Lexeme). Begins (AtomOf E S y.0) ts y.1) same
      (maps (λ us t. grammar.equal name v.0.0 refl t) (joins n (joins (marked kind.Sign (codes "==") mid o q) (finds o.1 v.0 v.1))))
  compared_found name ts mid None x n q h =
      let o = bind_some (mark kind.Sign (codes "!=") mid) (λ o. p o.1 >>= λ v. Some (search.Differ name v.0, v.1)) x h in
      let v = bind_some (p o.0.1) (λ v. Some (search.Differ name v.0, v.1)) x o.2 in
      let same : ◌≡◌ {A = Search × List Lexeme} (search.Differ name v.0.0, v.0.1) x = cc in
      subst (λ (y : Search × List Lexeme). Begins (AtomOf E S y.0) ts y.1) same
      (maps (λ us t. grammar.differ name v.0.0 refl t) (joins n (joins (marked kind.Sign (codes "!=") mid o.0 o.1) (finds o.0.1 v.0 v.1))))

  -- what is read in brackets or without is an atom of a search, spelled so
  atom_by : (ts : List Lexeme) (r : Found ℕ) (x : Search × List Lexeme) → mark kind.Sign (codes "(") ts ≡ r → atom_or p s r ts ≡ Some x → Begins (AtomOf E S x.0) ts x.1
  atom_by ts (Some o) x q h = maps (λ us t. grammar.AtomOf.enclosed t) (joins (marked kind.Sign (codes "(") ts o q) (before_found s S inner kind.Sign (codes ")") o.1 x h))
  atom_by ts None x q h =
      let n = bind_some (taken name_by ts) (λ n. compared_with p n.0 n.1) x h in
      compared_found n.0.0 ts n.0.1 (mark kind.Sign (codes "==") n.0.1) x (name_found ts n.0 n.1) refl n.2

  -- what is read as an atom of a search is spelled so
  atom_found : Finds (atom_with p s) (AtomOf E S)
  atom_found ts x h = atom_by ts (mark kind.Sign (codes "(") ts) x refl h

  -- what is read as `and` with atoms is spelled so
  ands_found : (n : ℕ) → Finds (ands_with p s n) (Each (Keyword (codes "and")) (AtomOf E S))
  ands_found =
      many_found (begins kind.Keyword (codes "and")) (behind kind.Keyword (codes "and") (atom_with p s)) (λ y. Keyword (codes "and") then AtomOf E S y)
      (behind_found (atom_with p s) (AtomOf E S) atom_found kind.Keyword (codes "and")) (Each (Keyword (codes "and")) (AtomOf E S)) refl (each_next (Keyword (codes "and")) (AtomOf E S))

  -- an atom and others with `and` before them are a conjunction
  all_are : (y : Search) (ys : List Search) (z : Search) (us : List Lexeme) → all_of (y ∷ ys) ≡ Some z → (AtomOf E S y then Each (Keyword (codes "and")) (AtomOf E S) ys) us → ConjunctionOf E S z us
  all_are y [] z us h t =
      let same : y ≡ z = cc in
      subst (λ (q : Search). ConjunctionOf E S q us) same (grammar.ConjunctionOf.atom (subst (AtomOf E S y) (sym (t.whole ∙ ap (λ r. t.front ++ r) t.second ∙ Rattle.std.proofs.lemmas.List.append-nil t.front)) t.first))
  all_are y (x ∷ ys) z us h t =
      let same : search.And (y ∷ x ∷ ys) ≡ z = cc in
      subst (λ (q : Search). ConjunctionOf E S q us) same (grammar.ConjunctionOf.conjunction y x ys refl t)

  -- what is read as a conjunction is spelled so
  conjunction_found : Finds (conjunction_with p s) (ConjunctionOf E S)
  conjunction_found ts x h =
      let a = bind_some (atom_with p s ts) (λ y. with_front (y.0 ∷ []) (ands_with p s (length y.1 + 1) y.1) >>= λ ys. all_of ys.0 >>= λ z. Some (z, ys.1)) x h in
      let b = bind_some (with_front (a.0.0 ∷ []) (ands_with p s (length a.0.1 + 1) a.0.1)) (λ ys. all_of ys.0 >>= λ z. Some (z, ys.1)) x a.2 in
      let l = front_some a.0.0 (ands_with p s (length a.0.1 + 1) a.0.1) b.0 b.1 in
      let k = subst (λ (q : List Search × List Lexeme). (all_of q.0 >>= λ z. Some (z, q.1)) ≡ Some x) (sym l.2) b.2 in
      let c = bind_some (all_of (a.0.0 ∷ l.0.0)) (λ z. Some (z, l.0.1)) x k in
      let same : ◌≡◌ {A = Search × List Lexeme} (c.0, l.0.1) x = cc in
      subst (λ (y : Search × List Lexeme). Begins (ConjunctionOf E S y.0) ts y.1) same
      (maps (λ us. all_are a.0.0 l.0.0 c.0 us c.1) (joins (atom_found ts a.0 a.1) (ands_found (length a.0.1 + 1) a.0.1 l.0 l.1)))

  -- what is read as `or` with conjunctions is spelled so
  ors_found : (n : ℕ) → Finds (ors_with p s n) (Each (Keyword (codes "or")) (ConjunctionOf E S))
  ors_found =
      many_found (begins kind.Keyword (codes "or")) (behind kind.Keyword (codes "or") (conjunction_with p s)) (λ y. Keyword (codes "or") then ConjunctionOf E S y)
      (behind_found (conjunction_with p s) (ConjunctionOf E S) conjunction_found kind.Keyword (codes "or")) (Each (Keyword (codes "or")) (ConjunctionOf E S)) refl (each_next (Keyword (codes "or")) (ConjunctionOf E S))

  -- a conjunction and others with `or` before them are a search
  any_is : (y : Search) (ys : List Search) (z : Search) (us : List Lexeme) → any_of (y ∷ ys) ≡ Some z → (ConjunctionOf E S y then Each (Keyword (codes "or")) (ConjunctionOf E S) ys) us → SearchOf E S z us
  any_is y [] z us h t =
      let same : y ≡ z = cc in
      subst (λ (q : Search). SearchOf E S q us) same (grammar.SearchOf.conjunction (subst (ConjunctionOf E S y) (sym (t.whole ∙ ap (λ r. t.front ++ r) t.second ∙ Rattle.std.proofs.lemmas.List.append-nil t.front)) t.first))
  any_is y (x ∷ ys) z us h t =
      let same : search.Or (y ∷ x ∷ ys) ≡ z = cc in
      subst (λ (q : Search). SearchOf E S q us) same (grammar.SearchOf.disjunction y x ys refl t)

  -- what is read as a search is spelled so, if it holds of the searches in its brackets
  pub search_found : Finds (search_with p s) (SearchOf E S)
  search_found ts x h =
      let a = bind_some (conjunction_with p s ts) (λ y. with_front (y.0 ∷ []) (ors_with p s (length y.1 + 1) y.1) >>= λ ys. any_of ys.0 >>= λ z. Some (z, ys.1)) x h in
      let b = bind_some (with_front (a.0.0 ∷ []) (ors_with p s (length a.0.1 + 1) a.0.1)) (λ ys. any_of ys.0 >>= λ z. Some (z, ys.1)) x a.2 in
      let l = front_some a.0.0 (ors_with p s (length a.0.1 + 1) a.0.1) b.0 b.1 in
      let k = subst (λ (q : List Search × List Lexeme). (any_of q.0 >>= λ z. Some (z, q.1)) ≡ Some x) (sym l.2) b.2 in
      let c = bind_some (any_of (a.0.0 ∷ l.0.0)) (λ z. Some (z, l.0.1)) x k in
      let same : ◌≡◌ {A = Search × List Lexeme} (c.0, l.0.1) x = cc in
      subst (λ (y : Search × List Lexeme). Begins (SearchOf E S y.0) ts y.1) same
      (maps (λ us. any_is a.0.0 l.0.0 c.0 us c.1) (joins (conjunction_found ts a.0 a.1) (ors_found (length a.0.1 + 1) a.0.1 l.0 l.1)))

module _ (p : Reader Expr) (E : Spells Expr) (finds : Finds p (PostfixOf E)) where
  -- what is read as a search is spelled so, with brackets nested less deep than this
  pub search_at_found : (depth : ℕ) → Finds (search_at p depth) (IsSearchAt E depth)
  search_at_found zero ts x h = cc
  search_at_found (suc depth) ts x h = search_found p E finds (search_at p depth) (IsSearchAt E depth) (search_at_found depth) ts x h

  -- what is read as a search, or as none, is spelled so
  pub sought_found : Finds (sought_with p) (MaybeSearch E)
  sought_found ts x h = by_test (begins kind.Sign (codes "|>") ts) h
    where
      by_test : (v : Bool) → cond v (Some (None, ts)) (search_at p (length ts + 1) ts >>= λ y. Some (Some y.0, y.1)) ≡ Some x → Begins (MaybeSearch E x.0) ts x.1
      by_test true k =
          let same : ◌≡◌ {A = Option Search × List Lexeme} (None, ts) x = cc in
          subst (λ (y : Option Search × List Lexeme). Begins (MaybeSearch E y.0) ts y.1) same (record { front = []; spelled = refl; whole = refl })
      by_test false k =
          let a = bind_some (search_at p (length ts + 1) ts) (λ y. Some (Some y.0, y.1)) x k in
          let same : ◌≡◌ {A = Option Search × List Lexeme} (Some a.0.0, a.0.1) x = cc in
          subst (λ (y : Option Search × List Lexeme). Begins (MaybeSearch E y.0) ts y.1) same (maps (λ us t. (length ts + 1, t)) (search_at_found (length ts + 1) ts a.0 a.1))
