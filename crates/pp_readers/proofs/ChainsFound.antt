-- What is read is spelled: operands, chains, assignments and calls.
use Rattle.std.proofs.Common.{◌≡◌, ◌≢◌, ℕ, ◌+◌, Bool, true, false, cond, List, [], ◌∷◌, ◌++◌, length, Option, Some, None, refl, sym, ap, subst, ◌∙◌, append_assoc}
use Rattle.std.specs.Prelude.{codes}
use Rattle.pp_syntax.specs.declared.token.Kind.{Kind}
use Rattle.pp_syntax.specs.declared.token.Kind.TheVariants as kind
use Rattle.pp_syntax.specs.declared.tree.Expr.{Expr}
use Rattle.pp_syntax.specs.declared.tree.Body.{Body}
use Rattle.pp_syntax.specs.declared.tree.Search.{Search}
use Rattle.pp_syntax.specs.declared.tree.Operand.{Operand}
use Rattle.pp_syntax.specs.declared.tree.Operand.TheVariants as operand
use Rattle.pp_syntax.specs.declared.tree.Arrow.{Arrow}
use Rattle.pp_syntax.specs.declared.tree.Stmt.{Stmt}
use Rattle.pp_syntax.specs.declared.tree.Stmt.TheVariants as stmt
use Rattle.pp_syntax.specs.Tokens.{Lexeme}
use Rattle.pp_syntax.specs.Phrases as phrases
use Rattle.pp_syntax.specs.Phrases.{◌then◌, Sign, Keyword, Loose, Comma, Each, Separated, Listed, place_of}
use Rattle.pp_syntax.specs.Derivation.{PostfixOf, ReferenceOf}
use Rattle.pp_syntax.specs.Statements.{BodiesOf, InBraces, MaybeSearch, OperandOf, ArrowOf, Links, StandsAlone, VariableOf, word_of, ArgsOf, begins_with_bracket, StmtOf}
use Rattle.pp_syntax.specs.Statements as grammar
use Rattle.pp_readers.specs.Marks.{Found, front_of, first_at, mark}
use Rattle.rh_base.specs.Reading.{◌>>=◌}
use Rattle.pp_readers.specs.Parsed.{Begins}
use Rattle.pp_readers.specs.Expressions.{with_front, reference_with, postfix_with}
use Rattle.pp_readers.proofs.Tokens.{joins, maps, marked}
use Rattle.pp_readers.proofs.Finding.{Finds, items_found}
use Rattle.pp_readers.proofs.Found.{first_is}
use Rattle.pp_readers.specs.Combining.{Reader, both, behind, before, in_braces, begins, many}
use Rattle.pp_readers.specs.Names.{taken, variable_by, ref_by, function_by, type_by, arrow_by, begins_arrow, begins_bracket}
use Rattle.pp_readers.specs.Statements.{bodies_with, sought_with, resource_of, declared_with, resource_with, virtual_with, class_of, class_with, collector_of, collector_with, named_one, reference_operand, named_all, references_in, references_with, collects, collected_with, operand_by, operand_with, link_with, sides_of, arrows_of, with_links, sides_with, is_named, chain_of, chain_with, assign_of, assign_with, more_args, bare_with, args_or, args_with, call_of, call_with}
use Rattle.pp_readers.proofs.Combining.{Spells, both_found, behind_found, before_found, in_braces_found, made_found, placed_found, first_token, some_token, many_found}
use Rattle.pp_readers.proofs.Names.{TypeName, variable_found, ref_found, function_found, type_found, arrow_found}
use Rattle.pp_readers.proofs.BodiesFound.{front_nil, then_some, front_some, each_next, bodies_found, sought_found}
use Rattle.rh_base.proofs.Options.{bind_some}

-- a token is no empty list of tokens
pub some_of : (k : Kind) (s : List ℕ) → phrases.Some k s [] → ⊥
some_of k s t = let no : ◌≡◌ {A = List Lexeme} [] (record { kind = k; text = s; at = t.0 } ∷ []) = t.1 in cc

module _ (e : Reader Expr) (E : Spells Expr) (finds : Finds e E) (refs : Finds (reference_with e) (ReferenceOf E)) (post : Finds (postfix_with e) (PostfixOf E)) (some : (y : Expr) → E y [] → ⊥) where
  -- ---- operands

  -- what is read as bodies in braces is spelled so
  braced : Finds (in_braces (bodies_with e)) (λ bs. InBraces (BodiesOf E bs))
  braced = in_braces_found (bodies_with e) (BodiesOf E) (bodies_found e E finds)

  -- a type's name and bodies in braces
  abbrev Declared : List ℕ × List Body → List Lexeme → Type 0
  Declared p = TypeName p.0 then InBraces (BodiesOf E p.1)

  -- what is read as a type's name and bodies is spelled so
  declared_found : Finds (declared_with e) Declared
  declared_found = both_found (taken type_by) (in_braces (bodies_with e)) TypeName (λ bs. InBraces (BodiesOf E bs)) type_found braced

  -- such a declaration is a resource
  is_resource : (p : List ℕ × List Body) (us : List Lexeme) → Declared p us → OperandOf E (resource_of false (place_of us) p) us
  is_resource p us s =
      let words : (phrases.Some kind.Word p.0 then InBraces (BodiesOf E p.1)) us = record { front = s.front; back = s.back; first = s.first.0; second = s.second; whole = s.whole } in
      grammar.resource (place_of us) false p.0 p.1 refl refl s.first.1 (record { front = []; back = us; first = refl; second = words; whole = refl })

  -- what is read as a resource is spelled so
  resource_found : Finds (resource_with e) (OperandOf E)
  resource_found = placed_found (resource_of false) (declared_with e) Declared (OperandOf E) declared_found (λ p. then_some (TypeName p.0) (InBraces (BodiesOf E p.1)) (λ t. some_of kind.Word p.0 t.0)) is_resource

  -- with `@` before it, it is a virtual resource
  is_virtual : (p : List ℕ × List Body) (us : List Lexeme) → (Sign (codes "@") then Declared p) us → OperandOf E (resource_of true (place_of us) p) us
  is_virtual p us h =
      let s = h.second in
      let words : (phrases.Some kind.Word p.0 then InBraces (BodiesOf E p.1)) h.back = record { front = s.front; back = s.back; first = s.first.0; second = s.second; whole = s.whole } in
      grammar.resource (place_of us) true p.0 p.1 refl refl s.first.1 (record { front = h.front; back = h.back; first = h.first; second = words; whole = h.whole })

  -- what is read as a virtual resource is spelled so
  virtual_found : Finds (virtual_with e) (OperandOf E)
  virtual_found =
      placed_found (resource_of true) (behind kind.Sign (codes "@") (declared_with e)) (λ p. Sign (codes "@") then Declared p) (OperandOf E) (behind_found (declared_with e) Declared declared_found kind.Sign (codes "@"))
      (λ p. some_token kind.Sign (codes "@") (Declared p)) is_virtual

  -- what is read as a class that is declared is spelled so
  class_found : Finds (class_with e) (OperandOf E)
  class_found =
      placed_found class_of (behind kind.Keyword (codes "class") (in_braces (bodies_with e))) (λ bs. Keyword (codes "class") then InBraces (BodiesOf E bs)) (OperandOf E)
      (behind_found (in_braces (bodies_with e)) (λ bs. InBraces (BodiesOf E bs)) braced kind.Keyword (codes "class"))
      (λ bs. some_token kind.Keyword (codes "class") (InBraces (BodiesOf E bs)))
      (λ bs us s. grammar.OperandOf.class (place_of us) bs refl (first_token kind.Keyword (codes "class") (InBraces (BodiesOf E bs)) us s))

  -- a search, or none, between `<|` and `|>`
  abbrev Collected : Option Search → List Lexeme → Type 0
  Collected y = Sign (codes "<|") then (MaybeSearch E y then Sign (codes "|>"))

  -- what is read as a collector is spelled so
  collector_found : Finds (collector_with e) (OperandOf E)
  collector_found =
      placed_found collector_of (both (taken ref_by) (behind kind.Sign (codes "<|") (before (sought_with (postfix_with e)) kind.Sign (codes "|>")))) (λ p. phrases.Some kind.Ref p.0 then Collected p.1) (OperandOf E)
      (both_found (taken ref_by) (behind kind.Sign (codes "<|") (before (sought_with (postfix_with e)) kind.Sign (codes "|>"))) (phrases.Some kind.Ref) Collected ref_found
      (behind_found (before (sought_with (postfix_with e)) kind.Sign (codes "|>")) (λ y. MaybeSearch E y then Sign (codes "|>")) (before_found (sought_with (postfix_with e)) (MaybeSearch E) (sought_found (postfix_with e) E post) kind.Sign (codes "|>")) kind.Sign (codes "<|")))
      (λ p. some_token kind.Ref p.0 (Collected p.1))
      (λ p us s. grammar.collector (place_of us) p.0 p.1 refl (first_token kind.Ref p.0 (Collected p.1) us s))

  -- what is read as one reference is an operand spelled so
  reference_found : Finds (reference_operand e) (OperandOf E)
  reference_found = made_found named_one (reference_with e) (ReferenceOf E) (OperandOf E) refs (λ at x us s. grammar.OperandOf.reference x refl s)

  -- what is read as references in brackets is an operand spelled so
  references_found : Finds (references_with e) (OperandOf E)
  references_found =
      made_found named_all (behind kind.Loose (codes "[") (references_in e)) (λ xs. Loose then (Listed (ReferenceOf E) xs then Sign (codes "]"))) (OperandOf E)
      (behind_found (references_in e) (λ xs. Listed (ReferenceOf E) xs then Sign (codes "]")) (λ ts x h. items_found (reference_with e) (ReferenceOf E) refs (codes "]") (length ts + 1) ts x h) kind.Loose (codes "["))
      (λ at xs us s. grammar.references xs refl s)

  -- what is read behind a type's name, as a collector or a reference, is spelled so
  collected_found : Finds (collected_with e) (OperandOf E)
  collected_found ts x h = by_test (collects (front_of ts)) h
    where
      by_test : (v : Bool) → cond v (collector_with e ts) (reference_operand e ts) ≡ Some x → Begins (OperandOf E x.0) ts x.1
      by_test true k = collector_found ts x k
      by_test false k = reference_found ts x k

  -- what is read by the kind of its first token is an operand spelled so
  operand_kind : (k : Kind) (ts : List Lexeme) (x : Operand × List Lexeme) → operand_by e k ts ≡ Some x → Begins (OperandOf E x.0) ts x.1
  operand_kind kind.Word ts x h = resource_found ts x h
  operand_kind kind.Sign ts x h = virtual_found ts x h
  operand_kind kind.Keyword ts x h = class_found ts x h
  operand_kind kind.Ref ts x h = collected_found ts x h
  operand_kind kind.Loose ts x h = references_found ts x h
  operand_kind kind.Var ts x h = cc
  operand_kind kind.Int ts x h = cc
  operand_kind kind.Float ts x h = cc
  operand_kind kind.Sq ts x h = cc
  operand_kind kind.DqOpen ts x h = cc
  operand_kind kind.DqText ts x h = cc
  operand_kind kind.DqVar ts x h = cc
  operand_kind kind.Hole ts x h = cc
  operand_kind kind.HoleEnd ts x h = cc
  operand_kind kind.DqClose ts x h = cc
  operand_kind kind.Tight ts x h = cc
  operand_kind kind.LeftOut ts x h = cc

  -- what is read as an operand of a chain is spelled so
  operand_found : Finds (operand_with e) (OperandOf E)
  operand_found [] x h = cc
  operand_found (t ∷ ts) x h = operand_kind t.kind (t ∷ ts) x h

  -- ---- chains

  -- arrows, each with an operand behind it, as pairs
  Rows : List (Arrow × Operand) → List Lexeme → Type 0
  Rows ls = Links E (arrows_of ls) (sides_of ls)

  -- an arrow and an operand before others are some
  rows_next : (l : Arrow × Operand) (ls : List (Arrow × Operand)) (us vs : List Lexeme) → (ArrowOf l.0 then OperandOf E l.1) us → Rows ls vs → Rows (l ∷ ls) (us ++ vs)
  unfolding Rows
  rows_next l ls us vs p r = record {
    front = p.front;
    back = p.back ++ vs;
    first = p.first;
    second = record { front = p.back; back = vs; first = p.second; second = r; whole = refl };
    whole = ap (λ r. r ++ vs) p.whole ∙ append_assoc p.front p.back vs;
  }

  -- no tokens are none of them
  rows_none : Rows [] []
  unfolding Rows
  rows_none = refl

  -- what is read as arrows with operands is spelled so
  links_found : (n : ℕ) → Finds (many begins_arrow (link_with e) n) Rows
  links_found =
      many_found begins_arrow (link_with e) (λ l. ArrowOf l.0 then OperandOf E l.1) (both_found (taken arrow_by) (operand_with e) ArrowOf (OperandOf E) arrow_found operand_found) Rows rows_none rows_next

  -- the sides of a chain, and the arrows between them
  Sides : List Operand × List Arrow → List Lexeme → Type 0
  Sides ([], arrows) us = ⊥
  Sides (y ∷ ys, arrows) us = (OperandOf E y then Links E arrows ys) us

  -- where links are found behind an operand, they are its sides and arrows
  linked : (y : Operand) (r : Found (List (Arrow × Operand))) (z : (List Operand × List Arrow) × List Lexeme) → with_links (y ∷ []) [] r ≡ Some z → (l : List (Arrow × Operand) × List Lexeme) × (r ≡ Some l) × (((y ∷ sides_of l.0, arrows_of l.0), l.1) ≡ z)
  linked y None z h = cc
  linked y (Some l) z h = (l, refl, cc)

  -- what is read as the sides and arrows of a chain is spelled so
  sides_found : Finds (sides_with e) Sides
  unfolding Sides Rows
  sides_found ts x h =
      let a = bind_some (operand_with e ts) (λ y. with_links (y.0 ∷ []) [] (many begins_arrow (link_with e) (length y.1 + 1) y.1)) x h in
      let l = linked a.0.0 (many begins_arrow (link_with e) (length a.0.1 + 1) a.0.1) x a.2 in
      subst (λ (y : (List Operand × List Arrow) × List Lexeme). Begins (Sides y.0) ts y.1) l.2 (joins (operand_found ts a.0 a.1) (links_found (length a.0.1 + 1) a.0.1 l.0 l.1))

  -- an operand that is no reference may stand alone
  alone : (y : Operand) → is_named y ≡ false → StandsAlone y []
  alone (operand.Declare at virtual name bodies) h = tt
  alone (operand.Collect at name sought) h = tt
  alone (operand.Named xs) h = cc

  -- with others behind it each operand may stand
  in_company : (y z : Operand) (ys : List Operand) → StandsAlone y (z ∷ ys)
  in_company (operand.Declare at virtual name bodies) z ys = tt
  in_company (operand.Collect at name sought) z ys = tt
  in_company (operand.Named xs) z ys = tt

  -- sides and arrows that make a chain are a statement
  is_chain : (S : Spells Stmt) (at : ℕ) (p : List Operand × List Arrow) (y : Stmt) (us : List Lexeme) → at ≡ place_of us → Sides p us → chain_of at p ≡ Some y → StmtOf E S y us
  unfolding Sides
  is_chain S at ([], arrows) y us q s h = absurd s
  is_chain S at (x ∷ [], arrows) y us q s h = by_test (is_named x) refl h
    where
      by_test : (v : Bool) → is_named x ≡ v → cond v None (Some (stmt.Chain at (x ∷ []) arrows)) ≡ Some y → StmtOf E S y us
      by_test true p k = cc
      by_test false p k =
          let same : stmt.Chain at (x ∷ []) arrows ≡ y = cc in
          subst (λ (z : Stmt). StmtOf E S z us) same (grammar.chain at x [] arrows refl q s (alone x p))
  is_chain S at (x ∷ z ∷ sides, arrows) y us q s h =
      let same : stmt.Chain at (x ∷ z ∷ sides) arrows ≡ y = cc in
      subst (λ (z : Stmt). StmtOf E S z us) same (grammar.chain at x (z ∷ sides) arrows refl q s (in_company x z sides))

  -- an operand isn't spelled by no tokens
  operand_some : (y : Operand) (us : List Lexeme) → OperandOf E y us → us ≢ []
  operand_some y us (grammar.resource at true name bs p q r s) n = some_token kind.Sign (codes "@") (phrases.Some kind.Word name then InBraces (BodiesOf E bs)) (subst (λ us. (Sign (codes "@") then (phrases.Some kind.Word name then InBraces (BodiesOf E bs))) us) n s)
  operand_some y us (grammar.resource at false name bs p q r s) n =
      some_token kind.Word name (InBraces (BodiesOf E bs)) (subst (λ us. (phrases.Some kind.Word name then InBraces (BodiesOf E bs)) us) (sym (ap (λ r. r ++ s.back) s.first) ∙ sym s.whole ∙ n) s.second)
  operand_some y us (grammar.OperandOf.class at bs p s) n = let no : ◌≡◌ {A = List Lexeme} [] (record { kind = kind.Keyword; text = codes "class"; at = at } ∷ s.back) = sym n ∙ s.whole ∙ ap (λ r. r ++ s.back) s.first in cc
  operand_some y us (grammar.collector at name sought p s) n = let no : ◌≡◌ {A = List Lexeme} [] (record { kind = kind.Ref; text = name; at = at } ∷ s.back) = sym n ∙ s.whole ∙ ap (λ r. r ++ s.back) s.first in cc
  operand_some y us (grammar.OperandOf.reference x p r) n =
      let s = r.spelled in
      let no : ◌≡◌ {A = List Lexeme} [] (record { kind = kind.Ref; text = r.name; at = x.at } ∷ s.back) = sym n ∙ s.whole ∙ ap (λ r. r ++ s.back) s.first in
      cc
  operand_some y us (grammar.references xs p s) n = some_token kind.Loose (codes "[") (Listed (ReferenceOf E) xs then Sign (codes "]")) (subst (λ us. (Loose then (Listed (ReferenceOf E) xs then Sign (codes "]"))) us) n s)

  -- the sides of a chain aren't spelled by no tokens
  sides_some : (p : List Operand × List Arrow) (us : List Lexeme) → Sides p us → us ≢ []
  unfolding Sides
  sides_some ([], arrows) us s n = absurd s
  sides_some (y ∷ ys, arrows) us s n = operand_some y s.front s.first (front_nil s.front s.back (sym n ∙ s.whole))

  -- what is read as a chain is a statement spelled so
  pub chain_found : (S : Spells Stmt) → Finds (chain_with e) (StmtOf E S)
  chain_found S ts x h =
      let l = bind_some (sides_with e ts) (λ l. chain_of (first_at ts) l.0 >>= λ s. Some (s, l.1)) x h in
      let c = bind_some (chain_of (first_at ts) l.0.0) (λ s. Some (s, l.0.1)) x l.2 in
      let b = sides_found ts l.0 l.1 in
      let same : ◌≡◌ {A = Stmt × List Lexeme} (c.0, l.0.1) x = cc in
      let place : first_at ts ≡ place_of b.front = first_is b.front l.0.1 ts b.whole (sides_some l.0.0 b.front b.spelled) in
      subst (λ (y : Stmt × List Lexeme). Begins (StmtOf E S y.0) ts y.1) same (maps (λ us s. s) (record { front = b.front; spelled = is_chain S (first_at ts) l.0.0 c.0 b.front place b.spelled c.1; whole = b.whole }))

  -- ---- assignments and calls

  -- what is read as an assignment is a statement spelled so
  pub assign_found : (S : Spells Stmt) → Finds (assign_with e) (StmtOf E S)
  assign_found S =
      placed_found assign_of (both (taken variable_by) (behind kind.Sign (codes "=") e)) (λ p. VariableOf p.0 then (Sign (codes "=") then E p.1)) (StmtOf E S)
      (both_found (taken variable_by) (behind kind.Sign (codes "=") e) VariableOf (λ v. Sign (codes "=") then E v) variable_found (behind_found e E finds kind.Sign (codes "=")))
      (λ p. then_some (VariableOf p.0) (Sign (codes "=") then E p.1) (λ t. some_of kind.Var (36 ∷ p.0) t.0))
      (λ p us s. grammar.assign (place_of us) p.0 p.1 refl refl s)

  -- what is read as commas with arguments is spelled so
  more_found : (n : ℕ) → Finds (more_args e n) (Each Comma E)
  more_found = many_found (begins kind.Sign (codes ",")) (behind kind.Sign (codes ",") e) (λ y. Comma then E y) (behind_found e E finds kind.Sign (codes ",")) (Each Comma E) refl (each_next Comma E)

  -- what is read as arguments without brackets is spelled so
  bare_found : Finds (bare_with e) (Separated Comma E)
  bare_found ts x h =
      let a = bind_some (e ts) (λ x. with_front (x.0 ∷ []) (more_args e (length x.1 + 1) x.1)) x h in
      let l = front_some a.0.0 (more_args e (length a.0.1 + 1) a.0.1) x a.2 in
      subst (λ (y : List Expr × List Lexeme). Begins (Separated Comma E y.0) ts y.1) l.2 (joins (finds ts a.0 a.1) (more_found (length a.0.1 + 1) a.0.1 l.0 l.1))

  -- one argument or more aren't spelled by no tokens
  separated_some : (xs : List Expr) → Separated Comma E xs [] → ⊥
  separated_some [] s = s
  separated_some (x ∷ xs) s = then_some (E x) (Each Comma E xs) (some x) s

  -- tokens before a rest begin with no bracket, if all of it doesn't
  no_bracket : (us rest ts : List Lexeme) → ts ≡ us ++ rest → us ≢ [] → begins_bracket ts ≡ false → begins_with_bracket us ≡ false
  no_bracket [] rest ts e n h = absurd (n refl)
  no_bracket (t ∷ us) rest ts e n h = sym (ap begins_bracket e) ∙ h

  -- what is read in brackets or without is arguments spelled so
  args_by : (ts : List Lexeme) (r : Found ℕ) (x : List Expr × List Lexeme) → mark kind.Sign (codes "(") ts ≡ r → args_or e r ts ≡ Some x → Begins (ArgsOf E x.0) ts x.1
  args_by ts (Some o) x q h = maps (λ us s. grammar.bracketed s) (joins (marked kind.Sign (codes "(") ts o q) (items_found e E finds (codes ")") (length o.1 + 1) o.1 x h))
  args_by ts None x q h = by_test (begins_bracket ts) refl h
    where
      by_test : (v : Bool) → begins_bracket ts ≡ v → cond v None (bare_with e ts) ≡ Some x → Begins (ArgsOf E x.0) ts x.1
      by_test true p k = cc
      by_test false p k =
          let b = bare_found ts x k in
          record { front = b.front; spelled = grammar.bare b.spelled (no_bracket b.front x.1 ts b.whole (λ n. separated_some x.0 (subst (Separated Comma E x.0) n b.spelled)) p); whole = b.whole }

  -- what is read as the arguments of a call is spelled so
  args_found : Finds (args_with e) (ArgsOf E)
  args_found ts x h = args_by ts (mark kind.Sign (codes "(") ts) x refl h

  -- what is read as a call is a statement spelled so
  pub call_found : (S : Spells Stmt) → Finds (call_with e) (StmtOf E S)
  call_found S =
      placed_found call_of (both (taken function_by) (args_with e)) (λ p. phrases.Some kind.Word (word_of p.0) then ArgsOf E p.1) (StmtOf E S)
      (both_found (taken function_by) (args_with e) (λ f. phrases.Some kind.Word (word_of f)) (ArgsOf E) function_found args_found)
      (λ p. some_token kind.Word (word_of p.0) (ArgsOf E p.1))
      (λ p us s. grammar.call (place_of us) p.0 p.1 refl (first_token kind.Word (word_of p.0) (ArgsOf E p.1) us s))
