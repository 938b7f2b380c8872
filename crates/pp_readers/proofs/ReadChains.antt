-- What is spelled is read: operands, chains, assignments and calls.
use Rattle.std.proofs.Common.{◌≡◌, ◌≢◌, ℕ, ◌+◌, ◌<◌, true, false, cond, List, [], ◌∷◌, ◌++◌, length, Option, Some, None, refl, sym, ap, subst, ◌∙◌, length-append, arith}
use Rattle.std.specs.Prelude.{codes}
use Rattle.pp_syntax.specs.declared.token.Kind.{Kind}
use Rattle.pp_syntax.specs.declared.token.Kind.TheVariants as kind
use Rattle.pp_syntax.specs.declared.tree.Expr.{Expr}
use Rattle.pp_syntax.specs.declared.tree.Body.{Body}
use Rattle.pp_syntax.specs.declared.tree.Search.{Search}
use Rattle.pp_syntax.specs.declared.tree.Operand.{Operand}
use Rattle.pp_syntax.specs.declared.tree.Operand.TheVariants as operand
use Rattle.pp_syntax.specs.declared.tree.Arrow.{Arrow}
use Rattle.pp_syntax.specs.declared.tree.Arrow.TheVariants as arrow
use Rattle.pp_syntax.specs.declared.tree.Func.{Func}
use Rattle.pp_syntax.specs.declared.tree.Func.TheVariants as func
use Rattle.pp_syntax.specs.declared.tree.Stmt.TheVariants as stmt
use Rattle.pp_syntax.specs.Tokens.{Lexeme, is_among}
use Rattle.pp_syntax.specs.Phrases as phrases
use Rattle.pp_syntax.specs.Phrases.{◌then◌, Sign, Keyword, Tight, Loose, Comma, Each, Separated, Listed, place_of}
use Rattle.pp_syntax.specs.Derivation.{PostfixOf, ReferenceOf}
use Rattle.pp_syntax.specs.Statements.{BodiesOf, InBraces, MaybeSearch, OperandOf, ArrowOf, Links, StandsAlone, VariableOf, word_of, ArgsOf, begins_with_bracket, functions}
use Rattle.pp_syntax.specs.Statements as grammar
use Rattle.pp_readers.specs.Marks.{first_at, mark}
use Rattle.rh_base.specs.Reading.{◌>>=◌}
use Rattle.pp_readers.specs.Expressions.{with_front, reference_with, postfix_with}
use Rattle.pp_readers.proofs.Reading.{Fit, fits_first, fits_second, first_place}
use Rattle.pp_readers.proofs.Solid.{Begun, begun_some, no_close_first}
use Rattle.pp_readers.proofs.Listing.{bracket_closes, items_read}
use Rattle.pp_readers.proofs.Tokens.{mark_found}
use Rattle.pp_readers.specs.Combining.{Reader, both, behind, before, in_braces, begins, is_found, many}
use Rattle.pp_syntax.specs.Statements.{function_of}
use Rattle.pp_readers.specs.Names.{taken, variable_by, ref_by, function_by, unless_function, type_by, arrow_by, begins_arrow, begins_bracket}
use Rattle.pp_readers.specs.Statements.{bodies_with, sought_with, resource_of, declared_with, resource_with, virtual_with, class_of, class_with, collector_of, collector_with, named_one, reference_operand, named_all, references_in, references_with, operand_with, link_with, sides_of, arrows_of, with_links, sides_with, chain_of, chain_with, assign_of, assign_with, more_args, bare_with, args_or, args_with, call_of, call_with}
use Rattle.pp_readers.proofs.Combining.{Spells}
use Rattle.pp_readers.proofs.Names.{TypeName, function_none}
use Rattle.pp_readers.proofs.BodiesFound.{then_some}
use Rattle.pp_readers.proofs.ChainsFound.{some_of}
use Rattle.pp_readers.proofs.Blocks.{to_left}
use Rattle.pp_readers.proofs.Building.{Phrase, Always, ReadsBefore, mark_here, mark_not, split, both_read, behind_read, before_read, made_read, placed_read, taken_read, many_read, row_quiet}
use Rattle.pp_readers.proofs.ReadBodies.{Quiet, by_first, token_solid, braced_read}
use Rattle.pp_readers.proofs.ReadSearch.{NoSuffix, Collected, sought_read, begins_here, each_rest}
use Rattle.pp_readers.proofs.Quotes.{paren_closes}

-- ---- tokens

-- a type's name is read
type_read : ReadsBefore Always (taken type_by) TypeName
type_read x us rest t f q = taken_read type_by kind.Word x x us rest t.0 (ap (unless_function x) (function_none x t.1))

-- a type's name in capitals is read
pub ref_read : ReadsBefore Always (taken ref_by) (phrases.Some kind.Ref)
ref_read x us rest t f q = taken_read ref_by kind.Ref x x us rest t refl

-- a variable is read
pub variable_read : ReadsBefore Always (taken variable_by) VariableOf
variable_read x us rest t f q = taken_read variable_by kind.Var (36 ∷ x) x us rest t.0 (ap (λ v. cond v None (Some x)) t.1)

-- the word of a function is told to be that function
pub function_here : (f : Func) → function_of (word_of f) ≡ Some f
function_here func.Include = refl
function_here func.Require = refl
function_here func.Contain = refl
function_here func.Realize = refl
function_here func.Fail = refl
function_here func.Notice = refl
function_here func.Warning = refl

-- the word of this function
abbrev pub IsFunction : Func → Phrase
IsFunction f = phrases.Some kind.Word (word_of f)

-- a function is read
pub function_read : ReadsBefore Always (taken function_by) IsFunction
function_read f us rest t n q = taken_read function_by kind.Word (word_of f) f us rest t (function_here f)

-- an arrow is read
arrow_read : ReadsBefore Always (taken arrow_by) ArrowOf
arrow_read arrow.Before us rest t f q = taken_read arrow_by kind.Sign (codes "->") arrow.Before us rest t refl
arrow_read arrow.Notify us rest t f q = taken_read arrow_by kind.Sign (codes "~>") arrow.Notify us rest t refl
arrow_read arrow.After us rest t f q = taken_read arrow_by kind.Sign (codes "<-") arrow.After us rest t refl
arrow_read arrow.Follow us rest t f q = taken_read arrow_by kind.Sign (codes "<~") arrow.Follow us rest t refl

-- an arrow isn't spelled by no tokens
arrow_some : (a : Arrow) → ArrowOf a [] → ⊥
arrow_some arrow.Before t = some_of kind.Sign (codes "->") t
arrow_some arrow.Notify t = some_of kind.Sign (codes "~>") t
arrow_some arrow.After t = some_of kind.Sign (codes "<-") t
arrow_some arrow.Follow t = some_of kind.Sign (codes "<~") t

-- a token's place may be any
abbrev pub placeless : (k : Kind) (s : List ℕ) (at : ℕ) (B : Phrase) (us : List Lexeme) → (phrases.Token k s at then B) us → (phrases.Some k s then B) us
placeless k s at B us h = record { front = h.front; back = h.back; first = (at, h.first); second = h.second; whole = h.whole }

-- tokens that begin with a token stand at its place
pub place_is : (k : Kind) (s : List ℕ) (at : ℕ) (B : Phrase) (us : List Lexeme) → (phrases.Token k s at then B) us → place_of us ≡ at
place_is k s at B us h = ap place_of (h.whole ∙ ap (λ r. r ++ h.back) h.first)

-- the tokens, as the first and the others
pub first_of : (k : Kind) (s : List ℕ) (B : Phrase) (us rest : List Lexeme) (h : (phrases.Some k s then B) us) → us ++ rest ≡ record { kind = k; text = s; at = h.first.0 } ∷ (h.back ++ rest)
first_of k s B us rest h = split h.front h.back rest us h.whole ∙ ap (λ r. r ++ (h.back ++ rest)) h.first.1

module _ (e : Reader Expr) (E : Spells Expr) (reads : ReadsBefore Quiet e E) (begun : (y : Expr) (us : List Lexeme) → E y us → Begun us) (refs : ReadsBefore Always (reference_with e) (ReferenceOf E)) (post : ReadsBefore NoSuffix (postfix_with e) (PostfixOf E)) where
  -- ---- operands

  -- bodies in braces
  abbrev Braced : List Body → Phrase
  Braced bs = InBraces (BodiesOf E bs)

  -- bodies in braces are read
  braces : ReadsBefore Always (in_braces (bodies_with e)) Braced
  braces = braced_read e E reads begun

  -- a type's name and bodies are read
  declared_read : ReadsBefore Always (declared_with e) (λ p. TypeName p.0 then Braced p.1)
  declared_read = both_read (taken type_by) (in_braces (bodies_with e)) TypeName Braced Always Always type_read braces (λ y us rest s q. tt)

  -- a word that is no function, and bodies, are a type's name and bodies
  typed : (name : List ℕ) (bs : List Body) (us : List Lexeme) → is_among functions name ≡ false → (phrases.Some kind.Word name then Braced bs) us → (TypeName name then Braced bs) us
  typed name bs us n h = record { front = h.front; back = h.back; first = (h.first, n); second = h.second; whole = h.whole }

  -- a resource is read as an operand
  plain_read : (at : ℕ) (name : List ℕ) (bs : List Body) (us rest : List Lexeme) → at ≡ place_of us → is_among functions name ≡ false → (phrases.Some kind.Word name then Braced bs) us → Fit us → operand_with e (us ++ rest) ≡ Some (operand.Declare at false name bs, rest)
  plain_read at name bs us rest p n h f =
      let w = first_of kind.Word name (Braced bs) us rest h in
      ap (operand_with e) w ∙ ap (resource_with e) (sym w)
      ∙ placed_read (resource_of false) (declared_with e) (λ p. TypeName p.0 then Braced p.1) Always declared_read (name, bs) (operand.Declare at false name bs) us rest (typed name bs us n h) f tt (token_solid kind.Word name (Braced bs) us h)
      (ap (λ (a : ℕ). operand.Declare a false name bs) (sym p))

  -- a virtual resource is read as an operand
  virtual_read : (at : ℕ) (name : List ℕ) (bs : List Body) (us rest : List Lexeme) → at ≡ place_of us → is_among functions name ≡ false → (Sign (codes "@") then (phrases.Some kind.Word name then Braced bs)) us → Fit us
      → operand_with e (us ++ rest) ≡ Some (operand.Declare at true name bs, rest)
  virtual_read at name bs us rest p n h f =
      let w = first_of kind.Sign (codes "@") (phrases.Some kind.Word name then Braced bs) us rest h in
      let t : (Sign (codes "@") then (TypeName name then Braced bs)) us = record { front = h.front; back = h.back; first = h.first; second = typed name bs h.back n h.second; whole = h.whole } in
      ap (operand_with e) w ∙ ap (virtual_with e) (sym w)
      ∙ placed_read (resource_of true) (behind kind.Sign (codes "@") (declared_with e)) (λ p. Sign (codes "@") then (TypeName p.0 then Braced p.1)) Always
      (behind_read (declared_with e) (λ p. TypeName p.0 then Braced p.1) Always declared_read kind.Sign (codes "@")) (name, bs) (operand.Declare at true name bs) us rest t f tt (token_solid kind.Sign (codes "@") (TypeName name then Braced bs) us t)
      (ap (λ (a : ℕ). operand.Declare a true name bs) (sym p))

  -- a class that is declared is read as an operand
  class_read : (at : ℕ) (bs : List Body) (us rest : List Lexeme) → (phrases.Token kind.Keyword (codes "class") at then Braced bs) us → Fit us → operand_with e (us ++ rest) ≡ Some (operand.Declare at false (codes "class") bs, rest)
  class_read at bs us rest h f =
      let t = placeless kind.Keyword (codes "class") at (Braced bs) us h in
      let w = first_of kind.Keyword (codes "class") (Braced bs) us rest t in
      ap (operand_with e) w ∙ ap (class_with e) (sym w)
      ∙ placed_read class_of (behind kind.Keyword (codes "class") (in_braces (bodies_with e))) (λ bs. Keyword (codes "class") then Braced bs) Always
      (behind_read (in_braces (bodies_with e)) Braced Always braces kind.Keyword (codes "class")) bs (operand.Declare at false (codes "class") bs) us rest t f tt (token_solid kind.Keyword (codes "class") (Braced bs) us t)
      (ap (λ (a : ℕ). operand.Declare a false (codes "class") bs) (place_is kind.Keyword (codes "class") at (Braced bs) us h))

  -- a search, or none, between `<|` and `|>`
  abbrev Sought : Option Search → Phrase
  Sought y = Sign (codes "<|") then (MaybeSearch E y then Sign (codes "|>"))

  -- what a collector searches is read
  search_read : ReadsBefore Always (behind kind.Sign (codes "<|") (before (sought_with (postfix_with e)) kind.Sign (codes "|>"))) Sought
  search_read =
      behind_read (before (sought_with (postfix_with e)) kind.Sign (codes "|>")) (λ y. MaybeSearch E y then Sign (codes "|>")) Always
      (before_read (sought_with (postfix_with e)) (MaybeSearch E) Collected (sought_read (postfix_with e) E post) kind.Sign (codes "|>") (λ us rest t. (t.0, rest, ap (λ r. r ++ rest) t.1))) kind.Sign (codes "<|")

  -- a collector is read as an operand
  collector_read : (at : ℕ) (name : List ℕ) (sought : Option Search) (us rest : List Lexeme) → (phrases.Token kind.Ref name at then Sought sought) us → Fit us → operand_with e (us ++ rest) ≡ Some (operand.Collect at name sought, rest)
  collector_read at name sought us rest h f =
      let t = placeless kind.Ref name at (Sought sought) us h in
      let s = h.second in
      let v : h.back ++ rest ≡ record { kind = kind.Sign; text = codes "<|"; at = s.first.0 } ∷ (s.back ++ rest) = first_of kind.Sign (codes "<|") (MaybeSearch E sought then Sign (codes "|>")) h.back rest s in
      let w = first_of kind.Ref name (Sought sought) us rest t ∙ ap (λ r. record { kind = kind.Ref; text = name; at = at } ∷ r) v in
      ap (operand_with e) w ∙ ap (collector_with e) (sym w)
      ∙ placed_read collector_of (both (taken ref_by) (behind kind.Sign (codes "<|") (before (sought_with (postfix_with e)) kind.Sign (codes "|>")))) (λ p. phrases.Some kind.Ref p.0 then Sought p.1) Always
      (both_read (taken ref_by) (behind kind.Sign (codes "<|") (before (sought_with (postfix_with e)) kind.Sign (codes "|>"))) (phrases.Some kind.Ref) Sought Always Always ref_read search_read (λ y us rest s q. tt))
      (name, sought) (operand.Collect at name sought) us rest t f tt (token_solid kind.Ref name (Sought sought) us t)
      (ap (λ (a : ℕ). operand.Collect a name sought) (place_is kind.Ref name at (Sought sought) us h))

  -- one reference is read as an operand
  one_reference : (x : Expr) (us rest : List Lexeme) → ReferenceOf E x us → Fit us → operand_with e (us ++ rest) ≡ Some (operand.Named (x ∷ []), rest)
  one_reference x us rest r f =
      let h = r.spelled in
      let t = placeless kind.Ref r.name x.at (Tight then (Listed E r.titles then Sign (codes "]"))) us h in
      let v = first_of kind.Tight (codes "[") (Listed E r.titles then Sign (codes "]")) h.back rest h.second in
      let w = first_of kind.Ref r.name (Tight then (Listed E r.titles then Sign (codes "]"))) us rest t ∙ ap (λ q. record { kind = kind.Ref; text = r.name; at = x.at } ∷ q) v in
      ap (operand_with e) w ∙ ap (reference_operand e) (sym w)
      ∙ made_read named_one (reference_with e) (ReferenceOf E) Always refs x (operand.Named (x ∷ [])) us rest r f tt (λ at. refl)

  -- a reference has a token
  reference_solid : (x : Expr) (us : List Lexeme) → ReferenceOf E x us → 0 < length us
  reference_solid x us r = let h = r.spelled in omega (arith, ap length (h.whole ∙ ap (λ q. q ++ h.back) h.first))

  -- a reference doesn't begin with `]`
  reference_apart : (x : Expr) (us rest : List Lexeme) → ReferenceOf E x us → mark kind.Sign (codes "]") (us ++ rest) ≡ None
  reference_apart x us rest r = let h = r.spelled in ap (mark kind.Sign (codes "]")) (split h.front h.back rest us h.whole) ∙ ap (λ q. mark kind.Sign (codes "]") (q ++ (h.back ++ rest))) h.first

  -- references to their `]` are read
  references_in_read : ReadsBefore Always (references_in e) (λ xs. Listed (ReferenceOf E) xs then Sign (codes "]"))
  references_in_read xs us rest h f q =
      items_read (codes "]") bracket_closes (reference_with e) (ReferenceOf E) (λ y us rest r f l. refs y us rest r f tt) reference_solid reference_apart xs (length (us ++ rest) + 1) us rest h f (omega (arith, length-append us rest))

  -- references in brackets are read as an operand
  all_references : (xs : List Expr) (us rest : List Lexeme) → (Loose then (Listed (ReferenceOf E) xs then Sign (codes "]"))) us → Fit us → operand_with e (us ++ rest) ≡ Some (operand.Named xs, rest)
  all_references xs us rest h f =
      let w = first_of kind.Loose (codes "[") (Listed (ReferenceOf E) xs then Sign (codes "]")) us rest h in
      ap (operand_with e) w ∙ ap (references_with e) (sym w)
      ∙ made_read named_all (behind kind.Loose (codes "[") (references_in e)) (λ xs. Loose then (Listed (ReferenceOf E) xs then Sign (codes "]"))) Always
      (behind_read (references_in e) (λ xs. Listed (ReferenceOf E) xs then Sign (codes "]")) Always references_in_read kind.Loose (codes "[")) xs (operand.Named xs) us rest h f tt (λ at. refl)

  -- an operand of a chain is read
  pub operand_read : ReadsBefore Always (operand_with e) (OperandOf E)
  operand_read y us rest (grammar.resource at false name bs is p n s) f q =
      let h : (phrases.Some kind.Word name then Braced bs) us = subst (λ us. (phrases.Some kind.Word name then Braced bs) us) (sym (s.whole ∙ ap (λ r. r ++ s.back) s.first)) s.second in
      plain_read at name bs us rest p n h f ∙ ap (λ z. Some (z, rest)) (sym is)
  operand_read y us rest (grammar.resource at true name bs is p n s) f q = virtual_read at name bs us rest p n s f ∙ ap (λ z. Some (z, rest)) (sym is)
  operand_read y us rest (grammar.OperandOf.class at bs is s) f q = class_read at bs us rest s f ∙ ap (λ z. Some (z, rest)) (sym is)
  operand_read y us rest (grammar.collector at name sought is s) f q = collector_read at name sought us rest s f ∙ ap (λ z. Some (z, rest)) (sym is)
  operand_read y us rest (grammar.OperandOf.reference x is r) f q = one_reference x us rest r f ∙ ap (λ z. Some (z, rest)) (sym is)
  operand_read y us rest (grammar.references xs is s) f q = all_references xs us rest s f ∙ ap (λ z. Some (z, rest)) (sym is)

  -- ---- chains

  -- an arrow, and an operand behind it
  abbrev Link : Arrow × Operand → Phrase
  Link l = ArrowOf l.0 then OperandOf E l.1

  -- arrows, each with an operand behind it, as pairs
  abbrev Row : List (Arrow × Operand) → Phrase
  Row ls = Links E (arrows_of ls) (sides_of ls)

  -- an arrow and its operand are read
  link_read : ReadsBefore Always (link_with e) Link
  link_read = both_read (taken arrow_by) (operand_with e) ArrowOf (OperandOf E) Always Always arrow_read operand_read (λ y us rest s q. tt)

  -- they begin with an arrow
  link_begins : (l : Arrow × Operand) (us rest : List Lexeme) → Link l us → begins_arrow (us ++ rest) ≡ true
  link_begins l us rest h = ap begins_arrow (split h.front h.back rest us h.whole) ∙ ap is_found (by_arrow l.0 h.front h.first)
    where
      by_arrow : (a : Arrow) (vs : List Lexeme) → ArrowOf a vs → taken arrow_by (vs ++ (h.back ++ rest)) ≡ Some (a, h.back ++ rest)
      by_arrow arrow.Before vs t = taken_read arrow_by kind.Sign (codes "->") arrow.Before vs (h.back ++ rest) t refl
      by_arrow arrow.Notify vs t = taken_read arrow_by kind.Sign (codes "~>") arrow.Notify vs (h.back ++ rest) t refl
      by_arrow arrow.After vs t = taken_read arrow_by kind.Sign (codes "<-") arrow.After vs (h.back ++ rest) t refl
      by_arrow arrow.Follow vs t = taken_read arrow_by kind.Sign (codes "<~") arrow.Follow vs (h.back ++ rest) t refl

  -- they have a token
  link_solid : (l : Arrow × Operand) (us : List Lexeme) → Link l us → us ≢ []
  link_solid l us h n = then_some (ArrowOf l.0) (OperandOf E l.1) (arrow_some l.0) (subst (Link l) n h)

  -- no arrow stands first
  abbrev NoArrow : Phrase
  NoArrow rest = begins_arrow rest ≡ false

  -- such pairs are the first and the others
  row_rest : (l : Arrow × Operand) (ls : List (Arrow × Operand)) (us : List Lexeme) → Row (l ∷ ls) us → (Link l then Row ls) us
  row_rest l ls us h = to_left (ArrowOf l.0) (OperandOf E l.1) (Links E (arrows_of ls) (sides_of ls)) us h

  -- arrows with operands are read, before anything that is no arrow
  links_read : (ls : List (Arrow × Operand)) (n : ℕ) (us rest : List Lexeme) → Row ls us → Fit us → NoArrow rest → length us < n → many begins_arrow (link_with e) n (us ++ rest) ≡ Some (ls, rest)
  links_read = many_read begins_arrow (link_with e) Link Row NoArrow Always link_read link_begins link_solid (λ l us rest h. tt) (λ rest q. q) (λ rest q. tt) (λ us h. h) row_rest

  -- arrows and operands, as pairs
  record Paired (arrows : List Arrow) (sides : List Operand) (us : List Lexeme) : Type 0 where
    pub links : List (Arrow × Operand)
    pub arrows_are : arrows_of links ≡ arrows
    pub sides_are : sides_of links ≡ sides
    pub row : Row links us

  -- arrows and operands are spelled as pairs of them
  paired : (arrows : List Arrow) (sides : List Operand) (us : List Lexeme) → Links E arrows sides us → Paired arrows sides us
  paired [] [] us h = record { links = []; arrows_are = refl; sides_are = refl; row = h }
  paired [] (y ∷ ys) us h = absurd h
  paired (a ∷ arrows) [] us h = absurd h
  paired (a ∷ arrows) (y ∷ ys) us h =
      let p = paired arrows ys h.second.back h.second.second in
      record {
        links = (a, y) ∷ p.links;
        arrows_are = ap (λ r. a ∷ r) p.arrows_are;
        sides_are = ap (λ r. y ∷ r) p.sides_are;
        row = record { front = h.front; back = h.back; first = h.first; second = record { front = h.second.front; back = h.second.back; first = h.second.first; second = p.row; whole = h.second.whole }; whole = h.whole };
      }

  -- sides of which one alone is no reference make a chain
  stands : (at : ℕ) (y : Operand) (ys : List Operand) (arrows : List Arrow) → StandsAlone y ys → chain_of at (y ∷ ys, arrows) ≡ Some (stmt.Chain at (y ∷ ys) arrows)
  stands at (operand.Declare a virtual name bodies) [] arrows s = refl
  stands at (operand.Collect a name sought) [] arrows s = refl
  stands at (operand.Named xs) [] arrows s = absurd s
  stands at y (z ∷ ys) arrows s = refl

  -- the sides and arrows of a chain are read, before anything that is no arrow
  sides_read : (y : Operand) (ys : List Operand) (arrows : List Arrow) (us rest : List Lexeme) → (OperandOf E y then Links E arrows ys) us → Fit us → NoArrow rest → sides_with e (us ++ rest) ≡ Some ((y ∷ ys, arrows), rest)
  sides_read y ys arrows us rest h f q =
      let p = paired arrows ys h.back h.second in
      ap (sides_with e) (split h.front h.back rest us h.whole)
      ∙ ap (λ r. r >>= λ y. with_links (y.0 ∷ []) [] (many begins_arrow (link_with e) (length y.1 + 1) y.1)) (operand_read y h.front (h.back ++ rest) h.first (fits_first h.front h.back h.whole f) tt)
      ∙ ap (with_links (y ∷ []) []) (links_read p.links (length (h.back ++ rest) + 1) h.back rest p.row (fits_second h.front h.back h.whole f) q (omega (arith, length-append h.back rest)))
      ∙ ap (λ r. Some ((y ∷ r, arrows_of p.links), rest)) p.sides_are ∙ ap (λ r. Some ((y ∷ ys, r), rest)) p.arrows_are

  -- a chain is read, before anything that is no arrow
  pub chain_read : (at : ℕ) (y : Operand) (ys : List Operand) (arrows : List Arrow) (us rest : List Lexeme) → at ≡ place_of us → us ≢ [] → (OperandOf E y then Links E arrows ys) us → StandsAlone y ys → Fit us → begins_arrow rest ≡ false
      → chain_with e (us ++ rest) ≡ Some (stmt.Chain at (y ∷ ys) arrows, rest)
  chain_read at y ys arrows us rest p some h s f q =
      ap (λ r. r >>= λ l. chain_of (first_at (us ++ rest)) l.0 >>= λ s. Some (s, l.1)) (sides_read y ys arrows us rest h f q)
      ∙ ap (λ a. chain_of a (y ∷ ys, arrows) >>= λ s. Some (s, rest)) (first_place us rest some ∙ sym p) ∙ ap (λ r. r >>= λ s. Some (s, rest)) (stands at y ys arrows s)

  -- ---- assignments and calls

  -- VARIABLE = expr
  abbrev Assigned : List ℕ × Expr → Phrase
  Assigned p = VariableOf p.0 then (Sign (codes "=") then E p.1)

  -- an assignment is read
  pub assign_read : (at : ℕ) (name : List ℕ) (v : Expr) (us rest : List Lexeme) → at ≡ place_of us → Assigned (name, v) us → Fit us → Quiet rest → assign_with e (us ++ rest) ≡ Some (stmt.Assign at name v, rest)
  assign_read at name v us rest p h f q =
      placed_read assign_of (both (taken variable_by) (behind kind.Sign (codes "=") e)) Assigned Quiet
      (both_read (taken variable_by) (behind kind.Sign (codes "=") e) VariableOf (λ v. Sign (codes "=") then E v) Always Quiet variable_read (behind_read e E Quiet reads kind.Sign (codes "=")) (λ y us rest s q. tt))
      (name, v) (stmt.Assign at name v) us rest h f q (λ n. then_some (VariableOf name) (Sign (codes "=") then E v) (λ t. some_of kind.Var (36 ∷ name) t.0) (subst (Assigned (name, v)) n h))
      (ap (λ (a : ℕ). stmt.Assign a name v) (sym p))

  -- no operator and no comma
  abbrev pub EndsArgs : Phrase
  EndsArgs rest = Quiet rest × (begins kind.Sign (codes ",") rest ≡ false)

  -- a comma and an expression
  abbrev Next : Expr → Phrase
  Next y = Comma then E y

  -- commas with arguments are read, before what can't go on behind them
  more_read : (ys : List Expr) (n : ℕ) (us rest : List Lexeme) → Each Comma E ys us → Fit us → EndsArgs rest → length us < n → more_args e n (us ++ rest) ≡ Some (ys, rest)
  more_read =
      many_read (begins kind.Sign (codes ",")) (behind kind.Sign (codes ",") e) Next (Each Comma E) EndsArgs Quiet (behind_read e E Quiet reads kind.Sign (codes ","))
      (λ y us rest h. begins_here kind.Sign (codes ",") (E y) us rest h) (λ y us h. token_solid kind.Sign (codes ",") (E y) us h)
      (λ y us rest h. by_first kind.Sign (codes ",") (E y) Quiet (λ at more. omega arith) us rest h) (λ rest q. q.1) (λ rest q. q.0) (λ us h. h) (each_rest Comma E)

  -- nothing that goes on behind an expression stands first there
  more_quiet : (ys : List Expr) (us rest : List Lexeme) → Each Comma E ys us → EndsArgs rest → Quiet (us ++ rest)
  more_quiet =
      row_quiet (begins kind.Sign (codes ",")) (behind kind.Sign (codes ",") e) Next (Each Comma E) EndsArgs Quiet (behind_read e E Quiet reads kind.Sign (codes ","))
      (λ y us rest h. begins_here kind.Sign (codes ",") (E y) us rest h) (λ y us h. token_solid kind.Sign (codes ",") (E y) us h)
      (λ y us rest h. by_first kind.Sign (codes ",") (E y) Quiet (λ at more. omega arith) us rest h) (λ rest q. q.1) (λ rest q. q.0) (λ us h. h) (each_rest Comma E)

  -- arguments without brackets are read
  bare_read : (xs : List Expr) (us rest : List Lexeme) → Separated Comma E xs us → Fit us → EndsArgs rest → bare_with e (us ++ rest) ≡ Some (xs, rest)
  bare_read [] us rest h f q = absurd h
  bare_read (x ∷ xs) us rest h f q =
      ap (bare_with e) (split h.front h.back rest us h.whole)
      ∙ ap (λ r. r >>= λ x. with_front (x.0 ∷ []) (more_args e (length x.1 + 1) x.1)) (reads x h.front (h.back ++ rest) h.first (fits_first h.front h.back h.whole f) (more_quiet xs h.back rest h.second q))
      ∙ ap (with_front (x ∷ [])) (more_read xs (length (h.back ++ rest) + 1) h.back rest h.second (fits_second h.front h.back h.whole f) q (omega (arith, length-append h.back rest)))

  -- one argument or more have a token
  separated_solid : (xs : List Expr) (us : List Lexeme) → Separated Comma E xs us → us ≢ []
  separated_solid [] us h n = h
  separated_solid (x ∷ xs) us h n = then_some (E x) (Each Comma E xs) (λ s. begun_some [] (begun x [] s) refl) (subst (Separated Comma E (x ∷ xs)) n h)

  -- arguments without brackets begin with none, whatever is behind them
  no_bracket : (us rest : List Lexeme) → us ≢ [] → begins_with_bracket us ≡ false → begins_bracket (us ++ rest) ≡ false
  no_bracket [] rest n h = absurd (n refl)
  no_bracket (t ∷ us) rest n h = h

  -- where no bracket begins, no `(` is found
  no_paren : (ts : List Lexeme) → begins_bracket ts ≡ false → mark kind.Sign (codes "(") ts ≡ None
  no_paren ts h = mark_not kind.Sign (codes "(") ts (λ x m. let no : begins_bracket ts ≡ true = ap begins_bracket (mark_found kind.Sign (codes "(") ts x m) in let bad : true ≡ false = sym no ∙ h in cc)

  -- the arguments of a call are read
  args_read : ReadsBefore EndsArgs (args_with e) (ArgsOf E)
  args_read xs us rest (grammar.bracketed h) f q =
      ap (args_with e) (split h.front h.back rest us h.whole)
      ∙ ap (λ r. args_or e r (h.front ++ (h.back ++ rest))) (mark_here kind.Sign (codes "(") h.front (h.back ++ rest) h.first)
      ∙ items_read (codes ")") paren_closes e E reads (λ y us s. solid us (begun_some us (begun y us s))) (λ y us rest s. no_close_first (codes ")") refl refl refl refl us rest (begun y us s))
      xs (length (h.back ++ rest) + 1) h.back rest h.second (fits_second h.front h.back h.whole f) (omega (arith, length-append h.back rest))
    where
      solid : (us : List Lexeme) → us ≢ [] → 0 < length us
      solid [] n = absurd (n refl)
      solid (t ∷ us) n = omega arith
  args_read xs us rest (grammar.bare s n) f q =
      let b = no_bracket us rest (separated_solid xs us s) n in
      ap (λ r. args_or e r (us ++ rest)) (no_paren (us ++ rest) b) ∙ ap (λ v. cond v None (bare_with e (us ++ rest))) b ∙ bare_read xs us rest s f q

  -- a call is read
  pub call_read : (at : ℕ) (g : Func) (xs : List Expr) (us rest : List Lexeme) → (phrases.Token kind.Word (word_of g) at then ArgsOf E xs) us → Fit us → EndsArgs rest → call_with e (us ++ rest) ≡ Some (stmt.Call at g xs, rest)
  call_read at g xs us rest h f q =
      let t = placeless kind.Word (word_of g) at (ArgsOf E xs) us h in
      placed_read call_of (both (taken function_by) (args_with e)) (λ p. IsFunction p.0 then ArgsOf E p.1) EndsArgs
      (both_read (taken function_by) (args_with e) IsFunction (ArgsOf E) Always EndsArgs function_read args_read (λ y us rest s q. tt)) (g, xs) (stmt.Call at g xs) us rest t f q (token_solid kind.Word (word_of g) (ArgsOf E xs) us t)
      (ap (λ (a : ℕ). stmt.Call a g xs) (place_is kind.Word (word_of g) at (ArgsOf E xs) us h))
