-- The words of types, searches, resources and chains of them may stand one behind the other.
use Rattle.std.proofs.Common.{ℕ, zero, suc, Bool, true, false, cond, ◌==◌, nat_le, List, [], ◌∷◌, ◌++◌, refl, ap, ◌∙◌}
use Rattle.std.specs.Prelude.{ℤ, pos, Option, codes}
use Rattle.std.specs.Prelude as prelude
use Rattle.pp_syntax.specs.declared.token.Kind.TheVariants as kind
use Rattle.pp_syntax.specs.declared.tree.Expr.{Expr}
use Rattle.pp_syntax.specs.declared.tree.Attr.{Attr}
use Rattle.pp_syntax.specs.declared.tree.Body.{Body}
use Rattle.pp_syntax.specs.declared.tree.Search.{Search}
use Rattle.pp_syntax.specs.declared.tree.Operand.{Operand}
use Rattle.pp_syntax.specs.declared.tree.Operand.TheVariants as operand
use Rattle.pp_syntax.specs.declared.tree.Arrow.{Arrow}
use Rattle.pp_syntax.specs.declared.tree.Arrow.TheVariants as arrow
use Rattle.pp_syntax.specs.declared.tree.TypeName.{TypeName}
use Rattle.pp_syntax.specs.Tokens.{Lexeme, int_value}
use Rattle.pp_syntax.specs.Phrases.{◌then◌, Token, Some, Sign, Keyword, Tight, Comma, Listed, MaybeListed}
use Rattle.pp_syntax.specs.Derivation.{PostfixOf, ReferenceOf, IsExpr}
use Rattle.pp_syntax.specs.Statements.{NameOf, AttrOf, BodyOf, BodiesOf, InBraces, AtomOf, ConjunctionOf, SearchOf, IsSearchAt, MaybeSearch, OperandOf, Links, TextBounds, NumberBounds, TypeWord, QuotedText, TypeOf, IsTypeAt, IsType}
use Rattle.pp_syntax.specs.Statements as rule
use Rattle.pp_print.specs.declared.words.Word.{Word}
use Rattle.pp_print.specs.Words.{sign, keyword, comma, quoted, number, named, in_parens, in_tight, listed}
use Rattle.pp_print.specs.Expressions.{expr_words}
use Rattle.pp_print.specs.Statements.{attr_words, body_words, bodies_words, Sought, sought, sought_at, compared, virtual_words, maybe_search, references, operand_words, arrow_words, links, text_bounds, number_bounds, type_word, type_words}
use Rattle.pp_print.proofs.Blocks.{sought_or, sought_and, sought_equal, sought_differ, type_any, type_boolean, type_hash, type_str, type_int, type_array, type_optional, type_enum, type_variant}
use Rattle.pp_print.proofs.Walks.{Last, any, is_free, is_closed, is_done, is_other, Takes, seq, nothing, narrow, loosen, by_words, closed_done, other_done, other_free, sign_takes, arrow_takes, keyword_takes, comma_takes, quoted_takes, reference_takes, in_parens_takes, in_tight_takes, in_loose_takes, in_braces_takes}
use Rattle.pp_print.proofs.WordLists.{Fine, token_good, parts_sound, token_sound, some_sound, listed_takes, maybe_listed_takes, separated_takes, number_takes, word_named, keyword_named}
use Rattle.pp_print.proofs.ExpressionWalks.{reference_words}
use Rattle.pp_print.proofs.ReadAsWords.{expression_goes, expression_takes, postfix_takes}

-- the words of this search may stand
abbrev SearchGoes : (List ℕ → Type 0) → Search → Type 0
SearchGoes U x = Takes U is_free is_done (sought x).words

module _ {U : List ℕ → Type 0} where
  -- ---- bounds of types

  -- a lower bound in brackets may stand
  low_takes : (low : List ℕ) (ts : List Lexeme) → (Tight then Some kind.Int low then Sign (codes "]")) ts → Fine U ts → Takes U is_closed is_closed (in_tight (number (pos (int_value low))))
  low_takes low ts d h =
      let g = parts_sound d h in
      let k = parts_sound d.second g.1 in
      in_tight_takes is_closed (number_takes any (int_value low) (some_sound kind.Int low d.second.front d.second.first k.0)) refl refl

  -- so may two bounds
  both_take : (low high : List ℕ) (ts : List Lexeme) → (Tight then Some kind.Int low then Comma then Some kind.Int high then Sign (codes "]")) ts → Fine U ts
      → Takes U is_closed is_closed (in_tight (number (pos (int_value low)) ++ (comma ++ number (pos (int_value high)))))
  both_take low high ts d h =
      let g = parts_sound d h in
      let k = parts_sound d.second g.1 in
      let m = parts_sound d.second.second k.1 in
      let n = parts_sound d.second.second.second m.1 in
      in_tight_takes is_closed
      (seq (number_takes any (int_value low) (some_sound kind.Int low d.second.front d.second.first k.0))
      (seq (comma_takes is_done any refl) (number_takes any (int_value high) (some_sound kind.Int high d.second.second.second.front d.second.second.second.first n.0)))) refl refl

  -- so may the bounds of `String`
  text_bounds_take : (least : ℤ) (most : Option ℤ) (ts : List Lexeme) → TextBounds least most ts → Fine U ts → Takes U is_closed is_closed (text_bounds least most)
  text_bounds_take least most ts (rule.none e f d) h = by_words (ap (λ (b : ℤ). text_bounds b most) e ∙ ap (λ (m : Option ℤ). text_bounds (pos 0) m) f) (nothing is_closed is_closed (λ l p. p))
  text_bounds_take least most ts (rule.lower low e f d) h = by_words (ap (λ (b : ℤ). text_bounds b most) e ∙ ap (λ (m : Option ℤ). text_bounds (pos (int_value low)) m) f) (by_zero (int_value low == 0))
    where
      by_zero : (v : Bool) → Takes U is_closed is_closed (cond v [] (in_tight (number (pos (int_value low)))))
      by_zero true = nothing is_closed is_closed (λ l p. p)
      by_zero false = low_takes low ts d h
  text_bounds_take least most ts (rule.both low high e f d) h = by_words (ap (λ (b : ℤ). text_bounds b most) e ∙ ap (λ (m : Option ℤ). text_bounds (pos (int_value low)) m) f) (both_take low high ts d h)

  -- and those of `Integer`
  number_bounds_take : (least most : Option ℤ) (ts : List Lexeme) → NumberBounds least most ts → Fine U ts → Takes U is_closed is_closed (number_bounds least most)
  number_bounds_take least most ts (rule.none e f d) h = by_words (ap (λ (b : Option ℤ). number_bounds b most) e) (nothing is_closed is_closed (λ l p. p))
  number_bounds_take least most ts (rule.lower low e f d) h =
      by_words (ap (λ (b : Option ℤ). number_bounds b most) e ∙ ap (λ (m : Option ℤ). number_bounds (prelude.Some (pos (int_value low))) m) f) (low_takes low ts d h)
  number_bounds_take least most ts (rule.both low high e f d) h =
      by_words (ap (λ (b : Option ℤ). number_bounds b most) e ∙ ap (λ (m : Option ℤ). number_bounds (prelude.Some (pos (int_value low))) m) f) (both_take low high ts d h)

  -- ---- types

  -- the name of a type may stand behind any word
  type_word_takes : (name : List ℕ) (ts : List Lexeme) → TypeWord name ts → Fine U ts → Takes U any is_closed (type_word name)
  type_word_takes name ts d h = reference_takes any name (some_sound kind.Ref name ts d h)

  -- so may a text in single quotes
  quoted_text_takes : (v : List ℕ) (ts : List Lexeme) → QuotedText v ts → Fine U ts → Takes U any is_closed (quoted v)
  quoted_text_takes v ts d h = quoted_takes any v (token_good kind.Sq d.0 d.1.0 ts d.1.1 h v d.2)

  module _ (T : TypeName → List Lexeme → Type 0) (goes : (t : TypeName) (ts : List Lexeme) → T t ts → Fine U ts → Takes U any is_closed (type_words t)) where
    -- the name of a type and something in brackets may stand, where the latter may
    in_brackets : (name : List ℕ) (A : List Lexeme → Type 0) (ws : List Word) (ts : List Lexeme) → (TypeWord name then Tight then A then Sign (codes "]")) ts → Fine U ts → ((us : List Lexeme) → A us → Fine U us → Takes U any is_closed ws) → Takes U any is_closed (type_word name ++ in_tight ws)
    in_brackets name A ws ts d h more =
        let g = parts_sound d h in
        let k = parts_sound d.second g.1 in
        let m = parts_sound d.second.second k.1 in
        seq (type_word_takes name d.front d.first g.0) (in_tight_takes is_closed (more d.second.second.front d.second.second.first m.0) refl refl)

    -- a type may stand, where those in its brackets may
    type_takes : (y : TypeName) (ts : List Lexeme) → TypeOf T y ts → Fine U ts → Takes U any is_closed (type_words y)
    type_takes y ts (rule.any e d) h = by_words (ap type_words e ∙ type_any) (type_word_takes (codes "Any") ts d h)
    type_takes y ts (rule.boolean e d) h = by_words (ap type_words e ∙ type_boolean) (type_word_takes (codes "Boolean") ts d h)
    type_takes y ts (rule.hash e d) h = by_words (ap type_words e ∙ type_hash) (type_word_takes (codes "Hash") ts d h)
    type_takes y ts (rule.text least most e d) h =
        let g = parts_sound d h in
        by_words (ap type_words e ∙ type_str least most) (seq (type_word_takes (codes "String") d.front d.first g.0) (text_bounds_take least most d.back d.second g.1))
    type_takes y ts (rule.number least most e d) h =
        let g = parts_sound d h in
        by_words (ap type_words e ∙ type_int least most) (seq (type_word_takes (codes "Integer") d.front d.first g.0) (number_bounds_take least most d.back d.second g.1))
    type_takes y ts (rule.array e d) h = by_words (ap type_words e ∙ type_array prelude.None) (type_word_takes (codes "Array") ts d h)
    type_takes y ts (rule.array_of member e d) h = by_words (ap type_words e ∙ type_array (prelude.Some member)) (in_brackets (codes "Array") (T member) (type_words member) ts d h (goes member))
    type_takes y ts (rule.optional member e d) h = by_words (ap type_words e ∙ type_optional member) (in_brackets (codes "Optional") (T member) (type_words member) ts d h (goes member))
    type_takes y ts (rule.enum texts e d) h = by_words (ap type_words e ∙ type_enum texts) (in_brackets (codes "Enum") (Listed QuotedText texts) (listed quoted texts) ts d h (listed_takes QuotedText quoted any is_closed quoted_text_takes refl texts))
    type_takes y ts (rule.variant members e d) h = by_words (ap type_words e ∙ type_variant members) (in_brackets (codes "Variant") (Listed T members) (listed type_words members) ts d h (listed_takes T type_words any is_closed goes refl members))

  -- so may one with brackets nested less deep than this
  types_take : (m : ℕ) (y : TypeName) (ts : List Lexeme) → IsTypeAt m y ts → Fine U ts → Takes U any is_closed (type_words y)
  types_take zero y ts d h = absurd d
  types_take (suc m) y ts d h = type_takes (IsTypeAt m) (types_take m) y ts d h

  -- a type may stand behind any word
  pub type_goes : (y : TypeName) (ts : List Lexeme) → IsType y ts → Fine U ts → Takes U any is_closed (type_words y)
  type_goes y ts d h = types_take d.0 y ts d.1 h

  -- ---- names, attributes and bodies

  -- a name may stand behind any word
  named_takes : (P : Last → Bool) (name : List ℕ) (ts : List Lexeme) → NameOf name ts → Fine U ts → Takes U P is_done (named name)
  named_takes P name ts (rule.word d c) h = word_named P name (some_sound kind.Word name ts d h)
  named_takes P name ts (rule.keyword d) h = keyword_named P name (some_sound kind.Keyword name ts d h)

  -- an attribute may stand
  attr_takes : (a : Attr) (ts : List Lexeme) → AttrOf IsExpr a ts → Fine U ts → Takes U is_free is_done (attr_words a)
  attr_takes a ts d h =
      let g = parts_sound d.1 h in
      let k = parts_sound d.1.second g.1 in
      seq (named_takes is_free a.name d.1.front d.1.first g.0) (seq (arrow_takes is_free refl) (expression_takes a.value d.1.second.back d.1.second.second k.1))

  -- attributes may stand within braces
  pub attrs_take : (xs : List Attr) (ts : List Lexeme) → MaybeListed (AttrOf IsExpr) xs ts → Fine U ts → Takes U is_other is_done (listed attr_words xs)
  attrs_take xs ts d h = maybe_listed_takes (AttrOf IsExpr) attr_words is_free is_done attr_takes refl refl xs ts d h

  -- a body may stand
  body_takes : (b : Body) (ts : List Lexeme) → BodyOf IsExpr b ts → Fine U ts → Takes U is_free is_done (body_words b)
  body_takes b ts d h =
      let g = parts_sound d h in
      let k = parts_sound d.second g.1 in
      seq (expression_takes b.title d.front d.first g.0) (seq (sign_takes is_done is_other (codes ":") (refl, refl, refl, refl, refl, refl) refl) (attrs_take b.attrs d.second.back d.second.second k.1))

  -- so may bodies
  bodies_take : (bs : List Body) (ts : List Lexeme) → BodiesOf IsExpr bs ts → Fine U ts → Takes U is_free is_done (bodies_words bs)
  bodies_take bs ts d h =
      separated_takes (BodyOf IsExpr) body_words is_free is_done body_takes (Sign (codes ";")) (sign (codes ";")) (sign_takes is_done is_free (codes ";") (refl, refl, refl, refl, refl, refl) refl) bs d.front d.first (parts_sound d h).0

  -- ---- searches

  -- a search may stand, in brackets where it needs them
  at_takes : (n : ℕ) (x : Search) → SearchGoes U x → Takes U is_free is_done (sought_at n (sought x))
  at_takes n x g = by_level (nat_le n (sought x).level)
    where
      by_level : (b : Bool) → Takes U is_free is_done (cond b (sought x).words (in_parens (sought x).words))
      by_level true = g
      by_level false = in_parens_takes is_done g refl refl

  -- a comparison may stand
  compared_takes : (mark : List ℕ) → Takes U is_done is_free (sign mark) → (name : List ℕ) (value : Expr) (ts : List Lexeme) → (NameOf name then Sign mark then PostfixOf IsExpr value) ts → Fine U ts → Takes U is_free is_done (compared name mark value)
  compared_takes mark mark_takes name value ts d h =
      let g = parts_sound d h in
      let k = parts_sound d.second g.1 in
      seq (named_takes is_free name d.front d.first g.0) (seq mark_takes (postfix_takes value d.second.back d.second.second k.1))

  module _ (S : Search → List Lexeme → Type 0) (goes : (x : Search) (ts : List Lexeme) → S x ts → Fine U ts → SearchGoes U x) where
    -- an atom of a search may stand, where those in its brackets may
    atom_goes : (y : Search) (ts : List Lexeme) → AtomOf IsExpr S y ts → Fine U ts → SearchGoes U y
    atom_goes y ts (rule.equal name value is d) h =
        by_words (ap (λ (s : Search). (sought s).words) is ∙ ap (λ (p : Sought). p.words) (sought_equal name value)) (compared_takes (codes "==") (sign_takes is_done is_free (codes "==") (refl, refl, refl, refl, refl, refl) refl) name value ts d h)
    atom_goes y ts (rule.differ name value is d) h =
        by_words (ap (λ (s : Search). (sought s).words) is ∙ ap (λ (p : Sought). p.words) (sought_differ name value)) (compared_takes (codes "!=") (sign_takes is_done is_free (codes "!=") (refl, refl, refl, refl, refl, refl) refl) name value ts d h)
    atom_goes y ts (rule.enclosed d) h =
        let g = parts_sound d h in
        let k = parts_sound d.second g.1 in
        goes y d.second.front d.second.first k.0

    -- so may a conjunction
    conjunction_goes : (y : Search) (ts : List Lexeme) → ConjunctionOf IsExpr S y ts → Fine U ts → SearchGoes U y
    conjunction_goes y ts (rule.atom d) h = atom_goes y ts d h
    conjunction_goes y ts (rule.conjunction a b more is d) h = by_words (ap (λ (s : Search). (sought s).words) is ∙ ap (λ (p : Sought). p.words) (sought_and (a ∷ b ∷ more)))
        (separated_takes (AtomOf IsExpr S) (λ x. sought_at 2 (sought x)) is_free is_done (λ x us e k. at_takes 2 x (atom_goes x us e k)) (Keyword (codes "and")) (keyword (codes "and")) (keyword_takes is_done is_free (codes "and") refl refl) (a ∷ b ∷ more) ts d h)

    -- and a search
    search_goes : (y : Search) (ts : List Lexeme) → SearchOf IsExpr S y ts → Fine U ts → SearchGoes U y
    search_goes y ts (rule.conjunction d) h = conjunction_goes y ts d h
    search_goes y ts (rule.disjunction a b more is d) h = by_words (ap (λ (s : Search). (sought s).words) is ∙ ap (λ (p : Sought). p.words) (sought_or (a ∷ b ∷ more)))
        (separated_takes (ConjunctionOf IsExpr S) (λ x. sought_at 1 (sought x)) is_free is_done (λ x us e k. at_takes 1 x (conjunction_goes x us e k)) (Keyword (codes "or")) (keyword (codes "or")) (keyword_takes is_done is_free (codes "or") refl refl) (a ∷ b ∷ more) ts d h)

  -- so may one with brackets nested less deep than this
  searches_go : (m : ℕ) (y : Search) (ts : List Lexeme) → IsSearchAt IsExpr m y ts → Fine U ts → SearchGoes U y
  searches_go zero y ts d h = absurd d
  searches_go (suc m) y ts d h = search_goes (IsSearchAt IsExpr m) (searches_go m) y ts d h

  -- a search, or none, may stand in a collector
  maybe_search_takes : (o : Option Search) (ts : List Lexeme) → MaybeSearch IsExpr o ts → Fine U ts → Takes U is_other is_done (maybe_search o)
  maybe_search_takes prelude.None ts d h = nothing is_other is_done other_done
  maybe_search_takes (prelude.Some x) ts d h = narrow is_other other_free (searches_go d.0 x ts d.1 h)

  -- ---- resources, collectors and references

  -- `@`, or none, may stand behind any word
  virtual_takes : (virtual : Bool) → Takes U any any (virtual_words virtual)
  virtual_takes true = sign_takes any any (codes "@") (refl, refl, refl, refl, refl, refl) refl
  virtual_takes false = nothing any any (λ l p. p)

  -- a resource or a class may stand
  declare_takes : (virtual : Bool) (name : List ℕ) (bodies : List Body) (at : ℕ) (ts : List Lexeme) → Takes U any is_done (named name) → InBraces (BodiesOf IsExpr bodies) ts → Fine U ts → Takes U any is_done (operand_words (operand.Declare at virtual name bodies))
  declare_takes virtual name bodies at ts known d h =
      let g = parts_sound d h in
      let k = parts_sound d.second g.1 in
      seq (virtual_takes virtual) (seq known (in_braces_takes is_done is_done (bodies_take bodies d.second.front d.second.first k.0) refl refl))

  -- a collector may stand
  collect_takes : (name : List ℕ) (s : Option Search) (at at2 : ℕ) (ts : List Lexeme) → (Token kind.Ref name at then Sign (codes "<|") then MaybeSearch IsExpr s then Sign (codes "|>")) ts → Fine U ts → Takes U any is_done (operand_words (operand.Collect at2 name s))
  collect_takes name s at at2 ts d h =
      let g = parts_sound d h in
      let k = parts_sound d.second g.1 in
      let m = parts_sound d.second.second k.1 in
      seq (reference_takes any name (token_sound kind.Ref name at d.front d.first g.0))
      (seq (sign_takes is_closed is_other (codes "<|") (refl, refl, refl, refl, refl, refl) refl) (seq (maybe_search_takes s d.second.second.front d.second.second.first m.0) (sign_takes is_done is_done (codes "|>") (refl, refl, refl, refl, refl, refl) refl)))

  -- one reference may stand
  one_reference : (x : Expr) (ts : List Lexeme) → ReferenceOf IsExpr x ts → Fine U ts → Takes U any is_done (expr_words x)
  one_reference x ts d h = loosen is_done closed_done (reference_words IsExpr expression_goes any x ts d h)

  -- references may stand
  references_take : (xs : List Expr) (ts : List Lexeme) → Listed (ReferenceOf IsExpr) xs ts → Fine U ts → Takes U any is_done (references xs)
  references_take [] ts d h = absurd d.first
  references_take (x ∷ []) ts d h =
      let g = parts_sound d h in
      let k = parts_sound d.first g.0 in
      one_reference x d.first.front d.first.first k.0
  references_take (x ∷ y ∷ more) ts d h = in_loose_takes any is_done (listed_takes (ReferenceOf IsExpr) expr_words any is_done one_reference refl (x ∷ y ∷ more) ts d h) refl refl

  -- an operand of a chain may stand behind any word
  operand_takes : (y : Operand) (ts : List Lexeme) → OperandOf IsExpr y ts → Fine U ts → Takes U any is_done (operand_words y)
  operand_takes y ts (rule.resource at virtual name bodies is at_is free d) h =
      let g = parts_sound d h in
      let k = parts_sound d.second g.1 in
      by_words (ap operand_words is) (declare_takes virtual name bodies at d.second.back (word_named any name (some_sound kind.Word name d.second.front d.second.first k.0)) d.second.second k.1)
  operand_takes y ts (rule.class at bodies is d) h = by_words (ap operand_words is) (declare_takes false (codes "class") bodies at d.back (keyword_named any (codes "class") refl) d.second (parts_sound d h).1)
  operand_takes y ts (rule.collector at name s is d) h = by_words (ap operand_words is) (collect_takes name s at at ts d h)
  operand_takes y ts (rule.reference x is d) h = by_words (ap operand_words is) (one_reference x ts d h)
  operand_takes y ts (rule.references xs is d) h =
      let g = parts_sound d h in
      let k = parts_sound d.second g.1 in
      by_words (ap operand_words is) (references_take xs d.second.front d.second.first k.0)

  -- ---- chains

  -- an arrow may stand behind an operand, and any word behind it
  chain_arrow_takes : (a : Arrow) → Takes U is_done any (arrow_words a)
  chain_arrow_takes arrow.Before = sign_takes is_done any (codes "->") (refl, refl, refl, refl, refl, refl) refl
  chain_arrow_takes arrow.Notify = sign_takes is_done any (codes "~>") (refl, refl, refl, refl, refl, refl) refl
  chain_arrow_takes arrow.After = sign_takes is_done any (codes "<-") (refl, refl, refl, refl, refl, refl) refl
  chain_arrow_takes arrow.Follow = sign_takes is_done any (codes "<~") (refl, refl, refl, refl, refl, refl) refl

  -- arrows with operands may stand behind an operand
  links_take : (arrows : List Arrow) (ys : List Operand) (ts : List Lexeme) → Links IsExpr arrows ys ts → Fine U ts → Takes U is_done is_done (links arrows ys)
  links_take [] [] ts d h = nothing is_done is_done (λ l p. p)
  links_take [] (y ∷ ys) ts d h = absurd d
  links_take (a ∷ arrows) [] ts d h = absurd d
  links_take (a ∷ arrows) (y ∷ ys) ts d h =
      let g = parts_sound d h in
      let k = parts_sound d.second g.1 in
      seq (chain_arrow_takes a) (seq (operand_takes y d.second.front d.second.first k.0) (links_take arrows ys d.second.back d.second.second k.1))

  -- a chain may stand behind any word
  pub chain_takes : (first : Operand) (others : List Operand) (arrows : List Arrow) (ts : List Lexeme) → (OperandOf IsExpr first then Links IsExpr arrows others) ts → Fine U ts → Takes U any is_done (operand_words first ++ links arrows others)
  chain_takes first others arrows ts d h =
      let g = parts_sound d h in
      seq (operand_takes first d.front d.first g.0) (links_take arrows others d.back d.second g.1)
