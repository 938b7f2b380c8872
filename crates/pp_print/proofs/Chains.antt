-- The words of resources, collectors and references, and of chains of them, spell them again, places aside.
use Rattle.std.proofs.Common.{◌≡◌, ℕ, suc, Bool, true, false, cond, List, [], ◌∷◌, ◌++◌, map, refl, sym, ap, subst, ◌∙◌}
use Rattle.std.specs.Prelude.{Option, codes}
use Rattle.pp_syntax.specs.declared.token.Kind.TheVariants as kind
use Rattle.pp_syntax.specs.declared.tree.Expr.{Expr}
use Rattle.pp_syntax.specs.declared.tree.Form.{Form}
use Rattle.pp_syntax.specs.declared.tree.Body.{Body}
use Rattle.pp_syntax.specs.declared.tree.Search.{Search}
use Rattle.pp_syntax.specs.declared.tree.Operand.{Operand}
use Rattle.pp_syntax.specs.declared.tree.Operand.TheVariants as operand
use Rattle.pp_syntax.specs.declared.tree.Arrow.{Arrow}
use Rattle.pp_syntax.specs.declared.tree.Arrow.TheVariants as arrow
use Rattle.pp_syntax.specs.Tokens.{Lexeme, is_among, keywords}
use Rattle.pp_syntax.specs.Phrases.{◌then◌, Some, Token, Sign, Tight, Loose, Listed, Separated, Each, Comma, Maybe, place_of}
use Rattle.pp_syntax.specs.Derivation.{ReferenceOf, IsExprAt, IsExpr}
use Rattle.pp_syntax.specs.Statements.{BodiesOf, InBraces, MaybeSearch, Virtual, OperandOf, ArrowOf, Links, StandsAlone}
use Rattle.pp_syntax.specs.Statements as rule
use Rattle.pp_print.specs.declared.words.Word.{Word}
use Rattle.pp_print.specs.Words.{word, sign, keyword, named, in_braces, listed}
use Rattle.pp_print.specs.Expressions.{Printed, printed_form, expr_words, refer_by}
use Rattle.pp_print.specs.Expressions as expressions
use Rattle.pp_print.specs.Statements.{bodies_words, virtual_words, maybe_search, operand_words, arrow_words, links}
use Rattle.pp_print.specs.Places.{unplaced, unplaced_operand}
use Rattle.pp_print.proofs.Forms.{printed_refer}
use Rattle.pp_print.proofs.Phrases.{Phrase, words_in, parts, no_word, one_word, together, AllStand, Small, parts_stand, listed_again}
use Rattle.pp_print.proofs.Postfixes.{refer_again}
use Rattle.pp_print.proofs.Widening.{reference_wide}
use Rattle.pp_print.proofs.Bodies.{nested_expr, widen, bodies_read}
use Rattle.pp_print.proofs.Searches.{maybe_search_reads}

-- ---- in braces

-- tokens in braces, and the words between these
pub record Braced (us : List Lexeme) (ws : List Word) : Type 1 where
  pub inner : List Lexeme
  pub words : words_in inner ≡ ws
  pub build : (A : Phrase) → A inner → InBraces A us

-- tokens with the words of something in braces are that
pub braced : (us : List Lexeme) (ws : List Word) → words_in us ≡ in_braces ws → Braced us ws
braced us ws w =
    let p = parts us (sign (codes "{")) (ws ++ sign (codes "}")) w in
    let q = parts p.back ws (sign (codes "}")) p.second in
    record {
      inner = q.front;
      words = q.first;
      build = λ A h. together (Sign (codes "{")) (A then Sign (codes "}")) us (sign (codes "{")) (ws ++ sign (codes "}")) p (one_word kind.Sign (codes "{") p.front p.first)
          (together A (Sign (codes "}")) p.back ws (sign (codes "}")) q h (one_word kind.Sign (codes "}") q.back q.second));
    }

-- what stands in braces is small where the whole is
pub braces_small : (n : ℕ) (A : Phrase) (ts : List Lexeme) (d : InBraces A ts) → Small n ts → Small n d.second.front
braces_small n A ts d good =
    let g = parts_stand n (Sign (codes "{")) (A then Sign (codes "}")) ts d good in
    (parts_stand n A (Sign (codes "}")) d.back d.second g.1).0

-- ---- references

-- the words of a reference spell it again
reference_reads : (n : ℕ) (x : Expr) (ts : List Lexeme) → ReferenceOf IsExpr x ts → Small n ts → (us : List Lexeme) → words_in us ≡ expr_words x → (y : Expr) × ReferenceOf IsExpr y us × (unplaced x ≡ unplaced y)
reference_reads n x ts r good us w =
    let d = r.spelled in
    let g = parts_stand n (Token kind.Ref r.name x.at) (Tight then Listed IsExpr r.titles then Sign (codes "]")) ts d good in
    let k = parts_stand n Tight (Listed IsExpr r.titles then Sign (codes "]")) d.back d.second g.1 in
    let m = parts_stand n (Listed IsExpr r.titles) (Sign (codes "]")) d.second.back d.second.second k.1 in
    let words : words_in us ≡ refer_by expressions.printed r.name r.titles = w ∙ ap (λ (f : Form). (printed_form f).words) r.form_is ∙ ap (λ (p : Printed). p.words) (printed_refer r.name r.titles) in
    let s = refer_again IsExpr n (nested_expr n) x r.name r.titles d.second.second.front r.form_is d.second.second.first m.0 us words in
    (s.0, reference_wide (IsExprAt (suc n)) IsExpr (widen (suc n)) s.0 us s.1, s.2)

-- ---- operands

-- the word of a resource's type spells it again
word_named : (n : ℕ) (name : List ℕ) (ts us : List Lexeme) → Some kind.Word name ts → Small n ts → words_in us ≡ named name → Some kind.Word name us
word_named n name ts us d good w =
    let h : is_among keywords name ≡ false = (subst (λ (r : List Lexeme). AllStand r) d.1 good.0).0 in
    one_word kind.Word name us (w ∙ ap (λ b. word (cond b kind.Keyword kind.Word) name) h)

-- the words of `@`, or none, spell it again
virtual_again : (virtual : Bool) (us : List Lexeme) → words_in us ≡ virtual_words virtual → Virtual virtual us
virtual_again true us w = one_word kind.Sign (codes "@") us w
virtual_again false us w = no_word us w

-- tokens with the words of this operand spell it again
abbrev pub OperandReads : ℕ → Operand → List Lexeme → Type 0
OperandReads n y us = words_in us ≡ operand_words y → (z : Operand) × OperandOf IsExpr z us × (unplaced_operand y ≡ unplaced_operand z)

-- the words of a resource spell it again
resource_reads : (n at : ℕ) (virtual : Bool) (name : List ℕ) (bodies : List Body) (ts : List Lexeme) → is_among rule.functions name ≡ false → (Virtual virtual then Some kind.Word name then InBraces (BodiesOf IsExpr bodies)) ts → Small n ts → (us : List Lexeme) → OperandReads n (operand.Declare at virtual name bodies) us
resource_reads n at virtual name bodies ts free d good us w =
    let p = parts us (virtual_words virtual) (named name ++ in_braces (bodies_words bodies)) w in
    let q = parts p.back (named name) (in_braces (bodies_words bodies)) p.second in
    let b = braced q.back (bodies_words bodies) q.second in
    let g = parts_stand n (Virtual virtual) (Some kind.Word name then InBraces (BodiesOf IsExpr bodies)) ts d good in
    let k = parts_stand n (Some kind.Word name) (InBraces (BodiesOf IsExpr bodies)) d.back d.second g.1 in
    let r = bodies_read n bodies d.second.second.second.front d.second.second.second.first (braces_small n (BodiesOf IsExpr bodies) d.second.back d.second.second k.1) b.inner b.words in (
      operand.Declare (place_of us) virtual name r.0,
      rule.resource (place_of us) virtual name r.0 refl refl free
          (together (Virtual virtual) (Some kind.Word name then InBraces (BodiesOf IsExpr r.0)) us (virtual_words virtual) (named name ++ in_braces (bodies_words bodies)) p (virtual_again virtual p.front p.first)
          (together (Some kind.Word name) (InBraces (BodiesOf IsExpr r.0)) p.back (named name) (in_braces (bodies_words bodies)) q (word_named n name d.second.front q.front d.second.first k.0 q.first) (b.build (BodiesOf IsExpr r.0) r.1))),
      ap (λ (bs : List Body). operand.Declare 0 virtual name bs) r.2,
    )

-- the words of a class that is declared spell it again
class_reads : (n at : ℕ) (bodies : List Body) (ts : List Lexeme) → (Token kind.Keyword (codes "class") at then InBraces (BodiesOf IsExpr bodies)) ts → Small n ts → (us : List Lexeme) → OperandReads n (operand.Declare at false (codes "class") bodies) us
class_reads n at bodies ts d good us w =
    let p = parts us (keyword (codes "class")) (in_braces (bodies_words bodies)) w in
    let t = one_word kind.Keyword (codes "class") p.front p.first in
    let b = braced p.back (bodies_words bodies) p.second in
    let g = parts_stand n (Token kind.Keyword (codes "class") at) (InBraces (BodiesOf IsExpr bodies)) ts d good in
    let r = bodies_read n bodies d.second.second.front d.second.second.first (braces_small n (BodiesOf IsExpr bodies) d.back d.second g.1) b.inner b.words in (
      operand.Declare t.0 false (codes "class") r.0,
      rule.class t.0 r.0 refl
          (together (Token kind.Keyword (codes "class") t.0) (InBraces (BodiesOf IsExpr r.0)) us (keyword (codes "class")) (in_braces (bodies_words bodies)) p t.1 (b.build (BodiesOf IsExpr r.0) r.1)),
      ap (λ (bs : List Body). operand.Declare 0 false (codes "class") bs) r.2,
    )

-- the words of a collector spell it again
collector_reads : (n at : ℕ) (name : List ℕ) (s : Option Search) (ts : List Lexeme) → (Token kind.Ref name at then Sign (codes "<|") then MaybeSearch IsExpr s then Sign (codes "|>")) ts → Small n ts → (us : List Lexeme) → OperandReads n (operand.Collect at name s) us
collector_reads n at name s ts d good us w =
    let p = parts us (word kind.Ref name) (sign (codes "<|") ++ (maybe_search s ++ sign (codes "|>"))) w in
    let q = parts p.back (sign (codes "<|")) (maybe_search s ++ sign (codes "|>")) p.second in
    let v = parts q.back (maybe_search s) (sign (codes "|>")) q.second in
    let t = one_word kind.Ref name p.front p.first in
    let g = parts_stand n (Token kind.Ref name at) (Sign (codes "<|") then MaybeSearch IsExpr s then Sign (codes "|>")) ts d good in
    let k = parts_stand n (Sign (codes "<|")) (MaybeSearch IsExpr s then Sign (codes "|>")) d.back d.second g.1 in
    let m = parts_stand n (MaybeSearch IsExpr s) (Sign (codes "|>")) d.second.back d.second.second k.1 in
    let r = maybe_search_reads n s d.second.second.front d.second.second.first m.0 v.front v.first in (
      operand.Collect t.0 name r.0,
      rule.collector t.0 name r.0 refl
          (together (Token kind.Ref name t.0) (Sign (codes "<|") then MaybeSearch IsExpr r.0 then Sign (codes "|>")) us (word kind.Ref name) (sign (codes "<|") ++ (maybe_search s ++ sign (codes "|>"))) p t.1
          (together (Sign (codes "<|")) (MaybeSearch IsExpr r.0 then Sign (codes "|>")) p.back (sign (codes "<|")) (maybe_search s ++ sign (codes "|>")) q (one_word kind.Sign (codes "<|") q.front q.first)
          (together (MaybeSearch IsExpr r.0) (Sign (codes "|>")) q.back (maybe_search s) (sign (codes "|>")) v r.1 (one_word kind.Sign (codes "|>") v.back v.second)))),
      ap (λ (o : Option Search). operand.Collect 0 name o) r.2,
    )

-- the words of one reference spell it again as an operand
one_reference : (n : ℕ) (x : Expr) (ts : List Lexeme) → ReferenceOf IsExpr x ts → Small n ts → (us : List Lexeme) → OperandReads n (operand.Named (x ∷ [])) us
one_reference n x ts d good us w = let r = reference_reads n x ts d good us w in (operand.Named (r.0 ∷ []), rule.reference r.0 refl r.1, ap (λ (y : Expr). operand.Named (y ∷ [])) r.2)

-- the words of two references or more spell them again as an operand
some_references : (n : ℕ) (x y : Expr) (more : List Expr) (ts : List Lexeme) → Listed (ReferenceOf IsExpr) (x ∷ y ∷ more) ts → Small n ts → (us : List Lexeme) → OperandReads n (operand.Named (x ∷ y ∷ more)) us
some_references n x y more ts d good us w =
    let p = parts us (word kind.Loose (codes "[")) (listed expr_words (x ∷ y ∷ more) ++ sign (codes "]")) w in
    let q = parts p.back (listed expr_words (x ∷ y ∷ more)) (sign (codes "]")) p.second in
    let r = listed_again n (ReferenceOf IsExpr) (ReferenceOf IsExpr) expr_words unplaced (reference_reads n) (x ∷ y ∷ more) ts d good q.front q.first in (
      operand.Named r.0,
      rule.references r.0 refl (together Loose (Listed (ReferenceOf IsExpr) r.0 then Sign (codes "]")) us (word kind.Loose (codes "[")) (listed expr_words (x ∷ y ∷ more) ++ sign (codes "]")) p (one_word kind.Loose (codes "[") p.front p.first)
          (together (Listed (ReferenceOf IsExpr) r.0) (Sign (codes "]")) p.back (listed expr_words (x ∷ y ∷ more)) (sign (codes "]")) q r.1 (one_word kind.Sign (codes "]") q.back q.second))),
      ap (λ (zs : List Expr). operand.Named zs) r.2,
    )

-- a list of one reference has this reference in front
listed_one : (n : ℕ) (x : Expr) (ts : List Lexeme) → (d : Listed (ReferenceOf IsExpr) (x ∷ []) ts) → Small n ts → (front : List Lexeme) × ReferenceOf IsExpr x front × Small n front
listed_one n x ts d good =
    let g = parts_stand n (Separated Comma (ReferenceOf IsExpr) (x ∷ [])) (Maybe Comma) ts d good in
    let k = parts_stand n (ReferenceOf IsExpr x) (Each Comma (ReferenceOf IsExpr) []) d.front d.first g.0 in
    (d.first.front, d.first.first, k.0)

-- the words of references spell them again as an operand
references_read : (n : ℕ) (xs : List Expr) (ts : List Lexeme) → Listed (ReferenceOf IsExpr) xs ts → Small n ts → (us : List Lexeme) → OperandReads n (operand.Named xs) us
references_read n [] ts d good us w = absurd d.first
references_read n (x ∷ []) ts d good us w = let o = listed_one n x ts d good in one_reference n x o.0 o.1 o.2 us w
references_read n (x ∷ y ∷ more) ts d good us w = some_references n x y more ts d good us w

-- the words of an operand of a chain spell it again
pub operand_reads : (n : ℕ) (y : Operand) (ts : List Lexeme) → OperandOf IsExpr y ts → Small n ts → (us : List Lexeme) → OperandReads n y us
operand_reads n y ts (rule.resource at virtual name bodies is at_is free d) good us = subst (λ (o : Operand). OperandReads n o us) (sym is) (resource_reads n at virtual name bodies ts free d good us)
operand_reads n y ts (rule.class at bodies is d) good us = subst (λ (o : Operand). OperandReads n o us) (sym is) (class_reads n at bodies ts d good us)
operand_reads n y ts (rule.collector at name s is d) good us = subst (λ (o : Operand). OperandReads n o us) (sym is) (collector_reads n at name s ts d good us)
operand_reads n y ts (rule.reference x is d) good us = subst (λ (o : Operand). OperandReads n o us) (sym is) (one_reference n x ts d good us)
operand_reads n y ts (rule.references xs is d) good us =
    let g = parts_stand n Loose (Listed (ReferenceOf IsExpr) xs then Sign (codes "]")) ts d good in
    let k = parts_stand n (Listed (ReferenceOf IsExpr) xs) (Sign (codes "]")) d.back d.second g.1 in
    subst (λ (o : Operand). OperandReads n o us) (sym is) (references_read n xs d.second.front d.second.first k.0 us)

-- ---- chains

-- the word of an arrow spells it again
arrow_again : (a : Arrow) (us : List Lexeme) → words_in us ≡ arrow_words a → ArrowOf a us
arrow_again arrow.Before us w = one_word kind.Sign (codes "->") us w
arrow_again arrow.Notify us w = one_word kind.Sign (codes "~>") us w
arrow_again arrow.After us w = one_word kind.Sign (codes "<-") us w
arrow_again arrow.Follow us w = one_word kind.Sign (codes "<~") us w

-- the words of arrows with operands spell them again
pub links_read : (n : ℕ) (arrows : List Arrow) (ys : List Operand) (ts : List Lexeme) → Links IsExpr arrows ys ts → Small n ts → (us : List Lexeme) → words_in us ≡ links arrows ys → (zs : List Operand) × Links IsExpr arrows zs us × (map unplaced_operand ys ≡ map unplaced_operand zs)
links_read n [] [] ts d good us w = ([], no_word us w, refl)
links_read n [] (y ∷ ys) ts d good us w = absurd d
links_read n (a ∷ arrows) [] ts d good us w = absurd d
links_read n (a ∷ arrows) (y ∷ ys) ts d good us w =
    let p = parts us (arrow_words a) (operand_words y ++ links arrows ys) w in
    let q = parts p.back (operand_words y) (links arrows ys) p.second in
    let g = parts_stand n (ArrowOf a) (OperandOf IsExpr y then Links IsExpr arrows ys) ts d good in
    let k = parts_stand n (OperandOf IsExpr y) (Links IsExpr arrows ys) d.back d.second g.1 in
    let here = operand_reads n y d.second.front d.second.first k.0 q.front q.first in
    let rest = links_read n arrows ys d.second.back d.second.second k.1 q.back q.second in (
      here.0 ∷ rest.0,
      together (ArrowOf a) (OperandOf IsExpr here.0 then Links IsExpr arrows rest.0) us (arrow_words a) (operand_words y ++ links arrows ys) p (arrow_again a p.front p.first)
          (together (OperandOf IsExpr here.0) (Links IsExpr arrows rest.0) p.back (operand_words y) (links arrows ys) q here.1 rest.1),
      ap (λ (z : Operand). z ∷ map unplaced_operand ys) here.2 ∙ ap (λ (r : List Operand). unplaced_operand here.0 ∷ r) rest.2,
    )

-- what may stand alone does so with other places
pub alone_again : (y z : Operand) (ys zs : List Operand) → unplaced_operand y ≡ unplaced_operand z → map unplaced_operand ys ≡ map unplaced_operand zs → StandsAlone y ys → StandsAlone z zs
alone_again y (operand.Declare at virtual name bodies) ys zs same others h = tt
alone_again y (operand.Collect at name s) ys zs same others h = tt
alone_again y (operand.Named xs) ys (v ∷ zs) same others h = tt
alone_again (operand.Named ws) (operand.Named xs) [] [] same others h = h
alone_again (operand.Named ws) (operand.Named xs) (u ∷ ys) [] same others h = cc
alone_again (operand.Declare at virtual name bodies) (operand.Named xs) ys [] same others h = cc
alone_again (operand.Collect at name s) (operand.Named xs) ys [] same others h = cc
