-- The words of an expression spell it again, places aside: chains of operators and prefixes, from their operands.
use Rattle.std.proofs.Common.{◌≡◌, ◌⊎◌, inl, inr, ℕ, zero, suc, ◌+◌, ◌-◌, ◌≤◌, true, false, cond, nat_le, List, [], ◌∷◌, ◌++◌, map, refl, sym, ap, subst, ◌∙◌, append-nil, arith}
use Rattle.std.specs.Prelude.{codes}
use Rattle.std.specs.List.{flat_map}
use Rattle.std.proofs.lemmas.Bool.{leb-true, le-leb, both_ways}
use Rattle.pp_syntax.specs.declared.token.Kind.TheVariants as kind
use Rattle.pp_syntax.specs.declared.tree.Expr.{Expr}
use Rattle.pp_syntax.specs.declared.tree.Form.{Form}
use Rattle.pp_syntax.specs.declared.tree.Form.TheVariants as form
use Rattle.pp_syntax.specs.declared.tree.Form.TheOpen as plain
use Rattle.pp_syntax.specs.declared.tree.Op.{Op}
use Rattle.pp_syntax.specs.declared.tree.Op.TheVariants as op
use Rattle.pp_syntax.specs.Tokens.{Lexeme}
use Rattle.pp_syntax.specs.Phrases.{◌then◌, Sign, place_of}
use Rattle.pp_syntax.specs.Derivation.{Rule, Infix, Prefixed, Operation, Operations, ChainOf, PostfixOf, UnaryOf, Prefixes, ExprOf, AndOf, ComparisonOf, EqualityOf, SumOf, ProductOf, InOf, none}
use Rattle.pp_syntax.specs.Derivation as rule
use Rattle.pp_print.specs.declared.words.Word.{Word}
use Rattle.pp_print.specs.Words.{sign, in_parens}
use Rattle.pp_print.specs.Expressions.{Printed, printed, printed_form, expr_words, at_level, operator, form_by, operation_by}
use Rattle.pp_print.specs.Places.{unplaced, unplaced_form}
use Rattle.pp_print.proofs.Forms.{printed_chain, printed_prefix}
use Rattle.pp_print.proofs.Unplaced.{unplaced_operation, unplaced_chain, unplaced_prefix}
use Rattle.pp_print.proofs.Phrases.{words_in, parts, no_word, one_word, together, Small, parts_stand}

-- Any tokens with these words spell it by the rule, places aside.
abbrev pub Again : Rule → Expr → List Word → Type 0
Again R x ws = (us : List Lexeme) → words_in us ≡ ws → (y : Expr) × R y us × (unplaced x ≡ unplaced y)

-- the rule n steps looser than that of a postfix
abbrev pub loose : Rule → ℕ → Rule
loose F zero = PostfixOf F
loose F (suc zero) = UnaryOf F
loose F (suc (suc n)) = ChainOf (6 - n) (loose F (suc n))

-- the rule of this level
abbrev pub RuleAt : Rule → ℕ → Rule
RuleAt F level = loose F (8 - level)

-- It is spelled again at its own level, and if that is below n, also within brackets.
pub record Reprint (F : Rule) (n : ℕ) (x : Expr) : Type 0 where
  pub below : (printed x).level ≤ 8
  pub own : Again (RuleAt F (printed x).level) x (expr_words x)
  pub needs : (n ≤ (printed x).level) ⊎ Again F x (expr_words x)

-- what a rule spells is spelled by the next looser one
looser : (F : Rule) (n : ℕ) (y : Expr) (us : List Lexeme) → loose F n y us → loose F (suc n) y us
looser F zero y us h = rule.operand h
looser F (suc n) y us h = rule.operand h

-- and by any looser one
looser_by : (F : Rule) (k n : ℕ) (y : Expr) (us : List Lexeme) → loose F n y us → loose F (k + n) y us
looser_by F zero n y us h = let same : n ≡ zero + n = omega arith in subst (λ m. loose F m y us) same h
looser_by F (suc k) n y us h = let same : suc (k + n) ≡ suc k + n = omega arith in subst (λ m. loose F m y us) same (looser F (k + n) y us (looser_by F k n y us h))

-- so from one number of steps to another
pub looser_to : (F : Rule) (m n : ℕ) (y : Expr) (us : List Lexeme) → m ≤ n → loose F m y us → loose F n y us
looser_to F m n y us below h = let same : (n - m) + m ≡ n = omega (arith, below) in subst (λ k. loose F k y us) same (looser_by F (n - m) m y us h)

-- the words of an expression in parentheses spell an operand
pub enclosed_again : (F : Rule) (x : Expr) (us : List Lexeme) → Again F x (expr_words x) → words_in us ≡ in_parens (expr_words x) → (y : Expr) × PostfixOf F y us × (unplaced x ≡ unplaced y)
enclosed_again F x us again w =
    let p = parts us (sign (codes "(")) (expr_words x ++ sign (codes ")")) w in
    let q = parts p.back (expr_words x) (sign (codes ")")) p.second in
    let r = again q.front q.first in
    let inner : (Sign (codes "(") then F r.0 then Sign (codes ")")) us =
    together (Sign (codes "(")) (F r.0 then Sign (codes ")")) us (sign (codes "(")) (expr_words x ++ sign (codes ")")) p (one_word kind.Sign (codes "(") p.front p.first)
    (together (F r.0) (Sign (codes ")")) p.back (expr_words x) (sign (codes ")")) q r.1 (one_word kind.Sign (codes ")") q.back q.second)) in
    (r.0, record { operand = r.0; front = us; back = []; primary = rule.enclosed inner; suffixes = none refl refl; whole = sym (append-nil us) }, r.2)

-- where operators of this level, and those that bind tighter, need no brackets
pub at_level_again : (F : Rule) (n : ℕ) (x : Expr) → n ≤ 8 → Reprint F n x → Again (RuleAt F n) x (at_level n (printed x))
at_level_again F n x most r us w = elim (nat_le n (printed x).level) as (λ v. nat_le n (printed x).level ≡ v → words_in us ≡ cond v (expr_words x) (in_parens (expr_words x)) → (y : Expr) × RuleAt F n y us × (unplaced x ≡ unplaced y)) [
  | true ↦ λ e k. let a = r.own us k in (a.0, looser_to F (8 - (printed x).level) (8 - n) a.0 us (omega (arith, leb-true n (printed x).level e, r.below)) a.1, a.2)
  | false ↦ λ e k. elim r.needs [
    | inl h ↦ absurd (both_ways (nat_le n (printed x).level) e (le-leb n (printed x).level h))
    | inr again ↦ let a = enclosed_again F x us again k in (a.0, looser_to F 0 (8 - n) a.0 us (omega arith) a.1, a.2)
  ]
] refl w

-- what is spelled again where fewer brackets are left out is so where more are
pub weaker : (F : Rule) (m n : ℕ) (x : Expr) → m ≤ n → Reprint F n x → Reprint F m x
weaker F m n x below r = record { below = r.below; own = r.own; needs = elim r.needs [ inl h ↦ inl (omega arith) | inr h ↦ inr h ] }

-- ---- operators

-- the word of an operator spells it again
infix_again : (o : Op) (ts us : List Lexeme) → Infix o ts → words_in us ≡ operator o → Infix o us
infix_again op.Or ts us h w = one_word kind.Keyword (codes "or") us w
infix_again op.And ts us h w = one_word kind.Keyword (codes "and") us w
infix_again op.Less ts us h w = one_word kind.Sign (codes "<") us w
infix_again op.Greater ts us h w = one_word kind.Sign (codes ">") us w
infix_again op.AtMost ts us h w = one_word kind.Sign (codes "<=") us w
infix_again op.AtLeast ts us h w = one_word kind.Sign (codes ">=") us w
infix_again op.Same ts us h w = one_word kind.Sign (codes "==") us w
infix_again op.NotSame ts us h w = one_word kind.Sign (codes "!=") us w
infix_again op.Plus ts us h w = one_word kind.Sign (codes "+") us w
infix_again op.Minus ts us h w = one_word kind.Sign (codes "-") us w
infix_again op.Times ts us h w = one_word kind.Sign (codes "*") us w
infix_again op.In ts us h w = one_word kind.Keyword (codes "in") us w
infix_again op.Not ts us h w = absurd h

-- so does that of a prefix
prefixed_again : (o : Op) (ts us : List Lexeme) → Prefixed o ts → words_in us ≡ operator o → Prefixed o us
prefixed_again op.Not ts us h w = one_word kind.Sign (codes "!") us w
prefixed_again op.Minus ts us h w = one_word kind.Sign (codes "-") us w
prefixed_again op.Or ts us h w = absurd h
prefixed_again op.And ts us h w = absurd h
prefixed_again op.Less ts us h w = absurd h
prefixed_again op.Greater ts us h w = absurd h
prefixed_again op.AtMost ts us h w = absurd h
prefixed_again op.AtLeast ts us h w = absurd h
prefixed_again op.Same ts us h w = absurd h
prefixed_again op.NotSame ts us h w = absurd h
prefixed_again op.Plus ts us h w = absurd h
prefixed_again op.Times ts us h w = absurd h
prefixed_again op.In ts us h w = absurd h

-- and those of prefixes
prefixes_again : (ops : List Op) (ts us : List Lexeme) → Prefixes ops ts → words_in us ≡ flat_map operator ops → Prefixes ops us
prefixes_again [] ts us d w = no_word us w
prefixes_again (o ∷ ops) ts us d w =
    let p = parts us (operator o) (flat_map operator ops) w in
    together (Prefixed o) (Prefixes ops) us (operator o) (flat_map operator ops) p (prefixed_again o d.front p.front d.first p.first) (prefixes_again ops d.back p.back d.second p.second)

-- ---- chains of one level

module _ (n : ℕ) (F A : Rule) (level : ℕ) (most : level ≤ 6) (next : (x : Expr) (ts : List Lexeme) → A x ts → Small n ts → Reprint F (level + 1) x) where
  -- the rule of the next tighter level
  abbrev Next : Rule
  Next = RuleAt F (level + 1)

  -- the words of operators with their right operands spell them again
  operations_again : (os : List (Op × Expr)) (ts : List Lexeme) → Operations level A os ts → Small n ts → (us : List Lexeme) → words_in us ≡ flat_map (operation_by printed level) os
      → (ps : List (Op × Expr)) × Operations level Next ps us × (map unplaced_operation os ≡ map unplaced_operation ps)
  operations_again [] ts d good us w = ([], no_word us w, refl)
  operations_again (o ∷ os) ts d good us w =
      let p = parts us (operation_by printed level o) (flat_map (operation_by printed level) os) w in
      let q = parts p.front (operator o.0) (at_level (level + 1) (printed o.1)) p.first in
      let g = parts_stand n (Operation level A o) (Operations level A os) ts d good in
      let k = parts_stand n (Infix o.0) (A o.1) d.front d.first.1 g.0 in
      let here = at_level_again F (level + 1) o.1 (omega (arith, most)) (next o.1 d.first.1.back d.first.1.second k.1) q.back q.second in
      let rest = operations_again os d.back d.second g.1 p.back p.second in
      let mark : Infix o.0 q.front = infix_again o.0 d.first.1.front q.front d.first.1.first q.first in (
        (o.0, here.0) ∷ rest.0,
        together (Operation level Next (o.0, here.0)) (Operations level Next rest.0) us (operation_by printed level o) (flat_map (operation_by printed level) os) p
            (d.first.0, together (Infix o.0) (Next here.0) p.front (operator o.0) (at_level (level + 1) (printed o.1)) q mark here.1) rest.1,
        ap (λ (x : Expr). (o.0, x) ∷ map unplaced_operation os) here.2 ∙ ap (λ (r : List (Op × Expr)). (o.0, unplaced here.0) ∷ r) rest.2,
      )

  -- the words of a chain spell its operand and operators again
  chain_parts : (x : Expr) (o : Op × Expr) (os : List (Op × Expr)) (ts : List Lexeme) → (A x then Operations level A (o ∷ os)) ts → Small n ts → (us : List Lexeme)
      → words_in us ≡ at_level (level + 1) (printed x) ++ flat_map (operation_by printed level) (o ∷ os)
      → (y : Expr) × (ps : List (Op × Expr)) × (Next y then Operations level Next ps) us × (unplaced x ≡ unplaced y) × (map unplaced_operation (o ∷ os) ≡ map unplaced_operation ps)
  chain_parts x o os ts d good us w =
      let p = parts us (at_level (level + 1) (printed x)) (flat_map (operation_by printed level) (o ∷ os)) w in
      let g = parts_stand n (A x) (Operations level A (o ∷ os)) ts d good in
      let first = at_level_again F (level + 1) x (omega (arith, most)) (next x d.front d.first g.0) p.front p.first in
      let rest = operations_again (o ∷ os) d.back d.second g.1 p.back p.second in
      (first.0, rest.0, together (Next first.0) (Operations level Next rest.0) us (at_level (level + 1) (printed x)) (flat_map (operation_by printed level) (o ∷ os)) p first.1 rest.1, first.2, rest.2)

  -- an operand and operators, spelled again, are a chain again
  chained : (y x : Expr) (o : Op × Expr) (os : List (Op × Expr)) (us : List Lexeme) → y.form ≡ form.Chain x (o ∷ os)
      → (r : (z : Expr) × (ps : List (Op × Expr)) × (Next z then Operations level Next ps) us × (unplaced x ≡ unplaced z) × (map unplaced_operation (o ∷ os) ≡ map unplaced_operation ps))
      → (z : Expr) × ChainOf level Next z us × (unplaced y ≡ unplaced z)
  chained y x o os us e (z, [], d, same, others) = cc
  chained y x o os us e (z, p ∷ ps, d, same, others) = (
    record { at = place_of us; form = form.Chain z (p ∷ ps) },
    rule.chain z p ps refl refl d,
    ap (λ (f : Form). record { at = 0; form = f })
        (ap unplaced_form e ∙ unplaced_chain x (o ∷ os) ∙ ap (λ (w : Expr). form.Chain w (map unplaced_operation (o ∷ os))) same ∙ ap (λ (r : List (Op × Expr)). form.Chain (unplaced z) r) others ∙ sym (unplaced_chain z (p ∷ ps))),
  )

  -- the words of a chain of a level spell it again, where those of its operands do
  pub chain_again : ((z : Expr) (us : List Lexeme) → ChainOf level Next z us → RuleAt F level z us) → (y : Expr) (ts : List Lexeme) → ChainOf level A y ts → Small n ts → Reprint F level y
  chain_again own y ts (rule.operand d) good = weaker F level (level + 1) y (omega arith) (next y ts d good)
  chain_again own y ts (rule.chain x o os e at d) good =
      let is : (printed y) ≡ form_by printed {Y = Form} (plain.Chain x (o ∷ os)) = ap printed_form e ∙ printed_chain x (o ∷ os) in
      let level_is : (printed y).level ≡ level = ap (λ (p : Printed). p.level) is ∙ d.second.first.0 in
      record {
        below = omega (arith, level_is, most);
        own = λ us w.
            let words : words_in us ≡ at_level (level + 1) (printed x) ++ flat_map (operation_by printed level) (o ∷ os) =
            w ∙ ap (λ (p : Printed). p.words) is ∙ ap (λ n. at_level (n + 1) (printed x) ++ flat_map (operation_by printed n) (o ∷ os)) d.second.first.0 in
            let r = chained y x o os us e (chain_parts x o os ts d good us words) in
            (r.0, subst (λ n. RuleAt F n r.0 us) (sym level_is) (own r.0 us r.1), r.2);
        needs = inl (omega (arith, level_is));
      }

-- ---- prefixes

module _ (n : ℕ) (F A : Rule) (next : (x : Expr) (ts : List Lexeme) → PostfixOf A x ts → Small n ts → Reprint F 8 x) where
  -- the words of an operand with prefixes spell it again
  pub unary_again : (y : Expr) (ts : List Lexeme) → UnaryOf A y ts → Small n ts → Reprint F 7 y
  unary_again y ts (rule.operand d) good = weaker F 7 8 y (omega arith) (next y ts d good)
  unary_again y ts (rule.prefixed o ops x e at d) good =
      let is : (printed y) ≡ form_by printed {Y = Form} (plain.Prefix (o ∷ ops) x) = ap printed_form e ∙ printed_prefix (o ∷ ops) x in
      let level_is : (printed y).level ≡ 7 = ap (λ (p : Printed). p.level) is in
      let g = parts_stand n (Prefixes (o ∷ ops)) (PostfixOf A x) ts d good in
      record {
        below = omega (arith, level_is);
        own = λ us w.
            let p = parts us (flat_map operator (o ∷ ops)) (at_level 8 (printed x)) (w ∙ ap (λ (p : Printed). p.words) is) in
            let r = at_level_again F 8 x (omega arith) (next x d.back d.second g.1) p.back p.second in
            let spelled : UnaryOf F (record { at = place_of us; form = form.Prefix (o ∷ ops) r.0 }) us =
            rule.prefixed o ops r.0 refl refl (together (Prefixes (o ∷ ops)) (PostfixOf F r.0) us (flat_map operator (o ∷ ops)) (at_level 8 (printed x)) p (prefixes_again (o ∷ ops) d.front p.front d.first p.first) r.1) in (
              record { at = place_of us; form = form.Prefix (o ∷ ops) r.0 },
              subst (λ n. RuleAt F n (record { at = place_of us; form = form.Prefix (o ∷ ops) r.0 }) us) (sym level_is) spelled,
              ap (λ (f : Form). record { at = 0; form = f }) (ap unplaced_form e ∙ unplaced_prefix (o ∷ ops) x ∙ ap (λ (z : Expr). form.Prefix (o ∷ ops) z) r.2 ∙ sym (unplaced_prefix (o ∷ ops) r.0)),
            );
        needs = inl (omega (arith, level_is));
      }

-- ---- expressions

module _ (n : ℕ) (F E : Rule) (next : (x : Expr) (ts : List Lexeme) → PostfixOf E x ts → Small n ts → Reprint F 8 x) where
  -- the words of a chain of `in` spell it again, where those of each operand do
  in_again : (y : Expr) (ts : List Lexeme) → InOf E y ts → Small n ts → Reprint F 6 y
  in_again = chain_again n F (UnaryOf E) 6 (omega arith) (unary_again n F E next) (λ z us h. h)

  -- of products
  product_again : (y : Expr) (ts : List Lexeme) → ProductOf E y ts → Small n ts → Reprint F 5 y
  product_again = chain_again n F (InOf E) 5 (omega arith) in_again (λ z us h. h)

  -- of sums
  sum_again : (y : Expr) (ts : List Lexeme) → SumOf E y ts → Small n ts → Reprint F 4 y
  sum_again = chain_again n F (ProductOf E) 4 (omega arith) product_again (λ z us h. h)

  -- of `==` and `!=`
  equality_again : (y : Expr) (ts : List Lexeme) → EqualityOf E y ts → Small n ts → Reprint F 3 y
  equality_again = chain_again n F (SumOf E) 3 (omega arith) sum_again (λ z us h. h)

  -- of comparisons
  comparison_again : (y : Expr) (ts : List Lexeme) → ComparisonOf E y ts → Small n ts → Reprint F 2 y
  comparison_again = chain_again n F (EqualityOf E) 2 (omega arith) equality_again (λ z us h. h)

  -- and of `and`
  and_again : (y : Expr) (ts : List Lexeme) → AndOf E y ts → Small n ts → Reprint F 1 y
  and_again = chain_again n F (ComparisonOf E) 1 (omega arith) comparison_again (λ z us h. h)

  -- An expression is spelled again where each postfix is.
  pub expr_again : (y : Expr) (ts : List Lexeme) → ExprOf E y ts → Small n ts → Reprint F 0 y
  expr_again = chain_again n F (AndOf E) 0 (omega arith) and_again (λ z us h. h)
