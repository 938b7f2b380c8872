-- What is read is spelled: operands with what stands behind and before them, and whole expressions.
use Rattle.std.proofs.Common.{◌≡◌, ℕ, zero, suc, ◌+◌, ◌-◌, List, [], ◌∷◌, ◌++◌, length, Some, refl, sym, ap, subst, ◌∙◌, append_assoc}
use Rattle.pp_syntax.specs.declared.tree.Expr.{Expr}
use Rattle.pp_syntax.specs.declared.tree.Op.{Op}
use Rattle.pp_syntax.specs.Tokens.{Lexeme}
use Rattle.pp_syntax.specs.TokenValues.{DqOf}
use Rattle.pp_syntax.specs.Phrases.{place_of}
use Rattle.pp_syntax.specs.Derivation.{Prefixes, UnaryOf, PostfixOf, SuffixesOf, IsExprAt}
use Rattle.pp_syntax.specs.Derivation as grammar
use Rattle.pp_readers.specs.Marks.{Found, first_at}
use Rattle.pp_readers.specs.Values.{dq}
use Rattle.pp_readers.specs.Parsed.{Begins}
use Rattle.pp_readers.specs.Expressions.{prefixes, prefixed, suffixes, postfix_with, unary_with, primary_with, levels_with, expr_at}
use Rattle.pp_readers.proofs.Tokens.{joins}
use Rattle.pp_readers.proofs.Finding.{Finds, prefixes_found}
use Rattle.pp_readers.proofs.Found.{Spells, first_is, chain_found, suffixes_found}
use Rattle.pp_readers.proofs.Operands.{primary_found}
use Rattle.pp_readers.proofs.Solid.{lead, grows, primary_lead, begun_some, LevelOf, level_begun, expr_begun}
use Rattle.rh_base.proofs.Options.{bind_some}

module _ (dq_found : (raw v : List ℕ) → dq raw ≡ Some v → DqOf v raw) (e : List Lexeme → Found Expr) (E : Expr → List Lexeme → Type 0) (finds : Finds e E) (never : Spells E) where
  -- what is read as an operand with indexes and selections is spelled so
  pub postfix_found : Finds (postfix_with e) (PostfixOf E)
  unfolding postfix_with
  postfix_found ts x h =
      let a = bind_some (primary_with e ts) (λ x. suffixes e (first_at ts) (length x.1 + 1) x.0 x.1) x h in
      let p = primary_found dq_found e E finds never ts a.0 a.1 in
      let s = suffixes_found e E finds (first_at ts) (length a.0.1 + 1) a.0.0 a.0.1 x a.2 in
      let whole : ts ≡ (p.front ++ s.front) ++ x.1 = p.whole ∙ ap (λ r. p.front ++ r) s.whole ∙ sym (append_assoc p.front s.front x.1) in
      let place : first_at ts ≡ place_of (p.front ++ s.front) = first_is (p.front ++ s.front) x.1 ts whole (begun_some (p.front ++ s.front) (lead (grows p.front s.front refl (primary_lead E a.0.0 p.front p.spelled)))) in
      record {
        front = p.front ++ s.front;
        spelled = record { operand = a.0.0; front = p.front; back = s.front; primary = p.spelled; suffixes = subst (λ at. SuffixesOf E at a.0.0 x.0 s.front) place s.spelled; whole = refl };
        whole = whole;
      }

  -- prefixes and an operand behind them are an operand with prefixes, or the operand alone
  unary_by : (ops : List Op) (y : Expr) (ts mid rest : List Lexeme) → Begins (Prefixes ops) ts mid → Begins (PostfixOf E y) mid rest → Begins (UnaryOf E (prefixed (first_at ts) ops y)) ts rest
  unfolding joins
  unary_by [] y ts mid rest p b = record { front = b.front; spelled = grammar.UnaryOf.operand b.spelled; whole = p.whole ∙ ap (λ r. r ++ mid) p.spelled ∙ b.whole }
  unary_by (o ∷ more) y ts mid rest p b =
      let both = joins p b in
      record {
        front = both.front;
        spelled = grammar.prefixed o more y refl (first_is both.front rest ts both.whole (begun_some both.front (Rattle.pp_readers.proofs.Solid.prefixed_begun E o more both.front p.front b.front refl p.spelled))) both.spelled;
        whole = both.whole;
      }

  -- what is read as an operand with prefixes is spelled so
  pub unary_found : Finds (unary_with e) (UnaryOf E)
  unfolding unary_with
  unary_found ts x h =
      let a = bind_some (postfix_with e (prefixes ts).1) (λ x. Some (prefixed (first_at ts) (prefixes ts).0 x.0, x.1)) x h in
      let same : ◌≡◌ {A = Expr × List Lexeme} (prefixed (first_at ts) (prefixes ts).0 a.0.0, a.0.1) x = cc in
      subst (λ (y : Expr × List Lexeme). Begins (UnaryOf E y.0) ts y.1) same (unary_by (prefixes ts).0 a.0.0 ts (prefixes ts).1 a.0.1 (prefixes_found ts) (postfix_found (prefixes ts).1 a.0 a.1))

  -- what is read by the rule of each level is spelled so
  pub levels_found : (n : ℕ) → Finds (levels_with e n) (LevelOf E n)
  levels_found zero ts x h = unary_found ts x h
  levels_found (suc n) ts x h = chain_found (6 - n) (levels_with e n) (LevelOf E n) (levels_found n) (λ y s. begun_some [] (level_begun E n y [] s) refl) ts x h

-- what is read as an expression is spelled so, with brackets nested less deep than this
pub expr_found : ((raw v : List ℕ) → dq raw ≡ Some v → DqOf v raw) → (depth : ℕ) → Finds (expr_at depth) (IsExprAt depth)
expr_found dq_found zero ts x h = cc
expr_found dq_found (suc depth) ts x h = levels_found dq_found (expr_at depth) (IsExprAt depth) (expr_found dq_found depth) (λ y s. begun_some [] (expr_begun depth y [] s) refl) 7 ts x h
