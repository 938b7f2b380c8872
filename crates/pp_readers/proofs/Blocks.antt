-- What is read is spelled: blocks, and statements with blocks.
use Rattle.std.proofs.Common.{◌≡◌, inl, inr, ℕ, zero, suc, ◌+◌, Bool, true, false, cond, List, [], ◌∷◌, ◌++◌, length, Some, None, refl, sym, ap, subst, ◌∙◌, append_assoc}
use Rattle.std.specs.Prelude.{codes}
use Rattle.std.specs.Str.{bytes_eq}
use Rattle.pp_syntax.specs.declared.token.Kind.{Kind}
use Rattle.pp_syntax.specs.declared.token.Kind.TheVariants as kind
use Rattle.pp_syntax.specs.declared.tree.Expr.{Expr}
use Rattle.pp_syntax.specs.declared.tree.Func.{Func}
use Rattle.pp_syntax.specs.declared.tree.Stmt.{Stmt}
use Rattle.pp_syntax.specs.declared.tree.Arm.{Arm}
use Rattle.pp_syntax.specs.declared.tree.CaseArm.{CaseArm}
use Rattle.pp_syntax.specs.Tokens.{Lexeme}
use Rattle.pp_syntax.specs.Phrases.{◌then◌, Sign, Keyword, Each, Listed, place_of}
use Rattle.pp_syntax.specs.Derivation.{OptionOf, PostfixOf, ReferenceOf}
use Rattle.pp_syntax.specs.Statements.{InBraces, Statements, BlockOf, ElseOf, ArmOf, CaseArmOf, CaseArms, StmtOf, IsStmtAt}
use Rattle.pp_syntax.specs.Statements as grammar
use Rattle.pp_readers.specs.Marks.{Found}
use Rattle.pp_readers.specs.Parsed.{Begins}
use Rattle.pp_readers.specs.Expressions.{with_front, option_with, reference_with, postfix_with}
use Rattle.pp_readers.proofs.Tokens.{joins, maps}
use Rattle.pp_readers.proofs.Finding.{Finds, items_found}
use Rattle.pp_readers.proofs.Found.{option_found}
use Rattle.pp_readers.specs.Combining.{Reader, both, behind, in_braces, begins}
use Rattle.pp_readers.specs.Names.{taken, function_by}
use Rattle.pp_readers.specs.Statements.{unclosed, statements_in, block_with, else_with, arm_of, arm_with, more_arms, arms_with, if_of, if_with, unless_of, unless_with, options_with, case_arm_of, case_arm_with, case_arms_in, case_of, case_with, chain_with, called_or, keyed_with, stmt_by, stmt_with, stmt_at}
use Rattle.pp_readers.proofs.Combining.{Spells, both_found, behind_found, in_braces_found, made_found, placed_found, first_token, some_token, many_found}
use Rattle.pp_readers.proofs.BodiesFound.{front_some, each_next}
use Rattle.pp_readers.proofs.ChainsFound.{chain_found, assign_found, call_found}
use Rattle.rh_base.proofs.Options.{bind_some}

-- tokens of three phrases, joined at the other place
pub to_right : (A B C : List Lexeme → Type 0) (us : List Lexeme) → ((A then B) then C) us → (A then (B then C)) us
to_right A B C us s = record {
  front = s.first.front;
  back = s.first.back ++ s.back;
  first = s.first.first;
  second = record { front = s.first.back; back = s.back; first = s.first.second; second = s.second; whole = refl };
  whole = s.whole ∙ ap (λ r. r ++ s.back) s.first.whole ∙ append_assoc s.first.front s.first.back s.back;
}

-- and joined at the first place again
pub to_left : (A B C : List Lexeme → Type 0) (us : List Lexeme) → (A then (B then C)) us → ((A then B) then C) us
to_left A B C us s = record {
  front = s.front ++ s.second.front;
  back = s.second.back;
  first = record { front = s.front; back = s.second.front; first = s.first; second = s.second.first; whole = refl };
  second = s.second.second;
  whole = s.whole ∙ ap (λ r. s.front ++ r) s.second.whole ∙ sym (append_assoc s.front s.second.front s.second.back);
}

-- one or more arms
unfoldable pub Arms : (Expr → List Lexeme → Type 0) → (Stmt → List Lexeme → Type 0) → List Arm → List Lexeme → Type 0
Arms E S [] us = ⊥
Arms E S (a ∷ qs) us = (ArmOf E S a then Each (Keyword (codes "elsif")) (ArmOf E S) qs) us

module _ (e : Reader Expr) (E : Spells Expr) (finds : Finds e E) (s : Reader Stmt) (S : Spells Stmt) (inner : Finds s S) where
  -- a statement before statements makes statements
  row_next : (x : Stmt) (xs : List Stmt) (us vs : List Lexeme) → S x us → Statements S xs vs → Statements S (x ∷ xs) (us ++ vs)
  row_next x xs us vs p r = record { front = us; back = vs; first = p; second = r; whole = refl }

  -- what is read as statements is spelled so
  statements_found : Finds (statements_in s) (Statements S)
  statements_found ts x h = many_found unclosed s S inner (Statements S) refl row_next (length ts + 1) ts x h

  -- what is read as a block is spelled so
  pub block_found : Finds (block_with s) (BlockOf S)
  block_found = in_braces_found (statements_in s) (Statements S) statements_found

  -- an `else` with a block that is there is one that may be left out
  is_else : (xs : List Stmt) (us : List Lexeme) → (Keyword (codes "else") then BlockOf S xs) us → ElseOf S xs us
  is_else [] us h = inr h
  is_else (x ∷ xs) us h = h

  -- what is read as an `else`, or as none, is spelled so
  else_found : Finds (else_with s) (ElseOf S)
  else_found ts x h = by_test (begins kind.Keyword (codes "else") ts) h
    where
      by_test : (v : Bool) → cond v (behind kind.Keyword (codes "else") (block_with s) ts) (Some ([], ts)) ≡ Some x → Begins (ElseOf S x.0) ts x.1
      by_test true k = maps (is_else x.0) (behind_found (block_with s) (BlockOf S) block_found kind.Keyword (codes "else") ts x k)
      by_test false k =
          let same : ◌≡◌ {A = List Stmt × List Lexeme} ([], ts) x = cc in
          subst (λ (y : List Stmt × List Lexeme). Begins (ElseOf S y.0) ts y.1) same (record { front = []; spelled = inl refl; whole = refl })

  -- what is read as a test and its block is spelled so
  arm_found : Finds (arm_with e s) (ArmOf E S)
  arm_found = made_found arm_of (both e (block_with s)) (λ p. E p.0 then BlockOf S p.1) (ArmOf E S) (both_found e (block_with s) E (BlockOf S) finds block_found) (λ at p us h. h)

  -- what is read as `elsif` with tests and blocks is spelled so
  more_found : (n : ℕ) → Finds (more_arms e s n) (Each (Keyword (codes "elsif")) (ArmOf E S))
  more_found =
      many_found (begins kind.Keyword (codes "elsif")) (behind kind.Keyword (codes "elsif") (arm_with e s)) (λ a. Keyword (codes "elsif") then ArmOf E S a)
      (behind_found (arm_with e s) (ArmOf E S) arm_found kind.Keyword (codes "elsif")) (Each (Keyword (codes "elsif")) (ArmOf E S)) refl (each_next (Keyword (codes "elsif")) (ArmOf E S))

  -- what is read as one such arm or more is spelled so
  arms_found : Finds (arms_with e s) (Arms E S)
  unfolding Arms
  arms_found ts x h =
      let a = bind_some (arm_with e s ts) (λ a. with_front (a.0 ∷ []) (more_arms e s (length a.1 + 1) a.1)) x h in
      let l = front_some a.0.0 (more_arms e s (length a.0.1 + 1) a.0.1) x a.2 in
      subst (λ (y : List Arm × List Lexeme). Begins (Arms E S y.0) ts y.1) l.2 (joins (arm_found ts a.0 a.1) (more_found (length a.0.1 + 1) a.0.1 l.0 l.1))

  -- `if`, its arms and an `else` are a statement
  is_if : (p : List Arm × List Stmt) (us : List Lexeme) → (Keyword (codes "if") then (Arms E S p.0 then ElseOf S p.1)) us → StmtOf E S (if_of (place_of us) p) us
  unfolding Arms
  is_if ([], other) us h = absurd h.second.first
  is_if (a ∷ qs, other) us h =
      let k = first_token kind.Keyword (codes "if") ((ArmOf E S a then Each (Keyword (codes "elsif")) (ArmOf E S) qs) then ElseOf S other) us h in
      grammar.if (place_of us) a qs other refl
      (record { front = k.front; back = k.back; first = k.first; second = to_right (ArmOf E S a) (Each (Keyword (codes "elsif")) (ArmOf E S) qs) (ElseOf S other) k.back k.second; whole = k.whole })

  -- what is read as an `if` is a statement spelled so
  if_found : Finds (if_with e s) (StmtOf E S)
  if_found =
      placed_found if_of (behind kind.Keyword (codes "if") (both (arms_with e s) (else_with s))) (λ p. Keyword (codes "if") then (Arms E S p.0 then ElseOf S p.1)) (StmtOf E S)
      (behind_found (both (arms_with e s) (else_with s)) (λ p. Arms E S p.0 then ElseOf S p.1) (both_found (arms_with e s) (else_with s) (Arms E S) (ElseOf S) arms_found else_found) kind.Keyword (codes "if"))
      (λ p. some_token kind.Keyword (codes "if") (Arms E S p.0 then ElseOf S p.1)) is_if

  -- what is read as an `unless` is a statement spelled so
  unless_found : Finds (unless_with e s) (StmtOf E S)
  unless_found =
      placed_found unless_of (behind kind.Keyword (codes "unless") (both e (both (block_with s) (else_with s)))) (λ p. Keyword (codes "unless") then (E p.0 then (BlockOf S p.1.0 then ElseOf S p.1.1))) (StmtOf E S)
      (behind_found (both e (both (block_with s) (else_with s))) (λ p. E p.0 then (BlockOf S p.1.0 then ElseOf S p.1.1))
      (both_found e (both (block_with s) (else_with s)) E (λ p. BlockOf S p.0 then ElseOf S p.1) finds (both_found (block_with s) (else_with s) (BlockOf S) (ElseOf S) block_found else_found)) kind.Keyword (codes "unless"))
      (λ p. some_token kind.Keyword (codes "unless") (E p.0 then (BlockOf S p.1.0 then ElseOf S p.1.1)))
      (λ p us h. grammar.unless (place_of us) p.0 p.1.0 p.1.1 refl (first_token kind.Keyword (codes "unless") (E p.0 then (BlockOf S p.1.0 then ElseOf S p.1.1)) us h))

  -- what is read as options to a `:` is spelled so
  options_found : Finds (options_with e) (λ xs. Listed (OptionOf E) xs then Sign (codes ":"))
  options_found ts x h = items_found (option_with e) (OptionOf E) (option_found e E finds) (codes ":") (length ts + 1) ts x h

  -- what is read as an arm of a `case` is spelled so
  case_arm_found : Finds (case_arm_with e s) (CaseArmOf E S)
  case_arm_found =
      made_found case_arm_of (both (options_with e) (block_with s)) (λ p. (Listed (OptionOf E) p.0 then Sign (codes ":")) then BlockOf S p.1) (CaseArmOf E S)
      (both_found (options_with e) (block_with s) (λ xs. Listed (OptionOf E) xs then Sign (codes ":")) (BlockOf S) options_found block_found)
      (λ at p us h. to_right (Listed (OptionOf E) p.0) (Sign (codes ":")) (BlockOf S p.1) us h)

  -- an arm of a `case` before arms makes arms
  arm_next : (x : CaseArm) (xs : List CaseArm) (us vs : List Lexeme) → CaseArmOf E S x us → CaseArms E S xs vs → CaseArms E S (x ∷ xs) (us ++ vs)
  arm_next x xs us vs p r = record { front = us; back = vs; first = p; second = r; whole = refl }

  -- what is read as arms of a `case` is spelled so
  case_arms_found : Finds (case_arms_in e s) (CaseArms E S)
  case_arms_found ts x h = many_found unclosed (case_arm_with e s) (CaseArmOf E S) case_arm_found (CaseArms E S) refl arm_next (length ts + 1) ts x h

  -- what is read as a `case` is a statement spelled so
  case_found : Finds (case_with e s) (StmtOf E S)
  case_found =
      placed_found case_of (behind kind.Keyword (codes "case") (both e (in_braces (case_arms_in e s)))) (λ p. Keyword (codes "case") then (E p.0 then InBraces (CaseArms E S p.1))) (StmtOf E S)
      (behind_found (both e (in_braces (case_arms_in e s))) (λ p. E p.0 then InBraces (CaseArms E S p.1))
      (both_found e (in_braces (case_arms_in e s)) E (λ qs. InBraces (CaseArms E S qs)) finds (in_braces_found (case_arms_in e s) (CaseArms E S) case_arms_found)) kind.Keyword (codes "case"))
      (λ p. some_token kind.Keyword (codes "case") (E p.0 then InBraces (CaseArms E S p.1)))
      (λ p us h. grammar.case (place_of us) p.0 p.1 refl (first_token kind.Keyword (codes "case") (E p.0 then InBraces (CaseArms E S p.1)) us h))

  module _ (refs : Finds (reference_with e) (ReferenceOf E)) (post : Finds (postfix_with e) (PostfixOf E)) (some : (y : Expr) → E y [] → ⊥) where
    -- what is read behind a keyword is a statement spelled so
    keyed_found : (word : List ℕ) → Finds (keyed_with e s word) (StmtOf E S)
    keyed_found word ts x h = by_tests (bytes_eq word (codes "if")) (bytes_eq word (codes "unless")) (bytes_eq word (codes "case")) h
      where
        by_tests : (a b c : Bool) → cond a (if_with e s ts) (cond b (unless_with e s ts) (cond c (case_with e s ts) (chain_with e ts))) ≡ Some x → Begins (StmtOf E S x.0) ts x.1
        by_tests true b c k = if_found ts x k
        by_tests false true c k = unless_found ts x k
        by_tests false false true k = case_found ts x k
        by_tests false false false k = chain_found e E finds refs post some S ts x k

    -- what is read behind a word, a function's or another, is a statement spelled so
    called_by : (ts : List Lexeme) (r : Found Func) (x : Stmt × List Lexeme) → called_or e r ts ≡ Some x → Begins (StmtOf E S x.0) ts x.1
    called_by ts None x h = chain_found e E finds refs post some S ts x h
    called_by ts (Some f) x h = call_found e E finds refs post some S ts x h

    -- what is read by the kind of its first token is a statement spelled so
    stmt_kind : (k : Kind) (word : List ℕ) (ts : List Lexeme) (x : Stmt × List Lexeme) → stmt_by e s k word ts ≡ Some x → Begins (StmtOf E S x.0) ts x.1
    stmt_kind kind.Keyword word ts x h = keyed_found word ts x h
    stmt_kind kind.Var word ts x h = assign_found e E finds refs post some S ts x h
    stmt_kind kind.Word word ts x h = called_by ts (taken function_by ts) x h
    stmt_kind kind.Ref word ts x h = chain_found e E finds refs post some S ts x h
    stmt_kind kind.Loose word ts x h = chain_found e E finds refs post some S ts x h
    stmt_kind kind.Sign word ts x h = chain_found e E finds refs post some S ts x h
    stmt_kind kind.Int word ts x h = chain_found e E finds refs post some S ts x h
    stmt_kind kind.Float word ts x h = chain_found e E finds refs post some S ts x h
    stmt_kind kind.Sq word ts x h = chain_found e E finds refs post some S ts x h
    stmt_kind kind.DqOpen word ts x h = chain_found e E finds refs post some S ts x h
    stmt_kind kind.DqText word ts x h = chain_found e E finds refs post some S ts x h
    stmt_kind kind.DqVar word ts x h = chain_found e E finds refs post some S ts x h
    stmt_kind kind.Hole word ts x h = chain_found e E finds refs post some S ts x h
    stmt_kind kind.HoleEnd word ts x h = chain_found e E finds refs post some S ts x h
    stmt_kind kind.DqClose word ts x h = chain_found e E finds refs post some S ts x h
    stmt_kind kind.Tight word ts x h = chain_found e E finds refs post some S ts x h
    stmt_kind kind.LeftOut word ts x h = chain_found e E finds refs post some S ts x h

    -- what is read as a statement is spelled so, if it holds of the statements in its blocks
    pub stmt_found : Finds (stmt_with e s) (StmtOf E S)
    stmt_found [] x h = cc
    stmt_found (t ∷ ts) x h = stmt_kind t.kind t.text (t ∷ ts) x h

module _ (e : Reader Expr) (E : Spells Expr) (finds : Finds e E) (refs : Finds (reference_with e) (ReferenceOf E)) (post : Finds (postfix_with e) (PostfixOf E)) (some : (y : Expr) → E y [] → ⊥) where
  -- what is read as a statement is spelled so, with blocks nested less deep than this
  pub stmt_at_found : (depth : ℕ) → Finds (stmt_at e depth) (IsStmtAt E depth)
  stmt_at_found zero ts x h = cc
  stmt_at_found (suc depth) ts x h = stmt_found e E finds (stmt_at e depth) (IsStmtAt E depth) (stmt_at_found depth) refs post some ts x h
