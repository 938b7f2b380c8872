-- The words of a statement spell it again, places aside.
use Rattle.std.proofs.Common.{◌≡◌, inl, ℕ, zero, suc, List, [], ◌∷◌, ◌++◌, map, refl, sym, ap, subst, ◌∙◌, append_assoc, append-nil}
use Rattle.std.specs.Prelude.{Option, codes}
use Rattle.std.specs.Option.{option_map}
use Rattle.std.specs.List.{flat_map}
use Rattle.pp_syntax.specs.declared.token.Kind.TheVariants as kind
use Rattle.pp_syntax.specs.declared.tree.Expr.{Expr}
use Rattle.pp_syntax.specs.declared.tree.Operand.{Operand}
use Rattle.pp_syntax.specs.declared.tree.Arrow.{Arrow}
use Rattle.pp_syntax.specs.declared.tree.Func.{Func}
use Rattle.pp_syntax.specs.declared.tree.Stmt.{Stmt, Stmt-F, fold-roll-Stmt, roll-Stmt, map-Stmt}
use Rattle.pp_syntax.specs.declared.tree.Stmt.TheOpen as plain
use Rattle.pp_syntax.specs.declared.tree.Stmt.TheOpen.{Arm-F, CaseArm-F}
use Rattle.pp_syntax.specs.declared.tree.Stmt.TheVariants as stmt
use Rattle.pp_syntax.specs.declared.tree.Stmt.TheVariants.{rolls-Chain, rolls-Assign, rolls-Call, rolls-If, rolls-Unless, rolls-Case}
use Rattle.pp_syntax.specs.declared.tree.Arm.{Arm, out-Arm, roll-Arm, out-roll-Arm, fold-Arm, fold_out-Arm}
use Rattle.pp_syntax.specs.declared.tree.CaseArm.{CaseArm, out-CaseArm, roll-CaseArm, out-roll-CaseArm, fold-CaseArm, fold_out-CaseArm}
use Rattle.pp_syntax.specs.Tokens.{Lexeme}
use Rattle.pp_syntax.specs.Phrases.{◌then◌, Token, Sign, Keyword, Each, Listed, place_of}
use Rattle.pp_syntax.specs.Derivation.{OptionOf, IsExpr}
use Rattle.pp_syntax.specs.Statements.{word_of, VariableOf, InBraces, ArgsOf, Statements, BlockOf, ElseOf, ArmOf, CaseArmOf, CaseArms, StmtOf, IsStmtAt, OperandOf, Links}
use Rattle.pp_syntax.specs.Statements as rule
use Rattle.pp_print.specs.declared.words.Word.{Word}
use Rattle.pp_print.specs.Words.{word, sign, keyword, in_parens, in_braces, listed}
use Rattle.pp_print.specs.Expressions.{expr_words, option_by}
use Rattle.pp_print.specs.Statements.{stmt_words, arm_words, case_arm_words, block_by, else_by, operand_words, links}
use Rattle.pp_print.specs.Places.{unplaced, unplaced_operand, stmt_step, arm_step, case_arm_step, unplaced_stmt}
use Rattle.pp_print.proofs.Blocks.{words_chain, words_assign, words_call, words_if, words_unless, words_case}
use Rattle.pp_print.proofs.Phrases.{words_in, Parts, parts, no_word, one_word, together, Small, parts_stand, each_again, listed_again}
use Rattle.pp_print.proofs.Bodies.{expr_reads, option_reads}
use Rattle.pp_print.proofs.Chains.{braced, braces_small, operand_reads, links_read, alone_again}

-- ---- statements without places

-- an arm without places
unfoldable pub unplaced_arm : Arm → Arm
unplaced_arm a = roll-Arm (record { test = unplaced (out-Arm a).test; body = map unplaced_stmt (out-Arm a).body })

-- an arm of a `case` without places
unfoldable pub unplaced_case_arm : CaseArm → CaseArm
unplaced_case_arm a = roll-CaseArm (record { options = map (option_map unplaced) (out-CaseArm a).options; body = map unplaced_stmt (out-CaseArm a).body })

-- an arm without places, from the bottom up
arm_folded : Arm → Arm
arm_folded a = fold-Arm Stmt Arm CaseArm (λ x. roll-Stmt (stmt_step x)) arm_step case_arm_step a

-- an arm of a `case` without places, from the bottom up
case_arm_folded : CaseArm → CaseArm
case_arm_folded a = fold-CaseArm Stmt Arm CaseArm (λ x. roll-Stmt (stmt_step x)) arm_step case_arm_step a

-- that is the arm without places
arm_is : (a : Arm) → arm_folded a ≡ unplaced_arm a
unfolding arm_folded unplaced_arm unplaced_stmt
arm_is a = fold_out-Arm Stmt Arm CaseArm (λ x. roll-Stmt (stmt_step x)) arm_step case_arm_step a

-- and the arm of a `case`
case_arm_is : (a : CaseArm) → case_arm_folded a ≡ unplaced_case_arm a
unfolding case_arm_folded unplaced_case_arm unplaced_stmt
case_arm_is a = fold_out-CaseArm Stmt Arm CaseArm (λ x. roll-Stmt (stmt_step x)) arm_step case_arm_step a

-- without places a statement is its first step without places
pub rolled : (d : Stmt-F Stmt Arm CaseArm) → unplaced_stmt (roll-Stmt d) ≡ roll-Stmt (stmt_step (map-Stmt Stmt Arm CaseArm Stmt Arm CaseArm unplaced_stmt unplaced_arm unplaced_case_arm d))
unfolding arm_folded case_arm_folded unplaced_stmt
rolled d = fold-roll-Stmt Stmt Arm CaseArm (λ x. roll-Stmt (stmt_step x)) arm_step case_arm_step d
    ∙ ap (λ (a : Arm → Arm). roll-Stmt (stmt_step (map-Stmt Stmt Arm CaseArm Stmt Arm CaseArm unplaced_stmt a case_arm_folded d))) (λ i. λ x. arm_is x i)
    ∙ ap (λ (c : CaseArm → CaseArm). roll-Stmt (stmt_step (map-Stmt Stmt Arm CaseArm Stmt Arm CaseArm unplaced_stmt unplaced_arm c d))) (λ i. λ x. case_arm_is x i)

-- a chain without places
unplaced_chain : (at : ℕ) (ys : List Operand) (arrows : List Arrow) → unplaced_stmt (stmt.Chain at ys arrows) ≡ stmt.Chain 0 (map unplaced_operand ys) arrows
unplaced_chain at ys arrows = sym (ap unplaced_stmt (rolls-Chain at ys arrows)) ∙ rolled (plain.Chain at ys arrows) ∙ rolls-Chain 0 (map unplaced_operand ys) arrows

-- an assignment without places
unplaced_assign : (at : ℕ) (name : List ℕ) (x : Expr) → unplaced_stmt (stmt.Assign at name x) ≡ stmt.Assign 0 name (unplaced x)
unplaced_assign at name x = sym (ap unplaced_stmt (rolls-Assign at name x)) ∙ rolled (plain.Assign at name x) ∙ rolls-Assign 0 name (unplaced x)

-- a call without places
unplaced_call : (at : ℕ) (f : Func) (xs : List Expr) → unplaced_stmt (stmt.Call at f xs) ≡ stmt.Call 0 f (map unplaced xs)
unplaced_call at f xs = sym (ap unplaced_stmt (rolls-Call at f xs)) ∙ rolled (plain.Call at f xs) ∙ rolls-Call 0 f (map unplaced xs)

-- an `if` without places
unplaced_if : (at : ℕ) (arms : List Arm) (other : List Stmt) → unplaced_stmt (stmt.If at arms other) ≡ stmt.If 0 (map unplaced_arm arms) (map unplaced_stmt other)
unplaced_if at arms other = sym (ap unplaced_stmt (rolls-If at arms other)) ∙ rolled (plain.If at arms other) ∙ rolls-If 0 (map unplaced_arm arms) (map unplaced_stmt other)

-- an `unless` without places
unplaced_unless : (at : ℕ) (x : Expr) (body other : List Stmt) → unplaced_stmt (stmt.Unless at x body other) ≡ stmt.Unless 0 (unplaced x) (map unplaced_stmt body) (map unplaced_stmt other)
unplaced_unless at x body other = sym (ap unplaced_stmt (rolls-Unless at x body other)) ∙ rolled (plain.Unless at x body other) ∙ rolls-Unless 0 (unplaced x) (map unplaced_stmt body) (map unplaced_stmt other)

-- a `case` without places
unplaced_case : (at : ℕ) (x : Expr) (arms : List CaseArm) → unplaced_stmt (stmt.Case at x arms) ≡ stmt.Case 0 (unplaced x) (map unplaced_case_arm arms)
unplaced_case at x arms = sym (ap unplaced_stmt (rolls-Case at x arms)) ∙ rolled (plain.Case at x arms) ∙ rolls-Case 0 (unplaced x) (map unplaced_case_arm arms)

-- ---- statements, where those in blocks are spelled again

-- the words of statements of this rule spell them again
abbrev pub StmtReads : ℕ → (Stmt → List Lexeme → Type 0) → Type 0
StmtReads n S = (s : Stmt) (ts : List Lexeme) → S s ts → Small n ts → (us : List Lexeme) → words_in us ≡ stmt_words s → (t : Stmt) × S t us × (unplaced_stmt s ≡ unplaced_stmt t)

module _ (n : ℕ) (S : Stmt → List Lexeme → Type 0) (again : StmtReads n S) where
  -- the words of statements one behind the other spell them again
  body_reads : (body : List Stmt) (ts : List Lexeme) → Statements S body ts → Small n ts → (us : List Lexeme) → words_in us ≡ flat_map stmt_words body → (b : List Stmt) × Statements S b us × (map unplaced_stmt body ≡ map unplaced_stmt b)
  body_reads [] ts d good us w = ([], no_word us w, refl)
  body_reads (s ∷ body) ts d good us w =
      let p = parts us (stmt_words s) (flat_map stmt_words body) w in
      let g = parts_stand n (S s) (Statements S body) ts d good in
      let here = again s d.front d.first g.0 p.front p.first in
      let rest = body_reads body d.back d.second g.1 p.back p.second in (
        here.0 ∷ rest.0,
        together (S here.0) (Statements S rest.0) us (stmt_words s) (flat_map stmt_words body) p here.1 rest.1,
        ap (λ (z : Stmt). z ∷ map unplaced_stmt body) here.2 ∙ ap (λ (r : List Stmt). unplaced_stmt here.0 ∷ r) rest.2,
      )

  -- so do those of a block
  pub block_reads : (body : List Stmt) (ts : List Lexeme) → BlockOf S body ts → Small n ts → (us : List Lexeme) → words_in us ≡ block_by stmt_words body → (b : List Stmt) × BlockOf S b us × (map unplaced_stmt body ≡ map unplaced_stmt b)
  block_reads body ts d good us w =
      let b = braced us (flat_map stmt_words body) w in
      let r = body_reads body d.second.front d.second.first (braces_small n (Statements S body) ts d good) b.inner b.words in
      (r.0, b.build (Statements S r.0) r.1, r.2)

  -- a block that is spelled again behind `else` is an `else` again
  some_else : (s : Stmt) (more : List Stmt) (us : List Lexeme) (p : Parts us (keyword (codes "else")) (block_by stmt_words (s ∷ more))) → (b : List Stmt) × BlockOf S b p.back × (map unplaced_stmt (s ∷ more) ≡ map unplaced_stmt b)
      → (b : List Stmt) × ElseOf S b us × (map unplaced_stmt (s ∷ more) ≡ map unplaced_stmt b)
  some_else s more us p ([], d, same) = cc
  some_else s more us p (t ∷ b, d, same) = (t ∷ b, together (Keyword (codes "else")) (BlockOf S (t ∷ b)) us (keyword (codes "else")) (block_by stmt_words (s ∷ more)) p (one_word kind.Keyword (codes "else") p.front p.first) d, same)

  -- the words of an `else`, or none, spell it again
  else_reads : (other : List Stmt) (ts : List Lexeme) → ElseOf S other ts → Small n ts → (us : List Lexeme) → words_in us ≡ else_by stmt_words other → (b : List Stmt) × ElseOf S b us × (map unplaced_stmt other ≡ map unplaced_stmt b)
  else_reads [] ts d good us w = ([], inl (no_word us w), refl)
  else_reads (s ∷ more) ts d good us w =
      let p = parts us (keyword (codes "else")) (block_by stmt_words (s ∷ more)) w in
      let g = parts_stand n (Keyword (codes "else")) (BlockOf S (s ∷ more)) ts d good in
      some_else s more us p (block_reads (s ∷ more) d.back d.second g.1 p.back p.second)

  -- the words of an arm spell it again
  arm_reads : (a : Arm) (ts : List Lexeme) → ArmOf IsExpr S a ts → Small n ts → (us : List Lexeme) → words_in us ≡ arm_words a → (b : Arm) × ArmOf IsExpr S b us × (unplaced_arm a ≡ unplaced_arm b)
  unfolding unplaced_arm
  arm_reads a ts d good us w =
      let p = parts us (expr_words (out-Arm a).test) (block_by stmt_words (out-Arm a).body) w in
      let g = parts_stand n (IsExpr (out-Arm a).test) (BlockOf S (out-Arm a).body) ts d good in
      let x = expr_reads n (out-Arm a).test d.front d.first g.0 p.front p.first in
      let b = block_reads (out-Arm a).body d.back d.second g.1 p.back p.second in
      let made : Arm-F Stmt Arm CaseArm = record { test = x.0; body = b.0 } in (
        roll-Arm made,
        subst (λ (r : Arm-F Stmt Arm CaseArm). (IsExpr r.test then BlockOf S r.body) us) (sym (out-roll-Arm made)) (together (IsExpr x.0) (BlockOf S b.0) us (expr_words (out-Arm a).test) (block_by stmt_words (out-Arm a).body) p x.1 b.1),
        ap (λ (v : Expr). roll-Arm (record { test = v; body = map unplaced_stmt (out-Arm a).body })) x.2 ∙ ap (λ (v : List Stmt). roll-Arm (record { test = unplaced x.0; body = v })) b.2
            ∙ ap (λ (r : Arm-F Stmt Arm CaseArm). roll-Arm (record { test = unplaced r.test; body = map unplaced_stmt r.body })) (sym (out-roll-Arm made)),
      )

  -- so do those of an arm of a `case`
  case_arm_reads : (a : CaseArm) (ts : List Lexeme) → CaseArmOf IsExpr S a ts → Small n ts → (us : List Lexeme) → words_in us ≡ case_arm_words a → (b : CaseArm) × CaseArmOf IsExpr S b us × (unplaced_case_arm a ≡ unplaced_case_arm b)
  unfolding unplaced_case_arm
  case_arm_reads a ts d good us w =
      let p = parts us (listed (option_by expr_words) (out-CaseArm a).options) (sign (codes ":") ++ block_by stmt_words (out-CaseArm a).body) w in
      let q = parts p.back (sign (codes ":")) (block_by stmt_words (out-CaseArm a).body) p.second in
      let g = parts_stand n (Listed (OptionOf IsExpr) (out-CaseArm a).options) (Sign (codes ":") then BlockOf S (out-CaseArm a).body) ts d good in
      let k = parts_stand n (Sign (codes ":")) (BlockOf S (out-CaseArm a).body) d.back d.second g.1 in
      let x = listed_again n (OptionOf IsExpr) (OptionOf IsExpr) (option_by expr_words) (option_map unplaced) (option_reads n) (out-CaseArm a).options d.front d.first g.0 p.front p.first in
      let b = block_reads (out-CaseArm a).body d.second.back d.second.second k.1 q.back q.second in
      let made : CaseArm-F Stmt Arm CaseArm = record { options = x.0; body = b.0 } in (
        roll-CaseArm made,
        subst (λ (r : CaseArm-F Stmt Arm CaseArm). (Listed (OptionOf IsExpr) r.options then Sign (codes ":") then BlockOf S r.body) us) (sym (out-roll-CaseArm made))
            (together (Listed (OptionOf IsExpr) x.0) (Sign (codes ":") then BlockOf S b.0) us (listed (option_by expr_words) (out-CaseArm a).options) (sign (codes ":") ++ block_by stmt_words (out-CaseArm a).body) p x.1
            (together (Sign (codes ":")) (BlockOf S b.0) p.back (sign (codes ":")) (block_by stmt_words (out-CaseArm a).body) q (one_word kind.Sign (codes ":") q.front q.first) b.1)),
        ap (λ (v : List (Option Expr)). roll-CaseArm (record { options = v; body = map unplaced_stmt (out-CaseArm a).body })) x.2 ∙ ap (λ (v : List Stmt). roll-CaseArm (record { options = map (option_map unplaced) x.0; body = v })) b.2
            ∙ ap (λ (r : CaseArm-F Stmt Arm CaseArm). roll-CaseArm (record { options = map (option_map unplaced) r.options; body = map unplaced_stmt r.body })) (sym (out-roll-CaseArm made)),
      )

  -- and those of its arms
  case_arms_read : (arms : List CaseArm) (ts : List Lexeme) → CaseArms IsExpr S arms ts → Small n ts → (us : List Lexeme) → words_in us ≡ flat_map case_arm_words arms → (b : List CaseArm) × CaseArms IsExpr S b us × (map unplaced_case_arm arms ≡ map unplaced_case_arm b)
  case_arms_read [] ts d good us w = ([], no_word us w, refl)
  case_arms_read (a ∷ arms) ts d good us w =
      let p = parts us (case_arm_words a) (flat_map case_arm_words arms) w in
      let g = parts_stand n (CaseArmOf IsExpr S a) (CaseArms IsExpr S arms) ts d good in
      let here = case_arm_reads a d.front d.first g.0 p.front p.first in
      let rest = case_arms_read arms d.back d.second g.1 p.back p.second in (
        here.0 ∷ rest.0,
        together (CaseArmOf IsExpr S here.0) (CaseArms IsExpr S rest.0) us (case_arm_words a) (flat_map case_arm_words arms) p here.1 rest.1,
        ap (λ (z : CaseArm). z ∷ map unplaced_case_arm arms) here.2 ∙ ap (λ (r : List CaseArm). unplaced_case_arm here.0 ∷ r) rest.2,
      )

  -- ---- each statement

  -- tokens with the words of this statement spell it again
  abbrev Reads : Stmt → List Lexeme → Type 0
  Reads s us = words_in us ≡ stmt_words s → (t : Stmt) × StmtOf IsExpr S t us × (unplaced_stmt s ≡ unplaced_stmt t)

  -- the words of a chain spell it again
  chain_reads : (at : ℕ) (first : Operand) (others : List Operand) (arrows : List Arrow) (ts : List Lexeme) → (OperandOf IsExpr first then Links IsExpr arrows others) ts → rule.StandsAlone first others → Small n ts → (us : List Lexeme) → Reads (stmt.Chain at (first ∷ others) arrows) us
  chain_reads at first others arrows ts d alone good us w =
      let p = parts us (operand_words first) (links arrows others) (w ∙ words_chain at (first ∷ others) arrows) in
      let g = parts_stand n (OperandOf IsExpr first) (Links IsExpr arrows others) ts d good in
      let x = operand_reads n first d.front d.first g.0 p.front p.first in
      let r = links_read n arrows others d.back d.second g.1 p.back p.second in (
        stmt.Chain (place_of us) (x.0 ∷ r.0) arrows,
        rule.chain (place_of us) x.0 r.0 arrows refl refl (together (OperandOf IsExpr x.0) (Links IsExpr arrows r.0) us (operand_words first) (links arrows others) p x.1 r.1) (alone_again first x.0 others r.0 x.2 r.2 alone),
        unplaced_chain at (first ∷ others) arrows ∙ ap (λ (z : Operand). stmt.Chain 0 (z ∷ map unplaced_operand others) arrows) x.2 ∙ ap (λ (zs : List Operand). stmt.Chain 0 (unplaced_operand x.0 ∷ zs) arrows) r.2 ∙ sym (unplaced_chain (place_of us) (x.0 ∷ r.0) arrows),
      )

  -- the words of an assignment spell it again
  assign_reads : (at : ℕ) (name : List ℕ) (value : Expr) (ts : List Lexeme) → (VariableOf name then Sign (codes "=") then IsExpr value) ts → Small n ts → (us : List Lexeme) → Reads (stmt.Assign at name value) us
  assign_reads at name value ts d good us w =
      let p = parts us (word kind.Var (36 ∷ name)) (sign (codes "=") ++ expr_words value) (w ∙ words_assign at name value) in
      let q = parts p.back (sign (codes "=")) (expr_words value) p.second in
      let g = parts_stand n (VariableOf name) (Sign (codes "=") then IsExpr value) ts d good in
      let k = parts_stand n (Sign (codes "=")) (IsExpr value) d.back d.second g.1 in
      let x = expr_reads n value d.second.back d.second.second k.1 q.back q.second in (
        stmt.Assign (place_of us) name x.0,
        rule.assign (place_of us) name x.0 refl refl (together (VariableOf name) (Sign (codes "=") then IsExpr x.0) us (word kind.Var (36 ∷ name)) (sign (codes "=") ++ expr_words value) p (one_word kind.Var (36 ∷ name) p.front p.first, d.first.1)
            (together (Sign (codes "=")) (IsExpr x.0) p.back (sign (codes "=")) (expr_words value) q (one_word kind.Sign (codes "=") q.front q.first) x.1)),
        unplaced_assign at name value ∙ ap (λ (z : Expr). stmt.Assign 0 name z) x.2 ∙ sym (unplaced_assign (place_of us) name x.0),
      )

  -- the words of arguments in parentheses spell them again, where those of the arguments do
  in_parens_again : (args : List Expr) (us : List Lexeme) → ((vs : List Lexeme) → words_in vs ≡ listed expr_words args → (ys : List Expr) × Listed IsExpr ys vs × (map unplaced args ≡ map unplaced ys)) → words_in us ≡ in_parens (listed expr_words args)
      → (ys : List Expr) × ArgsOf IsExpr ys us × (map unplaced args ≡ map unplaced ys)
  in_parens_again args us more w =
      let p = parts us (sign (codes "(")) (listed expr_words args ++ sign (codes ")")) w in
      let q = parts p.back (listed expr_words args) (sign (codes ")")) p.second in
      let r = more q.front q.first in (
        r.0,
        rule.bracketed (together (Sign (codes "(")) (Listed IsExpr r.0 then Sign (codes ")")) us (sign (codes "(")) (listed expr_words args ++ sign (codes ")")) p (one_word kind.Sign (codes "(") p.front p.first)
            (together (Listed IsExpr r.0) (Sign (codes ")")) p.back (listed expr_words args) (sign (codes ")")) q r.1 (one_word kind.Sign (codes ")") q.back q.second))),
        r.2,
      )

  -- the words of a call's arguments spell them again
  args_read : (args : List Expr) (ts : List Lexeme) → ArgsOf IsExpr args ts → Small n ts → (us : List Lexeme) → words_in us ≡ in_parens (listed expr_words args) → (ys : List Expr) × ArgsOf IsExpr ys us × (map unplaced args ≡ map unplaced ys)
  args_read args ts (rule.bracketed d) good us w =
      let g = parts_stand n (Sign (codes "(")) (Listed IsExpr args then Sign (codes ")")) ts d good in
      let k = parts_stand n (Listed IsExpr args) (Sign (codes ")")) d.back d.second g.1 in
      in_parens_again args us (listed_again n IsExpr IsExpr expr_words unplaced (expr_reads n) args d.second.front d.second.first k.0) w
  args_read args ts (rule.bare d free) good us w = in_parens_again args us (listed_again n IsExpr IsExpr expr_words unplaced (expr_reads n) args ts (record { front = ts; back = []; first = d; second = inl refl; whole = sym (append-nil ts) }) good) w

  -- the words of a call spell it again
  call_reads : (at : ℕ) (f : Func) (args : List Expr) (ts : List Lexeme) → (Token kind.Word (word_of f) at then ArgsOf IsExpr args) ts → Small n ts → (us : List Lexeme) → Reads (stmt.Call at f args) us
  call_reads at f args ts d good us w =
      let p = parts us (word kind.Word (word_of f)) (in_parens (listed expr_words args)) (w ∙ words_call at f args) in
      let t = one_word kind.Word (word_of f) p.front p.first in
      let g = parts_stand n (Token kind.Word (word_of f) at) (ArgsOf IsExpr args) ts d good in
      let r = args_read args d.back d.second g.1 p.back p.second in (
        stmt.Call t.0 f r.0,
        rule.call t.0 f r.0 refl (together (Token kind.Word (word_of f) t.0) (ArgsOf IsExpr r.0) us (word kind.Word (word_of f)) (in_parens (listed expr_words args)) p t.1 r.1),
        unplaced_call at f args ∙ ap (λ (z : List Expr). stmt.Call 0 f z) r.2 ∙ sym (unplaced_call t.0 f r.0),
      )

  -- the words of an `if` spell it again
  if_reads : (at : ℕ) (first : Arm) (others : List Arm) (other : List Stmt) (ts : List Lexeme) → (Token kind.Keyword (codes "if") at then ArmOf IsExpr S first then Each (Keyword (codes "elsif")) (ArmOf IsExpr S) others then ElseOf S other) ts → Small n ts → (us : List Lexeme) → Reads (stmt.If at (first ∷ others) other) us
  if_reads at first others other ts d good us w =
      let more : List Word = flat_map (λ y. keyword (codes "elsif") ++ arm_words y) others in
      let p = parts us (keyword (codes "if")) ((arm_words first ++ more) ++ else_by stmt_words other) (w ∙ words_if at (first ∷ others) other) in
      let q = parts p.back (arm_words first) (more ++ else_by stmt_words other) (p.second ∙ append_assoc (arm_words first) more (else_by stmt_words other)) in
      let v = parts q.back more (else_by stmt_words other) q.second in
      let t = one_word kind.Keyword (codes "if") p.front p.first in
      let g = parts_stand n (Token kind.Keyword (codes "if") at) (ArmOf IsExpr S first then Each (Keyword (codes "elsif")) (ArmOf IsExpr S) others then ElseOf S other) ts d good in
      let k = parts_stand n (ArmOf IsExpr S first) (Each (Keyword (codes "elsif")) (ArmOf IsExpr S) others then ElseOf S other) d.back d.second g.1 in
      let m = parts_stand n (Each (Keyword (codes "elsif")) (ArmOf IsExpr S) others) (ElseOf S other) d.second.back d.second.second k.1 in
      let x = arm_reads first d.second.front d.second.first k.0 q.front q.first in
      let r = each_again n (ArmOf IsExpr S) (ArmOf IsExpr S) arm_words unplaced_arm arm_reads (Keyword (codes "elsif")) (Keyword (codes "elsif")) (keyword (codes "elsif")) (λ vs h. one_word kind.Keyword (codes "elsif") vs h) others d.second.second.front d.second.second.first m.0 v.front v.first in
      let z = else_reads other d.second.second.back d.second.second.second m.1 v.back v.second in (
        stmt.If t.0 (x.0 ∷ r.0) z.0,
        rule.if t.0 x.0 r.0 z.0 refl
            (together (Token kind.Keyword (codes "if") t.0) (ArmOf IsExpr S x.0 then Each (Keyword (codes "elsif")) (ArmOf IsExpr S) r.0 then ElseOf S z.0) us (keyword (codes "if")) ((arm_words first ++ more) ++ else_by stmt_words other) p t.1
            (together (ArmOf IsExpr S x.0) (Each (Keyword (codes "elsif")) (ArmOf IsExpr S) r.0 then ElseOf S z.0) p.back (arm_words first) (more ++ else_by stmt_words other) q x.1
            (together (Each (Keyword (codes "elsif")) (ArmOf IsExpr S) r.0) (ElseOf S z.0) q.back more (else_by stmt_words other) v r.1 z.1))),
        unplaced_if at (first ∷ others) other ∙ ap (λ (a : Arm). stmt.If 0 (a ∷ map unplaced_arm others) (map unplaced_stmt other)) x.2 ∙ ap (λ (a : List Arm). stmt.If 0 (unplaced_arm x.0 ∷ a) (map unplaced_stmt other)) r.2
            ∙ ap (λ (b : List Stmt). stmt.If 0 (unplaced_arm x.0 ∷ map unplaced_arm r.0) b) z.2 ∙ sym (unplaced_if t.0 (x.0 ∷ r.0) z.0),
      )

  -- the words of an `unless` spell it again
  unless_reads : (at : ℕ) (test : Expr) (body other : List Stmt) (ts : List Lexeme) → (Token kind.Keyword (codes "unless") at then IsExpr test then BlockOf S body then ElseOf S other) ts → Small n ts → (us : List Lexeme) → Reads (stmt.Unless at test body other) us
  unless_reads at test body other ts d good us w =
      let p = parts us (keyword (codes "unless")) (expr_words test ++ (block_by stmt_words body ++ else_by stmt_words other)) (w ∙ words_unless at test body other) in
      let q = parts p.back (expr_words test) (block_by stmt_words body ++ else_by stmt_words other) p.second in
      let v = parts q.back (block_by stmt_words body) (else_by stmt_words other) q.second in
      let t = one_word kind.Keyword (codes "unless") p.front p.first in
      let g = parts_stand n (Token kind.Keyword (codes "unless") at) (IsExpr test then BlockOf S body then ElseOf S other) ts d good in
      let k = parts_stand n (IsExpr test) (BlockOf S body then ElseOf S other) d.back d.second g.1 in
      let m = parts_stand n (BlockOf S body) (ElseOf S other) d.second.back d.second.second k.1 in
      let x = expr_reads n test d.second.front d.second.first k.0 q.front q.first in
      let b = block_reads body d.second.second.front d.second.second.first m.0 v.front v.first in
      let z = else_reads other d.second.second.back d.second.second.second m.1 v.back v.second in (
        stmt.Unless t.0 x.0 b.0 z.0,
        rule.unless t.0 x.0 b.0 z.0 refl
            (together (Token kind.Keyword (codes "unless") t.0) (IsExpr x.0 then BlockOf S b.0 then ElseOf S z.0) us (keyword (codes "unless")) (expr_words test ++ (block_by stmt_words body ++ else_by stmt_words other)) p t.1
            (together (IsExpr x.0) (BlockOf S b.0 then ElseOf S z.0) p.back (expr_words test) (block_by stmt_words body ++ else_by stmt_words other) q x.1
            (together (BlockOf S b.0) (ElseOf S z.0) q.back (block_by stmt_words body) (else_by stmt_words other) v b.1 z.1))),
        unplaced_unless at test body other ∙ ap (λ (e : Expr). stmt.Unless 0 e (map unplaced_stmt body) (map unplaced_stmt other)) x.2 ∙ ap (λ (e : List Stmt). stmt.Unless 0 (unplaced x.0) e (map unplaced_stmt other)) b.2
            ∙ ap (λ (e : List Stmt). stmt.Unless 0 (unplaced x.0) (map unplaced_stmt b.0) e) z.2 ∙ sym (unplaced_unless t.0 x.0 b.0 z.0),
      )

  -- the words of a `case` spell it again
  case_reads : (at : ℕ) (value : Expr) (arms : List CaseArm) (ts : List Lexeme) → (Token kind.Keyword (codes "case") at then IsExpr value then InBraces (CaseArms IsExpr S arms)) ts → Small n ts → (us : List Lexeme) → Reads (stmt.Case at value arms) us
  case_reads at value arms ts d good us w =
      let p = parts us (keyword (codes "case")) (expr_words value ++ in_braces (flat_map case_arm_words arms)) (w ∙ words_case at value arms) in
      let q = parts p.back (expr_words value) (in_braces (flat_map case_arm_words arms)) p.second in
      let b = braced q.back (flat_map case_arm_words arms) q.second in
      let t = one_word kind.Keyword (codes "case") p.front p.first in
      let g = parts_stand n (Token kind.Keyword (codes "case") at) (IsExpr value then InBraces (CaseArms IsExpr S arms)) ts d good in
      let k = parts_stand n (IsExpr value) (InBraces (CaseArms IsExpr S arms)) d.back d.second g.1 in
      let x = expr_reads n value d.second.front d.second.first k.0 q.front q.first in
      let r = case_arms_read arms d.second.second.second.front d.second.second.second.first (braces_small n (CaseArms IsExpr S arms) d.second.back d.second.second k.1) b.inner b.words in (
        stmt.Case t.0 x.0 r.0,
        rule.case t.0 x.0 r.0 refl
            (together (Token kind.Keyword (codes "case") t.0) (IsExpr x.0 then InBraces (CaseArms IsExpr S r.0)) us (keyword (codes "case")) (expr_words value ++ in_braces (flat_map case_arm_words arms)) p t.1
            (together (IsExpr x.0) (InBraces (CaseArms IsExpr S r.0)) p.back (expr_words value) (in_braces (flat_map case_arm_words arms)) q x.1 (b.build (CaseArms IsExpr S r.0) r.1))),
        unplaced_case at value arms ∙ ap (λ (e : Expr). stmt.Case 0 e (map unplaced_case_arm arms)) x.2 ∙ ap (λ (e : List CaseArm). stmt.Case 0 (unplaced x.0) e) r.2 ∙ sym (unplaced_case t.0 x.0 r.0),
      )

  -- the words of a statement spell it again, where those in its blocks do
  stmt_again : (s : Stmt) (ts : List Lexeme) → StmtOf IsExpr S s ts → Small n ts → (us : List Lexeme) → Reads s us
  stmt_again s ts (rule.chain at first others arrows is at_is d alone) good us = subst (λ (z : Stmt). Reads z us) (sym is) (chain_reads at first others arrows ts d alone good us)
  stmt_again s ts (rule.assign at name value is at_is d) good us = subst (λ (z : Stmt). Reads z us) (sym is) (assign_reads at name value ts d good us)
  stmt_again s ts (rule.call at f args is d) good us = subst (λ (z : Stmt). Reads z us) (sym is) (call_reads at f args ts d good us)
  stmt_again s ts (rule.if at first others other is d) good us = subst (λ (z : Stmt). Reads z us) (sym is) (if_reads at first others other ts d good us)
  stmt_again s ts (rule.unless at test body other is d) good us = subst (λ (z : Stmt). Reads z us) (sym is) (unless_reads at test body other ts d good us)
  stmt_again s ts (rule.case at value arms is d) good us = subst (λ (z : Stmt). Reads z us) (sym is) (case_reads at value arms ts d good us)

-- so do those of one with blocks nested less deep than this
pub stmt_reads : (n m : ℕ) → StmtReads n (IsStmtAt IsExpr m)
stmt_reads n zero s ts d good us w = absurd d
stmt_reads n (suc m) s ts d good us w = stmt_again n (IsStmtAt IsExpr m) (stmt_reads n m) s ts d good us w
