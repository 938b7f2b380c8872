-- How types, texts and statements begin, so that items are told apart.
use Rattle.std.proofs.Common.{◌≡◌, ◌≢◌, ℕ, zero, suc, true, false, List, [], ◌∷◌, ◌++◌, None, refl, sym, ap, subst, ◌∙◌}
use Rattle.std.specs.Prelude.{codes}
use Rattle.pp_syntax.specs.declared.token.Kind.TheVariants as kind
use Rattle.pp_syntax.specs.declared.tree.Expr.{Expr}
use Rattle.pp_syntax.specs.declared.tree.Operand.{Operand}
use Rattle.pp_syntax.specs.declared.tree.Stmt.{Stmt}
use Rattle.pp_syntax.specs.declared.tree.TypeName.{TypeName}
use Rattle.pp_syntax.specs.Tokens.{Lexeme}
use Rattle.pp_syntax.specs.Derivation.{StringOf}
use Rattle.pp_syntax.specs.Derivation as derive
use Rattle.pp_syntax.specs.Statements.{OperandOf, StmtOf, IsType, IsStmtAt}
use Rattle.pp_syntax.specs.Statements as grammar
use Rattle.pp_readers.specs.Marks.{mark}
use Rattle.pp_readers.specs.Combining.{Reader}
use Rattle.pp_readers.proofs.Combining.{Spells}
use Rattle.pp_readers.proofs.Building.{split}
use Rattle.pp_parser.specs.ItemReading.{begins_type, text_name, node_name_with, unopened, plain_with, item_with}
use Rattle.pp_parser.proofs.TypesRead.{leads_at}

-- a type begins with its name, which is no `)`
pub type_begins : (y : TypeName) (us rest : List Lexeme) → IsType y us → (begins_type (us ++ rest) ≡ true) × (mark kind.Sign (codes ")") (us ++ rest) ≡ None) × (us ≢ [])
type_begins y us rest h =
    let l = leads_at h.0 y us h.1 in
    (ap (λ u. begins_type (u ++ rest)) l.3, ap (λ u. mark kind.Sign (codes ")") (u ++ rest)) l.3, λ empty. let c : record { kind = kind.Ref; text = l.0; at = l.1 } ∷ l.2 ≡ [] = sym l.3 ∙ empty in cc)

module _ (e : Reader Expr) (E : Spells Expr) where
  -- where the first token is none of the others, a node's name is read as a text
  begun : (us more rest : List Lexeme) (t : Lexeme) → us ≡ t ∷ more → node_name_with e ((t ∷ more) ++ rest) ≡ text_name e ((t ∷ more) ++ rest) → unopened ((t ∷ more) ++ rest) ≡ true
      → (node_name_with e (us ++ rest) ≡ text_name e (us ++ rest)) × (unopened (us ++ rest) ≡ true) × (us ≢ [])
  begun us more rest t w a b = (ap (λ u. node_name_with e (u ++ rest)) w ∙ a ∙ ap (λ u. text_name e (u ++ rest)) (sym w), ap (λ u. unopened (u ++ rest)) w ∙ b, λ empty. let c : t ∷ more ≡ [] = sym w ∙ empty in cc)

  -- a string is read as the name of a node, and no block begins with it
  pub string_begins : (y : Expr) (us rest : List Lexeme) → StringOf E y us → (node_name_with e (us ++ rest) ≡ text_name e (us ++ rest)) × (unopened (us ++ rest) ≡ true) × (us ≢ [])
  string_begins y us rest (derive.StringOf.single value raw h v is) = begun us [] rest (record { kind = kind.Sq; text = raw; at = y.at }) h refl refl
  string_begins y us rest (derive.StringOf.plain value h is) = begun us h.back rest (record { kind = kind.DqOpen; text = codes "\""; at = y.at }) (h.whole ∙ ap (λ r. r ++ h.back) h.first) refl refl
  string_begins y us rest (derive.StringOf.joined members h is) = begun us h.back rest (record { kind = kind.DqOpen; text = codes "\""; at = y.at }) (h.whole ∙ ap (λ r. r ++ h.back) h.first) refl refl

module _ (e : Reader Expr) (E : Spells Expr) (t : Reader TypeName) (s : Reader Stmt) where
  -- A statement is read as one.
  abbrev Stays : List Lexeme → Type 0
  Stays ts = item_with e t s ts ≡ plain_with s ts

  -- one token and what is behind it, or two
  by_one : (us more rest : List Lexeme) (a : Lexeme) → us ≡ a ∷ more → ((ts : List Lexeme) → Stays (a ∷ ts)) → Stays (us ++ rest)
  by_one us more rest a w h = subst (λ u. Stays (u ++ rest)) (sym w) (h (more ++ rest))

  -- two tokens and what is behind them are read as a statement, where any with these two first are
  by_two : (us more rest : List Lexeme) (a b : Lexeme) → us ≡ a ∷ b ∷ more → ((ts : List Lexeme) → Stays (a ∷ b ∷ ts)) → Stays (us ++ rest)
  by_two us more rest a b w h = subst (λ u. Stays (u ++ rest)) (sym w) (h (more ++ rest))

  -- what begins as an operand of a chain is read as a statement
  operand_stays : (y : Operand) (us rest : List Lexeme) → OperandOf E y us → Stays (us ++ rest)
  operand_stays y us rest (grammar.OperandOf.resource at true name bs p q r h) =
      by_one us h.back rest (record { kind = kind.Sign; text = codes "@"; at = h.first.0 }) (h.whole ∙ ap (λ r. r ++ h.back) h.first.1) (λ ts. refl)
  operand_stays y us rest (grammar.OperandOf.resource at false name bs p q r h) =
      by_one us h.second.back rest (record { kind = kind.Word; text = name; at = h.second.first.0 }) (h.whole ∙ ap (λ r. r ++ h.back) h.first ∙ h.second.whole ∙ ap (λ r. r ++ h.second.back) h.second.first.1) (λ ts. refl)
  operand_stays y us rest (grammar.OperandOf.class at bs p h) =
      let b = h.second in
      by_two us b.back rest (record { kind = kind.Keyword; text = codes "class"; at = at }) (record { kind = kind.Sign; text = codes "{"; at = b.first.0 })
      (h.whole ∙ ap (λ r. r ++ h.back) h.first ∙ ap (λ r. record { kind = kind.Keyword; text = codes "class"; at = at } ∷ r) (b.whole ∙ ap (λ r. r ++ b.back) b.first.1)) (λ ts. refl)
  operand_stays y us rest (grammar.OperandOf.collector at name sought p h) =
      let b = h.second in
      by_two us b.back rest (record { kind = kind.Ref; text = name; at = at }) (record { kind = kind.Sign; text = codes "<|"; at = b.first.0 })
      (h.whole ∙ ap (λ r. r ++ h.back) h.first ∙ ap (λ r. record { kind = kind.Ref; text = name; at = at } ∷ r) (b.whole ∙ ap (λ r. r ++ b.back) b.first.1)) (λ ts. refl)
  operand_stays y us rest (grammar.OperandOf.reference x p r) =
      let h = r.spelled in
      let b = h.second in
      by_two us b.back rest (record { kind = kind.Ref; text = r.name; at = x.at }) (record { kind = kind.Tight; text = codes "["; at = b.first.0 })
      (h.whole ∙ ap (λ r. r ++ h.back) h.first ∙ ap (λ q. record { kind = kind.Ref; text = r.name; at = x.at } ∷ q) (b.whole ∙ ap (λ r. r ++ b.back) b.first.1)) (λ ts. refl)
  operand_stays y us rest (grammar.OperandOf.references xs p h) =
      by_one us h.back rest (record { kind = kind.Loose; text = codes "["; at = h.first.0 }) (h.whole ∙ ap (λ r. r ++ h.back) h.first.1) (λ ts. refl)

  -- each statement is read as one
  statement_stays : (S : Spells Stmt) (y : Stmt) (us rest : List Lexeme) → StmtOf E S y us → Stays (us ++ rest)
  statement_stays S y us rest (grammar.StmtOf.chain at first others arrows p q h a) = subst Stays (sym (split h.front h.back rest us h.whole)) (operand_stays first h.front (h.back ++ rest) h.first)
  statement_stays S y us rest (grammar.StmtOf.assign at name v p q h) =
      by_one us h.back rest (record { kind = kind.Var; text = 36 ∷ name; at = h.first.0.0 }) (h.whole ∙ ap (λ r. r ++ h.back) h.first.0.1) (λ ts. refl)
  statement_stays S y us rest (grammar.StmtOf.call at f args p h) =
      by_one us h.back rest (record { kind = kind.Word; text = grammar.word_of f; at = at }) (h.whole ∙ ap (λ r. r ++ h.back) h.first) (λ ts. refl)
  statement_stays S y us rest (grammar.StmtOf.if at first others other p h) =
      by_one us h.back rest (record { kind = kind.Keyword; text = codes "if"; at = at }) (h.whole ∙ ap (λ r. r ++ h.back) h.first) (λ ts. refl)
  statement_stays S y us rest (grammar.StmtOf.unless at test body other p h) =
      by_one us h.back rest (record { kind = kind.Keyword; text = codes "unless"; at = at }) (h.whole ∙ ap (λ r. r ++ h.back) h.first) (λ ts. refl)
  statement_stays S y us rest (grammar.StmtOf.case at v arms p h) =
      by_one us h.back rest (record { kind = kind.Keyword; text = codes "case"; at = at }) (h.whole ∙ ap (λ r. r ++ h.back) h.first) (λ ts. refl)

  -- so is one with blocks nested less deep than this
  pub stays_at : (depth : ℕ) (y : Stmt) (us rest : List Lexeme) → IsStmtAt E depth y us → Stays (us ++ rest)
  stays_at zero y us rest h = absurd h
  stays_at (suc depth) y us rest h = statement_stays (IsStmtAt E depth) y us rest h
