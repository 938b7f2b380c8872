-- What statements begin with, and that it doesn't go on behind one.
use Rattle.std.proofs.Common.{◌≡◌, ◌≢◌, ℕ, zero, suc, ◌||◌, Bool, true, false, not, List, [], ◌∷◌, ◌++◌, None, refl, sym, ap, subst, ◌∙◌}
use Rattle.std.specs.Prelude.{codes}
use Rattle.std.specs.Str.{bytes_eq}
use Rattle.std.proofs.lemmas.Slice.Eq.{bytes_eq-Decides}
use Rattle.pp_syntax.specs.declared.token.Kind.{Kind}
use Rattle.pp_syntax.specs.declared.token.Kind.TheVariants as kind
use Rattle.pp_syntax.specs.declared.tree.Expr.{Expr}
use Rattle.pp_syntax.specs.declared.tree.Operand.{Operand}
use Rattle.pp_syntax.specs.declared.tree.Stmt.{Stmt}
use Rattle.pp_syntax.specs.Tokens.{Lexeme, is_among}
use Rattle.pp_syntax.specs.Phrases as phrases
use Rattle.pp_syntax.specs.Phrases.{◌then◌, Sign, Keyword}
use Rattle.pp_syntax.specs.Statements.{InBraces, BodiesOf, OperandOf, StmtOf, IsStmtAt}
use Rattle.pp_syntax.specs.Statements as grammar
use Rattle.pp_readers.specs.Marks.{mark}
use Rattle.pp_readers.specs.Leads.{NothingFollows, begins_by, BeginsStatement}
use Rattle.pp_readers.specs.Statements.{unclosed}
use Rattle.pp_readers.proofs.Combining.{Spells}
use Rattle.pp_readers.proofs.Building.{Phrase}

-- ---- a token that begins a statement goes on behind none, and closes no block

-- a text among others is one of them
one_of : (P : List ℕ → Type 0) (w : List ℕ) (ws : List (List ℕ)) (s : List ℕ) → P w → (is_among ws s ≡ true → P s) → is_among (w ∷ ws) s ≡ true → P s
one_of P w ws s p rest h = by_test (bytes_eq w s) refl h
  where
    by_test : (v : Bool) → bytes_eq w s ≡ v → (v || is_among ws s) ≡ true → P s
    by_test true t k = subst P ((bytes_eq-Decides w s).0 t) p
    by_test false t k = rest k

-- nothing follows, and no bracket closes a block here
abbrev Ends : Phrase
Ends ts = NothingFollows ts × (mark kind.Sign (codes "}") ts ≡ None)

-- before a token that begins a statement the one before it ends
quiet_token : (k : Kind) (s : List ℕ) (at : ℕ) (ts : List Lexeme) → begins_by k s ≡ true → Ends (record { kind = k; text = s; at = at } ∷ ts)
quiet_token kind.Word s at ts h = (record { no_operator = refl; no_arrow = refl; no_comma = refl; no_elsif = refl; no_else = refl }, refl)
quiet_token kind.Var s at ts h = (record { no_operator = refl; no_arrow = refl; no_comma = refl; no_elsif = refl; no_else = refl }, refl)
quiet_token kind.Ref s at ts h = (record { no_operator = refl; no_arrow = refl; no_comma = refl; no_elsif = refl; no_else = refl }, refl)
quiet_token kind.Loose s at ts h = (record { no_operator = refl; no_arrow = refl; no_comma = refl; no_elsif = refl; no_else = refl }, refl)
quiet_token kind.Keyword s at ts h =
    let P = λ (u : List ℕ). Ends (record { kind = kind.Keyword; text = u; at = at } ∷ ts) in
    one_of P (codes "class") (codes "if" ∷ codes "unless" ∷ codes "case" ∷ []) s (record { no_operator = refl; no_arrow = refl; no_comma = refl; no_elsif = refl; no_else = refl }, refl) (λ h.
    one_of P (codes "if") (codes "unless" ∷ codes "case" ∷ []) s (record { no_operator = refl; no_arrow = refl; no_comma = refl; no_elsif = refl; no_else = refl }, refl) (λ h.
    one_of P (codes "unless") (codes "case" ∷ []) s (record { no_operator = refl; no_arrow = refl; no_comma = refl; no_elsif = refl; no_else = refl }, refl) (λ h.
    one_of P (codes "case") [] s (record { no_operator = refl; no_arrow = refl; no_comma = refl; no_elsif = refl; no_else = refl }, refl) (λ h. cc) h) h) h) h
quiet_token kind.Sign s at ts h =
    one_of (λ (u : List ℕ). Ends (record { kind = kind.Sign; text = u; at = at } ∷ ts)) (codes "@") [] s (record { no_operator = refl; no_arrow = refl; no_comma = refl; no_elsif = refl; no_else = refl }, refl) (λ h. cc) h
quiet_token kind.Int s at ts h = cc
quiet_token kind.Float s at ts h = cc
quiet_token kind.Sq s at ts h = cc
quiet_token kind.DqOpen s at ts h = cc
quiet_token kind.DqText s at ts h = cc
quiet_token kind.DqVar s at ts h = cc
quiet_token kind.Hole s at ts h = cc
quiet_token kind.HoleEnd s at ts h = cc
quiet_token kind.DqClose s at ts h = cc
quiet_token kind.Tight s at ts h = cc
quiet_token kind.LeftOut s at ts h = cc

-- nothing goes on behind a statement where another begins
pub nothing_follows : (ts : List Lexeme) → BeginsStatement ts → NothingFollows ts
nothing_follows [] h = absurd h
nothing_follows (t ∷ ts) h = (quiet_token t.kind t.text t.at ts h).0

-- where a statement begins, no bracket closes a block
pub leads_unclosed : (ts : List Lexeme) → BeginsStatement ts → unclosed ts ≡ true
leads_unclosed [] h = absurd h
leads_unclosed (t ∷ ts) h = ap (λ r. not (Rattle.pp_readers.specs.Combining.is_found r)) (quiet_token t.kind t.text t.at ts h).1

-- tokens that begin a statement do so with others behind them
pub leads_more : (us rest : List Lexeme) → BeginsStatement us → BeginsStatement (us ++ rest)
leads_more [] rest h = absurd h
leads_more (t ∷ us) rest h = h

-- no statement begins with no token
pub leads_some : (us : List Lexeme) → BeginsStatement us → us ≢ []
leads_some [] h n = h
leads_some (t ∷ us) h n = cc

-- ---- statements

-- what begins with such a token begins a statement
by_token : (k : Kind) (s : List ℕ) (B : Phrase) (us : List Lexeme) → (phrases.Some k s then B) us → begins_by k s ≡ true → BeginsStatement us
by_token k s B us h b = subst BeginsStatement (sym (h.whole ∙ ap (λ r. r ++ h.back) h.first.1)) b

-- so does what begins with such a token at a place
placed : (k : Kind) (s : List ℕ) (at : ℕ) (B : Phrase) (us : List Lexeme) → (phrases.Token k s at then B) us → begins_by k s ≡ true → BeginsStatement us
placed k s at B us h b = subst BeginsStatement (sym (h.whole ∙ ap (λ r. r ++ h.back) h.first)) b

-- so does what begins with such tokens
by_front : (us front back : List Lexeme) → us ≡ front ++ back → BeginsStatement front → BeginsStatement us
by_front us front back w h = subst BeginsStatement (sym w) (leads_more front back h)

module _ (E : Spells Expr) where
  -- an operand of a chain begins as a statement does
  operand_leads : (y : Operand) (us : List Lexeme) → OperandOf E y us → BeginsStatement us
  operand_leads y us (grammar.resource at true name bs p q r s) = by_token kind.Sign (codes "@") (phrases.Some kind.Word name then InBraces (BodiesOf E bs)) us s refl
  operand_leads y us (grammar.resource at false name bs p q r s) = subst BeginsStatement (sym (s.whole ∙ ap (λ r. r ++ s.back) s.first)) (by_token kind.Word name (InBraces (BodiesOf E bs)) s.back s.second refl)
  operand_leads y us (grammar.OperandOf.class at bs p s) = placed kind.Keyword (codes "class") at (InBraces (BodiesOf E bs)) us s refl
  operand_leads y us (grammar.collector at name sought p s) = subst BeginsStatement (sym (s.whole ∙ ap (λ r. r ++ s.back) s.first)) refl
  operand_leads y us (grammar.OperandOf.reference x p r) = subst BeginsStatement (sym (r.spelled.whole ∙ ap (λ q. q ++ r.spelled.back) r.spelled.first)) refl
  operand_leads y us (grammar.references xs p s) = subst BeginsStatement (sym (s.whole ∙ ap (λ r. r ++ s.back) s.first.1)) refl

  -- a statement begins as one does
  pub statement_leads : (S : Spells Stmt) (y : Stmt) (us : List Lexeme) → StmtOf E S y us → BeginsStatement us
  statement_leads S y us (grammar.StmtOf.chain at first others arrows p q s a) = by_front us s.front s.back s.whole (operand_leads first s.front s.first)
  statement_leads S y us (grammar.assign at name v p q s) = subst BeginsStatement (sym (s.whole ∙ ap (λ r. r ++ s.back) s.first.0.1)) refl
  statement_leads S y us (grammar.call at f args p s) = subst BeginsStatement (sym (s.whole ∙ ap (λ r. r ++ s.back) s.first)) refl
  statement_leads S y us (grammar.StmtOf.if at first others other p s) = subst BeginsStatement (sym (s.whole ∙ ap (λ r. r ++ s.back) s.first)) refl
  statement_leads S y us (grammar.StmtOf.unless at test body other p s) = subst BeginsStatement (sym (s.whole ∙ ap (λ r. r ++ s.back) s.first)) refl
  statement_leads S y us (grammar.StmtOf.case at v arms p s) = subst BeginsStatement (sym (s.whole ∙ ap (λ r. r ++ s.back) s.first)) refl

  -- so does one with blocks nested less deep than this
  pub leads_at : (depth : ℕ) (y : Stmt) (us : List Lexeme) → IsStmtAt E depth y us → BeginsStatement us
  leads_at zero y us h = absurd h
  leads_at (suc depth) y us h = statement_leads (IsStmtAt E depth) y us h
