-- What operands and expressions begin with.
use Rattle.std.proofs.Common.{◌≡◌, ◌≢◌, ℕ, zero, suc, ◌-◌, ◌&&◌, Bool, true, false, cond, List, [], ◌∷◌, ◌++◌, Some, None, refl, sym, ap, ◌∙◌}
use Rattle.std.specs.Prelude.{codes}
use Rattle.std.specs.Str.{bytes_eq}
use Rattle.pp_syntax.specs.declared.token.Kind.{Kind}
use Rattle.pp_syntax.specs.declared.token.Kind.TheVariants as kind
use Rattle.pp_syntax.specs.declared.tree.Expr.{Expr}
use Rattle.pp_syntax.specs.declared.tree.Op.{Op}
use Rattle.pp_syntax.specs.declared.tree.Op.TheVariants as op
use Rattle.pp_syntax.specs.Tokens.{Lexeme}
use Rattle.pp_syntax.specs.Derivation.{ChainOf, UnaryOf, PostfixOf, PrimaryOf, StringOf, Prefixes, IsExprAt}
use Rattle.pp_syntax.specs.Derivation as grammar
use Rattle.pp_readers.specs.Marks.{is_kind, mark, prefix_at, prefix_of}

-- each token of this kind begins an operand
abbrev pub is_lead : Kind → Bool
is_lead kind.Int = true
is_lead kind.Sq = true
is_lead kind.DqOpen = true
is_lead kind.Word = true
is_lead kind.Var = true
is_lead kind.Ref = true
is_lead kind.Loose = true
is_lead _ = false

-- tokens that begin as an operand does
pub data Lead (us : List Lexeme) : Type 0 where
  kinded : (k : Kind) (s : List ℕ) (at : ℕ) (more : List Lexeme) → us ≡ record { kind = k; text = s; at = at } ∷ more → is_lead k ≡ true → Lead us
  truth : (at : ℕ) (more : List Lexeme) → us ≡ record { kind = kind.Keyword; text = codes "true"; at = at } ∷ more → Lead us
  falsehood : (at : ℕ) (more : List Lexeme) → us ≡ record { kind = kind.Keyword; text = codes "false"; at = at } ∷ more → Lead us
  undefined : (at : ℕ) (more : List Lexeme) → us ≡ record { kind = kind.Keyword; text = codes "undef"; at = at } ∷ more → Lead us
  enclosed : (at : ℕ) (more : List Lexeme) → us ≡ record { kind = kind.Sign; text = codes "("; at = at } ∷ more → Lead us
  map : (at : ℕ) (more : List Lexeme) → us ≡ record { kind = kind.Sign; text = codes "{"; at = at } ∷ more → Lead us

-- tokens that begin as an expression does
pub data Begun (us : List Lexeme) : Type 0 where
  lead : Lead us → Begun us
  negation : (at : ℕ) (more : List Lexeme) → us ≡ record { kind = kind.Sign; text = codes "!"; at = at } ∷ more → Begun us
  minus : (at : ℕ) (more : List Lexeme) → us ≡ record { kind = kind.Sign; text = codes "-"; at = at } ∷ more → Begun us

-- tokens that begin as an operand does do so with others behind them
pub grows : {us : List Lexeme} (front back : List Lexeme) → us ≡ front ++ back → Lead front → Lead us
grows front back e (kinded k s at more h l) = kinded k s at (more ++ back) (e ∙ ap (λ r. r ++ back) h) l
grows front back e (truth at more h) = truth at (more ++ back) (e ∙ ap (λ r. r ++ back) h)
grows front back e (falsehood at more h) = falsehood at (more ++ back) (e ∙ ap (λ r. r ++ back) h)
grows front back e (undefined at more h) = undefined at (more ++ back) (e ∙ ap (λ r. r ++ back) h)
grows front back e (enclosed at more h) = enclosed at (more ++ back) (e ∙ ap (λ r. r ++ back) h)
grows front back e (map at more h) = map at (more ++ back) (e ∙ ap (λ r. r ++ back) h)

-- so do those that begin as an expression does
pub begun_grows : {us : List Lexeme} (front back : List Lexeme) → us ≡ front ++ back → Begun front → Begun us
begun_grows front back e (lead l) = lead (grows front back e l)
begun_grows front back e (negation at more h) = negation at (more ++ back) (e ∙ ap (λ r. r ++ back) h)
begun_grows front back e (minus at more h) = minus at (more ++ back) (e ∙ ap (λ r. r ++ back) h)

-- no expression begins with no token
pub begun_some : (us : List Lexeme) → Begun us → us ≢ []
begun_some us (lead (kinded k s at more h l)) e = let no : record { kind = k; text = s; at = at } ∷ more ≡ [] = sym h ∙ e in cc
begun_some us (lead (truth at more h)) e = let no : record { kind = kind.Keyword; text = codes "true"; at = at } ∷ more ≡ [] = sym h ∙ e in cc
begun_some us (lead (falsehood at more h)) e = let no : record { kind = kind.Keyword; text = codes "false"; at = at } ∷ more ≡ [] = sym h ∙ e in cc
begun_some us (lead (undefined at more h)) e = let no : record { kind = kind.Keyword; text = codes "undef"; at = at } ∷ more ≡ [] = sym h ∙ e in cc
begun_some us (lead (enclosed at more h)) e = let no : record { kind = kind.Sign; text = codes "("; at = at } ∷ more ≡ [] = sym h ∙ e in cc
begun_some us (lead (map at more h)) e = let no : record { kind = kind.Sign; text = codes "{"; at = at } ∷ more ≡ [] = sym h ∙ e in cc
begun_some us (negation at more h) e = let no : record { kind = kind.Sign; text = codes "!"; at = at } ∷ more ≡ [] = sym h ∙ e in cc
begun_some us (minus at more h) e = let no : record { kind = kind.Sign; text = codes "-"; at = at } ∷ more ≡ [] = sym h ∙ e in cc

-- such a kind is no sign, and no keyword
no_sign : (k : Kind) → is_lead k ≡ true → (is_kind k kind.Sign ≡ false) × (is_kind k kind.Keyword ≡ false)
no_sign kind.Int h = (refl, refl)
no_sign kind.Sq h = (refl, refl)
no_sign kind.DqOpen h = (refl, refl)
no_sign kind.Word h = (refl, refl)
no_sign kind.Var h = (refl, refl)
no_sign kind.Ref h = (refl, refl)
no_sign kind.Loose h = (refl, refl)
no_sign kind.Float h = cc
no_sign kind.DqText h = cc
no_sign kind.DqVar h = cc
no_sign kind.Hole h = cc
no_sign kind.HoleEnd h = cc
no_sign kind.DqClose h = cc
no_sign kind.Tight h = cc
no_sign kind.Keyword h = cc
no_sign kind.Sign h = cc
no_sign kind.LeftOut h = cc

-- a token that begins an operand is no prefix
no_prefix : (k : Kind) (s : List ℕ) → is_lead k ≡ true → prefix_of k s ≡ None
no_prefix kind.Int s h = refl
no_prefix kind.Sq s h = refl
no_prefix kind.DqOpen s h = refl
no_prefix kind.Word s h = refl
no_prefix kind.Var s h = refl
no_prefix kind.Ref s h = refl
no_prefix kind.Loose s h = refl
no_prefix kind.Float s h = refl
no_prefix kind.DqText s h = refl
no_prefix kind.DqVar s h = refl
no_prefix kind.Hole s h = refl
no_prefix kind.HoleEnd s h = refl
no_prefix kind.DqClose s h = refl
no_prefix kind.Tight s h = refl
no_prefix kind.Keyword s h = refl
no_prefix kind.Sign s h = cc
no_prefix kind.LeftOut s h = refl

-- where an operand begins, no prefix stands first
pub no_prefix_first : (us rest : List Lexeme) → Lead us → prefix_at (us ++ rest) ≡ None
no_prefix_first us rest (kinded k s at more h l) = ap (λ r. prefix_at (r ++ rest)) h ∙ ap (λ r. Rattle.std.specs.Option.option_map {U = Op × List Lexeme} (λ (o : Op). (o, more ++ rest)) r) (no_prefix k s l)
no_prefix_first us rest (truth at more h) = ap (λ r. prefix_at (r ++ rest)) h
no_prefix_first us rest (falsehood at more h) = ap (λ r. prefix_at (r ++ rest)) h
no_prefix_first us rest (undefined at more h) = ap (λ r. prefix_at (r ++ rest)) h
no_prefix_first us rest (enclosed at more h) = ap (λ r. prefix_at (r ++ rest)) h
no_prefix_first us rest (map at more h) = ap (λ r. prefix_at (r ++ rest)) h

module _ (close : List ℕ) (no_open : bytes_eq (codes "(") close ≡ false) (no_brace : bytes_eq (codes "{") close ≡ false) (no_not : bytes_eq (codes "!") close ≡ false) (no_minus : bytes_eq (codes "-") close ≡ false) where
  -- where an expression begins, such a closing sign doesn't stand first
  pub no_close_first : (us rest : List Lexeme) → Begun us → mark kind.Sign close (us ++ rest) ≡ None
  no_close_first us rest (lead (kinded k s at more h l)) = ap (λ r. mark kind.Sign close (r ++ rest)) h ∙ ap (λ v. cond (v && bytes_eq s close) (Some (at, more ++ rest)) None) (no_sign k l).0
  no_close_first us rest (lead (truth at more h)) = ap (λ r. mark kind.Sign close (r ++ rest)) h
  no_close_first us rest (lead (falsehood at more h)) = ap (λ r. mark kind.Sign close (r ++ rest)) h
  no_close_first us rest (lead (undefined at more h)) = ap (λ r. mark kind.Sign close (r ++ rest)) h
  no_close_first us rest (lead (enclosed at more h)) = ap (λ r. mark kind.Sign close (r ++ rest)) h ∙ ap (λ v. cond (true && v) (Some (at, more ++ rest)) None) no_open
  no_close_first us rest (lead (map at more h)) = ap (λ r. mark kind.Sign close (r ++ rest)) h ∙ ap (λ v. cond (true && v) (Some (at, more ++ rest)) None) no_brace
  no_close_first us rest (negation at more h) = ap (λ r. mark kind.Sign close (r ++ rest)) h ∙ ap (λ v. cond (true && v) (Some (at, more ++ rest)) None) no_not
  no_close_first us rest (minus at more h) = ap (λ r. mark kind.Sign close (r ++ rest)) h ∙ ap (λ v. cond (true && v) (Some (at, more ++ rest)) None) no_minus

-- and no `default` does
pub no_default_first : (us rest : List Lexeme) → Begun us → mark kind.Keyword (codes "default") (us ++ rest) ≡ None
no_default_first us rest (lead (kinded k s at more h l)) = ap (λ r. mark kind.Keyword (codes "default") (r ++ rest)) h ∙ ap (λ v. cond (v && bytes_eq s (codes "default")) (Some (at, more ++ rest)) None) (no_sign k l).1
no_default_first us rest (lead (truth at more h)) = ap (λ r. mark kind.Keyword (codes "default") (r ++ rest)) h
no_default_first us rest (lead (falsehood at more h)) = ap (λ r. mark kind.Keyword (codes "default") (r ++ rest)) h
no_default_first us rest (lead (undefined at more h)) = ap (λ r. mark kind.Keyword (codes "default") (r ++ rest)) h
no_default_first us rest (lead (enclosed at more h)) = ap (λ r. mark kind.Keyword (codes "default") (r ++ rest)) h
no_default_first us rest (lead (map at more h)) = ap (λ r. mark kind.Keyword (codes "default") (r ++ rest)) h
no_default_first us rest (negation at more h) = ap (λ r. mark kind.Keyword (codes "default") (r ++ rest)) h
no_default_first us rest (minus at more h) = ap (λ r. mark kind.Keyword (codes "default") (r ++ rest)) h

-- ---- the rules

module _ (E : Expr → List Lexeme → Type 0) where
  -- a string begins as an operand does
  string_lead : (y : Expr) (us : List Lexeme) → StringOf E y us → Lead us
  string_lead y us (grammar.single v raw t q is) = kinded kind.Sq raw y.at [] t refl
  string_lead y us (grammar.plain v s is) = kinded kind.DqOpen (codes "\"") y.at s.back (s.whole ∙ ap (λ r. r ++ s.back) s.first) refl
  string_lead y us (grammar.joined ms s is) = kinded kind.DqOpen (codes "\"") y.at s.back (s.whole ∙ ap (λ r. r ++ s.back) s.first) refl

  -- an operand begins as one does
  pub primary_lead : (y : Expr) (us : List Lexeme) → PrimaryOf E y us → Lead us
  primary_lead y us (grammar.int raw t is) = kinded kind.Int raw y.at [] t refl
  primary_lead y us (grammar.string s) = string_lead y us s
  primary_lead y us (grammar.PrimaryOf.word name t is) = kinded kind.Word name y.at [] t refl
  primary_lead y us (grammar.PrimaryOf.variable name t is) = kinded kind.Var (36 ∷ name) y.at [] t refl
  primary_lead y us (grammar.PrimaryOf.truth t is) = truth y.at [] t
  primary_lead y us (grammar.PrimaryOf.falsehood t is) = falsehood y.at [] t
  primary_lead y us (grammar.PrimaryOf.undefined t is) = undefined y.at [] t
  primary_lead y us (grammar.PrimaryOf.enclosed s) = enclosed s.first.0 s.back (s.whole ∙ ap (λ r. r ++ s.back) s.first.1)
  primary_lead y us (grammar.PrimaryOf.list ms s is) = kinded kind.Loose (codes "[") y.at s.back (s.whole ∙ ap (λ r. r ++ s.back) s.first) refl
  primary_lead y us (grammar.PrimaryOf.map ps s is) = map y.at s.back (s.whole ∙ ap (λ r. r ++ s.back) s.first)
  primary_lead y us (grammar.PrimaryOf.reference r) = kinded kind.Ref r.name y.at r.spelled.back (r.spelled.whole ∙ ap (λ u. u ++ r.spelled.back) r.spelled.first) refl

  -- so does one with indexes and selections
  pub postfix_lead : (y : Expr) (us : List Lexeme) → PostfixOf E y us → Lead us
  postfix_lead y us p = grows p.front p.back p.whole (primary_lead p.operand p.front p.primary)

  -- prefixes begin as an expression does
  prefixes_begun : (o : Op) (more : List Op) (us : List Lexeme) → Prefixes (o ∷ more) us → Begun us
  prefixes_begun op.Not more us p = negation p.first.0 p.back (p.whole ∙ ap (λ r. r ++ p.back) p.first.1)
  prefixes_begun op.Minus more us p = minus p.first.0 p.back (p.whole ∙ ap (λ r. r ++ p.back) p.first.1)
  prefixes_begun op.Or more us p = absurd p.first
  prefixes_begun op.And more us p = absurd p.first
  prefixes_begun op.Less more us p = absurd p.first
  prefixes_begun op.Greater more us p = absurd p.first
  prefixes_begun op.AtMost more us p = absurd p.first
  prefixes_begun op.AtLeast more us p = absurd p.first
  prefixes_begun op.Same more us p = absurd p.first
  prefixes_begun op.NotSame more us p = absurd p.first
  prefixes_begun op.Plus more us p = absurd p.first
  prefixes_begun op.Times more us p = absurd p.first
  prefixes_begun op.In more us p = absurd p.first

  -- so do tokens that begin with prefixes
  pub prefixed_begun : (o : Op) (more : List Op) (us front back : List Lexeme) → us ≡ front ++ back → Prefixes (o ∷ more) front → Begun us
  prefixed_begun o more us front back e p = begun_grows front back e (prefixes_begun o more front p)

  -- so does an operand with prefixes
  pub unary_begun : (y : Expr) (us : List Lexeme) → UnaryOf E y us → Begun us
  unary_begun y us (grammar.UnaryOf.operand p) = lead (postfix_lead y us p)
  unary_begun y us (grammar.prefixed o more x is at s) = begun_grows s.front s.back s.whole (prefixes_begun o more s.front s.first)

-- so does a chain of operands that do
pub chain_begun : (level : ℕ) (A : Expr → List Lexeme → Type 0) → ((y : Expr) (us : List Lexeme) → A y us → Begun us) → (y : Expr) (us : List Lexeme) → ChainOf level A y us → Begun us
chain_begun level A begun y us (grammar.ChainOf.operand a) = begun y us a
chain_begun level A begun y us (grammar.chain first o more is at s) = begun_grows s.front s.back s.whole (begun first s.front s.first)

-- the rule of the nth level from the tightest
abbrev pub LevelOf : (Expr → List Lexeme → Type 0) → ℕ → Expr → List Lexeme → Type 0
LevelOf E zero = UnaryOf E
LevelOf E (suc n) = ChainOf (6 - n) (LevelOf E n)

-- what the rule of each level spells begins as an expression does
pub level_begun : (E : Expr → List Lexeme → Type 0) (n : ℕ) (y : Expr) (us : List Lexeme) → LevelOf E n y us → Begun us
level_begun E zero = unary_begun E
level_begun E (suc n) = chain_begun (6 - n) (LevelOf E n) (level_begun E n)

-- an expression begins as one does
pub expr_begun : (depth : ℕ) (y : Expr) (us : List Lexeme) → IsExprAt depth y us → Begun us
expr_begun zero y us h = absurd h
expr_begun (suc depth) y us h = level_begun (IsExprAt depth) 7 y us h
