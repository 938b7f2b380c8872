-- Rules that agree on short lists of tokens make rules that agree on lists one token longer, where brackets stand around.
use Rattle.std.proofs.Common.{◌≡◌, inl, inr, ℕ, zero, suc, ◌<◌, List, [], ◌∷◌, ◌++◌, length, length-append, subst, sym, ap, arith}
use Rattle.std.specs.Prelude.{codes, Option}
use Rattle.std.specs.Prelude as prelude
use Rattle.pp_syntax.specs.declared.token.Kind.{Kind}
use Rattle.pp_syntax.specs.declared.token.Kind.TheVariants as kind
use Rattle.pp_syntax.specs.declared.tree.Expr.{Expr}
use Rattle.pp_syntax.specs.declared.tree.Op.{Op}
use Rattle.pp_syntax.specs.Tokens.{Lexeme}
use Rattle.pp_syntax.specs.Phrases.{◌then◌, Maybe, Each, Separated, Listed, MaybeListed, Sign, Tight}
use Rattle.pp_syntax.specs.Phrases as phrase
use Rattle.pp_syntax.specs.Derivation.{InnerOf, MemberOf, Members, has_part, StringOf, ReferenceOf, PairOf, OptionOf, ChoiceOf, PrimaryOf, SuffixOf, SuffixesOf, PostfixOf, Prefixes, UnaryOf, ChainOf, Operation, Operations, InOf, ProductOf, SumOf, EqualityOf, ComparisonOf, AndOf, ExprOf, IsExprAt, Infix}
use Rattle.pp_syntax.specs.Derivation as rule

-- which tokens spell something
abbrev pub Phrase : Type 1
Phrase = List Lexeme → Type 0

-- Of the lists of fewer tokens than this, each that is an A is a B.
abbrev pub Within : ℕ → Phrase → Phrase → Type 0
Within n A B = (us : List Lexeme) → length us < n → A us → B us

-- ---- phrases

-- the front of a short list is short
pub front_short : (n : ℕ) (us front back : List Lexeme) → us ≡ front ++ back → length us < n → length front < n
front_short n us front back e l = omega (arith, length-append front back, ap length e)

-- and so is its back
pub back_short : (n : ℕ) (us front back : List Lexeme) → us ≡ front ++ back → length us < n → length back < n
back_short n us front back e l = omega (arith, length-append front back, ap length e)

-- where two rules agree with two others on short lists, so does the one behind the other
pub then_within : (n : ℕ) (A B C D : Phrase) → Within n A C → Within n B D → Within n (A then B) (C then D)
then_within n A B C D f g us l h = record {
  front = h.front;
  back = h.back;
  first = f h.front (front_short n us h.front h.back h.whole l) h.first;
  second = g h.back (back_short n us h.front h.back h.whole l) h.second;
  whole = h.whole;
}

-- the same where the first is one rule
pub second_within : (n : ℕ) (A B D : Phrase) → Within n B D → Within n (A then B) (A then D)
second_within n A B D g = then_within n A B A D (λ us l h. h) g

-- and where the second is
pub first_within : (n : ℕ) (A B C : Phrase) → Within n A C → Within n (A then B) (C then B)
first_within n A B C f = then_within n A B C B f (λ us l h. h)

-- rules that agree on short lists agree on shorter ones
pub weaker : (n : ℕ) (A B : Phrase) → Within (suc n) A B → Within n A B
weaker n A B f us l h = f us (omega arith) h

-- at least one token
abbrev pub HasToken : Phrase → Type 0
HasToken A = (us : List Lexeme) → A us → 0 < length us

-- a token at a place is one token
pub a_token : (k : Kind) (text : List ℕ) (at : ℕ) → HasToken (phrase.Token k text at)
a_token k text at us h = subst (λ v. 0 < length v) (sym h) (omega arith)

-- so is a token at any place
pub some_token : (k : Kind) (text : List ℕ) → HasToken (phrase.Some k text)
some_token k text us h = a_token k text h.0 us h.1

-- behind a token
pub token_then : (n : ℕ) (A B D : Phrase) → HasToken A → Within n B D → Within (suc n) (A then B) (A then D)
token_then n A B D some g us l h = record {
  front = h.front;
  back = h.back;
  first = h.first;
  second = g h.back (omega (arith, some h.front h.first, length-append h.front h.back, ap length h.whole)) h.second;
  whole = h.whole;
}

-- rules that agree do so where they may be left out
pub maybe_within : (n : ℕ) (A B : Phrase) → Within n A B → Within n (Maybe A) (Maybe B)
maybe_within n A B f us l (inl e) = inl e
maybe_within n A B f us l (inr h) = inr (f us l h)

module _ {X : Type 0} (n : ℕ) (A B : X → List Lexeme → Type 0) (f : (x : X) → Within n (A x) (B x)) where
  -- rules of items that agree do so for items behind their signs
  pub each_within : (separator : Phrase) (xs : List X) → Within n (Each separator A xs) (Each separator B xs)
  each_within separator [] us l h = h
  each_within separator (x ∷ xs) us l h = second_within n separator (A x then Each separator A xs) (B x then Each separator B xs)
      (then_within n (A x) (Each separator A xs) (B x) (Each separator B xs) (f x) (each_within separator xs)) us l h

  -- and for items with signs between them
  pub separated_within : (separator : Phrase) (xs : List X) → Within n (Separated separator A xs) (Separated separator B xs)
  separated_within separator [] us l h = absurd h
  separated_within separator (x ∷ xs) us l h = then_within n (A x) (Each separator A xs) (B x) (Each separator B xs) (f x) (each_within separator xs) us l h

  -- and for lists
  pub listed_within : (xs : List X) → Within n (Listed A xs) (Listed B xs)
  listed_within xs = first_within n (Separated phrase.Comma A xs) (Maybe phrase.Comma) (Separated phrase.Comma B xs) (separated_within phrase.Comma xs)

  -- and for lists that may be empty
  pub maybe_listed_within : (xs : List X) → Within n (MaybeListed A xs) (MaybeListed B xs)
  maybe_listed_within [] us l h = h
  maybe_listed_within (x ∷ xs) us l h = listed_within (x ∷ xs) us l h

-- ---- expressions

module _ (n : ℕ) (E F : Expr → List Lexeme → Type 0) (f : (y : Expr) → Within n (E y) (F y)) where
  -- two rules of expressions that agree on short lists do so for what stands within `${` and `}`
  inner_within : (y : Expr) → Within n (InnerOf E y) (InnerOf F y)
  inner_within y us l (rule.InnerOf.variable x w h r) = rule.InnerOf.variable x w (f x us l h) r
  inner_within y us l (rule.InnerOf.other h none) = rule.InnerOf.other (f y us l h) none

  -- for a member of a text in double quotes they do so on lists one token longer
  member_within : (y : Expr) → Within (suc n) (MemberOf E y) (MemberOf F y)
  member_within y us l (rule.MemberOf.text value raw t v is) = rule.MemberOf.text value raw t v is
  member_within y us l (rule.MemberOf.variable name t is) = rule.MemberOf.variable name t is
  member_within y us l (rule.MemberOf.hole h) = rule.MemberOf.hole
      (token_then n (phrase.Some kind.Hole (codes "${")) (InnerOf E y then phrase.Some kind.HoleEnd (codes "}")) (InnerOf F y then phrase.Some kind.HoleEnd (codes "}"))
      (some_token kind.Hole (codes "${")) (first_within n (InnerOf E y) (phrase.Some kind.HoleEnd (codes "}")) (InnerOf F y) (inner_within y)) us l h)

  -- and for members
  members_within : (ys : List Expr) → Within (suc n) (Members E ys) (Members F ys)
  members_within [] us l h = h
  members_within (y ∷ ys) us l h = then_within (suc n) (MemberOf E y) (Members E ys) (MemberOf F y) (Members F ys) (member_within y) (members_within ys) us l h

  -- and for strings
  pub string_within : (y : Expr) → Within (suc n) (StringOf E y) (StringOf F y)
  string_within y us l (rule.StringOf.single value raw t v is) = rule.StringOf.single value raw t v is
  string_within y us l (rule.StringOf.plain value h is) = rule.StringOf.plain value h is
  string_within y us l (rule.StringOf.joined members h is) = rule.StringOf.joined members
      (second_within (suc n) (phrase.Token kind.DqOpen (codes "\"") y.at) ((λ ts. Members E members ts × (has_part ts ≡ prelude.true)) then phrase.Some kind.DqClose (codes "\""))
      ((λ ts. Members F members ts × (has_part ts ≡ prelude.true)) then phrase.Some kind.DqClose (codes "\""))
      (first_within (suc n) (λ ts. Members E members ts × (has_part ts ≡ prelude.true)) (phrase.Some kind.DqClose (codes "\"")) (λ ts. Members F members ts × (has_part ts ≡ prelude.true))
      (λ vs k p. (members_within members vs k p.0, p.1))) us l h) is

  -- for a pair of a map they agree on short lists
  pair_within : (p : Expr × Expr) → Within n (PairOf E p) (PairOf F p)
  pair_within p = then_within n (E p.0) (Sign (codes "=>") then E p.1) (F p.0) (Sign (codes "=>") then F p.1) (f p.0) (second_within n (Sign (codes "=>")) (E p.1) (F p.1) (f p.1))

  -- and for an option
  pub option_within : (o : Option Expr) → Within n (OptionOf E o) (OptionOf F o)
  option_within prelude.None us l h = h
  option_within (prelude.Some x) us l h = f x us l h

  -- and for a choice of a selection
  choice_within : (c : Option Expr × Expr) → Within n (ChoiceOf E c) (ChoiceOf F c)
  choice_within c = then_within n (OptionOf E c.0) (Sign (codes "=>") then E c.1) (OptionOf F c.0) (Sign (codes "=>") then F c.1) (option_within c.0)
      (second_within n (Sign (codes "=>")) (E c.1) (F c.1) (f c.1))

  -- two rules that agree do so with a closing sign behind them
  closed_within : (A B : Phrase) (close : List ℕ) → Within n A B → Within n (A then Sign close) (B then Sign close)
  closed_within A B close g = first_within n A (Sign close) B g

  -- for a reference they agree on lists one token longer
  pub reference_within : (y : Expr) → Within (suc n) (ReferenceOf E y) (ReferenceOf F y)
  reference_within y us l h = record {
    name = h.name;
    titles = h.titles;
    spelled = token_then n (phrase.Token kind.Ref h.name y.at) (Tight then Listed E h.titles then Sign (codes "]")) (Tight then Listed F h.titles then Sign (codes "]")) (a_token kind.Ref h.name y.at)
        (second_within n Tight (Listed E h.titles then Sign (codes "]")) (Listed F h.titles then Sign (codes "]"))
        (closed_within (Listed E h.titles) (Listed F h.titles) (codes "]") (listed_within n E F f h.titles))) us l h.spelled;
    form_is = h.form_is;
  }

  -- and for an operand
  primary_within : (y : Expr) → Within (suc n) (PrimaryOf E y) (PrimaryOf F y)
  primary_within y us l (rule.PrimaryOf.int raw t is) = rule.PrimaryOf.int raw t is
  primary_within y us l (rule.PrimaryOf.string s) = rule.PrimaryOf.string (string_within y us l s)
  primary_within y us l (rule.PrimaryOf.word name t is) = rule.PrimaryOf.word name t is
  primary_within y us l (rule.PrimaryOf.variable name t is) = rule.PrimaryOf.variable name t is
  primary_within y us l (rule.PrimaryOf.truth t is) = rule.PrimaryOf.truth t is
  primary_within y us l (rule.PrimaryOf.falsehood t is) = rule.PrimaryOf.falsehood t is
  primary_within y us l (rule.PrimaryOf.undefined t is) = rule.PrimaryOf.undefined t is
  primary_within y us l (rule.PrimaryOf.enclosed h) = rule.PrimaryOf.enclosed
      (token_then n (Sign (codes "(")) (E y then Sign (codes ")")) (F y then Sign (codes ")")) (some_token kind.Sign (codes "(")) (closed_within (E y) (F y) (codes ")") (f y)) us l h)
  primary_within y us l (rule.PrimaryOf.list members h is) = rule.PrimaryOf.list members
      (token_then n (phrase.Token kind.Loose (codes "[") y.at) (MaybeListed E members then Sign (codes "]")) (MaybeListed F members then Sign (codes "]")) (a_token kind.Loose (codes "[") y.at)
      (closed_within (MaybeListed E members) (MaybeListed F members) (codes "]") (maybe_listed_within n E F f members)) us l h) is
  primary_within y us l (rule.PrimaryOf.map pairs h is) = rule.PrimaryOf.map pairs
      (token_then n (phrase.Token kind.Sign (codes "{") y.at) (MaybeListed (PairOf E) pairs then Sign (codes "}")) (MaybeListed (PairOf F) pairs then Sign (codes "}")) (a_token kind.Sign (codes "{") y.at)
      (closed_within (MaybeListed (PairOf E) pairs) (MaybeListed (PairOf F) pairs) (codes "}") (maybe_listed_within n (PairOf E) (PairOf F) pair_within pairs)) us l h) is
  primary_within y us l (rule.PrimaryOf.reference r) = rule.PrimaryOf.reference (reference_within y us l r)

  -- and for an index or a selection
  suffix_within : (x y : Expr) → Within (suc n) (SuffixOf E x y) (SuffixOf F x y)
  suffix_within x y us l (rule.SuffixOf.index key h is) = rule.SuffixOf.index key
      (token_then n Tight (E key then Sign (codes "]")) (F key then Sign (codes "]")) (some_token kind.Tight (codes "[")) (closed_within (E key) (F key) (codes "]") (f key)) us l h) is
  suffix_within x y us l (rule.SuffixOf.selection choices h is) = rule.SuffixOf.selection choices
      (token_then n (Sign (codes "?")) (Sign (codes "{") then Listed (ChoiceOf E) choices then Sign (codes "}")) (Sign (codes "{") then Listed (ChoiceOf F) choices then Sign (codes "}"))
      (some_token kind.Sign (codes "?")) (second_within n (Sign (codes "{")) (Listed (ChoiceOf E) choices then Sign (codes "}")) (Listed (ChoiceOf F) choices then Sign (codes "}"))
      (closed_within (Listed (ChoiceOf E) choices) (Listed (ChoiceOf F) choices) (codes "}") (listed_within n (ChoiceOf E) (ChoiceOf F) choice_within choices))) us l h) is

  -- and for indexes and selections
  suffixes_within : (at : ℕ) (x y : Expr) → Within (suc n) (SuffixesOf E at x y) (SuffixesOf F at x y)
  suffixes_within at x y us l (rule.SuffixesOf.none e t) = rule.SuffixesOf.none e t
  suffixes_within at x y us l (rule.SuffixesOf.one z front back e s here more) =
      rule.SuffixesOf.one z front back e (suffix_within x z front (front_short (suc n) us front back e l) s) here (suffixes_within at z y back (back_short (suc n) us front back e l) more)

  -- and for an operand with them
  pub postfix_within : (y : Expr) → Within (suc n) (PostfixOf E y) (PostfixOf F y)
  postfix_within y us l h = record {
    operand = h.operand;
    front = h.front;
    back = h.back;
    primary = primary_within h.operand h.front (front_short (suc n) us h.front h.back h.whole l) h.primary;
    suffixes = suffixes_within (phrase.place_of us) h.operand y h.back (back_short (suc n) us h.front h.back h.whole l) h.suffixes;
    whole = h.whole;
  }

  -- and for one with prefixes
  unary_within : (y : Expr) → Within (suc n) (UnaryOf E y) (UnaryOf F y)
  unary_within y us l (rule.UnaryOf.operand p) = rule.UnaryOf.operand (postfix_within y us l p)
  unary_within y us l (rule.UnaryOf.prefixed o more x is at h) = rule.UnaryOf.prefixed o more x is at
      (second_within (suc n) (Prefixes (o ∷ more)) (PostfixOf E x) (PostfixOf F x) (postfix_within x) us l h)

module _ (n level : ℕ) (A B : Expr → List Lexeme → Type 0) (f : (y : Expr) → Within n (A y) (B y)) where
  -- rules of operands that agree do so for operators with their right operands
  operations_within : (os : List (Op × Expr)) → Within n (Operations level A os) (Operations level B os)
  operations_within [] us l h = h
  operations_within (o ∷ more) us l h = then_within n (Operation level A o) (Operations level A more) (Operation level B o) (Operations level B more)
      (λ vs k p. (p.0, second_within n (Infix o.0) (A o.1) (B o.1) (f o.1) vs k p.1)) (operations_within more) us l h

  -- and for chains of a level
  chain_within : (y : Expr) → Within n (ChainOf level A y) (ChainOf level B y)
  chain_within y us l (rule.ChainOf.operand h) = rule.ChainOf.operand (f y us l h)
  chain_within y us l (rule.ChainOf.chain first o more is at h) = rule.ChainOf.chain first o more is at
      (then_within n (A first) (Operations level A (o ∷ more)) (B first) (Operations level B (o ∷ more)) (f first) (operations_within (o ∷ more)) us l h)

-- for expressions two rules of what stands in brackets agree on lists one token longer
pub expr_within : (n : ℕ) (E F : Expr → List Lexeme → Type 0) → ((y : Expr) → Within n (E y) (F y)) → (y : Expr) → Within (suc n) (ExprOf E y) (ExprOf F y)
expr_within n E F f =
    chain_within (suc n) 0 (AndOf E) (AndOf F) (chain_within (suc n) 1 (ComparisonOf E) (ComparisonOf F) (chain_within (suc n) 2 (EqualityOf E) (EqualityOf F)
    (chain_within (suc n) 3 (SumOf E) (SumOf F) (chain_within (suc n) 4 (ProductOf E) (ProductOf F) (chain_within (suc n) 5 (InOf E) (InOf F)
    (chain_within (suc n) 6 (UnaryOf E) (UnaryOf F) (unary_within n E F f)))))))

-- Brackets nest less deep than there are tokens and one more.
pub few_brackets : (n m : ℕ) (y : Expr) → Within n (IsExprAt m y) (IsExprAt n y)
few_brackets zero m y us l h = absurd (omega arith)
few_brackets (suc n) zero y us l h = absurd h
few_brackets (suc n) (suc m) y us l h = expr_within n (IsExprAt m) (IsExprAt n) (λ z. few_brackets n m z) y us l h
