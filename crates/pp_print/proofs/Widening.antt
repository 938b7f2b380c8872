-- What is spelled with brackets nested to some depth is spelled.
use Rattle.std.proofs.Common.{ℕ, List, [], ◌∷◌}
use Rattle.std.specs.Prelude.{Option}
use Rattle.std.specs.Prelude as prelude
use Rattle.pp_syntax.specs.declared.tree.Expr.{Expr}
use Rattle.pp_syntax.specs.Tokens.{Lexeme}
use Rattle.pp_syntax.specs.Phrases.{◌then◌, Each, Separated, Listed, MaybeListed, Comma, place_of}
use Rattle.pp_syntax.specs.Derivation.{Rule, InnerOf, MemberOf, Members, StringOf, ReferenceOf, PairOf, OptionOf, ChoiceOf, PrimaryOf, SuffixOf, SuffixesOf, PostfixOf}
use Rattle.pp_syntax.specs.Derivation as rule
use Rattle.pp_print.proofs.Phrases.{Phrase}

-- two phrases are spelled by wider rules
both_wide : (A B C D : Phrase) (ts : List Lexeme) → ((us : List Lexeme) → A us → C us) → ((us : List Lexeme) → B us → D us) → (A then B) ts → (C then D) ts
both_wide A B C D ts f g h = record { front = h.front; back = h.back; first = f h.front h.first; second = g h.back h.second; whole = h.whole }

module _ {X : Type 0} (A B : X → List Lexeme → Type 0) (f : (x : X) (us : List Lexeme) → A x us → B x us) where
  -- items behind their signs are so by a wider rule of items
  each_wide : (S : Phrase) (xs : List X) (ts : List Lexeme) → Each S A xs ts → Each S B xs ts
  each_wide S [] ts h = h
  each_wide S (x ∷ xs) ts h = both_wide S (A x then Each S A xs) S (B x then Each S B xs) ts (λ us k. k) (λ us. both_wide (A x) (Each S A xs) (B x) (Each S B xs) us (f x) (each_wide S xs)) h

  -- and items with signs between them
  separated_wide : (S : Phrase) (xs : List X) (ts : List Lexeme) → Separated S A xs ts → Separated S B xs ts
  separated_wide S [] ts h = absurd h
  separated_wide S (x ∷ xs) ts h = both_wide (A x) (Each S A xs) (B x) (Each S B xs) ts (f x) (each_wide S xs) h

  -- and a list
  pub listed_wide : (xs : List X) (ts : List Lexeme) → Listed A xs ts → Listed B xs ts
  listed_wide xs ts h = record { front = h.front; back = h.back; first = separated_wide Comma xs h.front h.first; second = h.second; whole = h.whole }

  -- and a list, or none
  pub maybe_listed_wide : (xs : List X) (ts : List Lexeme) → MaybeListed A xs ts → MaybeListed B xs ts
  maybe_listed_wide [] ts h = h
  maybe_listed_wide (x ∷ xs) ts h = listed_wide (x ∷ xs) ts h

module _ (G H : Rule) (f : (x : Expr) (us : List Lexeme) → G x us → H x us) where
  -- a pair of expressions is one by a wider rule of expressions
  pair_wide : (p : Expr × Expr) (ts : List Lexeme) → PairOf G p ts → PairOf H p ts
  pair_wide p ts h = both_wide _ _ _ _ ts (f p.0) (λ us. both_wide _ _ _ _ us (λ vs k. k) (f p.1)) h

  -- so is an option
  pub option_wide : (o : Option Expr) (ts : List Lexeme) → OptionOf G o ts → OptionOf H o ts
  option_wide prelude.None ts h = h
  option_wide (prelude.Some x) ts h = f x ts h

  -- and a choice
  choice_wide : (c : Option Expr × Expr) (ts : List Lexeme) → ChoiceOf G c ts → ChoiceOf H c ts
  choice_wide c ts h = both_wide _ _ _ _ ts (option_wide c.0) (λ us. both_wide _ _ _ _ us (λ vs k. k) (f c.1)) h

  -- and what stands within `${` and `}`
  inner_wide : (y : Expr) (ts : List Lexeme) → InnerOf G y ts → InnerOf H y ts
  inner_wide y ts (rule.variable x e d r) = rule.variable x e (f x ts d) r
  inner_wide y ts (rule.other d n) = rule.other (f y ts d) n

  -- and a member of a text in double quotes
  member_wide : (y : Expr) (ts : List Lexeme) → MemberOf G y ts → MemberOf H y ts
  member_wide y ts (rule.text value raw d v e) = rule.text value raw d v e
  member_wide y ts (rule.variable name d e) = rule.variable name d e
  member_wide y ts (rule.hole d) = rule.hole (both_wide _ _ _ _ ts (λ vs k. k) (λ us. both_wide _ _ _ _ us (inner_wide y) (λ vs k. k)) d)

  -- and members
  members_wide : (ms : List Expr) (ts : List Lexeme) → Members G ms ts → Members H ms ts
  members_wide [] ts h = h
  members_wide (y ∷ ms) ts h = both_wide (MemberOf G y) (Members G ms) (MemberOf H y) (Members H ms) ts (member_wide y) (members_wide ms) h

  -- and a string
  string_wide : (y : Expr) (ts : List Lexeme) → StringOf G y ts → StringOf H y ts
  string_wide y ts (rule.single value raw d v e) = rule.single value raw d v e
  string_wide y ts (rule.plain value d e) = rule.plain value d e
  string_wide y ts (rule.joined ms d e) = rule.joined ms (both_wide _ _ _ _ ts (λ vs k. k) (λ us. both_wide _ _ _ _ us (λ vs k. (members_wide ms vs k.0, k.1)) (λ vs k. k)) d) e

  -- and a reference
  pub reference_wide : (y : Expr) (ts : List Lexeme) → ReferenceOf G y ts → ReferenceOf H y ts
  reference_wide y ts r = record {
    name = r.name;
    titles = r.titles;
    spelled = both_wide _ _ _ _ ts (λ vs k. k) (λ us. both_wide _ _ _ _ us (λ vs k. k) (λ vs. both_wide _ _ _ _ vs (listed_wide G H f r.titles) (λ ws k. k))) r.spelled;
    form_is = r.form_is;
  }

  -- and an operand
  primary_wide : (y : Expr) (ts : List Lexeme) → PrimaryOf G y ts → PrimaryOf H y ts
  primary_wide y ts (rule.int raw d e) = rule.int raw d e
  primary_wide y ts (rule.string d) = rule.string (string_wide y ts d)
  primary_wide y ts (rule.word name d e) = rule.word name d e
  primary_wide y ts (rule.variable name d e) = rule.variable name d e
  primary_wide y ts (rule.truth d e) = rule.truth d e
  primary_wide y ts (rule.falsehood d e) = rule.falsehood d e
  primary_wide y ts (rule.undefined d e) = rule.undefined d e
  primary_wide y ts (rule.enclosed d) = rule.enclosed (both_wide _ _ _ _ ts (λ vs k. k) (λ us. both_wide _ _ _ _ us (f y) (λ vs k. k)) d)
  primary_wide y ts (rule.list members d e) = rule.list members (both_wide _ _ _ _ ts (λ vs k. k) (λ us. both_wide _ _ _ _ us (maybe_listed_wide G H f members) (λ vs k. k)) d) e
  primary_wide y ts (rule.map pairs d e) = rule.map pairs (both_wide _ _ _ _ ts (λ vs k. k) (λ us. both_wide _ _ _ _ us (maybe_listed_wide (PairOf G) (PairOf H) pair_wide pairs) (λ vs k. k)) d) e
  primary_wide y ts (rule.reference r) = rule.reference (reference_wide y ts r)

  -- and an index or a selection
  suffix_wide : (x y : Expr) (ts : List Lexeme) → SuffixOf G x y ts → SuffixOf H x y ts
  suffix_wide x y ts (rule.index key d e) = rule.index key (both_wide _ _ _ _ ts (λ vs k. k) (λ us. both_wide _ _ _ _ us (f key) (λ vs k. k)) d) e
  suffix_wide x y ts (rule.selection cs d e) = rule.selection cs (both_wide _ _ _ _ ts (λ vs k. k) (λ us. both_wide _ _ _ _ us (λ vs k. k) (λ vs. both_wide _ _ _ _ vs (listed_wide (ChoiceOf G) (ChoiceOf H) choice_wide cs) (λ ws k. k))) d) e

  -- and several
  suffixes_wide : (at : ℕ) (x y : Expr) (ts : List Lexeme) → SuffixesOf G at x y ts → SuffixesOf H at x y ts
  suffixes_wide at x y ts (rule.none e n) = rule.none e n
  suffixes_wide at x y ts (rule.one z front back e s z_at more) = rule.one z front back e (suffix_wide x z front s) z_at (suffixes_wide at z y back more)

  -- and an operand with them
  pub postfix_wide : (y : Expr) (ts : List Lexeme) → PostfixOf G y ts → PostfixOf H y ts
  postfix_wide y ts h = record { operand = h.operand; front = h.front; back = h.back; primary = primary_wide h.operand h.front h.primary; suffixes = suffixes_wide (place_of ts) h.operand y h.back h.suffixes; whole = h.whole }
