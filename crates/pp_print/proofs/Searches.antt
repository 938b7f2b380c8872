-- The words of a search spell it again, places aside.
use Rattle.std.proofs.Common.{◌≡◌, ◌⊎◌, inl, inr, ℕ, zero, suc, ◌+◌, ◌-◌, ◌≤◌, true, false, cond, nat_le, List, [], ◌∷◌, ◌++◌, length, length-append, map, refl, sym, ap, subst, ◌∙◌, arith}
use Rattle.std.specs.Prelude.{Option, codes}
use Rattle.std.specs.Prelude as prelude
use Rattle.std.specs.Option.{option_map}
use Rattle.std.specs.List.{join_by}
use Rattle.std.proofs.lemmas.Bool.{leb-true, le-leb, both_ways}
use Rattle.pp_syntax.specs.declared.token.Kind.TheVariants as kind
use Rattle.pp_syntax.specs.declared.tree.Expr.{Expr}
use Rattle.pp_syntax.specs.declared.tree.Search.{Search, Search-F, fold-roll-Search, roll-Search, map-Search}
use Rattle.pp_syntax.specs.declared.tree.Search.TheOpen as plain
use Rattle.pp_syntax.specs.declared.tree.Search.TheVariants as search
use Rattle.pp_syntax.specs.declared.tree.Search.TheVariants.{rolls-Or, rolls-And, rolls-Equal, rolls-Differ}
use Rattle.pp_syntax.specs.Tokens.{Lexeme}
use Rattle.pp_syntax.specs.Phrases.{◌then◌, Sign, Keyword, Separated}
use Rattle.pp_syntax.specs.Derivation.{PostfixOf, IsExpr}
use Rattle.pp_syntax.specs.Statements.{NameOf, AtomOf, ConjunctionOf, SearchOf, IsSearchAt, MaybeSearch}
use Rattle.pp_syntax.specs.Statements as rule
use Rattle.pp_print.specs.declared.words.Word.{Word}
use Rattle.pp_print.specs.Words.{sign, keyword, named, in_parens}
use Rattle.pp_print.specs.Expressions.{printed, at_level}
use Rattle.pp_print.specs.Statements.{Sought, sought, sought_at, compared, maybe_search}
use Rattle.pp_print.specs.Places.{unplaced, search_step, unplaced_search}
use Rattle.pp_print.proofs.Blocks.{sought_or, sought_and, sought_equal, sought_differ}
use Rattle.pp_print.proofs.Phrases.{words_in, parts, no_word, one_word, together, Small, parts_stand, separated_again}
use Rattle.pp_print.proofs.Bodies.{name_reads, postfix_reads}

-- ---- searches without places

-- without places a search is its first step without places
pub rolled : (d : Search-F Search) → unplaced_search (roll-Search d) ≡ roll-Search (search_step (map-Search Search Search unplaced_search d))
unfolding unplaced_search
rolled d = fold-roll-Search Search (λ x. roll-Search (search_step x)) d

-- `or` without places
unplaced_or : (xs : List Search) → unplaced_search (search.Or xs) ≡ search.Or (map unplaced_search xs)
unplaced_or xs = sym (ap unplaced_search (rolls-Or xs)) ∙ rolled (plain.Or xs) ∙ rolls-Or (map unplaced_search xs)

-- `and` without places
unplaced_and : (xs : List Search) → unplaced_search (search.And xs) ≡ search.And (map unplaced_search xs)
unplaced_and xs = sym (ap unplaced_search (rolls-And xs)) ∙ rolled (plain.And xs) ∙ rolls-And (map unplaced_search xs)

-- `==` without places
unplaced_equal : (name : List ℕ) (value : Expr) → unplaced_search (search.Equal name value) ≡ search.Equal name (unplaced value)
unplaced_equal name value = sym (ap unplaced_search (rolls-Equal name value)) ∙ rolled (plain.Equal name value) ∙ rolls-Equal name (unplaced value)

-- `!=` without places
unplaced_differ : (name : List ℕ) (value : Expr) → unplaced_search (search.Differ name value) ≡ search.Differ name (unplaced value)
unplaced_differ name value = sym (ap unplaced_search (rolls-Differ name value)) ∙ rolled (plain.Differ name value) ∙ rolls-Differ name (unplaced value)

-- ---- levels

-- which tokens spell which search
abbrev pub SearchRule : Type 1
SearchRule = Search → List Lexeme → Type 0

-- any tokens with these words spell the search by the rule, places aside
abbrev Again : SearchRule → Search → List Word → Type 0
Again R x ws = (us : List Lexeme) → words_in us ≡ ws → (y : Search) × R y us × (unplaced_search x ≡ unplaced_search y)

-- the rule n steps looser than that of an atom
abbrev loose : SearchRule → ℕ → SearchRule
loose S zero = AtomOf IsExpr S
loose S (suc zero) = ConjunctionOf IsExpr S
loose S (suc (suc n)) = SearchOf IsExpr S

-- as for expressions
pub record Reprint (S : SearchRule) (n : ℕ) (x : Search) : Type 0 where
  pub below : (sought x).level ≤ 2
  pub own : Again (loose S (2 - (sought x).level)) x (sought x).words
  pub needs : (n ≤ (sought x).level) ⊎ Again S x (sought x).words

-- what a rule spells is spelled by the next looser one
looser : (S : SearchRule) (n : ℕ) (y : Search) (us : List Lexeme) → loose S n y us → loose S (suc n) y us
looser S zero y us h = rule.atom h
looser S (suc zero) y us h = rule.conjunction h
looser S (suc (suc n)) y us h = h

-- and by any looser one
looser_by : (S : SearchRule) (k n : ℕ) (y : Search) (us : List Lexeme) → loose S n y us → loose S (k + n) y us
looser_by S zero n y us h = let same : n ≡ zero + n = omega arith in subst (λ m. loose S m y us) same h
looser_by S (suc k) n y us h = let same : suc (k + n) ≡ suc k + n = omega arith in subst (λ m. loose S m y us) same (looser S (k + n) y us (looser_by S k n y us h))

-- so from one number of steps to another
looser_to : (S : SearchRule) (m n : ℕ) (y : Search) (us : List Lexeme) → m ≤ n → loose S m y us → loose S n y us
looser_to S m n y us below h = let same : (n - m) + m ≡ n = omega (arith, below) in subst (λ k. loose S k y us) same (looser_by S (n - m) m y us h)

-- the words of a search in parentheses spell an atom
enclosed_again : (S : SearchRule) (x : Search) (us : List Lexeme) → Again S x (sought x).words → words_in us ≡ in_parens (sought x).words → (y : Search) × AtomOf IsExpr S y us × (unplaced_search x ≡ unplaced_search y)
enclosed_again S x us again w =
    let p = parts us (sign (codes "(")) ((sought x).words ++ sign (codes ")")) w in
    let q = parts p.back (sought x).words (sign (codes ")")) p.second in
    let r = again q.front q.first in (
      r.0,
      rule.enclosed (together (Sign (codes "(")) (S r.0 then Sign (codes ")")) us (sign (codes "(")) ((sought x).words ++ sign (codes ")")) p (one_word kind.Sign (codes "(") p.front p.first)
          (together (S r.0) (Sign (codes ")")) p.back (sought x).words (sign (codes ")")) q r.1 (one_word kind.Sign (codes ")") q.back q.second))),
      r.2,
    )

-- the words of a search, in brackets where it needs them, spell it again at that level
at_again : (S : SearchRule) (n : ℕ) (x : Search) → n ≤ 2 → Reprint S n x → Again (loose S (2 - n)) x (sought_at n (sought x))
at_again S n x most r us w = elim (nat_le n (sought x).level) as (λ v. nat_le n (sought x).level ≡ v → words_in us ≡ cond v (sought x).words (in_parens (sought x).words) → (y : Search) × loose S (2 - n) y us × (unplaced_search x ≡ unplaced_search y)) [
  | true ↦ λ e k. let a = r.own us k in (a.0, looser_to S (2 - (sought x).level) (2 - n) a.0 us (omega (arith, leb-true n (sought x).level e, r.below)) a.1, a.2)
  | false ↦ λ e k. elim r.needs [
    | inl h ↦ absurd (both_ways (nat_le n (sought x).level) e (le-leb n (sought x).level h))
    | inr again ↦ let a = enclosed_again S x us again k in (a.0, looser_to S 0 (2 - n) a.0 us (omega arith) a.1, a.2)
  ]
] refl w

-- what is spelled again where fewer brackets are left out is so where more are
weaker : (S : SearchRule) (m n : ℕ) (x : Search) → m ≤ n → Reprint S n x → Reprint S m x
weaker S m n x below r = record { below = r.below; own = r.own; needs = elim r.needs [ inl h ↦ inl (omega arith) | inr h ↦ inr h ] }

-- a search whose words spell it again at its level does so
by_is : (S : SearchRule) (y : Search) (ws : List Word) (level : ℕ) → level ≤ 2 → ◌≡◌ {A = Sought} (sought y) (record { words = ws; level = level }) → Again (loose S (2 - level)) y ws → Reprint S level y
by_is S y ws level most is again =
    let level_is : (sought y).level ≡ level = ap (λ (p : Sought). p.level) is in
    record {
      below = omega (arith, level_is, most);
      own = λ us w. let r = again us (w ∙ ap (λ (p : Sought). p.words) is) in (r.0, subst (λ n. loose S (2 - n) r.0 us) (sym level_is) r.1, r.2);
      needs = inl (omega (arith, level_is));
    }

-- ---- the rules

-- the words of a comparison spell it again
compared_again : (n : ℕ) (mark : List ℕ) (name : List ℕ) (value : Expr) (ts : List Lexeme) → (NameOf name then Sign mark then PostfixOf IsExpr value) ts → Small n ts → (us : List Lexeme) → words_in us ≡ compared name mark value
    → (v : Expr) × (NameOf name then Sign mark then PostfixOf IsExpr v) us × (unplaced value ≡ unplaced v)
compared_again n mark name value ts d good us w =
    let p = parts us (named name) (sign mark ++ at_level 8 (printed value)) w in
    let q = parts p.back (sign mark) (at_level 8 (printed value)) p.second in
    let g = parts_stand n (NameOf name) (Sign mark then PostfixOf IsExpr value) ts d good in
    let k = parts_stand n (Sign mark) (PostfixOf IsExpr value) d.back d.second g.1 in
    let r = postfix_reads n value d.second.back d.second.second k.1 q.back q.second in (
      r.0,
      together (NameOf name) (Sign mark then PostfixOf IsExpr r.0) us (named name) (sign mark ++ at_level 8 (printed value)) p (name_reads n name d.front d.first g.0 p.front p.first)
          (together (Sign mark) (PostfixOf IsExpr r.0) p.back (sign mark) (at_level 8 (printed value)) q (one_word kind.Sign mark q.front q.first) r.1),
      r.2,
    )

-- what is known of searches within brackets
pub record Nested (e : ℕ) (x : Search) : Type 0 where
  pub own : Reprint (IsSearchAt IsExpr (suc e)) 2 x
  pub inside : Again (IsSearchAt IsExpr (suc e)) x (sought x).words

module _ (S : SearchRule) (e : ℕ) (nested : (x : Search) (ts : List Lexeme) → S x ts → Small e ts → Nested e x) where
  -- searches with brackets nested less deep than this
  abbrev T : SearchRule
  T = IsSearchAt IsExpr (suc e)

  -- the words of an atom spell it again
  atom_again : (y : Search) (ts : List Lexeme) → AtomOf IsExpr S y ts → Small (suc e) ts → Reprint T 2 y
  atom_again y ts (rule.equal name value is d) good = by_is T y (compared name (codes "==") value) 2 (omega arith) (ap sought is ∙ sought_equal name value) (λ us w.
      let r = compared_again (suc e) (codes "==") name value ts d good us w in
      (search.Equal name r.0, rule.equal name r.0 refl r.1, ap unplaced_search is ∙ unplaced_equal name value ∙ ap (λ (v : Expr). search.Equal name v) r.2 ∙ sym (unplaced_equal name r.0)))
  atom_again y ts (rule.differ name value is d) good = by_is T y (compared name (codes "!=") value) 2 (omega arith) (ap sought is ∙ sought_differ name value) (λ us w.
      let r = compared_again (suc e) (codes "!=") name value ts d good us w in
      (search.Differ name r.0, rule.differ name r.0 refl r.1, ap unplaced_search is ∙ unplaced_differ name value ∙ ap (λ (v : Expr). search.Differ name v) r.2 ∙ sym (unplaced_differ name r.0)))
  atom_again y ts (rule.enclosed d) good =
      let g = parts_stand (suc e) (Sign (codes "(")) (S y then Sign (codes ")")) ts d good in
      let back : Small e d.back = (g.1.0, omega (arith, good.1, ap length d.first.1, ap length d.whole, length-append d.front d.back)) in
      let k = parts_stand e (S y) (Sign (codes ")")) d.back d.second back in
      (nested y d.second.front d.second.first k.0).own

  -- and so they do where an atom is asked for
  atoms_again : (x : Search) (ts : List Lexeme) → AtomOf IsExpr S x ts → Small (suc e) ts → (us : List Lexeme) → words_in us ≡ sought_at 2 (sought x) → (y : Search) × AtomOf IsExpr T y us × (unplaced_search x ≡ unplaced_search y)
  atoms_again x ts d good us w = at_again T 2 x (omega arith) (atom_again x ts d good) us w

  -- the words of a conjunction spell it again
  conjunction_again : (y : Search) (ts : List Lexeme) → ConjunctionOf IsExpr S y ts → Small (suc e) ts → Reprint T 1 y
  conjunction_again y ts (rule.atom d) good = weaker T 1 2 y (omega arith) (atom_again y ts d good)
  conjunction_again y ts (rule.conjunction a b more is d) good = by_is T y (join_by (λ x. sought_at 2 (sought x)) (keyword (codes "and")) (a ∷ b ∷ more)) 1 (omega arith) (ap sought is ∙ sought_and (a ∷ b ∷ more)) (λ us w.
      two us (separated_again (suc e) (AtomOf IsExpr S) (AtomOf IsExpr T) (λ x. sought_at 2 (sought x)) unplaced_search atoms_again (Keyword (codes "and")) (Keyword (codes "and")) (keyword (codes "and"))
      (λ vs k. one_word kind.Keyword (codes "and") vs k) (a ∷ b ∷ more) ts d good us w))
    where
      two : (us : List Lexeme) → (ys : List Search) × Separated (Keyword (codes "and")) (AtomOf IsExpr T) ys us × (map unplaced_search (a ∷ b ∷ more) ≡ map unplaced_search ys) → (z : Search) × ConjunctionOf IsExpr T z us × (unplaced_search y ≡ unplaced_search z)
      two us ([], s, same) = cc
      two us (c ∷ [], s, same) = cc
      two us (c ∷ f ∷ zs, s, same) = (
        search.And (c ∷ f ∷ zs),
        rule.conjunction c f zs refl s,
        ap unplaced_search is ∙ unplaced_and (a ∷ b ∷ more) ∙ ap (λ (xs : List Search). search.And xs) same ∙ sym (unplaced_and (c ∷ f ∷ zs)),
      )

  -- and so they do where a conjunction is asked for
  conjunctions_again : (x : Search) (ts : List Lexeme) → ConjunctionOf IsExpr S x ts → Small (suc e) ts → (us : List Lexeme) → words_in us ≡ sought_at 1 (sought x) → (y : Search) × ConjunctionOf IsExpr T y us × (unplaced_search x ≡ unplaced_search y)
  conjunctions_again x ts d good us w = at_again T 1 x (omega arith) (conjunction_again x ts d good) us w

  -- the words of a search spell it again, where those in its brackets do
  pub search_again : (y : Search) (ts : List Lexeme) → SearchOf IsExpr S y ts → Small (suc e) ts → Reprint T 0 y
  search_again y ts (rule.conjunction d) good = weaker T 0 1 y (omega arith) (conjunction_again y ts d good)
  search_again y ts (rule.disjunction a b more is d) good = by_is T y (join_by (λ x. sought_at 1 (sought x)) (keyword (codes "or")) (a ∷ b ∷ more)) 0 (omega arith) (ap sought is ∙ sought_or (a ∷ b ∷ more)) (λ us w.
      two us (separated_again (suc e) (ConjunctionOf IsExpr S) (ConjunctionOf IsExpr T) (λ x. sought_at 1 (sought x)) unplaced_search conjunctions_again (Keyword (codes "or")) (Keyword (codes "or")) (keyword (codes "or"))
      (λ vs k. one_word kind.Keyword (codes "or") vs k) (a ∷ b ∷ more) ts d good us w))
    where
      two : (us : List Lexeme) → (ys : List Search) × Separated (Keyword (codes "or")) (ConjunctionOf IsExpr T) ys us × (map unplaced_search (a ∷ b ∷ more) ≡ map unplaced_search ys) → (z : Search) × SearchOf IsExpr T z us × (unplaced_search y ≡ unplaced_search z)
      two us ([], s, same) = cc
      two us (c ∷ [], s, same) = cc
      two us (c ∷ f ∷ zs, s, same) = (
        search.Or (c ∷ f ∷ zs),
        rule.disjunction c f zs refl s,
        ap unplaced_search is ∙ unplaced_or (a ∷ b ∷ more) ∙ ap (λ (xs : List Search). search.Or xs) same ∙ sym (unplaced_or (c ∷ f ∷ zs)),
      )

-- its words alone spell it as a search
inside_of : (S : SearchRule) (n : ℕ) (x : Search) → Reprint S n x → Again (SearchOf IsExpr S) x (sought x).words
inside_of S n x r us w = let a = r.own us w in (a.0, looser_to S (2 - (sought x).level) 2 a.0 us (omega arith) a.1, a.2)

-- a search of each depth is spelled again by its words
searches_again : (m e : ℕ) (x : Search) (ts : List Lexeme) → IsSearchAt IsExpr m x ts → Small e ts → Nested e x
searches_again zero e x ts d good = absurd d
searches_again (suc m) zero x ts d good = absurd (omega (arith, good.1))
searches_again (suc m) (suc e) x ts d good =
    let r = search_again (IsSearchAt IsExpr m) (suc e) (searches_again m (suc e)) x ts d (good.0, omega (arith, good.1)) in
    let s = search_again (IsSearchAt IsExpr m) e (searches_again m e) x ts d good in
    let inside = inside_of (IsSearchAt IsExpr (suc e)) 0 x s in
    record { own = record { below = r.below; own = r.own; needs = inr inside }; inside = inside }

-- the words of a search, or none, spell it again
pub maybe_search_reads : (n : ℕ) (o : Option Search) (ts : List Lexeme) → MaybeSearch IsExpr o ts → Small n ts → (us : List Lexeme) → words_in us ≡ maybe_search o → (p : Option Search) × MaybeSearch IsExpr p us × (option_map unplaced_search o ≡ option_map unplaced_search p)
maybe_search_reads n prelude.None ts d good us w = (prelude.None, no_word us w, refl)
maybe_search_reads n (prelude.Some x) ts d good us w =
    let r = (searches_again d.0 n x ts d.1 good).inside us w in
    (prelude.Some r.0, (suc n, r.1), ap (λ (y : Search). prelude.Some y) r.2)
