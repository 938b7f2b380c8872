-- What is told of runs, from what was found.
use Rattle.std.proofs.Common.{◌≡◌, ◌≢◌, inl, inr, ℕ, cond, List, [], ◌∷◌, ◌++◌, length, Some, None, refl, sym, ap, subst, ◌∙◌, arith, eq-eqb}
use Rattle.std.specs.Prelude.{◌↔◌, IsSome}
use Rattle.std.proofs.lemmas.Bool.{ne_eqb}
use Rattle.fs_semantics.specs.FileTree.{Path, Tree}
use Rattle.fs_semantics.specs.Programs.{Program, Outcome}
use Rattle.fs_semantics.specs.Orders.{IsLinearExtension, IsExchange, IsCounterexample, IsSecondRunCounterexample, outcome}
use Rattle.given_hosts.specs.Given.{Stand, SucceedsFrom, IsCounterexampleFrom, IsSecondRunCounterexampleFrom}
use Rattle.fs_lang.specs.Meaning.{program_of}
use Rattle.orders.specs.Relation.{Relation, Comes}
use Rattle.orders.specs.Extensions.{TakesLeast}
use Rattle.failure_semantics.specs.Failures.{Failure, Explains, FailsAt}
use Rattle.failure_semantics.specs.Orders.{OrderFailsAt, EndsShortestFront}
use Rattle.failure_search.specs.declared.failure.Failed.{Failed}
use Rattle.failure_search.specs.Found.{reason_of, Tells}
use Rattle.explained_text.specs.Lines.{fails_words}
use Rattle.verdict_text.specs.Lines.{name_at}
use Rattle.explained_runs.specs.GivenTree.{IsOfGiven}
use Rattle.explained_runs.specs.Lines.{from_line, apart_lines}
use Rattle.explained_runs.specs.Told.{SaysWhereItFails, TellsHow, ListsWhere, TellsApart, TellsAgain, TellsFromNothing}
use Rattle.explained_runs.specs.Steps.{first_apart, TellsBoth, TellsSecond}

-- the failure that was found is that of the run
pub says_fails : (names : List (List ℕ)) (es : List Program) (order : List ℕ) (t : Tree) (x : Failed) (f : Failure) (words : List ℕ)
    → ((i : ℕ) → ((g : Failure) × OrderFailsAt es order t i g) ↔ EndsShortestFront es order t i)
    → ((e : Program) (u : Tree) → FailsAt e u f → Explains f.construct f.reason f.tree)
    → OrderFailsAt es order t x.resource f → Tells x.failure f
    → words ≡ fails_words (name_at names x.resource) (program_of x.failure.construct.now) (reason_of x.failure.reason)
    → SaysWhereItFails names es order t words
says_fails names es order t x f words last explained fails tells is = record {
  resource = x.resource;
  last = (last x.resource).0 (f, fails);
  failure = f;
  fails = fails;
  reason = explained _ fails.reached fails.fails;
  is = is ∙ ap (λ e. fails_words (name_at names x.resource) e (reason_of x.failure.reason)) tells.construct ∙ ap (λ r. fails_words (name_at names x.resource) f.construct r) tells.reason;
}

-- ---- the neighbours that are exchanged

-- against an empty order no place is found at which two differ
pub nothing_left : (order rest : List ℕ) → length rest ≡ 0 → first_apart order rest ≡ (0, 0)
nothing_left [] rest none = refl
nothing_left (i ∷ order) [] none = refl
nothing_left (i ∷ order) (j ∷ rest) none = absurd (omega (arith, none))

-- orders of which two neighbours are exchanged differ first at these two
apart_at : (front back : List ℕ) (a b : ℕ) → a ≢ b → first_apart (front ++ a ∷ b ∷ back) (front ++ b ∷ a ∷ back) ≡ (a, b)
apart_at [] back a b h = ap (λ c. cond c (first_apart (b ∷ back) (a ∷ back)) (a, b)) (ne_eqb a b h)
apart_at (x ∷ front) back a b h = ap (λ c. cond c (first_apart (front ++ a ∷ b ∷ back) (front ++ b ∷ a ∷ back)) (x, x)) (eq-eqb x x refl) ∙ apart_at front back a b h

-- the nodes at the first place at which they differ are those that are exchanged
exchanged : (before : ℕ → ℕ → Type 0) (left right : List ℕ) (e : IsExchange before left right) → first_apart left right ≡ (e.left, e.right)
exchanged before left right e = ap (λ o. first_apart o right) e.was ∙ ap (λ o. first_apart (e.front ++ e.left ∷ e.right ∷ e.back) o) e.is ∙ apart_at e.front e.back e.left e.right e.free.differ

-- lines made of these parts tell of the two orders
pub tells_both : (names : List (List ℕ)) (es : List Program) (t : Tree) (left right : List ℕ) (p : ℕ × ℕ) (a b how other list lines : List ℕ) → p ≡ first_apart left right
    → a ≡ name_at names p.0 → b ≡ name_at names p.1 → TellsHow names es left t how → TellsHow names es right t other → ListsWhere (outcome es left t) (outcome es right t) list
    → lines ≡ apart_lines a b t how other list → TellsBoth names es t left right lines
tells_both names es t left right p a b how other list lines places first second one two differ is = record {
  how = how;
  first = one;
  other = other;
  second = two;
  list = list;
  differences = differ;
  are = is ∙ ap (λ (n : List ℕ). apart_lines n b t how other list) first ∙ ap (λ (n : List ℕ). apart_lines (name_at names p.0) n t how other list) second
      ∙ ap (λ (q : ℕ × ℕ). apart_lines (name_at names q.0) (name_at names q.1) t how other list) places;
}

-- and where the orders are a counterexample by an exchange they tell that these part
pub tells_apart : (given : List Path) (names : List (List ℕ)) (es : List Program) (order : Relation) (t : Tree) (left right lines : List ℕ) → IsCounterexampleFrom given es (Comes order) t left right
    → IsExchange (Comes order) left right → TellsBoth names es t left right lines → TellsApart given names es order lines
tells_apart given names es order t left right lines shown e told = record {
  tree = t;
  left = left;
  right = right;
  counterexample = shown;
  exchange = e;
  how = told.how;
  first = told.first;
  other = told.other;
  second = told.second;
  list = told.list;
  differences = told.differences;
  are = told.are ∙ ap (λ (p : ℕ × ℕ). apart_lines (name_at names p.0) (name_at names p.1) t told.how told.other told.list) (exchanged (Comes order) left right e);
}

-- ---- a second run

-- lines on a second run of a counterexample tell that it changes something
pub tells_again : (given : List Path) (names : List (List ℕ)) (es : List Program) (order : Relation) (t after : Tree) (turns lines : List ℕ) → outcome es turns t ≡ Some after
    → TellsSecond names es t turns after lines → IsSecondRunCounterexampleFrom given es (Comes order) t turns → TellsAgain given names es order turns lines
tells_again given names es order t after turns lines ends told c =
    let shown = c.shows in
    let both : ◌≡◌ {A = Outcome} (Some shown.after) (Some after) = sym shown.ends ∙ ends in
    let same : shown.after ≡ after = cc in
    record {
      tree = t;
      counterexample = record {
        stand = c.stand;
        shows = record { is_tree = shown.is_tree; allowed = shown.allowed; after = after; ends = ends; changes = subst (λ (u : Tree). outcome es turns u ≢ Some u) same shown.changes };
      };
      how = told.how;
      second = told.second;
      list = told.list;
      differences = told.differences;
      are = told.are;
    }

-- a first run that ends in Error is no such counterexample
pub never_again : (given : List Path) (names : List (List ℕ)) (es : List Program) (order : Relation) (t : Tree) (turns lines : List ℕ) → outcome es turns t ≡ None
    → IsSecondRunCounterexampleFrom given es (Comes order) t turns → TellsAgain given names es order turns lines
never_again given names es order t turns lines fails c = let clash : ◌≡◌ {A = Outcome} None (Some c.shows.after) = sym fails ∙ c.shows.ends in cc

-- ---- from nothing

-- an outcome that is a tree is one
pub some_end : (o : Outcome) (u : Tree) → o ≡ Some u → IsSome o
some_end None u is = cc
some_end (Some t) u is = refl

-- where no run ends in a tree, the line tells where the first extension fails from the given folders alone
pub tells_from_nothing : (given : List Path) (names : List (List ℕ)) (es : List Program) (order : Relation) (first turns words line : List ℕ) (t : Tree) → IsOfGiven given t → turns ≡ first → length es ≡ order.count
    → IsLinearExtension order.count (Comes order) first → TakesLeast order.count (Comes order) [] first → TellsHow names es turns t words → line ≡ from_line t words
    → (SucceedsFrom given es (Comes order) → ⊥) → TellsFromNothing given names es order line
tells_from_nothing given names es order first turns words line t alone same count allowed least how is never = fails (subst (λ (o : List ℕ). TellsHow names es o t words) same how)
  where
    fails : TellsHow names es first t words → TellsFromNothing given names es order line
    fails (inl ends) =
        let long : IsLinearExtension (length es) (Comes order) first = subst (λ (n : ℕ). IsLinearExtension n (Comes order) first) (sym count) allowed in
        absurd (never (record { tree = t; is_tree = alone.is_tree; order = first; allowed = long; ends = some_end (outcome es first t) ends.after ends.ends }))
    fails (inr told) = record { first = first; allowed = allowed; least = least; tree = t; alone = alone; words = words; fails = told; is = is }

-- ---- what is left of a tree

-- a counterexample of two orders is one from a smaller tree that shows it and in which the given folders stand
pub apart_from : (given : List Path) (es : List Program) (order : Relation) (t u : Tree) (left right : List ℕ) → (Stand given t → Stand given u)
    → (IsCounterexample es (Comes order) t left right → IsCounterexample es (Comes order) u left right)
    → IsCounterexampleFrom given es (Comes order) t left right → IsCounterexampleFrom given es (Comes order) u left right
apart_from given es order t u left right stand shows c = record { stand = stand c.stand; shows = shows c.shows }

-- and so is one of a second run
pub again_from : (given : List Path) (es : List Program) (order : Relation) (t u : Tree) (turns : List ℕ) → (Stand given t → Stand given u)
    → (IsSecondRunCounterexample es (Comes order) t turns → IsSecondRunCounterexample es (Comes order) u turns)
    → IsSecondRunCounterexampleFrom given es (Comes order) t turns → IsSecondRunCounterexampleFrom given es (Comes order) u turns
again_from given es order t u turns stand shows c = record { stand = stand c.stand; shows = shows c.shows }
