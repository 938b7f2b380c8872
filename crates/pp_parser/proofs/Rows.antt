-- The rows of postfixes.
use Rattle.std.proofs.Common.{◌≡◌, ℕ, ◌+◌, ◌<◌, ◌≤◌, List, [], ◌∷◌, length, reverse, sym, arith}
use Rattle.std.proofs.Common.{false, cond}
use Rattle.std.specs.List.{AllByRecursion}
use Rattle.pp_parser.specs.declared.depth.Shape.{Shape}
use Rattle.pp_parser.specs.declared.depth.Shape.TheVariants.{Opens, Indexes, Braces, Closes, Asks, Prefixes, Other}
use Rattle.pp_parser.specs.declared.depth.Nesting.{Nesting}
use Rattle.pp_parser.specs.Nested.{innermost, outer_of, shape_of, behind_shape, depth_of}
use Rattle.std.proofs.Common.{add-one, ◌∙◌, ap, subst, drop, get_or, Some, nat_lt}
use Rattle.std.proofs.Math.Seq.{drop-cons}
use Rattle.std.proofs.lemmas.Bool.{le-ltb}
use Rattle.pp_syntax.specs.declared.token.Token.{Token}
use Rattle.pp_syntax.specs.Tokens.{Lexeme}
use Rattle.pp_syntax.specs.Lexing.{lexemes_of, lexeme_of}
use Rattle.pp_parser.specs.Scanning.{first_too_deep}
use Rattle.std.proofs.lemmas.List.{length-reverse}

-- a list the other way round is as long
pub length_reversed : (items : List ℕ) → length items ≡ length (reverse items)
length_reversed items = sym (length-reverse items)

-- Nothing that counts is above this number.
pub record IsBelow (n : Nesting) (k : ℕ) : Type 0 where
  pub run : n.run ≤ k
  pub row : n.row ≤ k
  pub asked : n.asked ≤ k
  pub opened : AllByRecursion (λ r. r ≤ k) n.opened

-- what isn't above a number isn't above the next one
above : (rows : List ℕ) (k : ℕ) → AllByRecursion (λ r. r ≤ k) rows → AllByRecursion (λ r. r ≤ k + 1) rows
above [] k h = tt
above (r ∷ rows) k h = (omega (arith, h.0), above rows k h.1)

-- nor is the innermost of such rows
inner_below : (rows : List ℕ) (k : ℕ) → AllByRecursion (λ r. r ≤ k) rows → innermost rows ≤ k + 1
inner_below [] k h = omega arith
inner_below (r ∷ rows) k h = omega (arith, h.0)

-- nor are the outer ones
outer_below : (rows : List ℕ) (k : ℕ) → AllByRecursion (λ r. r ≤ k) rows → AllByRecursion (λ r. r ≤ k + 1) (outer_of rows)
outer_below [] k h = tt
outer_below (r ∷ rows) k h = above rows k h.1

-- behind a token nothing that counts is more than one above what it was
pub behind_below : (n : Nesting) (s : Shape) (k : ℕ) → IsBelow n k → IsBelow (behind_shape n s) (k + 1)
behind_below n Opens k h = record { run = omega arith; row = omega arith; asked = omega arith; opened = (omega arith, above n.opened k h.opened) }
behind_below n Indexes k h = record { run = omega arith; row = omega arith; asked = omega arith; opened = (omega (arith, h.row), above n.opened k h.opened) }
behind_below n Braces k h = record { run = omega arith; row = omega arith; asked = omega arith; opened = (omega (arith, h.asked), above n.opened k h.opened) }
behind_below n Closes k h = record { run = omega arith; row = inner_below n.opened k h.opened; asked = omega arith; opened = outer_below n.opened k h.opened }
behind_below n Asks k h = record { run = omega arith; row = omega arith; asked = omega (arith, h.row); opened = above n.opened k h.opened }
behind_below n Prefixes k h = record { run = omega (arith, h.run); row = omega arith; asked = omega arith; opened = above n.opened k h.opened }
behind_below n Other k h = record { run = omega arith; row = omega arith; asked = omega arith; opened = above n.opened k h.opened }

-- A token that isn't too deep is passed.
pub passes : (n next : Nesting) (tokens : List Token) (i : ℕ) (d : Token) (s : Shape) → i < length tokens → s ≡ shape_of (get_or tokens i d).kind (get_or tokens i d).text.now → depth_of n s ≤ 64 → next ≡ behind_shape n s
    → first_too_deep next (lexemes_of (drop (i + 1) tokens)) ≡ first_too_deep n (lexemes_of (drop i tokens))
passes n next tokens i d s inside is shallow behind_is =
    let t : Token = get_or tokens i d in
    let rest : List Lexeme = lexemes_of (drop (i + 1) tokens) in
    let all : drop i tokens ≡ t ∷ drop (i + 1) tokens = drop-cons tokens i d inside ∙ ap (λ k. t ∷ drop k tokens) (sym (add-one i)) in
    let test : nat_lt 64 (depth_of n (shape_of t.kind t.text.now)) ≡ false = le-ltb 64 (depth_of n (shape_of t.kind t.text.now)) (subst (λ (u : Shape). depth_of n u ≤ 64) is shallow) in
    let next_is : next ≡ behind_shape n (shape_of t.kind t.text.now) = behind_is ∙ ap (behind_shape n) is in
    ap (λ (m : Nesting). first_too_deep m rest) next_is
    ∙ sym (ap (λ (l : List Token). first_too_deep n (lexemes_of l)) all ∙ ap (λ v. cond v (Some (lexeme_of t)) (first_too_deep (behind_shape n (shape_of t.kind t.text.now)) rest)) test)
