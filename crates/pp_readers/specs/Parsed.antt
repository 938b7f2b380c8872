-- What parsing from an index on answers.
use Rattle.std.specs.Prelude.{◌≡◌, ◌<◌, ◌≤◌, ◌^◌, ℕ, List, ◌++◌, drop, Option, Some, None, Result, Ok, Err, IfOk, MatchResult}
use Rattle.std.specs.Option.{option_map}
use Rattle.std.specs.List.{AllByRecursion}
use Rattle.pp_syntax.specs.declared.token.Kind.TheVariants as kind
use Rattle.pp_syntax.specs.declared.token.Token.{Token}
use Rattle.pp_syntax.specs.Tokens.{Lexeme, int_value}
use Rattle.pp_syntax.specs.Lexing.{lexemes_of}
use Rattle.pp_readers.specs.declared.misread.Misread.{Misread}
use Rattle.pp_readers.specs.declared.misread.Misread.TheVariants as misread
use Rattle.pp_readers.specs.Marks.{Found, reach}

-- No tree: the reader finds none. Want of memory is free.
abbrev pub Fails : {Y : Type 0} → Misread → Option Y → Type 0
Fails (misread.Form index) read = read ≡ None
Fails (misread.Memory m) read = Unit {0}

-- What is answered, seen by view, is what the reader finds.
abbrev pub Gives : {X Y : Type 0} → (X → Y) → Result X Misread → Option Y → Type 0
Gives view (Ok x) read = read ≡ Some (view x)
Gives view (Err e) read = Fails e read

-- From this index on the reader finds what is answered, with the index behind it.
abbrev pub Reads : {X : Type 0} → (List Lexeme → Found X) → List Token → ℕ → Result (X × ℕ) Misread → Type 0
Reads f tokens from r = Gives (λ x. (x.0, drop x.1 (lexemes_of tokens))) r (f (drop from (lexemes_of tokens)))

-- the same, of what needs no memory and gives no reason
abbrev pub Sees : {X : Type 0} → (List Lexeme → Found X) → List Token → ℕ → Option (X × ℕ) → Type 0
Sees f tokens from r = option_map (λ x. (x.0, drop x.1 (lexemes_of tokens))) r ≡ f (drop from (lexemes_of tokens))

-- The tokens begin with some that spell this, before the rest.
pub record Begins (A : List Lexeme → Type 0) (ts rest : List Lexeme) : Type 0 where
  pub front : List Lexeme
  pub spelled : A front
  pub whole : ts ≡ front ++ rest

-- Each number fits 64 bits with a sign, as in what lexing gives.
abbrev pub NumberFits : Lexeme → Type 0
NumberFits t = t.kind ≡ kind.Int → int_value t.text < 2 ^ 63

abbrev pub NumbersFit : List Lexeme → Type 0
NumbersFit us = AllByRecursion NumberFits us

-- No operator, index or selection stands first.
abbrev pub NothingGoesOn : List Lexeme → Type 0
NothingGoesOn rest = reach rest ≡ 0

-- No index or selection stands first.
abbrev pub NoSuffixGoesOn : List Lexeme → Type 0
NoSuffixGoesOn rest = reach rest ≤ 7

-- whatever stands there
abbrev pub Anything : List Lexeme → Type 0
Anything rest = Unit {0}

-- memory was refused
abbrev pub IsMemory : Misread → Type 0
IsMemory (misread.Form index) = ⊥
IsMemory (misread.Memory m) = Unit {0}

-- What is answered is spelled by the tokens from the one index to the other.
abbrev pub IsSpelled : {X : Type 0} → (X → List Lexeme → Type 0) → List Lexeme → ℕ → Result (X × ℕ) Misread → Type 0
IsSpelled A tokens from r = IfOk r (λ x. Begins (A x.0) (drop from tokens) (drop x.1 tokens))

-- Where tokens from the index on spell something, and what follows is of this kind, that is answered, unless memory is refused.
abbrev pub IsParsed : {X : Type 0} → (X → List Lexeme → Type 0) → (List Lexeme → Type 0) → List Lexeme → ℕ → Result (X × ℕ) Misread → Type 0
IsParsed {X} A Follows tokens from r = (y : X) (front rest : List Lexeme) → drop from tokens ≡ front ++ rest → A y front
    → NumbersFit front → Follows rest
    → MatchResult r (λ x. (x.0 ≡ y) × (drop x.1 tokens ≡ rest)) IsMemory
