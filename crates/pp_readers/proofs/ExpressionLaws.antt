-- From reading functions to what parsing answers.
use Rattle.std.proofs.Common.{◌≡◌, ℕ, List, [], ◌++◌, drop, refl, Some, None, sym, ap, ◌∙◌, arith}
use Rattle.std.specs.Prelude.{Result, Ok, Err}
use Rattle.pp_syntax.specs.declared.tree.Expr.{Expr}
use Rattle.pp_syntax.specs.Tokens.{Lexeme}
use Rattle.pp_syntax.specs.Derivation.{IsExprAt, PostfixOf, ReferenceOf, StringOf}
use Rattle.pp_readers.specs.declared.misread.Misread.{Misread}
use Rattle.pp_readers.specs.declared.misread.Misread.TheVariants as misread
use Rattle.pp_readers.specs.Marks.{Found}
use Rattle.pp_readers.specs.Parsed.{NumbersFit, NothingGoesOn, NoSuffixGoesOn, Anything, IsSpelled, IsParsed, Gives}
use Rattle.pp_readers.specs.Expressions.{expr_at, postfix_with, reference_with, string_with}
use Rattle.pp_readers.proofs.Finding.{Finds}
use Rattle.pp_readers.proofs.Found.{reference_found}
use Rattle.pp_readers.proofs.Operands.{string_found}
use Rattle.pp_readers.proofs.Solid.{begun_some, expr_begun}
use Rattle.pp_readers.proofs.Whole.{postfix_found, expr_found}
use Rattle.pp_readers.proofs.Spelled.{reference_read}
use Rattle.pp_readers.proofs.Quotes.{string_read, postfix_read, expr_read}
use Rattle.pp_readers.proofs.DoubleQuotes.{dq_found, dq_read}

-- where a reader finds what is spelled, what parsing by it answers is spelled
pub spelled : {X : Type 0} (A : X → List Lexeme → Type 0) (f : List Lexeme → Found X) (tokens : List Lexeme) (from : ℕ) (r : Result (X × ℕ) Misread) → Finds f A → Gives (λ x. (x.0, drop x.1 tokens)) r (f (drop from tokens)) → IsSpelled A tokens from r
spelled A f tokens from (Ok x) finds g = finds (drop from tokens) (x.0, drop x.1 tokens) g
spelled A f tokens from (Err e) finds g = tt

-- where a reader finds all that is spelled, parsing by it answers that
pub parsed : {X : Type 0} (A : X → List Lexeme → Type 0) (Follows : List Lexeme → Type 0) (f : List Lexeme → Found X) (tokens : List Lexeme) (from : ℕ) (r : Result (X × ℕ) Misread)
    → ((y : X) (us rest : List Lexeme) → A y us → NumbersFit us → Follows rest → f (us ++ rest) ≡ Some (y, rest)) → Gives (λ x. (x.0, drop x.1 tokens)) r (f (drop from tokens)) → IsParsed A Follows tokens from r
parsed {X} A Follows f tokens from (Ok x) reads g y front rest e h n l =
    let same : ◌≡◌ {A = Found X} (Some (x.0, drop x.1 tokens)) (Some (y, rest)) = sym g ∙ ap f e ∙ reads y front rest h n l in
    let pair : ◌≡◌ {A = X × List Lexeme} (x.0, drop x.1 tokens) (y, rest) = cc in
    (ap (λ (p : X × List Lexeme). p.0) pair, ap (λ (p : X × List Lexeme). p.1) pair)
parsed {X} A Follows f tokens from (Err (misread.Form index)) reads g y front rest e h n l =
    let same : ◌≡◌ {A = Found X} None (Some (y, rest)) = sym g ∙ ap f e ∙ reads y front rest h n l in
    cc
parsed A Follows f tokens from (Err (misread.Memory m)) reads g y front rest e h n l = tt

-- an expression that is answered is spelled by its tokens
pub expression_spelled : (depth : ℕ) (tokens : List Lexeme) (from : ℕ) (r : Result (Expr × ℕ) Misread) → Gives (λ x. (x.0, drop x.1 tokens)) r (expr_at depth (drop from tokens)) → IsSpelled (IsExprAt depth) tokens from r
expression_spelled depth tokens from r g = spelled (IsExprAt depth) (expr_at depth) tokens from r (expr_found dq_found depth) g

-- an expression that is spelled is answered, if nothing goes on behind it
pub expression_parsed : (depth : ℕ) (tokens : List Lexeme) (from : ℕ) (r : Result (Expr × ℕ) Misread) → Gives (λ x. (x.0, drop x.1 tokens)) r (expr_at depth (drop from tokens)) → IsParsed (IsExprAt depth) NothingGoesOn tokens from r
expression_parsed depth tokens from r g = parsed (IsExprAt depth) NothingGoesOn (expr_at depth) tokens from r (λ y us rest h n l. expr_read dq_read depth y us rest h n (omega arith)) g

-- ---- the parts of expressions, both ways

-- what is read as an operand with indexes and selections is spelled so
pub postfix_finds : (depth : ℕ) → Finds (postfix_with (expr_at depth)) (PostfixOf (IsExprAt depth))
postfix_finds depth = postfix_found dq_found (expr_at depth) (IsExprAt depth) (expr_found dq_found depth) (λ y s. begun_some [] (expr_begun depth y [] s) refl)

-- and what is spelled so is read, if none of them follows
pub postfix_reads : (depth : ℕ) (y : Expr) (us rest : List Lexeme) → PostfixOf (IsExprAt depth) y us → NumbersFit us → NoSuffixGoesOn rest → postfix_with (expr_at depth) (us ++ rest) ≡ Some (y, rest)
postfix_reads depth = postfix_read dq_read (expr_at depth) (IsExprAt depth) (expr_read dq_read depth) (expr_begun depth)

-- what is read as a reference is spelled so
pub reference_finds : (depth : ℕ) → Finds (reference_with (expr_at depth)) (ReferenceOf (IsExprAt depth))
reference_finds depth = reference_found (expr_at depth) (IsExprAt depth) (expr_found dq_found depth)

-- and what is spelled so is read
pub reference_reads : (depth : ℕ) (y : Expr) (us rest : List Lexeme) → ReferenceOf (IsExprAt depth) y us → NumbersFit us → reference_with (expr_at depth) (us ++ rest) ≡ Some (y, rest)
reference_reads depth = reference_read dq_read (expr_at depth) (IsExprAt depth) (expr_read dq_read depth) (expr_begun depth)

-- what is read as a text in quotes or a word is spelled so
pub string_finds : (depth : ℕ) → Finds (string_with (expr_at depth)) (StringOf (IsExprAt depth))
string_finds depth = string_found dq_found (expr_at depth) (IsExprAt depth) (expr_found dq_found depth) (λ y s. begun_some [] (expr_begun depth y [] s) refl)

-- and what is spelled so is read
pub string_reads : (depth : ℕ) (y : Expr) (us rest : List Lexeme) → StringOf (IsExprAt depth) y us → NumbersFit us → string_with (expr_at depth) (us ++ rest) ≡ Some (y, rest)
string_reads depth = string_read dq_read (expr_at depth) (IsExprAt depth) (expr_read dq_read depth) (expr_begun depth)

-- an operand with indexes and selections that is answered is spelled by its tokens
pub postfix_spelled : (depth : ℕ) (tokens : List Lexeme) (from : ℕ) (r : Result (Expr × ℕ) Misread) → Gives (λ x. (x.0, drop x.1 tokens)) r (postfix_with (expr_at depth) (drop from tokens)) → IsSpelled (PostfixOf (IsExprAt depth)) tokens from r
postfix_spelled depth tokens from r g = spelled (PostfixOf (IsExprAt depth)) (postfix_with (expr_at depth)) tokens from r (postfix_finds depth) g

-- one that is spelled is answered, if none of them follows
pub postfix_parsed : (depth : ℕ) (tokens : List Lexeme) (from : ℕ) (r : Result (Expr × ℕ) Misread) → Gives (λ x. (x.0, drop x.1 tokens)) r (postfix_with (expr_at depth) (drop from tokens)) → IsParsed (PostfixOf (IsExprAt depth)) NoSuffixGoesOn tokens from r
postfix_parsed depth tokens from r g = parsed (PostfixOf (IsExprAt depth)) NoSuffixGoesOn (postfix_with (expr_at depth)) tokens from r (postfix_reads depth) g

-- a reference that is answered is spelled by its tokens
pub reference_spelled : (depth : ℕ) (tokens : List Lexeme) (from : ℕ) (r : Result (Expr × ℕ) Misread) → Gives (λ x. (x.0, drop x.1 tokens)) r (reference_with (expr_at depth) (drop from tokens)) → IsSpelled (ReferenceOf (IsExprAt depth)) tokens from r
reference_spelled depth tokens from r g = spelled (ReferenceOf (IsExprAt depth)) (reference_with (expr_at depth)) tokens from r (reference_finds depth) g

-- a reference that is spelled is answered
pub reference_parsed : (depth : ℕ) (tokens : List Lexeme) (from : ℕ) (r : Result (Expr × ℕ) Misread) → Gives (λ x. (x.0, drop x.1 tokens)) r (reference_with (expr_at depth) (drop from tokens)) → IsParsed (ReferenceOf (IsExprAt depth)) Anything tokens from r
reference_parsed depth tokens from r g = parsed (ReferenceOf (IsExprAt depth)) Anything (reference_with (expr_at depth)) tokens from r (λ y us rest h n l. reference_reads depth y us rest h n) g

-- a string that is answered is spelled by its tokens
pub string_spelled : (depth : ℕ) (tokens : List Lexeme) (from : ℕ) (r : Result (Expr × ℕ) Misread) → Gives (λ x. (x.0, drop x.1 tokens)) r (string_with (expr_at depth) (drop from tokens)) → IsSpelled (StringOf (IsExprAt depth)) tokens from r
string_spelled depth tokens from r g = spelled (StringOf (IsExprAt depth)) (string_with (expr_at depth)) tokens from r (string_finds depth) g

-- a string that is spelled is answered
pub string_parsed : (depth : ℕ) (tokens : List Lexeme) (from : ℕ) (r : Result (Expr × ℕ) Misread) → Gives (λ x. (x.0, drop x.1 tokens)) r (string_with (expr_at depth) (drop from tokens)) → IsParsed (StringOf (IsExprAt depth)) Anything tokens from r
string_parsed depth tokens from r g = parsed (StringOf (IsExprAt depth)) Anything (string_with (expr_at depth)) tokens from r (λ y us rest h n l. string_reads depth y us rest h n) g

-- Tokens spell at most one expression.
pub same_expression : (depth : ℕ) (y z : Expr) (us : List Lexeme) → IsExprAt depth y us → IsExprAt depth z us → NumbersFit us → y ≡ z
same_expression depth y z us h k n =
    let same : ◌≡◌ {A = Found Expr} (Some (y, [])) (Some (z, [])) = sym (expr_read dq_read depth y us [] h n (omega arith)) ∙ expr_read dq_read depth z us [] k n (omega arith) in
    let pair : ◌≡◌ {A = Expr × List Lexeme} (y, []) (z, []) = cc in
    ap (λ (p : Expr × List Lexeme). p.0) pair
