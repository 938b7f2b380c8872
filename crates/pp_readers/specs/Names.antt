-- The tokens that stand for names, functions and arrows.
use Rattle.std.specs.Prelude.{ℕ, Bool, false, if◌then◌else◌, List, [], ◌∷◌, Option, Some, None, codes}
use Rattle.pp_syntax.specs.declared.token.Kind.{Kind}
use Rattle.pp_syntax.specs.declared.token.Kind.TheVariants as kind
use Rattle.pp_syntax.specs.declared.tree.Arrow.{Arrow}
use Rattle.pp_syntax.specs.declared.tree.Func.{Func}
use Rattle.pp_syntax.specs.Tokens.{Lexeme, is_among}
use Rattle.pp_syntax.specs.Statements.{is_qualified, function_of, arrow_of}
use Rattle.pp_readers.specs.Marks.{Found, front_of}
use Rattle.rh_base.specs.Reading.{◌>>=◌}
use Rattle.pp_readers.specs.Values.{name_of}
use Rattle.pp_readers.specs.Combining.{Reader, is_found}

-- what the first token means
abbrev pub taken_in : {X : Type 0} → (Kind → List ℕ → Option X) → Found Lexeme → Found X
taken_in h None = None
taken_in h (Some t) = h t.0.kind t.0.text >>= λ x. Some (x, t.1)

-- the same of a list of tokens
abbrev pub taken : {X : Type 0} → (Kind → List ℕ → Option X) → Reader X
taken h ts = taken_in h (front_of ts)

-- ---- names

-- a name without `::`
abbrev pub plain_name : List ℕ → Option (List ℕ)
plain_name s = if is_qualified s then None else Some s

-- a word without `::`, or a keyword
abbrev pub name_by : Kind → List ℕ → Option (List ℕ)
name_by kind.Word s = plain_name s
name_by kind.Keyword s = Some s
name_by _ s = None

abbrev pub begins_name : List Lexeme → Bool
begins_name ts = is_found (taken name_by ts)

-- the name of a variable without `::`
abbrev pub plain_variable : List ℕ → Option (List ℕ)
plain_variable s = name_of s >>= plain_name

abbrev pub variable_by : Kind → List ℕ → Option (List ℕ)
variable_by kind.Var s = plain_variable s
variable_by _ s = None

abbrev pub ref_by : Kind → List ℕ → Option (List ℕ)
ref_by kind.Ref s = Some s
ref_by _ s = None

-- ---- functions and types

-- a word that is a function
abbrev pub function_by : Kind → List ℕ → Option Func
function_by kind.Word s = function_of s
function_by _ s = None

abbrev pub unless_function : List ℕ → Option Func → Option (List ℕ)
unless_function s None = Some s
unless_function s (Some f) = None

-- a resource's type: a word that is no function
abbrev pub type_by : Kind → List ℕ → Option (List ℕ)
type_by kind.Word s = unless_function s (function_of s)
type_by _ s = None

-- ---- arrows

abbrev pub arrow_by : Kind → List ℕ → Option Arrow
arrow_by kind.Sign s = arrow_of s
arrow_by _ s = None

abbrev pub begins_arrow : List Lexeme → Bool
begins_arrow ts = is_found (taken arrow_by ts)

-- ---- brackets

abbrev pub bracket_in : Found Lexeme → Bool
bracket_in None = false
bracket_in (Some t) = is_among (codes "(" ∷ codes "{" ∷ []) t.0.text

-- the first token is spelled `(` or `{`
abbrev pub begins_bracket : List Lexeme → Bool
begins_bracket ts = bracket_in (front_of ts)
