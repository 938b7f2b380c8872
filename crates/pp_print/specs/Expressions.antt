-- The words of expressions: each form without what can be left out.
use Rattle.std.specs.Prelude.{ℕ, ◌+◌, Bool, true, false, nat_le, if◌then◌else◌, List, [], ◌∷◌, ◌++◌, Option, codes}
use Rattle.std.specs.Prelude as prelude
use Rattle.std.specs.List.{flat_map}
use Rattle.pp_syntax.specs.declared.token.Kind.TheVariants as kind
use Rattle.pp_syntax.specs.declared.tree.Expr.{Expr}
use Rattle.pp_syntax.specs.declared.tree.Form.{Form, Form-F, fold-Form}
use Rattle.pp_syntax.specs.declared.tree.Form.TheOpen as form
use Rattle.pp_syntax.specs.declared.tree.Op.{Op}
use Rattle.pp_syntax.specs.Derivation.{level_of, op_symbol, op_kind}
use Rattle.pp_print.specs.declared.words.Word.{Word}
use Rattle.pp_print.specs.Words.{word, sign, keyword, quoted, number, variable, in_parens, in_braces, in_tight, in_loose, listed}

-- the words of an expression, and what decides on brackets round them
pub record Printed : Type 0 where
  pub words : List Word
  -- the level of its operators, 7 for `!` and `-` in front of an operand, and 8 for an operand
  pub level : ℕ
  -- A `[` directly behind it is tight.
  pub indexable : Bool

abbrev pub operand : List Word → Bool → Printed
operand words indexable = record { words = words; level = 8; indexable = indexable }

-- where operators of this level, and those that bind tighter, need no brackets
abbrev pub at_level : ℕ → Printed → List Word
at_level level p = if nat_le level p.level then p.words else in_parens p.words

-- before an index
abbrev pub indexed : Printed → List Word
indexed p = if p.indexable then p.words else in_parens p.words

-- `default` stands for none
abbrev pub option_by : {X : Type 0} → (X → List Word) → Option X → List Word
option_by f prelude.None = keyword (codes "default")
option_by f (prelude.Some x) = f x

abbrev pub operator : Op → List Word
operator o = word (op_kind o) (op_symbol o)

-- the level of a chain with these operators
abbrev pub level_in : {X : Type 0} → List (Op × X) → ℕ
level_in [] = 8
level_in (o ∷ more) = level_of o.0

-- ---- each form, where the words of the expressions in it are given

module _ {X : Type 0} (f : X → Printed) where
  abbrev pub whole : X → List Word
  whole x = (f x).words

  abbrev pub pair_by : X × X → List Word
  pair_by p = whole p.0 ++ (sign (codes "=>") ++ whole p.1)

  abbrev pub choice_by : Option X × X → List Word
  choice_by c = option_by whole c.0 ++ (sign (codes "=>") ++ whole c.1)

  -- a member of a text in double quotes
  abbrev pub hole_by : X → List Word
  hole_by x = word kind.Hole (codes "${") ++ (whole x ++ word kind.HoleEnd (codes "}"))

  -- an operator and its right operand, in a chain of this level
  abbrev pub operation_by : ℕ → Op × X → List Word
  operation_by level o = operator o.0 ++ at_level (level + 1) (f o.1)

  abbrev pub chain_by : ℕ → X → List (Op × X) → List Word
  chain_by level first more = at_level (level + 1) (f first) ++ flat_map (operation_by level) more

  abbrev pub joined_by : List X → List Word
  joined_by members = word kind.DqOpen (codes "\"") ++ (flat_map hole_by members ++ word kind.DqClose (codes "\""))

  abbrev pub refer_by : List ℕ → List X → List Word
  refer_by name titles = word kind.Ref name ++ in_tight (listed whole titles)

  abbrev pub prefix_by : List Op → X → List Word
  prefix_by ops x = flat_map operator ops ++ at_level 8 (f x)

  abbrev pub index_by : X → X → List Word
  index_by base key = indexed (f base) ++ in_tight (whole key)

  abbrev pub select_by : X → List (Option X × X) → List Word
  select_by base choices = at_level 8 (f base) ++ (sign (codes "?") ++ in_braces (listed choice_by choices))

  abbrev pub form_by : {Y : Type 0} → Form-F Y X → Printed
  form_by (form.Int n) = operand (number n) false
  form_by (form.Str text) = operand (quoted text) true
  form_by (form.Var name) = operand (variable name) true
  form_by (form.Bool b) = operand (keyword (if b then codes "true" else codes "false")) false
  form_by form.Undef = operand (keyword (codes "undef")) false
  form_by (form.List members) = operand (in_loose (listed whole members)) true
  form_by (form.Map pairs) = operand (in_braces (listed pair_by pairs)) false
  form_by (form.Refer name titles) = operand (refer_by name titles) true
  form_by (form.Join members) = operand (joined_by members) true
  form_by (form.Chain first more) = record { words = chain_by (level_in more) first more; level = level_in more; indexable = false }
  form_by (form.Prefix ops x) = record { words = prefix_by ops x; level = 7; indexable = false }
  form_by (form.Index base key) = operand (index_by base key) true
  form_by (form.Select base choices) = operand (select_by base choices) false

-- ---- expressions

unfoldable pub printed_form : Form → Printed
printed_form f = fold-Form Printed Printed (form_by (λ p. p)) (λ x. x.form) f

abbrev pub printed : Expr → Printed
printed x = printed_form x.form

abbrev pub expr_words : Expr → List Word
expr_words x = (printed x).words
