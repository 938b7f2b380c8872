-- Values as texts.
use Rattle.std.specs.Prelude.{ℕ, ◌+◌, ℤ, Bool, true, false, nat_lt, if◌then◌else◌, List, [], ◌∷◌, ◌++◌, length, codes, Result, Ok, Err}
use Rattle.std.specs.Fmt.{signed_decimal}
use Rattle.rh_base.specs.declared.limits.TheConstants.{VALUE_SIZE}
use Rattle.pp_value.specs.declared.value.Ref.{Ref}
use Rattle.pp_value.specs.declared.value.Value.{Value, Row_of-Value, end_of-Value, more_of-Value}
use Rattle.pp_value.specs.declared.value.Value.TheVariants as v
use Rattle.pp_value.specs.declared.fault.Misfit.{Misfit}
use Rattle.pp_value.specs.declared.fault.Misfit.TheVariants.{Operand}
use Rattle.pp_value.specs.Texts.{capitalized}
use Rattle.pp_value.specs.Values.{Keys, has_opaque}

abbrev pub shown_int : ℤ → List ℕ
shown_int n = signed_decimal n

abbrev pub shown_bool : Bool → List ℕ
shown_bool true = codes "true"
shown_bool false = codes "false"

-- a reference, as `File[/a]`
abbrev pub shown_ref : Ref → List ℕ
shown_ref r = capitalized r.kind ++ (codes "[" ++ (r.title ++ codes "]"))

-- what stands behind a member: the others, each behind a comma and a blank
abbrev pub behind : List (List ℕ) → List ℕ
behind [] = []
behind (text ∷ texts) = codes ", " ++ (text ++ behind texts)

-- texts with `, ` between them
abbrev pub listed : List (List ℕ) → List ℕ
listed [] = []
listed (text ∷ texts) = text ++ behind texts

-- A text as it is, a number in decimal, `true` and `false`, undef as the empty text, a list as `[a, b]`, a map as `{k => v}` with `, ` between.
-- An opaque value has no text; this is asked before.
abbrev mutual
  pub shown : Value → List ℕ
  shown v.Undef = []
  shown (v.Bool b) = shown_bool b
  shown (v.Int n) = shown_int n
  shown (v.Str text) = text
  shown (v.List' shape row) = codes "[" ++ (listed (shown_row row) ++ codes "]")
  shown (v.Map' keys row) = codes "{" ++ (listed (shown_keyed keys row) ++ codes "}")
  shown (v.Refer r) = shown_ref r
  shown v.Opaque = []

  pub shown_row : {m : _} → Row_of-Value m → List (List ℕ)
  shown_row end_of-Value = []
  shown_row (more_of-Value x row) = shown x ∷ shown_row row

  pub shown_keyed : {m : _} → Keys → Row_of-Value m → List (List ℕ)
  shown_keyed [] row = []
  shown_keyed (k ∷ keys) end_of-Value = []
  shown_keyed (k ∷ keys) (more_of-Value x row) = (k.0 ++ (codes " => " ++ shown x)) ∷ shown_keyed keys row

-- `show`: refused where an opaque value stands anywhere in it
abbrev pub show_table : Value → Result (List ℕ) Misfit
show_table x = if has_opaque x then Err Operand else Ok (shown x)

-- a text that exceeds the limits of a value
abbrev pub is_long_text : List ℕ → Bool
is_long_text text = nat_lt VALUE_SIZE (1 + length text)
