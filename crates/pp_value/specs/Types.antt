-- Which values fit a type.
use Rattle.std.specs.Prelude.{ℤ, pos, Bool, true, false, ◌||◌, ◌&&◌, int_le, length, Option, Some, None, chars}
use Rattle.std.specs.List.{list_any, list_all}
use Rattle.std.specs.Str.{bytes_eq}
use Rattle.pp_syntax.specs.declared.tree.TypeName.{TypeName, Row_of-TypeName, end_of-TypeName, more_of-TypeName, None', Some'}
use Rattle.pp_syntax.specs.declared.tree.TypeName.TheVariants as t
use Rattle.pp_value.specs.declared.value.Value.{Value}
use Rattle.pp_value.specs.Values.{is_undef, on_bool, on_int, on_text, on_list, on_map}

abbrev pub at_least : Option ℤ → ℤ → Bool
at_least None n = true
at_least (Some least) n = int_le least n

abbrev pub at_most : Option ℤ → ℤ → Bool
at_most None n = true
at_most (Some most) n = int_le n most

-- between two bounds, of which each may be missing
abbrev pub within : Option ℤ → Option ℤ → ℤ → Bool
within least most n = at_least least n && at_most most n

-- `Any` fits all. `String[n, m]` counts Unicode scalar values, `Integer[n, m]` bounds the value, `Enum` compares exact text, and the
-- members of a list fit the type in `Array[..]`. `Optional` and `Variant` go by the types that they name.
abbrev mutual
  pub is_fit : TypeName → Value → Bool
  is_fit t.Any x = true
  is_fit t.Boolean x = on_bool (λ b. true) x
  is_fit t.Hash x = on_map (λ pairs. true) x
  is_fit (t.Str least most) x = on_text (λ text. within (Some least) most (pos (length (chars text)))) x
  is_fit (t.Int least most) x = on_int (within least most) x
  is_fit (t.Array' None') x = on_list (λ items. true) x
  is_fit (t.Array' (Some' shape row)) x = on_list (list_all (is_fit_to_one row)) x
  is_fit (t.Optional' shape row) x = is_undef x || is_fit_to_one row x
  is_fit (t.Enum names) x = on_text (λ text. list_any (bytes_eq text) names) x
  is_fit (t.Variant' shape row) x = is_fit_to_one row x

  -- it fits one of these types
  pub is_fit_to_one : {m : _} → Row_of-TypeName m → Value → Bool
  is_fit_to_one end_of-TypeName x = false
  is_fit_to_one (more_of-TypeName kind row) x = is_fit kind x || is_fit_to_one row x
