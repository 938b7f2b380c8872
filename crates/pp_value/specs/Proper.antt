-- Values whose maps have distinct keys; what the operations make of such values is such a value.
use Rattle.pp_value.specs.declared.value.Value.{Value, Row_of-Value, end_of-Value, more_of-Value}
use Rattle.pp_value.specs.declared.value.Value.TheVariants as v
use Rattle.pp_value.specs.Values.{HasDistinctKeys, keyed}

-- the keys of each map in it are distinct
abbrev mutual
  pub IsProper : Value → Type 0
  IsProper v.Undef = Unit {0}
  IsProper (v.Bool b) = Unit {0}
  IsProper (v.Int n) = Unit {0}
  IsProper (v.Str text) = Unit {0}
  IsProper (v.List' shape row) = AreProper row
  IsProper (v.Map' keys row) = HasDistinctKeys (keyed keys row) × AreProper row
  IsProper (v.Refer r) = Unit {0}
  IsProper v.Opaque = Unit {0}

  pub AreProper : {m : _} → Row_of-Value m → Type 0
  AreProper end_of-Value = Unit {0}
  AreProper (more_of-Value x row) = IsProper x × AreProper row
