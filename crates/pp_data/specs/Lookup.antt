-- The look-up of a class's parameter in the levels of class data.
use Rattle.std.specs.Prelude.{◌≡◌, ◌≢◌, ℕ, Bool, true, false, if◌then◌else◌, List, [], ◌∷◌, ◌++◌, filter, codes, Option, Some, None, option_and_then, Result, Ok, Err}
use Rattle.std.specs.Option.{option_or}
use Rattle.std.specs.List.{list_all, AllByRecursion}
use Rattle.pp_value.specs.declared.fault.Misfit.{Misfit}
use Rattle.pp_value.specs.declared.value.Value.{Value}
use Rattle.pp_value.specs.declared.value.Value.TheVariants as v
use Rattle.pp_value.specs.Table.{equal_table}
use Rattle.pp_value.specs.Values.{Pair, value_at, passes, is_undef, HasDistinctKeys}
use Rattle.pp_value.specs.Proper.{IsProper}
use Rattle.pp_eval.specs.References.{plain_name}
use Rattle.pp_data.specs.declared.data.Level.{Level}

-- the class's name in lower case without a leading `::`, then `::` and the parameter
abbrev pub key_of : List ℕ → List ℕ → List ℕ
key_of class parameter = plain_name class ++ (codes "::" ++ parameter)

-- ---- which levels apply

-- `==` gives true; where it has no result it doesn't
abbrev pub gives_true : Result Bool Misfit → Bool
gives_true (Ok b) = b
gives_true (Err m) = false

-- the fact is there, and its value equals the level's
abbrev pub is_met : List Pair → Pair → Bool
is_met facts wanted = passes (λ x. gives_true (equal_table x wanted.1)) (value_at wanted.0 facts)

-- each fact that the level asks for is met
abbrev pub applies : List Pair → Level → Bool
applies facts level = list_all (is_met facts) level.when

-- ---- the value of a key

abbrev pub unless_undef : Value → Option Value
unless_undef x = if is_undef x then None else Some x

-- the value that a level has for the key, other than undef
abbrev pub value_in : List ℕ → Level → Option Value
value_in key level = option_and_then unless_undef (value_at key level.values)

-- the value of the first of these levels which has one
abbrev pub first_value : List ℕ → List Level → Option Value
first_value key [] = None
first_value key (level ∷ levels) = option_or (value_in key level) (first_value key levels)

-- the value of the first of the levels that apply which has one
abbrev pub lookup : List Level → List Pair → List ℕ → Option Value
lookup levels facts key = first_value key (filter (applies facts) levels)

-- ---- levels whose maps have distinct keys

-- no key stands twice, and the values are proper
abbrev pub AreProper : List Pair → Type 0
AreProper pairs = HasDistinctKeys pairs × AllByRecursion (λ p. IsProper p.1) pairs

abbrev pub IsProperLevel : Level → Type 0
IsProperLevel level = AreProper level.when × AreProper level.values

-- ---- the same, as it is said of one level and those before it

-- the fact is there, and `==` of its value and the level's gives true
pub record IsMet (facts : List Pair) (wanted : Pair) : Type 0 where
  pub value : Value
  pub stands : value_at wanted.0 facts ≡ Some value
  pub same : equal_table value wanted.1 ≡ Ok true

-- each fact that the level asks for is met
abbrev pub Applies : List Pair → Level → Type 0
Applies facts level = AllByRecursion (IsMet facts) level.when

-- the level applies, and has this value for the key, other than undef
pub record Gives (facts : List Pair) (key : List ℕ) (level : Level) (x : Value) : Type 0 where
  pub applies : Applies facts level
  pub stands : value_at key level.values ≡ Some x
  pub other : x ≢ v.Undef

-- none of the levels gives the key a value
abbrev pub NoneGives : List Pair → List ℕ → List Level → Type 0
NoneGives facts key levels = AllByRecursion (λ level. (x : Value) → Gives facts key level x → ⊥) levels

-- a level gives the key this value, and none before it gives one
pub record IsFirst (levels : List Level) (facts : List Pair) (key : List ℕ) (x : Value) : Type 0 where
  pub before : List Level
  pub level : Level
  pub behind : List Level
  pub whole : levels ≡ before ++ level ∷ behind
  pub none_before : NoneGives facts key before
  pub gives : Gives facts key level x
