-- What the text of a compiled catalog gives for a resource's attributes.
use Rattle.std.specs.Prelude.{ℕ, Bool, false, if◌then◌else◌, List, [], ◌∷◌, Option, Some, None, is_some}
use Rattle.std.specs.List.{list_all}
use Rattle.std.specs.Str.{bytes_eq}
use Rattle.pp_value.specs.declared.value.Value.{Value}
use Rattle.pp_value.specs.Texts.{begins}
use Rattle.pp_value.specs.Values.{Pair, value_at, is_undef, has_opaque, on_text, on_list, passes}
use Rattle.model_semantics.specs.Attributes.{truth_of, is_false, is_address}

-- ---- which attributes are given

-- undef counts as not given
abbrev pub unless_undef : Option Value → Option Value
unless_undef None = None
unless_undef (Some x) = if is_undef x then None else Some x

-- the value that is given for an attribute
abbrev pub given_value : List ℕ → List Pair → Option Value
given_value name ps = unless_undef (value_at name ps)

-- the attribute is given
abbrev pub gives : List ℕ → List Pair → Bool
gives name ps = is_some (given_value name ps)

-- ---- what their values are

-- a truth value is there, and is true
abbrev pub is_so : Option Bool → Bool
is_so None = false
is_so (Some b) = b

-- the attribute is true, or the text `true`
abbrev pub is_true : List ℕ → List Pair → Bool
is_true name ps = passes (λ x. is_so (truth_of x)) (value_at name ps)

-- the attribute is false, or the text `false`
abbrev pub is_untrue : List ℕ → List Pair → Bool
is_untrue name ps = passes (λ x. is_false (truth_of x)) (value_at name ps)

-- the attribute is this text
abbrev pub says : List ℕ → List ℕ → List Pair → Bool
says word name ps = passes (on_text (λ text. bytes_eq text word)) (value_at name ps)

-- the attribute is a text that begins with this one
abbrev pub says_from : List ℕ → List ℕ → List Pair → Bool
says_from front name ps = passes (on_text (begins front)) (value_at name ps)

-- an opaque value stands anywhere in the attribute
abbrev pub is_untold : List ℕ → List Pair → Bool
is_untold name ps = passes has_opaque (value_at name ps)

-- some values, at least one, of which each is the address of a server
abbrev pub are_some_addresses : List Value → Bool
are_some_addresses [] = false
are_some_addresses (x ∷ xs) = list_all (on_text is_address) (x ∷ xs)

-- a list of addresses, at least one
abbrev pub are_addresses : Value → Bool
are_addresses x = on_list are_some_addresses x
