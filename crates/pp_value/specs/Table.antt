-- The operations on values: what each gives, as a table by the kinds of its operands, and `Operand` for anything else.
use Rattle.std.specs.Prelude.{◌≡◌, ◌+◌, ◌-◌, ℤ, pos, negsuc, ◌+ℤ◌, ◌-ℤ◌, ◌*ℤ◌, neg_ℤ, Bool, true, false, ◌||◌, nat_lt, int_lt, if◌then◌else◌, List, ◌++◌, length, slice_get, Option, Some, None, Result, Ok, Err}
use Rattle.std.specs.List.{list_any}
use Rattle.pp_value.specs.declared.value.Value.{Value, items-the_row-Value}
use Rattle.pp_value.specs.declared.value.Value.TheVariants as v
use Rattle.pp_value.specs.declared.fault.Misfit.{Misfit}
use Rattle.pp_value.specs.declared.fault.Misfit.TheVariants.{Operand, Range}
use Rattle.pp_value.specs.declared.fault.ValueFault.{ValueFault}
use Rattle.pp_value.specs.declared.fault.ValueFault.TheVariants as fault
use Rattle.pp_value.specs.Texts.{lowered, same_text, less_text, is_part}
use Rattle.pp_value.specs.Keys.{with_pairs}
use Rattle.pp_value.specs.Values.{keyed, has_opaque, same, value_at}

-- `==`: refused where an opaque value stands anywhere in either
abbrev pub equal_table : Value → Value → Result Bool Misfit
equal_table a b = if has_opaque a || has_opaque b then Err Operand else Ok (same a b)

-- `<`: two numbers, or two texts
abbrev pub less_table : Value → Value → Result Bool Misfit
less_table (v.Int m) (v.Int n) = Ok (int_lt m n)
less_table (v.Str a) (v.Str b) = Ok (less_text a b)
less_table _ _ = Err Operand

-- a value among the members of a list
abbrev pub member_table : Value → List Value → Result Bool Misfit
member_table x items = if has_opaque x || list_any has_opaque items then Err Operand else Ok (list_any (same x) items)

-- `in`: a part of a text, a member of a list, or a key of a map, ASCII case aside
abbrev pub within_table : Value → Value → Result Bool Misfit
within_table (v.Str part) (v.Str text) = Ok (is_part (lowered part) (lowered text))
within_table x (v.List' shape row) = member_table x (items-the_row-Value _ row)
within_table (v.Str key) (v.Map' keys row) = Ok (list_any (λ p. same_text key p.0) (keyed keys row))
within_table _ _ = Err Operand

-- whole numbers are those of 64 bits with a sign
abbrev pub fits_word : ℤ → Bool
fits_word (pos n) = nat_lt n 0x8000_0000_0000_0000
fits_word (negsuc n) = nat_lt n 0x8000_0000_0000_0000

-- a whole number, unless it leaves 64 bits
abbrev pub number : ℤ → Result Value Misfit
number n = if fits_word n then Ok (v.Int n) else Err Range

-- `+`: two numbers, two lists, which are joined, or two maps: the right one's values win, and its new keys go last
abbrev pub add_table : Value → Value → Result Value Misfit
add_table (v.Int m) (v.Int n) = number (m +ℤ n)
add_table (v.List' shape row) (v.List' shape_2 row_2) = Ok (v.List (items-the_row-Value _ row ++ items-the_row-Value _ row_2))
add_table (v.Map' keys row) (v.Map' keys_2 row_2) = Ok (v.Map (with_pairs (keyed keys row) (keyed keys_2 row_2)))
add_table _ _ = Err Operand

-- `-` between two numbers
abbrev pub subtract_table : Value → Value → Result Value Misfit
subtract_table (v.Int m) (v.Int n) = number (m -ℤ n)
subtract_table _ _ = Err Operand

-- `*` between two numbers
abbrev pub multiply_table : Value → Value → Result Value Misfit
multiply_table (v.Int m) (v.Int n) = number (m *ℤ n)
multiply_table _ _ = Err Operand

-- `-` before a number
abbrev pub negate_table : Value → Result Value Misfit
negate_table (v.Int n) = number (neg_ℤ n)
negate_table _ = Err Operand

-- undef, where there is none
abbrev pub or_undef : Option Value → Value
or_undef None = v.Undef
or_undef (Some x) = x

-- the member at a place from 0; a negative one counts from the end, -1 being the last; undef where there is none
abbrev pub member_at : List Value → ℤ → Value
member_at items (pos n) = or_undef (slice_get items n)
member_at items (negsuc n) = if nat_lt n (length items) then or_undef (slice_get items (length items - (n + 1))) else v.Undef

-- `v[k]`: a list and a number, or a map and a text, by exact key
abbrev pub index_table : Value → Value → Result Value Misfit
index_table (v.List' shape row) (v.Int n) = Ok (member_at (items-the_row-Value _ row) n)
index_table (v.Map' keys row) (v.Str key) = Ok (or_undef (value_at key (keyed keys row)))
index_table _ _ = Err Operand

-- What a call gives whose result may exceed the limits, and may want memory: what the table names, `Large` exactly where that exceeds
-- them, and the table's refusal.
abbrev pub Gives : {X : Type 0} → (X → Bool) → Result X Misfit → Result X ValueFault → Type 0
Gives exceeds table (Ok x) = (table ≡ Ok x) × (exceeds x ≡ false)
Gives exceeds table (Err fault.Operand) = table ≡ Err Operand
Gives exceeds table (Err fault.Range) = table ≡ Err Range
Gives {X} exceeds table (Err fault.Large) = (x : X) × ((table ≡ Ok x) × (exceeds x ≡ true))
Gives exceeds table (Err (fault.Memory m)) = Unit {0}
