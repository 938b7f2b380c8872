-- What is open at a place of a text, the innermost first.
use Rattle.std.specs.Prelude.{ℕ, Bool, true, false, List, [], ◌∷◌, Option, Some, None}
use Rattle.pp_syntax.specs.declared.lexer.opening.Opening.{Opening}
use Rattle.pp_syntax.specs.declared.lexer.opening.Opening.TheVariants as opening

-- within double quotes, and not within a `${` there
abbrev pub in_quotes : List Opening → Bool
in_quotes [] = false
in_quotes (opening.Quote at ∷ outer) = true
in_quotes (opening.Hole at ∷ outer) = false
in_quotes (opening.Brace ∷ outer) = false

-- directly within a `${`
abbrev pub in_hole : List Opening → Bool
in_hole [] = false
in_hole (opening.Hole at ∷ outer) = true
in_hole (opening.Quote at ∷ outer) = false
in_hole (opening.Brace ∷ outer) = false

-- all but the innermost
abbrev pub outer_of : List Opening → List Opening
outer_of [] = []
outer_of (o ∷ outer) = outer

-- A closing brace closes the innermost, if that is a brace.
abbrev pub closed_brace : List Opening → List Opening
closed_brace [] = []
closed_brace (opening.Brace ∷ outer) = outer
closed_brace (opening.Quote at ∷ outer) = opening.Quote at ∷ outer
closed_brace (opening.Hole at ∷ outer) = opening.Hole at ∷ outer

-- how the reading of a text ends: at its end, or with a fault at a place
pub data Ending : Type 0 where
  Whole : Ending
  Fault : ℕ → Ending

-- At the end of the text no double quotes and no `${` are open; else the innermost is the fault.
abbrev pub ending : List Opening → Ending
ending [] = Whole
ending (opening.Brace ∷ outer) = ending outer
ending (opening.Quote at ∷ outer) = Fault at
ending (opening.Hole at ∷ outer) = Fault at

abbrev pub ending_of : Option ℕ → Ending
ending_of None = Whole
ending_of (Some at) = Fault at
