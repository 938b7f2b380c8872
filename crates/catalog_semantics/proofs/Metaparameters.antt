-- Names that stand in one of two lists stand in both together.
use Rattle.std.specs.Prelude.{◌≡◌, refl, Bool, true, false, ◌||◌}

-- two tests and two are four in a row
pub two_and_two : (a b c d : Bool) → ((a || (b || false)) || (c || (d || false))) ≡ (a || (b || (c || (d || false))))
two_and_two true b c d = refl
two_and_two false true c d = refl
two_and_two false false c d = refl
