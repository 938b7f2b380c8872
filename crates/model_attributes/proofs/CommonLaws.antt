-- What stands in front of the metaparameters, and these.
use Rattle.std.specs.Prelude.{◌≡◌, refl, Bool, true, false, ◌||◌}

-- a disjunction of three and more may be told from either end
pub three_and_more : (a b c m : Bool) → ((a || (b || (c || false))) || m) ≡ (a || (b || (c || m)))
three_and_more true b c m = refl
three_and_more false true c m = refl
three_and_more false false true m = refl
three_and_more false false false m = refl
