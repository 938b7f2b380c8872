-- What a resource meets, by the form of the search.
use Rattle.std.proofs.Common.{◌≡◌, ℕ, Bool, true, false, ◌||◌, ◌&&◌, List, [], ◌∷◌, map, refl, sym, ap, ◌∙◌}
use Rattle.std.specs.Prelude.{not}
use Rattle.std.specs.List.{list_any, list_all}
use Rattle.pp_value.specs.declared.value.Value.{Value}
use Rattle.catalog_semantics.specs.declared.catalog.Resource.{Resource}
use Rattle.catalog_semantics.specs.declared.state.Wish.{Wish, Wish-F, fold-roll-Wish, roll-Wish, map-Wish}
use Rattle.catalog_semantics.specs.declared.state.Wish.TheOpen as plain
use Rattle.catalog_semantics.specs.declared.state.Wish.TheVariants as wish
use Rattle.catalog_semantics.specs.declared.state.Wish.TheVariants.{rolls-Or, rolls-And, rolls-Equal, rolls-Differ}
use Rattle.catalog_semantics.specs.Collecting.{has_value, meets_by, meets}

-- a disjunction with what is false is its first side
pub or_false : (b : Bool) → (b || false) ≡ b
or_false true = refl
or_false false = refl

-- whether a wish is met is told by its first step
rolled : (r : Resource) (d : Wish-F Wish) → meets r (roll-Wish d) ≡ meets_by r (map-Wish Wish Bool (meets r) d)
unfolding meets
rolled r d = fold-roll-Wish Bool (meets_by r) d

-- so it is of a wish that is one
of : (r : Resource) (w : Wish) (d : Wish-F Wish) → roll-Wish d ≡ w → meets r w ≡ meets_by r (map-Wish Wish Bool (meets r) d)
of r w d is = sym (ap (meets r) is) ∙ rolled r d

-- one of the wishes is met where one of the answers is true
any_mapped : (r : Resource) (all : List Wish) → list_any (λ b. b) (map (meets r) all) ≡ list_any (meets r) all
any_mapped r [] = refl
any_mapped r (w ∷ all) = ap (λ b. meets r w || b) (any_mapped r all)

-- all are met where all answers are
all_mapped : (r : Resource) (all : List Wish) → list_all (λ b. b) (map (meets r) all) ≡ list_all (meets r) all
all_mapped r [] = refl
all_mapped r (w ∷ all) = ap (λ b. meets r w && b) (all_mapped r all)

-- a resource meets `or` where it meets one of them
pub meets_or : (r : Resource) (all : List Wish) → meets r (wish.Or all) ≡ list_any (meets r) all
meets_or r all = of r (wish.Or all) (plain.Or all) (rolls-Or all) ∙ any_mapped r all

-- and `and` where it meets all
pub meets_and : (r : Resource) (all : List Wish) → meets r (wish.And all) ≡ list_all (meets r) all
meets_and r all = of r (wish.And all) (plain.And all) (rolls-And all) ∙ all_mapped r all

-- and `==` where it has the value
pub meets_equal : (r : Resource) (name : List ℕ) (x : Value) → meets r (wish.Equal name x) ≡ has_value name x r
meets_equal r name x = of r (wish.Equal name x) (plain.Equal name x) (rolls-Equal name x)

-- and `!=` where it hasn't
pub meets_differ : (r : Resource) (name : List ℕ) (x : Value) → meets r (wish.Differ name x) ≡ not (has_value name x r)
meets_differ r name x = of r (wish.Differ name x) (plain.Differ name x) (rolls-Differ name x)
