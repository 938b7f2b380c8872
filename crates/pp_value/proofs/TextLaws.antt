-- Texts, ASCII case aside.
use Rattle.std.proofs.Common.{◌≡◌, ℕ, Bool, true, false, ◌==◌, ◌||◌, ◌&&◌, List, [], ◌∷◌, ◌++◌, map, IsTrue, ◌↔◌, refl, ap, sym, ◌∙◌}
use Rattle.std.specs.Char.{to_ascii_lowercase}
use Rattle.std.proofs.lemmas.Slice.Eq.{bytes_eq-Decides}
use Rattle.std.proofs.lemmas.Bool.Decides.{same_from_decides, Decides-eqb}
use Rattle.pp_value.specs.Texts.{same_text, lowered, begins, is_part, StandsIn}
use Rattle.std.proofs.lemmas.Bool.{or_right, or_left}

-- what the library tells of two texts, ASCII case aside, is what the definition says
pub same_is : (a b : List ℕ) (r : Bool) → (IsTrue r ↔ (map to_ascii_lowercase a ≡ map to_ascii_lowercase b)) → r ≡ same_text a b
same_is a b r h = same_from_decides r (same_text a b) h (bytes_eq-Decides (lowered a) (lowered b))

-- a text begins with its front
begins_here : (part back : List ℕ) → begins part (part ++ back) ≡ true
begins_here [] back = refl
begins_here (x ∷ part) back = let same = (Decides-eqb x x).1 refl in (λ i. same i && begins part (part ++ back)) ∙ begins_here part back

-- where it is told to begin with a part, the part is its front
pub begins_so : (part text : List ℕ) → begins part text ≡ true → (back : List ℕ) × (text ≡ part ++ back)
begins_so [] text h = (text, refl)
begins_so (x ∷ part) [] h = cc
begins_so (x ∷ part) (y ∷ text) h =
    let rest = begins_so part text (second (x == y) _ h) in
    let same = (Decides-eqb x y).0 (first (x == y) _ h) in
    (rest.0, λ i. sym same i ∷ rest.1 i)
  where
    first : (a b : Bool) → (a && b) ≡ true → a ≡ true
    first true b k = refl
    first false b k = k

    second : (a b : Bool) → (a && b) ≡ true → b ≡ true
    second true b k = k
    second false b k = cc

-- what a text begins with stands in it
at_front : (part text : List ℕ) → begins part text ≡ true → StandsIn part text
at_front part text h = let so = begins_so part text h in record { front = []; back = so.0; whole = so.1 }

-- what is told to stand at the first byte or further on does, where it does further on
stands_from : (part : List ℕ) (c : ℕ) (text : List ℕ) → (is_part part text ≡ true → StandsIn part text) → (t : Bool) → begins part (c ∷ text) ≡ t → (t || is_part part text) ≡ true → StandsIn part (c ∷ text)
stands_from part c text rest true e h = at_front part (c ∷ text) e
stands_from part c text rest false e h = let s = rest h in record { front = c ∷ s.front; back = s.back; whole = ap (λ more. c ∷ more) s.whole }

-- what is told to stand in a text does
stands : (part text : List ℕ) → is_part part text ≡ true → StandsIn part text
stands part [] h = at_front part [] h
stands part (c ∷ text) h = stands_from part c text (stands part text) (begins part (c ∷ text)) refl h

-- what a text begins with is a part of it
pub from_front : (part text : List ℕ) → begins part text ≡ true → is_part part text ≡ true
from_front part [] h = h
from_front part (c ∷ text) h = or_left _ _ h

-- what stands between a front and a back is a part
is_there : (part front back : List ℕ) → is_part part (front ++ (part ++ back)) ≡ true
is_there part [] back = from_front part (part ++ back) (begins_here part back)
is_there part (c ∷ front) back = or_right (begins part (c ∷ (front ++ (part ++ back)))) _ (is_there part front back)

-- a part is told to stand in a text exactly where it does
pub part_is : (part text : List ℕ) → IsTrue (is_part part text) ↔ StandsIn part text
part_is part text = (stands part text, λ s. ap (is_part part) s.whole ∙ is_there part s.front s.back)
