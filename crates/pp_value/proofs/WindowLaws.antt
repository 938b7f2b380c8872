-- The front of a text, as long as what is sought in it, and its hash.
use Rattle.std.proofs.Common.{◌≡◌, ℕ, ◌+◌, ◌*◌, ◌%◌, ◌<◌, ◌≤◌, Bool, true, false, ◌&&◌, ◌||◌, ◌==◌, List, [], ◌∷◌, ◌++◌, length, append_assoc, refl, ap, sym, subst₂, ◌∙◌, arith, length-append, take-append-drop}
use Rattle.std.proofs.lemmas.List.{map-append, length-map}
use Rattle.std.proofs.lemmas.Bool.Decides.{Decides-eqb}
use Rattle.std.specs.Char.{to_ascii_lowercase}
use Rattle.std.specs.List.{IsSplitAt}
use Rattle.pp_value.specs.Texts.{lowered, begins, is_part}
use Rattle.pp_value.specs.Hashes.{modulus, next_hash, hash_from, power_from, goes_on}
use Rattle.pp_value.proofs.HashLaws.{goes}
use Rattle.pp_value.proofs.TextLaws.{begins_so}

-- What isn't ahead of the rest is a window as long as the part; by it the hash goes on from the front to the end.
pub record Window (part rest ahead : List ℕ) (front end : ℕ) : Type 0 where
  pub window : List ℕ
  pub whole : rest ≡ window ++ ahead
  pub size : length window ≡ length part
  pub hash : end ≡ hash_from front window

-- equal texts begin with the same byte
heads : (c w : ℕ) (xs ys : List ℕ) → (c ∷ xs) ≡ w ∷ ys → c ≡ w
heads c w xs ys e = cc

-- and have the same rest
tails : (c w : ℕ) (xs ys : List ℕ) → (c ∷ xs) ≡ w ∷ ys → xs ≡ ys
tails c w xs ys e = cc

-- the front of a text that is as long as the part is the first window
pub first_window : (part text window after : List ℕ) → IsSplitAt text (length part) window after → Window (lowered part) (lowered text) (lowered after) 0 (hash_from 0 (lowered window))
first_window part text window after cut = record {
  window = lowered window;
  whole = ap lowered whole ∙ map-append _ window after;
  size = length-map window _ ∙ cut.3 ∙ sym (length-map part _);
  hash = refl;
}
  where
    whole : text ≡ window ++ after
    whole = sym (take-append-drop (length part) text) ∙ (λ i. sym cut.1 i ++ sym cut.2 i)

-- the hash goes on by the last byte
hash_goes_on : (front d : ℕ) (xs : List ℕ) → hash_from front (xs ++ d ∷ []) ≡ next_hash (hash_from front xs) d
hash_goes_on front d [] = refl
hash_goes_on front d (x ∷ xs) = hash_goes_on (next_hash front x) d xs

-- a window moves on by one byte on either side
moved : (part : List ℕ) (c d : ℕ) (more beyond : List ℕ) (front end : ℕ) (window : List ℕ) → (c ∷ more) ≡ window ++ d ∷ beyond → length window ≡ length part → end ≡ hash_from front window → Window part more beyond (next_hash front c) (next_hash end d)
moved part c d more beyond front end [] whole size hash = record {
  window = [];
  whole = tails c d more beyond whole;
  size = size;
  hash = λ i. next_hash (hash i) (sym (heads c d more beyond whole) i);
}
moved part c d more beyond front end (w ∷ ws) whole size hash = record {
  window = ws ++ d ∷ [];
  whole = tails c w more (ws ++ d ∷ beyond) whole ∙ sym (append_assoc ws (d ∷ []) beyond);
  size = length-append ws (d ∷ []) ∙ omega (arith, size);
  hash = ap (λ h. next_hash h d) (hash ∙ ap (λ b. hash_from (next_hash front b) ws) (sym (heads c w more (ws ++ d ∷ beyond) whole))) ∙ sym (hash_goes_on (next_hash front c) d ws);
}

-- one byte further there is a window again
next_window : (part : List ℕ) (c d : ℕ) (more beyond : List ℕ) (front end : ℕ) → Window part (c ∷ more) (d ∷ beyond) front end → Window part more beyond (next_hash front c) (next_hash end d)
next_window part c d more beyond front end w = moved part c d more beyond front end w.window w.whole w.size w.hash

-- the same of bytes, ASCII case aside
pub goes_on_by : (part rest ahead : List ℕ) (c d : ℕ) (more beyond : List ℕ) (front end front_now end_now : ℕ) → rest ≡ c ∷ more → ahead ≡ d ∷ beyond
    → front_now ≡ next_hash front (to_ascii_lowercase c) → end_now ≡ next_hash end (to_ascii_lowercase d)
    → Window (lowered part) (lowered rest) (lowered ahead) front end → Window (lowered part) (lowered more) (lowered beyond) front_now end_now
goes_on_by part rest ahead c d more beyond front end front_now end_now first next front_is end_is w =
    let is : Window (lowered part) (to_ascii_lowercase c ∷ lowered more) (to_ascii_lowercase d ∷ lowered beyond) front end = subst₂ (λ xs ys. Window (lowered part) (lowered xs) (lowered ys) front end) first next w in
    subst₂ (λ f e. Window (lowered part) (lowered more) (lowered beyond) f e) (sym front_is) (sym end_is) (next_window (lowered part) _ _ _ _ front end is)

-- what is ahead is left of the rest
pub ahead_is_left : (part rest ahead : List ℕ) (front end : ℕ) → Window (lowered part) (lowered rest) (lowered ahead) front end → length ahead ≤ length rest
ahead_is_left part rest ahead front end w =
    omega (arith, ap length w.whole, length-append w.window (lowered ahead), length-map rest to_ascii_lowercase, length-map ahead to_ascii_lowercase)

-- two fronts of one text that are as long as one another are equal
same_front : (xs ys xs_more ys_more : List ℕ) → xs ++ xs_more ≡ ys ++ ys_more → length xs ≡ length ys → xs ≡ ys
same_front [] [] xm ym e l = refl
same_front [] (y ∷ ys) xm ym e l = cc
same_front (x ∷ xs) [] xm ym e l = cc
same_front (x ∷ xs) (y ∷ ys) xm ym e l = λ i. heads x y _ _ e i ∷ same_front xs ys xm ym (tails x y _ _ e) (omega (arith, l)) i

-- where the hashes differ, the part doesn't stand in front
other_hash : (part rest ahead : List ℕ) (front end : ℕ) → Window part rest ahead front end → front < modulus → goes_on front (power_from 1 part) (hash_from 0 part) end ≡ false → begins part rest ≡ false
other_hash part rest ahead front end w less other = so (begins part rest) refl
  where
    so : (t : Bool) → begins part rest ≡ t → begins part rest ≡ false
    so false e = e
    so true e =
        let behind = begins_so part rest e in
        let is : part ≡ w.window = same_front part w.window behind.0 ahead (sym behind.1 ∙ w.whole) (sym w.size) in
        let same : (front * power_from 1 part + hash_from 0 part) % modulus ≡ end = sym (goes front part less) ∙ ap (hash_from front) is ∙ sym w.hash in
        cc ((Decides-eqb ((front * power_from 1 part + hash_from 0 part) % modulus) end).1 same, other)

-- a text doesn't begin with a longer one
too_short : (part text : List ℕ) → length text < length part → begins part text ≡ false
too_short [] text less = absurd (omega (arith, less))
too_short (x ∷ part) [] less = refl
too_short (x ∷ part) (y ∷ text) less = (λ i. (x == y) && too_short part text (omega (arith, less)) i) ∙ none (x == y)
  where
    none : (t : Bool) → (t && false) ≡ false
    none true = refl
    none false = refl

-- a part isn't in a shorter text
shorter : (part text : List ℕ) → length text < length part → is_part part text ≡ false
shorter part [] less = too_short part [] less
shorter part (c ∷ text) less = λ i. too_short part (c ∷ text) less i || shorter part text (omega (arith, less)) i

-- and in one as long only where it stands in front
as_long : (part text : List ℕ) → length text ≡ length part → is_part part text ≡ begins part text
as_long part [] same = refl
as_long part (c ∷ text) same = (λ i. begins part (c ∷ text) || shorter part text (omega (arith, same)) i) ∙ left (begins part (c ∷ text))
  where
    left : (t : Bool) → (t || false) ≡ t
    left true = refl
    left false = refl

-- where nothing is ahead, the part is in the rest exactly where it stands in front
pub at_end : (part rest ahead : List ℕ) (front end : ℕ) → length ahead ≡ 0 → Window (lowered part) (lowered rest) (lowered ahead) front end → begins (lowered part) (lowered rest) ≡ is_part (lowered part) (lowered rest)
at_end part rest ahead front end none w = sym (as_long (lowered part) (lowered rest) same)
  where
    same : length (lowered rest) ≡ length (lowered part)
    same = omega (arith, none, ap length w.whole, length-append w.window (lowered ahead), w.size, length-map ahead to_ascii_lowercase)

-- a part isn't in a shorter text, ASCII case aside
pub in_shorter : (part text : List ℕ) → length text < length part → is_part (lowered part) (lowered text) ≡ false
in_shorter part text less = shorter (lowered part) (lowered text) (omega (arith, less, length-map part to_ascii_lowercase, length-map text to_ascii_lowercase))

-- where the part doesn't stand in front, it is sought behind the first byte
pub behind_front : (part rest : List ℕ) (c : ℕ) (more : List ℕ) → rest ≡ c ∷ more → begins (lowered part) (lowered rest) ≡ false → is_part (lowered part) (lowered more) ≡ is_part (lowered part) (lowered rest)
behind_front part rest c more first none =
    (λ i. (sym none ∙ ap (λ xs. begins (lowered part) (lowered xs)) first) i || is_part (lowered part) (lowered more)) ∙ ap (λ xs. is_part (lowered part) (lowered xs)) (sym first)

-- where the hashes that were made differ, the part doesn't stand in front
pub told_apart : (part rest ahead : List ℕ) (front end power sought : ℕ) → Window (lowered part) (lowered rest) (lowered ahead) front end → front < modulus
    → power ≡ power_from 1 (lowered part) → sought ≡ hash_from 0 (lowered part) → goes_on front power sought end ≡ false → begins (lowered part) (lowered rest) ≡ false
told_apart part rest ahead front end power sought w less power_is sought_is other =
    other_hash (lowered part) (lowered rest) (lowered ahead) front end w less (sym (λ i. goes_on front (power_is i) (sought_is i) end) ∙ other)
