-- Texts, ASCII case aside.
use Rattle.std.specs.Prelude.{◌≡◌, ℕ, Bool, true, false, ◌||◌, ◌&&◌, ◌==◌, if◌then◌else◌, List, [], ◌∷◌, ◌++◌, map, chars, encode_utf8_all}
use Rattle.std.specs.Char.{to_ascii_lowercase, to_ascii_uppercase}
use Rattle.std.specs.Cmp.Lexicographic.{slice_cmp}
use Rattle.std.specs.Ordering.{nat_cmp, is_lt}
use Rattle.std.specs.Str.{bytes_eq}

-- with ASCII letters in lower case
abbrev pub lowered : List ℕ → List ℕ
lowered text = map to_ascii_lowercase text

-- equal, ASCII case aside
abbrev pub same_text : List ℕ → List ℕ → Bool
same_text a b = bytes_eq (lowered a) (lowered b)

-- less by bytes after lowering ASCII; a text is less than one that it begins
abbrev pub less_text : List ℕ → List ℕ → Bool
less_text a b = is_lt (slice_cmp nat_cmp (lowered a) (lowered b))

-- the second begins with the first
abbrev pub begins : List ℕ → List ℕ → Bool
begins [] text = true
begins (x ∷ front) [] = false
begins (x ∷ front) (y ∷ text) = (x == y) && begins front text

-- what stands before and behind the first in the second
pub record StandsIn (part text : List ℕ) : Type 0 where
  pub front : List ℕ
  pub back : List ℕ
  pub whole : text ≡ front ++ (part ++ back)

-- the first stands somewhere in the second
abbrev pub is_part : List ℕ → List ℕ → Bool
is_part part [] = begins part []
is_part part (c ∷ text) = begins part (c ∷ text) || is_part part text

abbrev pub capital_if : Bool → ℕ → ℕ
capital_if first c = if first then to_ascii_uppercase c else c

-- the first character, and each behind a colon, in upper case if it is an ASCII letter
abbrev pub with_capitals : Bool → List ℕ → List ℕ
with_capitals first [] = []
with_capitals first (c ∷ text) = capital_if first c ∷ with_capitals (c == 58) text

-- a kind as it is shown: each of its segments with a capital
abbrev pub capitalized : List ℕ → List ℕ
capitalized kind = encode_utf8_all (with_capitals true (chars kind))
