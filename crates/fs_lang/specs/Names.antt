-- Names as segments.
use Rattle.std.specs.Prelude.{◌≢◌, ◌≤◌, ℕ, ◌==◌, ◌||◌, Bool, List, [], ◌∷◌, ◌++◌, length, if◌then◌else◌, codes}
use Rattle.std.specs.Str.{bytes_eq}
use Rattle.std.specs.List.{AllByRecursion}
use Rattle.rh_base.specs.declared.limits.TheConstants.{NAME_BYTES}

-- what a name may be: of 1 to 255 bytes, none of them zero
pub record IsName (name : List ℕ) : Type 0 where
  pub nonempty : name ≢ []
  pub bytes : length name ≤ NAME_BYTES
  pub no_zero : AllByRecursion (λ b. b ≢ 0) name

-- the text with another one in the place of each byte b
abbrev pub replaced : ℕ → List ℕ → List ℕ → List ℕ
replaced b other [] = []
replaced b other (c ∷ text) = if c == b then other ++ replaced b other text else c ∷ replaced b other text

-- one dot or two
abbrev pub is_dots : List ℕ → Bool
is_dots name = bytes_eq name (codes ".") || bytes_eq name (codes "..")

-- The one segment of a name: each `%` becomes `%25`, and then each `/` becomes `%2F`; in a name of one dot or two each dot
-- becomes `%2E`.
abbrev pub segment_of : List ℕ → List ℕ
segment_of name = if is_dots name then replaced 46 (codes "%2E") name else replaced 47 (codes "%2F") (replaced 37 (codes "%25") name)
