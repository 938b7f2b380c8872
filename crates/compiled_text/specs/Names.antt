-- How resources are named: types, and references to resources.
use Rattle.std.specs.Prelude.{◌≡◌, ◌≢◌, ℕ, ◌==◌, Bool, ◌||◌, IsTrue, List, [], ◌∷◌, ◌++◌, codes}
use Rattle.std.specs.Char.{is_ascii_alphabetic, is_ascii_alphanumeric}
use Rattle.std.specs.List.{AllByRecursion}
use Rattle.pp_value.specs.declared.value.Ref.{Ref}
use Rattle.pp_eval.specs.References.{ref_of}

-- ---- types

-- an ASCII letter, an ASCII digit or `_`
abbrev pub is_word_byte : ℕ → Bool
is_word_byte c = is_ascii_alphanumeric c || (c == 95)

-- a segment of a type: an ASCII letter, and then letters, digits and `_`
abbrev pub IsTypeSegment : List ℕ → Type 0
IsTypeSegment [] = ⊥
IsTypeSegment (c ∷ text) = IsTrue (is_ascii_alphabetic c) × AllByRecursion (λ d. IsTrue (is_word_byte d)) text

-- the segments, each behind `::`
abbrev pub behind_colons : List (List ℕ) → List ℕ
behind_colons [] = []
behind_colons (s ∷ segments) = codes "::" ++ (s ++ behind_colons segments)

-- A type is segments joined by `::`, at least one.
pub record IsType (text : List ℕ) : Type 0 where
  pub first : List ℕ
  pub others : List (List ℕ)
  pub are_segments : AllByRecursion IsTypeSegment (first ∷ others)
  pub joined : text ≡ first ++ behind_colons others

-- ---- references

-- A reference is a type and a title that isn't empty, as `File[/etc/motd]`. It names the type in lower case and the title, which of a
-- class is in lower case too, without a leading `::`.
pub record IsReference (text : List ℕ) (r : Ref) : Type 0 where
  pub type_text : List ℕ
  pub title_text : List ℕ
  pub spelled : text ≡ type_text ++ (codes "[" ++ (title_text ++ codes "]"))
  pub is_type : IsType type_text
  pub some_title : title_text ≢ []
  pub names : r ≡ ref_of type_text title_text
