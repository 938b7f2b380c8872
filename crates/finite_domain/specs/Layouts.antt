-- The domain of a list of programs as it is laid out: which fresh segment and which fresh texts, and all in which order.
use Rattle.std.specs.Prelude.{◌≡◌, ◌⊎◌, ◌↔◌, ℕ, zero, suc, ◌+◌, ◌<◌, ◌≤◌, ◌^◌, not, IsTrue, List, [], ◌∷◌, ◌++◌, map, length, slice_index_or, codes, decimal, filter}
use Rattle.std.specs.List.Sorted.{IsStrictlySortedBy, IsStrictlyIncreasing}
use Rattle.fs_semantics.specs.FileTree.{Segment, Path, path_cmp, is_among}
use Rattle.fs_semantics.specs.Programs.{Program}
use Rattle.finite_domain.specs.Mentions.{Below, AnyMentions}
use Rattle.finite_domain.specs.Matters.{all_matters, texts_among}
use Rattle.finite_domain.specs.Domains.{text_eq, is_text_among, SpeakOf, IsNamed, Domain}

-- the contents and targets that programs write, in order
abbrev pub all_texts : List Program → List (List ℕ)
all_texts es = texts_among (all_matters es)

-- each of them where it stands first
abbrev pub first_uses : List (List ℕ) → List (List ℕ)
first_uses [] = []
first_uses (c ∷ cs) = c ∷ filter (λ d. not (text_eq c d)) (first_uses cs)

-- so many letters x
abbrev pub letters : ℕ → List ℕ
letters zero = []
letters (suc n) = 120 ∷ letters n

-- what the fresh children may be called: `other` and n letters x
abbrev pub other_segment : ℕ → Segment
other_segment n = codes "other" ++ letters n

-- what the fresh texts may begin with: `text` and n letters x
abbrev pub stem : ℕ → List ℕ
stem n = codes "text" ++ letters n

-- a path of the programs has the segment; a constant begins with the text
abbrev pub HaveSegment : List Program → Segment → Type 0
HaveSegment es s = (front : Path) × (back : Path) × SpeakOf es (front ++ s ∷ back)

abbrev pub HaveStart : List (List ℕ) → List ℕ → Type 0
HaveStart cs start = (rest : List ℕ) × IsTrue (is_text_among (start ++ rest) cs)

-- P fails at n, and holds before
pub record IsFirstFailure (P : ℕ → Type 0) (n : ℕ) : Type 0 where
  pub fails : P n → ⊥
  pub holds : (k : ℕ) → k < n → P k

-- q is the child with this segment of a path whose children matter
abbrev pub IsFreshChild : List Program → Segment → Path → Type 0
IsFreshChild es s q = (p : Path) × AnyMentions es (Below p) × (q ≡ p ++ s ∷ [])

-- the first text with the number n, and so on, one for each path
abbrev pub numbered : List ℕ → ℕ → List Path → List (List ℕ)
numbered start n [] = []
numbered start n (p ∷ ps) = (start ++ decimal n) ∷ numbered start (n + 1) ps

-- paths, the places of the fresh children among them, contents
pub record Layout : Type 0 where
  pub paths : List Path
  pub fresh : List ℕ
  pub contents : List (List ℕ)

-- the fresh children, by their places
abbrev pub fresh_paths : Layout → List Path
fresh_paths l = map (λ i. slice_index_or l.paths i []) l.fresh

-- the domain that is laid out so
abbrev pub domain_of : Layout → Domain
domain_of l = record { named = filter (λ p. not (is_among p (fresh_paths l))) l.paths; fresh = fresh_paths l; contents = l.contents }

-- The layout of the programs' domain.
pub record IsLayout (es : List Program) (l : Layout) : Type 0 where
  pub segment : ℕ
  pub first_segment : IsFirstFailure (λ n. HaveSegment es (other_segment n)) segment
  pub paths : (p : Path) → IsTrue (is_among p l.paths) ↔ (IsNamed es p ⊎ IsFreshChild es (other_segment segment) p)
  pub in_order : IsStrictlySortedBy path_cmp l.paths
  pub fresh : (p : Path) → IsTrue (is_among p (fresh_paths l)) ↔ IsFreshChild es (other_segment segment) p
  pub places_in_order : IsStrictlyIncreasing l.fresh
  pub start : ℕ
  pub first_start : IsFirstFailure (λ n. HaveStart (all_texts es) (stem n)) start
  pub contents : l.contents ≡ first_uses ([] ∷ all_texts es) ++ numbered (stem start) 0 l.paths
  pub few : length l.paths ≤ 2 ^ 64
