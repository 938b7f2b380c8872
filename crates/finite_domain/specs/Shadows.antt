-- Trees over a domain, and the shadows there of other trees.
use Rattle.std.specs.Prelude.{◌≡◌, ◌⊎◌, ◌↔◌, ℕ, Bool, false, ◌&&◌, ◌||◌, not, IsTrue, List, Option, Some, None, is_some}
use Rattle.std.specs.List.{list_any}
use Rattle.std.specs.FinMap as map
use Rattle.fs_semantics.specs.FileTree.{Path, Entry, Folder, File, Link, Tree, parent, path_eq, is_among, HasText}
use Rattle.fs_semantics.specs.Programs.{Program, Outcome}
use Rattle.fs_semantics.specs.Orders.{outcome}
use Rattle.finite_domain.specs.Mentions.{Text, AnyMentions}
use Rattle.finite_domain.specs.Domains.{Domain, is_known, is_text_among}

-- The paths and contents are those of the domain. (At the root a file tree has no entry.)
pub record IsOver (d : Domain) (s : Tree) : Type 0 where
  pub paths : (p : Path) → IsTrue (map.contains_key s p) → IsTrue (is_known d p || is_among p d.fresh)
  pub contents : (p : Path) (c : List ℕ) → HasText (map.get s p) c → IsTrue (is_text_among c d.contents)

-- the entry with its content or target mapped
abbrev pub mapped_entry : (List ℕ → List ℕ) → Entry → Entry
mapped_entry m Folder = Folder
mapped_entry m (File content) = File (m content)
mapped_entry m (Link target) = Link (m target)

-- the same, where there is an entry
abbrev pub mapped : (List ℕ → List ℕ) → Option Entry → Option Entry
mapped m None = None
mapped m (Some x) = Some (mapped_entry m x)

-- the tree has a child of p that isn't named
abbrev pub has_other : Domain → Tree → Path → Bool
has_other d t p = list_any (λ q. path_eq (parent q) p && not (is_known d q)) (map.keys t)

-- a constant, or a content or target that the tree has at a named path
abbrev pub IsTextOf : List Program → Domain → Tree → List ℕ → Type 0
IsTextOf es d t c = AnyMentions es (Text c) ⊎ ((p : Path) × IsTrue (is_known d p) × HasText (map.get t p) c)

-- s is a shadow of t by m, a map of contents.
pub record IsShadow (es : List Program) (d : Domain) (m : List ℕ → List ℕ) (t s : Tree) : Type 0 where
  pub over : IsOver d s
  pub constants : (c : List ℕ) → AnyMentions es (Text c) → m c ≡ c
  pub one_to_one : (b c : List ℕ) → IsTextOf es d t b → IsTextOf es d t c → m b ≡ m c → b ≡ c
  pub entries : (p : Path) → IsTrue (is_known d p) → map.get s p ≡ mapped m (map.get t p)
  pub others : (q : Path) → IsTrue (is_among q d.fresh) → map.contains_key s q ≡ has_other d t (parent q)

-- the trees are alike at each path that isn't named
abbrev pub AreAlikeElsewhere : Domain → Tree → Tree → Type 0
AreAlikeElsewhere d t u = (q : Path) → is_known d q ≡ false → map.get u q ≡ map.get t q

-- t has become u, and its shadow s has become v
pub record IsShadowStep (es : List Program) (d : Domain) (m : List ℕ → List ℕ) (t s u v : Tree) : Type 0 where
  pub shadow : IsShadow es d m u v
  pub kept : AreAlikeElsewhere d t u
  pub kept_too : AreAlikeElsewhere d s v

-- from t and s: Error both times, or trees of which the second is a shadow of the first
abbrev pub EndAsShadows : List Program → Domain → (List ℕ → List ℕ) → Tree → Tree → Outcome → Outcome → Type 0
EndAsShadows es d m t s None None = Unit {0}
EndAsShadows es d m t s None (Some v) = ⊥
EndAsShadows es d m t s (Some u) None = ⊥
EndAsShadows es d m t s (Some u) (Some v) = IsShadowStep es d m t s u v

-- Orders end alike from t where they do so from s, and a second run changes what the first one left from t where it does so from s.
pub record StandsFor (es : List Program) (s t : Tree) : Type 0 where
  pub alike : (o p : List ℕ) → (outcome es o t ≡ outcome es p t) ↔ (outcome es o s ≡ outcome es p s)
  pub ends : (o : List ℕ) → is_some (outcome es o t) ≡ is_some (outcome es o s)
  pub again : (o p : List ℕ) (u v : Tree) → outcome es o t ≡ Some u → outcome es o s ≡ Some v
      → (outcome es p u ≡ Some u) ↔ (outcome es p v ≡ Some v)
