-- Sets of segments.
use Rattle.std.specs.Prelude.{ℕ, Bool, ◌||◌, List, String}
use Rattle.std.specs.BTreeSet.{BTreeSet, contains_text}
use Rattle.finite_domain.specs.Domains.{text_eq}

-- a set of texts, by its test
abbrev pub Texts : Type 0
Texts = List ℕ → Bool

-- the texts of an ordered set
abbrev pub texts_in : {Y : Type 0} → BTreeSet (String Y) → Texts
texts_in s c = contains_text s c

-- the set with one text more
abbrev pub with_text : List ℕ → Texts → Texts
with_text c f d = text_eq d c || f d
