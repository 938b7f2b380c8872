-- Whether a tree has an entry is decided; and graphs that ensure one.
use Rattle.std.proofs.Common.{◌≡◌, ◌⊎◌, ℕ, List, Option, Some, None, inl, inr, refl, ap}
use Rattle.std.proofs.lemmas.Bool.{cases_Bool, both_ways}
use Rattle.std.specs.Prelude.{◌↔◌, IsSome}
use Rattle.std.specs.FinMap as map
use Rattle.fs_semantics.specs.FileTree.{Path, Entry, Folder, File, Link, Tree}
use Rattle.fs_semantics.specs.Programs.{Program}
use Rattle.finite_domain.specs.Domains.{text_eq}
use Rattle.finite_domain.proofs.Texts.{text_same, text_itself}
use Rattle.wanted_entry.specs.declared.wanted.Wanted.{Wanted}
use Rattle.wanted_entry.specs.Entries.{HasEntry, HasWanted, Ensures, EndsWithout}

-- it holds or it doesn't
abbrev Decided : Type 0 → Type 0
Decided P = P ⊎ (P → ⊥)

-- files have the same content or not
same_file : (c d : List ℕ) → Decided (◌≡◌ {A = Option Entry} (Some (File c)) (Some (File d)))
same_file c d = elim (cases_Bool (text_eq c d)) [
  | inl is ↦ inl (ap (λ x. Some (File x)) (text_same c d is))
  | inr other ↦ inr (λ h. both_ways _ other (text_itself c d (cc)))
]

-- an entry is a file of this content or not
file_decided : (x : Option Entry) (d : List ℕ) → Decided (x ≡ Some (File d))
file_decided None d = inr (λ h. cc)
file_decided (Some Folder) d = inr (λ h. cc)
file_decided (Some (File c)) d = same_file c d
file_decided (Some (Link c)) d = inr (λ h. cc)

-- something is there or nothing
some_decided : (x : Option Entry) → Decided (IsSome x)
some_decided None = inr (λ h. cc)
some_decided (Some e) = inl refl

-- a tree has an entry with this content at the path or not
entry_decided : (u : Tree) (p : Path) (content : Option (List ℕ)) → Decided (HasEntry u p content)
entry_decided u p None = some_decided (map.get u p)
entry_decided u p (Some content) = file_decided (map.get u p) content

-- a tree has the wanted entry or not
pub wanted_decided : (u : Tree) (w : Wanted) → Decided (HasWanted u w)
wanted_decided u w = entry_decided u w.path w.content

-- what is decided, and can't fail, holds
had : (P : Type 0) → Decided P → ((P → ⊥) → ⊥) → P
had P (inl p) h = p
had P (inr n) h = absurd (h n)

-- a graph ensures an entry exactly where no run ends in a tree without it
pub ensures_exactly : (es : List Program) (before : ℕ → ℕ → Type 0) (w : Wanted) → Ensures es before w ↔ ((t : Tree) (o : List ℕ) → EndsWithout es before w t o → ⊥)
ensures_exactly es before w = (
  (λ all t o e. e.misses (all t e.is_tree o e.allowed e.after e.ends)),
  (λ none t tree o allowed u ends. had (HasWanted u w) (wanted_decided u w) (λ misses. none t o (record { is_tree = tree; allowed = allowed; after = u; ends = ends; misses = misses }))),
)
