-- Footprints by number, and whether one is clear of another.
use Rattle.std.proofs.Common.{◌≡◌, ◌⊎◌, ℕ, zero, suc, ◌<◌, Bool, false, not, ◌&&◌, ◌||◌, List, [], ◌∷◌, ◌++◌, map, length, get_or, Option, Some, None, inl, inr, refl, sym, ap, subst, ◌∙◌, arith}
use Rattle.std.specs.Prelude.{slice_get}
use Rattle.std.specs.List.{list_any}
use Rattle.std.specs.BTreeMap.{BTreeMap}
use Rattle.fs_semantics.specs.FileTree.{Path}
use Rattle.fs_semantics.specs.Programs.{Program, Id}
use Rattle.fs_lang.specs.declared.program.Program.{Program as CodeProgram}
use Rattle.fs_lang.specs.Meaning.{program_of}
use Rattle.commute_prune.specs.declared.numbered.Numbered.{Numbered}
use Rattle.commute_prune.specs.Numbers.{Extends, has, any_marked}
use Rattle.commute_prune.specs.Numbered.{clear_by_marks, shares, is_clear, StandsFor, AreOf}
use Rattle.commute_prune.proofs.NumberLaws.{still_numbers}

-- what is there twice is one
of_some : {x y : Numbered} → ◌≡◌ {A = Option Numbered} (Some x) (Some y) → x ≡ y
of_some e = cc

-- what stands at a place of a longer list
pub get_last : (xs : List Numbered) (y : Numbered) (i : ℕ) (x : Numbered) → slice_get (xs ++ y ∷ []) i ≡ Some x → (slice_get xs i ≡ Some x) ⊎ ((i ≡ length xs) × (y ≡ x))
get_last [] y zero x h = inr (refl, of_some h)
get_last [] y (suc i) x h = let no : ◌≡◌ {A = Option Numbered} None (Some x) = h in cc
get_last (z ∷ xs) y zero x h = inl h
get_last (z ∷ xs) y (suc i) x h = elim (get_last xs y i x h) [
  | inl old ↦ inl old
  | inr new ↦ inr (omega (arith, new.0), new.1)
]

-- the program at a place is what the code's program there means
pub map_at : (es : List CodeProgram) (i : ℕ) (e : CodeProgram) → i < length es → e ≡ get_or es i e → get_or (map program_of es) i Id ≡ program_of e
map_at [] i e h is = absurd (omega arith)
map_at (x ∷ es) zero e h is = ap program_of (sym is)
map_at (x ∷ es) (suc i) e h is = map_at es i e (omega arith) is

-- the sets of a program are its sets still when more paths have numbers
still_sets : (m more : BTreeMap Path ℕ) (e : Program) (x : Numbered) → Extends m more → StandsFor m e x → StandsFor more e x
still_sets m more e x k s = (
  s.0,
  s.1,
  record {
    reads = still_numbers m more _ _ k s.2.reads;
    writes = still_numbers m more _ _ k s.2.writes;
    folders = still_numbers m more _ _ k s.2.folders;
    children = still_numbers m more _ _ k s.2.children;
    parents = still_numbers m more _ _ k s.2.parents;
    sure = still_numbers m more _ _ k s.2.sure;
  },
  s.3,
)

-- the sets of one program more
pub one_more_of : (m more : BTreeMap Path ℕ) (es : List Program) (xs : List Numbered) (y : Numbered) (n : ℕ) → Extends m more → length xs ≡ n → AreOf m es xs → StandsFor more (get_or es n Id) y
    → AreOf more es (xs ++ y ∷ [])
one_more_of m more es xs y n k long are new i x h = elim (get_last xs y i x h) [
  | inl old ↦ still_sets m more (get_or es i Id) x k (are i x old)
  | inr last ↦ subst (λ j. StandsFor more (get_or es j Id) x) (sym (last.0 ∙ long)) (subst (StandsFor more (get_or es n Id)) last.1 new)
]

-- no sets are those of no programs
pub none_of : (m : BTreeMap Path ℕ) (es : List Program) → AreOf m es []
none_of m es i x h = let no : ◌≡◌ {A = Option Numbered} None (Some x) = h in cc

-- a list of numbers has a marked one exactly where it shares one with those that are marked
marks_share : (marks : List Bool) (ns : List ℕ) → ((n : ℕ) → get_or marks n false ≡ has n ns) → (ks : List ℕ) → any_marked marks ks ≡ shares ns ks
marks_share marks ns h ks = ap (λ (f : ℕ → Bool). list_any f ks) (λ i n. h n i)

-- marks tell the same as numbers
pub marks_clear : (w d p : List Bool) (f : Numbered) → ((n : ℕ) → get_or w n false ≡ has n f.writes.items) → ((n : ℕ) → get_or d n false ≡ has n f.folders.items)
    → ((n : ℕ) → get_or p n false ≡ has n f.parents.items) → clear_by_marks w d p ≡ is_clear f
marks_clear w d p f hw hd hp = λ i g.
    not (marks_share w f.writes.items hw g.reads.items i || marks_share w f.writes.items hw g.writes.items i || marks_share w f.writes.items hw g.folders.items i)
    && not (marks_share d f.folders.items hd g.reads.items i) && not (marks_share p f.parents.items hp g.children.items i)
