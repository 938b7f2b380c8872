-- One outcome for what cells tell.
use Rattle.std.proofs.Common.{◌≡◌, ℕ, Bool, true, false, List, Option, Some, None, slice_get, refl, sym, ap, ◌∙◌}
use Rattle.std.specs.FinMap as map
use Rattle.fs_semantics.specs.FileTree.{Tree, Entry, Folder, File, Link}
use Rattle.fs_semantics.specs.Programs.{Outcome}
use Rattle.fs_semantics.proofs.Words.{same_tree}
use Rattle.fs_interpreter.specs.Places.{Listed, place_in}
use Rattle.fs_interpreter.specs.States.{Cell, State}
use Rattle.fs_interpreter.specs.Standing.{Tells, Stands, StandsFor}
use Rattle.fs_interpreter.proofs.SearchLaws.{place_there, place_nowhere}

-- nothing is both true and false
both : (b : Bool) → b ≡ true → b ≡ false → ⊥
both b t f = let no : ◌≡◌ {A = Bool} true false = sym t ∙ f in cc

-- what is there twice is one
one_text : (o : Option (List ℕ)) (a b : List ℕ) → o ≡ Some a → o ≡ Some b → a ≡ b
one_text o a b h k = let two : ◌≡◌ {A = Option (List ℕ)} (Some a) (Some b) = sym h ∙ k in cc

-- a cell tells of one entry only
pub one_entry : (contents : List (List ℕ)) (c : Cell) (x y : Option Entry) → Tells contents c x → Tells contents c y → x ≡ y
one_entry contents c None None h k = refl
one_entry contents c None (Some Folder) h k = absurd (both c.present k.0 h)
one_entry contents c None (Some (File b)) h k = absurd (both c.present k.0 h)
one_entry contents c None (Some (Link b)) h k = absurd (both c.present k.0 h)
one_entry contents c (Some Folder) None h k = absurd (both c.present h.0 k)
one_entry contents c (Some Folder) (Some Folder) h k = refl
one_entry contents c (Some Folder) (Some (File b)) h k = absurd (both c.folder h.1 k.1)
one_entry contents c (Some Folder) (Some (Link b)) h k = absurd (both c.folder h.1 k.1)
one_entry contents c (Some (File a)) None h k = absurd (both c.present h.0 k)
one_entry contents c (Some (File a)) (Some Folder) h k = absurd (both c.folder k.1 h.1)
one_entry contents c (Some (File a)) (Some (File b)) h k = ap (λ t. Some (File t)) (one_text (slice_get contents c.content) a b h.3 k.3)
one_entry contents c (Some (File a)) (Some (Link b)) h k = absurd (both c.link k.2 h.2)
one_entry contents c (Some (Link a)) None h k = absurd (both c.present h.0 k)
one_entry contents c (Some (Link a)) (Some Folder) h k = absurd (both c.folder k.1 h.1)
one_entry contents c (Some (Link a)) (Some (File b)) h k = absurd (both c.link h.2 k.2)
one_entry contents c (Some (Link a)) (Some (Link b)) h k = ap (λ t. Some (Link t)) (one_text (slice_get contents c.content) a b h.3 k.3)

-- what cells tell stands for one tree only
one_tree : (table : Listed) (s : State) (t u : Tree) → Stands table s t → Stands table s u → t ≡ u
one_tree table s t u a b = same_tree t u (λ p. elim (place_in table.paths p) as (λ o. place_in table.paths p ≡ o → map.get t p ≡ map.get u p) [
  | None ↦ λ e. a.nothing_else p (place_nowhere table.paths p e) ∙ sym (b.nothing_else p (place_nowhere table.paths p e))
  | Some i ↦ λ e. one_entry table.contents (s.cell i) (map.get t p) (map.get u p) (a.tells i p (place_there table.paths p i e)) (b.tells i p (place_there table.paths p i e))
] refl)

-- what cells tell stands for one outcome only
pub one_outcome : (table : Listed) (s : State) (o u : Outcome) → StandsFor table s o → StandsFor table s u → o ≡ u
one_outcome table s None None h k = refl
one_outcome table s None (Some u) h k = absurd (both s.error h k.no_error)
one_outcome table s (Some t) None h k = absurd (both s.error k h.no_error)
one_outcome table s (Some t) (Some u) h k = ap Some (one_tree table s t u h k)
