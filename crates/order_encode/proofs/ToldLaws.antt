-- What cells tell of a wanted entry is whether the tree for which they stand has it.
use Rattle.std.proofs.Common.{◌≡◌, ◌≢◌, ℕ, ◌==◌, Bool, true, false, List, slice_get, Option, Some, None, IsSome, refl, sym, ap, ◌∙◌, eqb-true}
use Rattle.std.proofs.lemmas.Bool.{eq-eqb}
use Rattle.std.specs.Prelude.{◌↔◌, ◌&&◌, not}
use Rattle.std.specs.FinMap as map
use Rattle.fs_semantics.specs.FileTree.{Path, Entry, Folder, File, Link, Tree}
use Rattle.fs_interpreter.specs.Places.{Listed, IsTable, place_in, content_place}
use Rattle.fs_interpreter.specs.States.{Cell, State}
use Rattle.fs_interpreter.specs.Standing.{Tells, Stands}
use Rattle.wanted_entry.specs.declared.wanted.Wanted.{Wanted}
use Rattle.wanted_entry.specs.Entries.{HasEntry, HasWanted}
use Rattle.order_encode.specs.Told.{is_file_of, entry_told, told_at, wanted_told}

-- what is known of searches in a table
abbrev pub FindsPath : Type 0
FindsPath = (paths : List Path) (p : Path) (i : ℕ) → place_in paths p ≡ Some i → slice_get paths i ≡ Some p

-- a path that isn't found isn't there
abbrev pub FindsNoPath : Type 0
FindsNoPath = (paths : List Path) (p : Path) → place_in paths p ≡ None → (i : ℕ) → slice_get paths i ≢ Some p

-- the content that is found at a place is there
abbrev pub FindsContent : Type 0
FindsContent = (contents : List (List ℕ)) (c : List ℕ) (i : ℕ) → content_place contents c ≡ Some i → slice_get contents i ≡ Some c

-- a content that isn't found isn't there
abbrev pub FindsNoContent : Type 0
FindsNoContent = (contents : List (List ℕ)) (c : List ℕ) → content_place contents c ≡ None → (i : ℕ) → slice_get contents i ≢ Some c

-- each content stands once
abbrev Once : List (List ℕ) → Type 0
Once contents = (i j : ℕ) (c : List ℕ) → slice_get contents i ≡ Some c → slice_get contents j ≡ Some c → i ≡ j

-- ---- one cell

-- false says what can't be
never : {P : Type 0} → (P → ⊥) → (false ≡ true) ↔ P
never not_so = ((λ e. cc), (λ p. absurd (not_so p)))

-- a cell tells that something is there exactly where something is
some_told : (contents : List (List ℕ)) (c : Cell) (x : Option Entry) → Tells contents c x → (c.present ≡ true) ↔ IsSome x
some_told contents c None h = ((λ e. let bad : false ≡ true = sym h ∙ e in cc), (λ k. cc))
some_told contents c (Some Folder) h = ((λ e. refl), (λ k. h.0))
some_told contents c (Some (File content)) h = ((λ e. refl), (λ k. h.0))
some_told contents c (Some (Link target)) h = ((λ e. refl), (λ k. h.0))

-- the parts of what is told of a file
parts : (p f l e : Bool) → (p && ((not f && not l) && e)) ≡ true → (p ≡ true) × (f ≡ false) × (l ≡ false) × (e ≡ true)
parts true false false true h = (refl, refl, refl, refl)
parts true false false false h = cc
parts true false true e h = cc
parts true true l e h = cc
parts false f l e h = cc

-- a cell tells of a file with this number exactly where a file with that content is there
number_told : (contents : List (List ℕ)) (content : List ℕ) (n : ℕ) → Once contents → slice_get contents n ≡ Some content → (c : Cell) (x : Option Entry) → Tells contents c x
    → (is_file_of (Some n) c ≡ true) ↔ (x ≡ Some (File content))
number_told contents content n once is c None h = ((λ e. let bad : false ≡ true = sym h ∙ (parts c.present c.folder c.link (c.content == n) e).0 in cc), (λ k. cc))
number_told contents content n once is c (Some Folder) h = ((λ e. let bad : false ≡ true = sym (parts c.present c.folder c.link (c.content == n) e).1 ∙ h.1 in cc), (λ k. cc))
number_told contents content n once is c (Some (File held)) h = (
  (λ e.
      let same : c.content ≡ n = eqb-true c.content n (parts c.present c.folder c.link (c.content == n) e).3 in
      let got : ◌≡◌ {A = Option (List ℕ)} (Some held) (Some content) = sym h.3 ∙ ap (slice_get contents) same ∙ is in
      cc),
  (λ k.
      let same : held ≡ content = cc in
      let at = once c.content n content (h.3 ∙ ap (λ t. Some t) same) is in
      λ i. h.0 i && ((not (h.1 i) && not (h.2 i)) && (same_eq c.content n at i))),
)
  where
    same_eq : (a b : ℕ) → a ≡ b → (a == b) ≡ true
    same_eq a b e = eq-eqb a b e
number_told contents content n once is c (Some (Link target)) h = ((λ e. let bad : false ≡ true = sym (parts c.present c.folder c.link (c.content == n) e).2 ∙ h.2 in cc), (λ k. cc))

-- no cell tells of a file whose content isn't known
no_content : (contents : List (List ℕ)) (content : List ℕ) → ((i : ℕ) → slice_get contents i ≢ Some content) → (c : Cell) (x : Option Entry) → Tells contents c x → x ≡ Some (File content) → ⊥
no_content contents content absent c None h k = cc
no_content contents content absent c (Some Folder) h k = cc
no_content contents content absent c (Some (File held)) h k = let same : held ≡ content = cc in absent c.content (h.3 ∙ ap (λ t. Some t) same)
no_content contents content absent c (Some (Link target)) h k = cc

module _ (finds : FindsContent) (finds_not : FindsNoContent) (contents : List (List ℕ)) (once : Once contents) (c : Cell) (x : Option Entry) (tells : Tells contents c x) where
  -- a cell tells of a file with a content, if it has a number, exactly where such a file is there
  file_told : (content : List ℕ) (at : Option ℕ) → content_place contents content ≡ at → (is_file_of at c ≡ true) ↔ (x ≡ Some (File content))
  file_told content None e = never (no_content contents content (finds_not contents content e) c x tells)
  file_told content (Some n) e = number_told contents content n once (finds contents content n e) c x tells

-- ---- the entry

module _ (finds_path : FindsPath) (finds_no_path : FindsNoPath) (finds : FindsContent) (finds_not : FindsNoContent) (table : Listed) (is : IsTable table) (s : State) (u : Tree) (stands : Stands table s u) where
  -- the entry is told at a place exactly where the tree has it
  told_here : (p : Path) (content : Option (List ℕ)) (i : ℕ) → place_in table.paths p ≡ Some i → (entry_told table.contents content (s.cell i) ≡ true) ↔ HasEntry u p content
  told_here p None i e = some_told table.contents (s.cell i) (map.get u p) (stands.tells i p (finds_path table.paths p i e))
  told_here p (Some content) i e = file_told finds finds_not table.contents is.contents_once (s.cell i) (map.get u p) (stands.tells i p (finds_path table.paths p i e)) content (content_place table.contents content) refl

  -- where nothing stands the tree doesn't have the entry
  nothing_here : (p : Path) (content : Option (List ℕ)) → map.get u p ≡ None → HasEntry u p content → ⊥
  nothing_here p None none h = let bad : false ≡ true = ap (λ x. is_there x) (sym none) ∙ h in cc
    where
      is_there : Option Entry → Bool
      is_there None = false
      is_there (Some e) = true
  nothing_here p (Some content) none h = let bad : ◌≡◌ {A = Option Entry} None (Some (File content)) = sym none ∙ h in cc

  -- the entry is told at a place, if there is one, exactly where the tree has it
  at_place : (p : Path) (content : Option (List ℕ)) (at : Option ℕ) → place_in table.paths p ≡ at → (told_at table.contents content at s.cell ≡ true) ↔ HasEntry u p content
  at_place p content None e = never (nothing_here p content (stands.nothing_else p (finds_no_path table.paths p e)))
  at_place p content (Some i) e = told_here p content i e

  -- the wanted entry is told exactly where the tree has it
  pub wanted_is : (w : Wanted) → (wanted_told table w s.cell ≡ true) ↔ HasWanted u w
  wanted_is w = at_place w.path w.content (place_in table.paths w.path) refl
