-- Files, the nearest file above, and bounds.
use Rattle.std.proofs.Common.{◌≡◌, ℕ, ◌≤◌, List, [], ◌∷◌, ◌++◌, length, Bool, true, false, cond, max, Option, Some, None, ◌⊎◌, inl, inr, refl, sym, ap, subst, ◌∙◌, arith, leb-true, le-leb}
use Rattle.std.specs.Prelude.{slice_get, nat_le}
use Rattle.std.specs.List.{Contains, All}
use Rattle.std.proofs.lemmas.List.Elements.{All-contains, Contains-append_left, Contains-push, Contains-push_cases}
use Rattle.fs_semantics.specs.FileTree.{Path}
use Rattle.fs_lang.specs.PathText.{IsPathText}
use Rattle.catalog_semantics.specs.declared.catalog.Resource.{Resource}
use Rattle.catalog_semantics.specs.Catalogs.{Catalog}
use Rattle.dep_graph.specs.Files.{FilePath, FilePathIs, IsFileAmong, AreFiles, is_above, nearest, is_nearest, places_above, nearest_places}
use Rattle.dep_graph.specs.declared.files.ManagedFile.{ManagedFile}
use Rattle.graph_semantics.proofs.Elements.{either_way, none_in, head_in, tail_in, in_cases}
use Rattle.dep_graph.proofs.NamedLaws.{all_from}
use Rattle.graph_semantics.proofs.Basics.{no_way}
use Rattle.std.proofs.lemmas.Bool.{and_parts, and_from}
use Rattle.std.proofs.lemmas.Option.{same_Some}

-- a text spells one path at most
abbrev pub OnePath : Type 0
OnePath = (text : List ℕ) (p q : Path) → IsPathText text p → IsPathText text q → p ≡ q

-- a resource is a file of one path at most
pub one_file : OnePath → (r : Resource) (p q : Path) → FilePath r p → FilePath r q → p ≡ q
one_file once r p q h k = once h.text p q h.spelled (subst (λ t. IsPathText t q) (same_Some k.text h.text (sym k.given ∙ h.given)) k.spelled)

-- ---- one more place

-- a file among some places is among more
among_more : (c : Catalog) (places : List ℕ) (place : ℕ) (f : ManagedFile) → IsFileAmong c places f → IsFileAmong c (places ++ place ∷ []) f
among_more c places place f h =
    record { place = Contains-append_left places (place ∷ []) f.place h.place; resource = h.resource; at = h.at; file = h.file }

-- a file that is among one place more is among those before, or stands there
among_cases : (c : Catalog) (places : List ℕ) (place : ℕ) (f : ManagedFile) → IsFileAmong c (places ++ place ∷ []) f → IsFileAmong c places f ⊎ (place ≡ f.place)
among_cases c places place f h =
    either_way (λ k. inl (record { place = k; resource = h.resource; at = h.at; file = h.file })) (λ e. inr e) (Contains-push_cases places place f.place h.place)

-- nothing stands there
pub no_resource : (c : Catalog) (places : List ℕ) (place : ℕ) (files : List ManagedFile) → slice_get c.resources place ≡ None → AreFiles c places files → AreFiles c (places ++ place ∷ []) files
no_resource c places place files none are f = (
  λ m. among_more c places place f ((are f).0 m),
  λ h. either_way (λ k. (are f).1 k) (λ e. absurd (none_some h.resource (sym none ∙ ap (slice_get c.resources) e ∙ h.at))) (among_cases c places place f h),
) where
  none_some : (r : Resource) → ◌≡◌ {A = Option Resource} None (Some r) → ⊥
  none_some r h = cc

-- what stands there is no file
pub no_file : (c : Catalog) (places : List ℕ) (place : ℕ) (files : List ManagedFile) (r : Resource) → slice_get c.resources place ≡ Some r → FilePathIs r None → AreFiles c places files
    → AreFiles c (places ++ place ∷ []) files
no_file c places place files r here none are f = (
  λ m. among_more c places place f ((are f).0 m),
  λ h. either_way (λ k. (are f).1 k)
      (λ e. absurd (none f.path (subst (λ (q : Resource). FilePath q f.path) (same_Some h.resource r (sym h.at ∙ sym (ap (slice_get c.resources) e) ∙ here)) h.file)))
      (among_cases c places place f h),
)

-- files of one path and one place are one
same_file : (f g : ManagedFile) → f.path ≡ g.path → f.place ≡ g.place → f ≡ g
same_file f g p q = λ i. record { path = p i; place = q i }

-- a file stands there
pub one_more_file : OnePath → (c : Catalog) (places : List ℕ) (files : List ManagedFile) (g : ManagedFile) (r : Resource) → slice_get c.resources g.place ≡ Some r → FilePath r g.path
    → AreFiles c places files → AreFiles c (places ++ g.place ∷ []) (files ++ g ∷ [])
one_more_file once c places files g r here file are f = (
  λ m. either_way (λ k. among_more c places g.place f ((are f).0 k))
      (λ e. subst (IsFileAmong c (places ++ g.place ∷ [])) e (record { place = Contains-push places g.place; resource = r; at = here; file = file }))
      (Contains-push_cases files g f m),
  λ h. either_way (λ k. Contains-append_left files (g ∷ []) f ((are f).1 k))
      (λ e.
      let same_resource : h.resource ≡ r = same_Some h.resource r (sym h.at ∙ sym (ap (slice_get c.resources) e) ∙ here) in
      let path : g.path ≡ f.path = one_file once r g.path f.path file (subst (λ (q : Resource). FilePath q f.path) same_resource h.file) in
      subst (Contains (files ++ g ∷ [])) (same_file g f path e) (Contains-push files g))
      (among_cases c places g.place f h),
)

-- ---- the nearest above

-- a file above isn't farther than the nearest
nearest_step : (f : ManagedFile) (p : Path) (t : Bool) (n : ℕ) → is_above f.path p ≡ t → t ≡ true → length f.path ≤ cond t (max (length f.path) n) n
nearest_step f p true n is h = omega arith
nearest_step f p false n is h = absurd (no_way h)

-- nor is one that isn't farther than the nearest of the others
nearest_later : (m : ℕ) (t : Bool) (n k : ℕ) → k ≤ n → k ≤ cond t (max m n) n
nearest_later m true n k h = omega (arith, h)
nearest_later m false n k h = h

-- none of the files above has more segments than the nearest
pub farthest : (files : List ManagedFile) (p : Path) (f : ManagedFile) → Contains files f → is_above f.path p ≡ true → length f.path ≤ nearest files p
farthest [] p f h a = absurd (none_in f h)
farthest (g ∷ files) p f h a =
    either_way
    (λ e. subst (λ (x : ManagedFile). length x.path ≤ cond (is_above g.path p) (max (length g.path) (nearest files p)) (nearest files p)) e
    (nearest_step g p (is_above g.path p) (nearest files p) refl (ap (λ (x : ManagedFile). is_above x.path p) e ∙ a)))
    (λ k. nearest_later (length g.path) (is_above g.path p) (nearest files p) (length f.path) (farthest files p f k a))
    (in_cases g f files h)

-- what none of the files above exceeds, the nearest doesn't
pub nearest_least : (files : List ManagedFile) (p : Path) (n : ℕ) → ((f : ManagedFile) → Contains files f → is_above f.path p ≡ true → length f.path ≤ n) → nearest files p ≤ n
nearest_least [] p n h = omega arith
nearest_least (f ∷ files) p n h = step (is_above f.path p) refl (nearest_least files p n (λ g k. h g (tail_in f g files k))) where
  step : (t : Bool) → is_above f.path p ≡ t → nearest files p ≤ n → cond t (max (length f.path) (nearest files p)) (nearest files p) ≤ n
  step true is rest = let here = h f (head_in f files) is in omega arith
  step false is rest = rest

-- ---- the places of the nearest files

-- a file at the place is above the path, with so many segments or more
pub record IsNear (n : ℕ) (p : Path) (files : List ManagedFile) (k : ℕ) : Type 0 where
  pub file : ManagedFile
  pub among : Contains files file
  pub above : is_above file.path p ≡ true
  pub near : n ≤ length file.path
  pub place : file.place ≡ k

-- a place that is kept is that of a near file, here or further on
near_step : (n : ℕ) (p : Path) (f : ManagedFile) (files : List ManagedFile) (k : ℕ) (t : Bool) → is_nearest n p f.path ≡ t → (Contains (places_above n p files) k → IsNear n p files k)
    → Contains (cond t (f.place ∷ places_above n p files) (places_above n p files)) k → IsNear n p (f ∷ files) k
near_step n p f files k true is rest h =
    let both = and_parts (is_above f.path p) (nat_le n (length f.path)) is in
    either_way (λ e. record { file = f; among = head_in f files; above = both.0; near = leb-true n (length f.path) both.1; place = e })
    (λ m. let r = rest m in record { file = r.file; among = tail_in f r.file files r.among; above = r.above; near = r.near; place = r.place })
    (in_cases f.place k (places_above n p files) h)
near_step n p f files k false is rest h = let r = rest h in record { file = r.file; among = tail_in f r.file files r.among; above = r.above; near = r.near; place = r.place }

-- each place that is kept is that of a near file
pub near_from : (n : ℕ) (p : Path) (files : List ManagedFile) (k : ℕ) → Contains (places_above n p files) k → IsNear n p files k
near_from n p [] k h = absurd (none_in k h)
near_from n p (f ∷ files) k h = near_step n p f files k (is_nearest n p f.path) refl (near_from n p files k) h

-- a near file has its place kept
first_near : (t : Bool) (k : ℕ) (rest : List ℕ) → t ≡ true → Contains (cond t (k ∷ rest) rest) k
first_near true k rest h = head_in k rest
first_near false k rest h = absurd (no_way h)

-- so have those further on
later_near : (t : Bool) (j k : ℕ) (rest : List ℕ) → Contains rest k → Contains (cond t (j ∷ rest) rest) k
later_near true j k rest h = tail_in j k rest h
later_near false j k rest h = h

-- the place of each near file is kept
pub near_in : (n : ℕ) (p : Path) (files : List ManagedFile) (k : ℕ) → IsNear n p files k → Contains (places_above n p files) k
near_in n p [] k h = absurd (none_in h.file h.among)
near_in n p (f ∷ files) k h =
    either_way
    (λ e.
    let here : is_nearest n p f.path ≡ true = ap (λ (x : ManagedFile). is_nearest n p x.path) e ∙ and_from (is_above h.file.path p) (nat_le n (length h.file.path)) h.above (le-leb n (length h.file.path) h.near) in
    subst (Contains (places_above n p (f ∷ files))) (ap (λ (x : ManagedFile). x.place) e ∙ h.place) (first_near (is_nearest n p f.path) f.place (places_above n p files) here))
    (λ m. later_near (is_nearest n p f.path) f.place k (places_above n p files) (near_in n p files k (record { file = h.file; among = m; above = h.above; near = h.near; place = h.place })))
    (in_cases f h.file files h.among)

-- what holds of the place of each file holds of those of the nearest
pub places_bounded : (P : ℕ → Type 0) (files : List ManagedFile) (p : Path) → All (λ f. P f.place) files → All P (nearest_places files p)
places_bounded P files p h =
    all_from P (nearest_places files p) (λ k m. let r = near_from (nearest files p) p files k m in subst P r.place (All-contains (λ f. P f.place) files r.file h r.among))
