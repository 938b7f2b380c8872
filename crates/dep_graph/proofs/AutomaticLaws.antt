-- The automatic edges that are made are those of the table.
use Rattle.std.proofs.Common.{◌≡◌, ℕ, ◌*◌, ◌≤◌, List, [], ◌∷◌, length, Bool, true, false, cond, Option, Some, None, refl, sym, ap, subst, ◌∙◌, arith}
use Rattle.std.specs.Prelude.{slice_get}
use Rattle.std.specs.List.{Contains}
use Rattle.std.specs.Str.{bytes_eq}
use Rattle.std.specs.Cmp.Lexicographic.{bytes_decides}
use Rattle.fs_semantics.specs.FileTree.{Path}
use Rattle.fs_semantics.specs.Disjoint.{IsAncestor}
use Rattle.catalog_semantics.specs.declared.catalog.Resource.{Resource}
use Rattle.catalog_semantics.specs.Catalogs.{Catalog}
use Rattle.graph_semantics.specs.Relations.{IsRelated}
use Rattle.graph_semantics.specs.Automatic.{IsPlainAt, IsFileAt, Manages, ComesAfter, named_by, name_of}
use Rattle.graph_semantics.specs.Graphs.{Start, Edge, plain_places}
use Rattle.dep_graph.specs.Named.{is_linked, kept_edge, kept_edges, is_proper, is_text, has_name, named_among, named_targets, targets_by_names, edges_by_names, named_edges}
use Rattle.dep_graph.specs.Files.{FilePath, IsFileAmong, AreFiles, nearest, nearest_places, file_edges}
use Rattle.dep_graph.specs.Whole.{AreLinks}
use Rattle.dep_graph.specs.declared.links.Link.{Link}
use Rattle.dep_graph.specs.declared.files.ManagedFile.{ManagedFile}
use Rattle.graph_semantics.proofs.Elements.{none_in, head_in, in_one, in_flat_map, flat_map_in, in_filter, filter_in}
use Rattle.graph_semantics.proofs.RealPlaces.{stands, plain_at, plain_in}
use Rattle.dep_graph.proofs.ContainerLaws.{IsEdge}
use Rattle.dep_graph.proofs.FrontLaws.{above_ancestor, ancestor_above}
use Rattle.dep_graph.proofs.NamedLaws.{proper_name, name_proper}
use Rattle.dep_graph.proofs.FileLaws.{farthest, nearest_least, near_from, near_in}
use Rattle.dep_graph.proofs.Related.{linked_related, related_linked}
use Rattle.graph_semantics.proofs.Basics.{no_way}
use Rattle.std.proofs.lemmas.Bool.{and_parts, and_from}
use Rattle.std.proofs.lemmas.Option.{same_Some}

-- ---- an edge that is kept

-- an edge that is kept is that one, and no relation stands to the target
kept_from : (links : List Link) (target place : ℕ) (t : Bool) (e : ℕ × ℕ) → is_linked links (2 * place) (2 * target) ≡ t → Contains (cond t [] ((2 * target, 2 * place) ∷ [])) e
    → (is_linked links (2 * place) (2 * target) ≡ false) × ((2 * target, 2 * place) ≡ e)
kept_from links target place true e is h = absurd (none_in e h)
kept_from links target place false e is h = (is, in_one (2 * target, 2 * place) e h)

-- an automatic edge, by numbers
automatic_edge : (c : Catalog) (links : List Link) → AreLinks c links → (place target : ℕ) (r : Resource) (e : ℕ × ℕ) → IsPlainAt c place r → ComesAfter c place target
    → Contains (kept_edge links target place) e → IsEdge c e
automatic_edge c links are place target r e plain after h =
    let kept = kept_from links target place (is_linked links (2 * place) (2 * target)) e refl h in
    let free : IsRelated c place target → ⊥ = λ related. no_way (sym kept.0 ∙ related_linked c links are place target r plain.real plain.plain related) in
    subst (IsEdge c) kept.1 (record {
      from = Start target;
      to = Start place;
      edge = Edge.automatic target place (record { after = after; free = free }) refl refl;
      from_is = refl;
      to_is = refl;
    })

-- where no relation stands to the target, the edge is kept
unlinked_kept : (links : List Link) (target place : ℕ) (t : Bool) → is_linked links (2 * place) (2 * target) ≡ t → (t ≡ true → ⊥) → Contains {X = ℕ × ℕ} (cond t [] ((2 * target, 2 * place) ∷ [])) (2 * target, 2 * place)
unlinked_kept links target place true is h = absurd (h refl)
unlinked_kept links target place false is h = head_in (2 * target, 2 * place) []

-- so it is where the catalog has none
pub kept_in : (c : Catalog) (links : List Link) → AreLinks c links → (place target : ℕ) → (IsRelated c place target → ⊥) → Contains (kept_edge links target place) (2 * target, 2 * place)
kept_in c links are place target free =
    unlinked_kept links target place (is_linked links (2 * place) (2 * target)) refl (λ h. free (linked_related c links are place target h))

-- ---- names

-- a plain resource that is told to have a name manages it
has_name_is : (c : Catalog) (kind name : List ℕ) (place : ℕ) (r : Resource) → IsPlainAt c place r → is_proper name ≡ true → has_name kind name (slice_get c.resources place) ≡ true → Manages c place kind name
has_name_is c kind name place r plain proper h =
    let here = ap (has_name kind name) (sym (stands c place r plain.real)) ∙ h in
    let both = and_parts (bytes_eq r.id.kind kind) (is_text name (name_of r)) here in
    record { resource = r; plain = plain; kind_is = (bytes_decides r.id.kind kind).0 both.0; name_is = text_is (name_of r) both.1; proper = proper_name name proper } where
      text_is : (o : Option (List ℕ)) → is_text name o ≡ true → o ≡ Some name
      text_is None e = absurd (no_way e)
      text_is (Some text) e = ap (λ (t : List ℕ). Some t) ((bytes_decides text name).0 e)

-- and one that manages it is told to have it
manages_has : (c : Catalog) (kind name : List ℕ) (place : ℕ) → Manages c place kind name → has_name kind name (slice_get c.resources place) ≡ true
manages_has c kind name place m =
    ap (has_name kind name) (stands c place m.resource m.plain.real)
    ∙ and_from (bytes_eq m.resource.id.kind kind) (is_text name (name_of m.resource)) ((bytes_decides m.resource.id.kind kind).1 m.kind_is)
    (ap (is_text name) m.name_is ∙ (bytes_decides name name).1 refl)

-- targets are those of a proper name
proper_targets : (c : Catalog) (plain : List ℕ) (who : List ℕ × List ℕ) (k : ℕ) (t : Bool) → is_proper who.1 ≡ t → Contains (cond t (named_among c who.0 who.1 plain) []) k
    → (is_proper who.1 ≡ true) × Contains (named_among c who.0 who.1 plain) k
proper_targets c plain who k true is h = (is, h)
proper_targets c plain who k false is h = absurd (none_in k h)

-- a resource comes after each target that it names
named_after : (c : Catalog) (place k : ℕ) (r : Resource) → IsPlainAt c place r → Contains (targets_by_names c (plain_places c) r) k → ComesAfter c place k
named_after c place k r plain h =
    let at = in_flat_map (named_targets c (plain_places c)) (named_by r) k h in
    let kind = at.0.0 in
    let name = at.0.1 in
    let found = proper_targets c (plain_places c) at.0 k (is_proper name) refl at.2 in
    let among = in_filter (λ p. has_name kind name (slice_get c.resources p)) (plain_places c) k found.1 in
    let target = plain_at c k among.0 in
    ComesAfter.named r kind name plain at.1 (has_name_is c kind name k target.0 target.1 found.0 among.1)

-- the edges from what a resource names are edges of the graph
by_names_from : (c : Catalog) (links : List Link) → AreLinks c links → (place : ℕ) (r : Resource) (e : ℕ × ℕ) → IsPlainAt c place r
    → Contains (edges_by_names c links (plain_places c) place (slice_get c.resources place)) e → IsEdge c e
by_names_from c links are place r e plain h =
    let here = subst (λ o. Contains (edges_by_names c links (plain_places c) place o) e) (stands c place r plain.real) h in
    let at = in_flat_map (λ target. kept_edge links target place) (targets_by_names c (plain_places c) r) e here in
    automatic_edge c links are place at.0 r e plain (named_after c place at.0 r plain at.1) at.2

-- so are those of all
pub named_from : (c : Catalog) (links : List Link) → AreLinks c links → (e : ℕ × ℕ) → Contains (named_edges c links (plain_places c) (plain_places c)) e → IsEdge c e
named_from c links are e h =
    let at = in_flat_map (λ place. edges_by_names c links (plain_places c) place (slice_get c.resources place)) (plain_places c) e h in
    let r = plain_at c at.0 at.1 in
    by_names_from c links are at.0 r.0 e r.1 at.2

-- and each such edge of the graph is made
pub named_in : (c : Catalog) (links : List Link) → AreLinks c links → (place target : ℕ) (r : Resource) (kind name : List ℕ) → IsPlainAt c place r → Contains (named_by r) (kind, name) → Manages c target kind name
    → (IsRelated c place target → ⊥) → Contains (named_edges c links (plain_places c) (plain_places c)) (2 * target, 2 * place)
named_in c links are place target r kind name plain names m free =
    let among = filter_in (λ p. has_name kind name (slice_get c.resources p)) (plain_places c) target (plain_in c target m.resource m.plain) (manages_has c kind name target m) in
    let proper : Contains (named_targets c (plain_places c) (kind, name)) target =
    subst (λ t. Contains (cond t (named_among c kind name (plain_places c)) []) target) (sym (name_proper name m.proper)) among in
    let targets = flat_map_in (named_targets c (plain_places c)) (named_by r) (kind, name) target names proper in
    let edges = flat_map_in (λ k. kept_edge links k place) (targets_by_names c (plain_places c) r) target (2 * target, 2 * place) targets (kept_in c links are place target free) in
    flat_map_in (λ p. edges_by_names c links (plain_places c) p (slice_get c.resources p)) (plain_places c) place (2 * target, 2 * place) (plain_in c place r plain)
    (subst (λ o. Contains (edges_by_names c links (plain_places c) place o) (2 * target, 2 * place)) (sym (stands c place r plain.real)) edges)

-- ---- files

-- a file among the plain resources is a managed file
file_at : (c : Catalog) (f : ManagedFile) → IsFileAmong c (plain_places c) f → IsFileAt c f.place f.path
file_at c f h =
    let r = plain_at c f.place h.place in
    let same = same_Some r.0 h.resource (sym (stands c f.place r.0 r.1.real) ∙ h.at) in
    let file = subst (λ (x : Resource). FilePath x f.path) (sym same) h.file in
    record { resource = r.0; plain = r.1; kind = file.kind; text = file.text; given = file.given; spelled = file.spelled; free = file.free }

-- a file of the catalog is among the files of the plain resources
at_file : (c : Catalog) (place : ℕ) (p : Path) → IsFileAt c place p → IsFileAmong c (plain_places c) (record { path = p; place = place })
at_file c place p h = record {
  place = plain_in c place h.resource h.plain;
  resource = h.resource;
  at = stands c place h.resource h.plain.real;
  file = record { kind = h.kind; text = h.text; given = h.given; spelled = h.spelled; free = h.free };
}

-- a file comes after the nearest files above it
file_after : (c : Catalog) (files : List ManagedFile) → AreFiles c (plain_places c) files → (f : ManagedFile) → Contains files f → (k : ℕ) → Contains (nearest_places files f.path) k → ComesAfter c f.place k
file_after c files are f among k h =
    let near = near_from (nearest files f.path) f.path files k h in
    let mine = file_at c f ((are f).0 among) in
    let other = subst (λ place. IsFileAt c place near.file.path) near.place (file_at c near.file ((are near.file).0 near.among)) in
    ComesAfter.ancestor f.path near.file.path mine other (above_ancestor near.file.path f.path near.above)
    (λ place o at above.
    let there = (are (record { path = o; place = place })).1 (at_file c place o at) in
    let most = farthest files f.path (record { path = o; place = place }) there (ancestor_above o f.path above) in
    let enough = near.near in
    omega arith)

-- the edges from the nearest files above are edges of the graph
pub file_from : (c : Catalog) (links : List Link) (files : List ManagedFile) → AreLinks c links → AreFiles c (plain_places c) files → (e : ℕ × ℕ) → Contains (file_edges links files) e → IsEdge c e
file_from c links files are files_are e h =
    let at = in_flat_map (λ f. kept_edges links f.place (nearest_places files f.path)) files e h in
    let kept = in_flat_map (λ target. kept_edge links target at.0.place) (nearest_places files at.0.path) e at.2 in
    let mine = file_at c at.0 ((files_are at.0).0 at.1) in
    automatic_edge c links are at.0.place kept.0 mine.resource e mine.plain (file_after c files files_are at.0 at.1 kept.0 kept.1) kept.2

-- and each such edge of the graph is made
pub file_in : (c : Catalog) (links : List Link) (files : List ManagedFile) → AreLinks c links → AreFiles c (plain_places c) files → (place target : ℕ) (p q : Path) → IsFileAt c place p → IsFileAt c target q
    → IsAncestor q p → ((other : ℕ) (o : Path) → IsFileAt c other o → IsAncestor o p → length o ≤ length q) → (IsRelated c place target → ⊥) → Contains (file_edges links files) (2 * target, 2 * place)
file_in c links files are files_are place target p q mine other above far free =
    let f : ManagedFile = record { path = p; place = place } in
    let g : ManagedFile = record { path = q; place = target } in
    let there = (files_are f).1 (at_file c place p mine) in
    let target_there = (files_are g).1 (at_file c target q other) in
    let near : nearest files p ≤ length q = nearest_least files p (length q)
    (λ x among is. far x.place x.path (file_at c x ((files_are x).0 among)) (above_ancestor x.path p is)) in
    let found = near_in (nearest files p) p files target (record { file = g; among = target_there; above = ancestor_above q p above; near = near; place = refl }) in
    flat_map_in (λ x. kept_edges links x.place (nearest_places files x.path)) files f (2 * target, 2 * place) there
    (flat_map_in (λ k. kept_edge links k place) (nearest_places files p) target (2 * target, 2 * place) found (kept_in c links are place target free))
