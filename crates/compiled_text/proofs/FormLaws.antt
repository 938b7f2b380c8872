-- What is read of a text is what its form says, both ways.
use Rattle.std.proofs.Common.{◌≡◌, ◌≢◌, inl, inr, ℕ, suc, ◌<◌, ℤ, Bool, true, true≢false, cond, ◌&&◌, List, [], ◌∷◌, length, map, Option, Some, None, option_map, codes, refl, sym, ap, ap₂, subst, ◌∙◌, eqb-true}
use Rattle.std.specs.List.{AllByRecursion}
use Rattle.std.proofs.lemmas.Option.{slice_get_within, none-some, same_Some}
use Rattle.serde_json.specs.Data.{Data, Num, null, boolean, number, string, array, object, unsigned, negative, float, Items, no_items, item}
use Rattle.serde_json.specs.Find.{get, as_object, as_array, as_str, as_number, as_i64, as_u64}
use Rattle.rh_base.specs.Reading.{◌>>=◌}
use Rattle.pp_value.specs.declared.value.Ref.{Ref}
use Rattle.pp_value.specs.Values.{Pair}
use Rattle.pp_eval.specs.References.{ref_of}
use Rattle.compiled_text.specs.declared.catalog.CompiledResource.{CompiledResource}
use Rattle.compiled_text.specs.declared.catalog.Containment.{Containment}
use Rattle.compiled_text.specs.Values.{pairs_of}
use Rattle.compiled_text.specs.Compiled.{Compiled, ids_of, AreDistinct, counts_as, is_container_at, IsContainment, IsSound}
use Rattle.compiled_text.specs.Form.{AreParameters, IsFile, IsLine, IsResource, AreResources, Names, IsEdge, AreEdges, IsCompiled}
use Rattle.compiled_text.specs.Reading.{is_type, is_empty, reference_of, place_of, text_at, if_titled, id_with, id_of, parameters_in, file_in, line_in, resource_with, resource_of, resources_of, are_new, place_named, place_at, edge_with, edge_of, edges_of, are_free, is_two, has_format, items_at, compiled_with, compiled_behind, compiled_of}
use Rattle.compiled_text.proofs.Steps.{number_found, text_member, items_member}
use Rattle.compiled_text.proofs.TypeLaws.{type_where}
use Rattle.compiled_text.proofs.BracketLaws.{not_empty, empty_not, reference_read, reference_back}
use Rattle.compiled_text.proofs.RefLaws.{place_stands, stands_place, new_where}
use Rattle.compiled_text.proofs.HolderLaws.{once_where}
use Rattle.rh_base.proofs.Options.{bind_some, map_some, if_some, unless_some, bind_goes}
use Rattle.std.proofs.lemmas.Bool.{and_parts}
use Rattle.json_parts.proofs.DataLaws.{object_is}

-- ---- what a resource has

-- a text at a key of an object is read
text_back : (key text : List ℕ) (d : Data) → get key d ≡ Some (string text) → text_at key d ≡ Some text
text_back key text d h = ap (λ o. o >>= as_str) h

-- a reference that is read is that of a type and a title that isn't empty
id_by : (type_text title_text : List ℕ) (id : Ref) → id_with type_text title_text ≡ Some id → (is_type type_text ≡ true) × (id.title ≢ []) × (id ≡ ref_of type_text title_text)
id_by type_text title_text id h =
    let is = if_some (is_type type_text) (if_titled (ref_of type_text title_text)) id h in
    let titled = unless_some (is_empty (ref_of type_text title_text).title) (Some (ref_of type_text title_text)) id is.1 in
    let same = same_Some (ref_of type_text title_text) id titled.1 in
    (is.0, subst (λ r. r.title ≢ []) same (not_empty (ref_of type_text title_text).title titled.0), sym same)

-- and that of such is read
id_back : (type_text title_text : List ℕ) (id : Ref) → is_type type_text ≡ true → id.title ≢ [] → id ≡ ref_of type_text title_text → id_with type_text title_text ≡ Some id
id_back type_text title_text id is titled same =
    ap (λ t. cond t (if_titled (ref_of type_text title_text)) None) is
    ∙ (ap if_titled (sym same) ∙ ap (λ t. cond t None (Some id)) (empty_not id.title titled))

-- what is read as parameters is those of an object, or none
parameters_are : (o : Option Data) (pairs : List Pair) → parameters_in o ≡ Some pairs → AreParameters pairs o
parameters_are None pairs h = sym (same_Some [] pairs h)
parameters_are (Some d) pairs h = let members = map_some pairs_of (as_object d) pairs h in (members.0, object_is d members.0 members.1, sym members.2)

-- and those are read
parameters_back : (o : Option Data) (pairs : List Pair) → AreParameters pairs o → parameters_in o ≡ Some pairs
parameters_back None pairs h = ap (λ ps. Some ps) (sym h)
parameters_back (Some d) pairs h = ap (λ e. option_map pairs_of (as_object e)) h.1 ∙ ap (λ ps. Some ps) (sym h.2)

-- what is read as a file is a text, null or nothing
file_is : (o : Option Data) (file : Option (List ℕ)) → file_in o ≡ Some file → IsFile file o
file_is None file h = sym (same_Some None file h)
file_is (Some null) file h = inl (refl, sym (same_Some None file h))
file_is (Some (boolean b)) file h = absurd (none-some file h)
file_is (Some (number n)) file h = absurd (none-some file h)
file_is (Some (string text)) file h = inr (text, refl, sym (same_Some (Some text) file h))
file_is (Some (array items)) file h = absurd (none-some file h)
file_is (Some (object _)) file h = absurd (none-some file h)

-- and those are read
file_back : (o : Option Data) (file : Option (List ℕ)) → IsFile file o → file_in o ≡ Some file
file_back None file h = ap (λ f. Some f) (sym h)
file_back (Some d) file (inl h) = ap (λ e. file_in (Some e)) h.0 ∙ ap (λ f. Some f) (sym h.1)
file_back (Some d) file (inr h) = ap (λ e. file_in (Some e)) h.1 ∙ ap (λ f. Some f) (sym h.2)

-- what is read as a line is a whole number, null or nothing
line_is : (o : Option Data) (line : Option ℤ) → line_in o ≡ Some line → IsLine line o
line_is None line h = sym (same_Some None line h)
line_is (Some null) line h = inl (refl, sym (same_Some None line h))
line_is (Some (boolean b)) line h = absurd (none-some line h)
line_is (Some (number n)) line h = let z = map_some (λ z. Some z) (as_i64 n) line h in inr (n, z.0, refl, z.1, sym z.2)
line_is (Some (string text)) line h = absurd (none-some line h)
line_is (Some (array items)) line h = absurd (none-some line h)
line_is (Some (object _)) line h = absurd (none-some line h)

-- and those are read
line_back : (o : Option Data) (line : Option ℤ) → IsLine line o → line_in o ≡ Some line
line_back None line h = ap (λ n. Some n) (sym h)
line_back (Some d) line (inl h) = ap (λ e. line_in (Some e)) h.0 ∙ ap (λ n. Some n) (sym h.1)
line_back (Some d) line (inr h) = ap (λ e. line_in (Some e)) h.2 ∙ (ap (option_map (λ z. Some z)) h.3 ∙ ap (λ n. Some n) (sym h.4))

-- ---- resources

-- the resource, once its parameters are read
abbrev behind_parameters : Data → List ℕ → Option ℤ → Ref → List Pair → Option CompiledResource
behind_parameters d kind line id parameters = option_map (resource_with kind line id parameters) (file_in (get (codes "file") d))

-- the resource, once its reference is
abbrev behind_id : Data → List ℕ → Option ℤ → Ref → Option CompiledResource
behind_id d kind line id = parameters_in (get (codes "parameters") d) >>= behind_parameters d kind line id

-- the resource, once its line is
abbrev behind_line : Data → List ℕ → Option ℤ → Option CompiledResource
behind_line d kind line = id_of d >>= behind_id d kind line

-- the resource, once its kind is
abbrev behind_kind : Data → List ℕ → Option CompiledResource
behind_kind d kind = line_in (get (codes "line") d) >>= behind_line d kind

-- its reference, once its type is read
abbrev behind_type : Data → List ℕ → Option Ref
behind_type d type_text = text_at (codes "title") d >>= id_with type_text

-- the parts that are read make the resource of an object
resource_stands : (d : Data) (kind : List ℕ) (line : Option ℤ) (id : Ref) (parameters : List Pair) (file : Option (List ℕ)) → text_at (codes "kind") d ≡ Some kind → line_in (get (codes "line") d) ≡ Some line → id_of d ≡ Some id
    → parameters_in (get (codes "parameters") d) ≡ Some parameters → file_in (get (codes "file") d) ≡ Some file → IsResource (resource_with kind line id parameters file) d
resource_stands d kind line id parameters file is_kind is_line is_id are_parameters is_file =
    let type_text = bind_some (text_at (codes "type") d) (behind_type d) id is_id in
    let title_text = bind_some (text_at (codes "title") d) (id_with type_text.0) id type_text.2 in
    let parts = id_by type_text.0 title_text.0 id title_text.2 in record {
      type_text = type_text.0;
      has_type = text_member (get (codes "type") d) type_text.0 type_text.1;
      is_type = (type_where type_text.0).0 parts.0;
      title_text = title_text.0;
      has_title = text_member (get (codes "title") d) title_text.0 title_text.1;
      names = parts.2;
      titled = parts.1;
      kind = kind;
      has_kind = text_member (get (codes "kind") d) kind is_kind;
      container = refl;
      parameters = parameters_are (get (codes "parameters") d) parameters are_parameters;
      file = file_is (get (codes "file") d) file is_file;
      line = line_is (get (codes "line") d) line is_line;
    }

-- what is read as a resource is one
pub resource_is : (d : Data) (r : CompiledResource) → resource_of d ≡ Some r → IsResource r d
resource_is d r h =
    let kind = bind_some (text_at (codes "kind") d) (behind_kind d) r h in
    let line = bind_some (line_in (get (codes "line") d)) (behind_line d kind.0) r kind.2 in
    let id = bind_some (id_of d) (behind_id d kind.0 line.0) r line.2 in
    let parameters = bind_some (parameters_in (get (codes "parameters") d)) (behind_parameters d kind.0 line.0 id.0) r id.2 in
    let file = map_some (resource_with kind.0 line.0 id.0 parameters.0) (file_in (get (codes "file") d)) r parameters.2 in
    subst (λ q. IsResource q d) file.2 (resource_stands d kind.0 line.0 id.0 parameters.0 file.0 kind.1 line.1 id.1 parameters.1 file.1)

-- and a resource is read
pub resource_back : (d : Data) (r : CompiledResource) → IsResource r d → resource_of d ≡ Some r
resource_back d r h =
    let id : id_of d ≡ Some r.id =
    bind_goes (text_at (codes "type") d) (behind_type d) h.type_text (text_back (codes "type") h.type_text d h.has_type)
    ∙ (bind_goes (text_at (codes "title") d) (id_with h.type_text) h.title_text (text_back (codes "title") h.title_text d h.has_title)
    ∙ id_back h.type_text h.title_text r.id ((type_where h.type_text).1 h.is_type) h.titled h.names) in
    bind_goes (text_at (codes "kind") d) (behind_kind d) h.kind (text_back (codes "kind") h.kind d h.has_kind)
    ∙ (bind_goes (line_in (get (codes "line") d)) (behind_line d h.kind) r.line (line_back (get (codes "line") d) r.line h.line)
    ∙ (bind_goes (id_of d) (behind_id d h.kind r.line) r.id id
    ∙ (bind_goes (parameters_in (get (codes "parameters") d)) (behind_parameters d h.kind r.line r.id) r.parameters (parameters_back (get (codes "parameters") d) r.parameters h.parameters)
    ∙ (ap (option_map (resource_with h.kind r.line r.id r.parameters)) (file_back (get (codes "file") d) r.file h.file)
    ∙ ap (λ (b : Bool). Some (record { id = r.id; is_container = b; parameters = r.parameters; file = r.file; line = r.line })) (sym h.container)))))

-- what is read as resources is an array of them
pub resources_are : (items : Items) (resources : List CompiledResource) → resources_of items ≡ Some resources → AreResources resources items
resources_are no_items resources h = subst (λ rs. AreResources rs no_items) (same_Some [] resources h) tt
resources_are (item d items) resources h =
    let first = bind_some (resource_of d) (λ r. option_map (λ rs. r ∷ rs) (resources_of items)) resources h in
    let rest = map_some (λ rs. first.0 ∷ rs) (resources_of items) resources first.2 in
    subst (λ rs. AreResources rs (item d items)) rest.2 (resource_is d first.0 first.1, resources_are items rest.0 rest.1)

-- and an array of them is read
pub resources_back : (items : Items) (resources : List CompiledResource) → AreResources resources items → resources_of items ≡ Some resources
resources_back no_items [] h = refl
resources_back (item d _) [] h = absurd h
resources_back no_items (r ∷ resources) h = absurd h
resources_back (item d items) (r ∷ resources) h =
    bind_goes (resource_of d) (λ q. option_map (λ rs. q ∷ rs) (resources_of items)) r (resource_back d r h.0) ∙ ap (option_map (λ rs. r ∷ rs)) (resources_back items resources h.1)

-- ---- edges

-- the place that is read is that of a resource which the text names
names_is : (resources : List CompiledResource) (key : List ℕ) (d : Data) (place : ℕ) → place_at (ids_of resources) key d ≡ Some place → Names resources place (get key d)
names_is resources key d place h =
    let text = bind_some (text_at key d) (place_named (ids_of resources)) place h in
    let reference = bind_some (reference_of text.0) (λ r. place_of r (ids_of resources)) place text.2 in record {
      text = text.0;
      is_text = text_member (get key d) text.0 text.1;
      reference = reference.0;
      is_reference = reference_read text.0 reference.0 reference.1;
      stands = place_stands reference.0 (ids_of resources) place reference.2;
    }

-- and where references differ, that place is read
names_back : (resources : List CompiledResource) (key : List ℕ) (d : Data) (place : ℕ) → AreDistinct (ids_of resources) → Names resources place (get key d) → place_at (ids_of resources) key d ≡ Some place
names_back resources key d place apart h =
    bind_goes (text_at key d) (place_named (ids_of resources)) h.text (text_back key h.text d h.is_text)
    ∙ (bind_goes (reference_of h.text) (λ r. place_of r (ids_of resources)) h.reference (reference_back h.text h.reference h.is_reference)
    ∙ stands_place h.reference (ids_of resources) place apart h.stands)

-- there are as many references as resources
count_is : (resources : List CompiledResource) → length (ids_of resources) ≡ length resources
count_is [] = refl
count_is (r ∷ resources) = ap suc (count_is resources)

-- the edge, once its source is read
abbrev behind_outer : List CompiledResource → Data → ℕ → Option Containment
behind_outer resources d outer = cond (is_container_at resources outer) (option_map (edge_with outer) (place_at (ids_of resources) (codes "target") d)) None

-- what is read as an edge is one, from a container to a resource
edge_is : (resources : List CompiledResource) (d : Data) (e : Containment) → edge_of resources d ≡ Some e → IsEdge resources e d × IsContainment resources e
edge_is resources d e h =
    let outer = bind_some (place_at (ids_of resources) (codes "source") d) (behind_outer resources d) e h in
    let container = if_some (is_container_at resources outer.0) (option_map (edge_with outer.0) (place_at (ids_of resources) (codes "target") d)) e outer.2 in
    let inner = map_some (edge_with outer.0) (place_at (ids_of resources) (codes "target") d) e container.1 in
    let target = names_is resources (codes "target") d inner.0 inner.1 in
    subst (λ f. IsEdge resources f d × IsContainment resources f) inner.2 (
      record { source = names_is resources (codes "source") d outer.0 outer.1; target = target },
      record { container = container.0; resource = subst (λ n. inner.0 < n) (count_is resources) (slice_get_within (ids_of resources) inner.0 target.reference target.stands) },
    )

-- and one from a container to a resource is read, where references differ
edge_back : (resources : List CompiledResource) (d : Data) (e : Containment) → AreDistinct (ids_of resources) → IsEdge resources e d → IsContainment resources e → edge_of resources d ≡ Some e
edge_back resources d e apart h c =
    bind_goes (place_at (ids_of resources) (codes "source") d) (behind_outer resources d) e.outer (names_back resources (codes "source") d e.outer apart h.source)
    ∙ (ap (λ t. cond t (option_map (edge_with e.outer) (place_at (ids_of resources) (codes "target") d)) None) c.container
    ∙ ap (option_map (edge_with e.outer)) (names_back resources (codes "target") d e.inner apart h.target))

-- what is read as edges is an array of them, each from a container to a resource
edges_are : (resources : List CompiledResource) (items : Items) (edges : List Containment) → edges_of resources items ≡ Some edges → AreEdges resources edges items × AllByRecursion (IsContainment resources) edges
edges_are resources no_items edges h = subst (λ es. AreEdges resources es no_items × AllByRecursion (IsContainment resources) es) (same_Some [] edges h) (tt, tt)
edges_are resources (item d items) edges h =
    let first = bind_some (edge_of resources d) (λ e. option_map (λ es. e ∷ es) (edges_of resources items)) edges h in
    let rest = map_some (λ es. first.0 ∷ es) (edges_of resources items) edges first.2 in
    let here = edge_is resources d first.0 first.1 in
    let more = edges_are resources items rest.0 rest.1 in
    subst (λ es. AreEdges resources es (item d items) × AllByRecursion (IsContainment resources) es) rest.2 ((here.0, more.0), (here.1, more.1))

-- and an array of such is read
edges_back : (resources : List CompiledResource) (items : Items) (edges : List Containment) → AreDistinct (ids_of resources) → AreEdges resources edges items → AllByRecursion (IsContainment resources) edges
    → edges_of resources items ≡ Some edges
edges_back resources no_items [] apart h c = refl
edges_back resources (item d _) [] apart h c = absurd h
edges_back resources no_items (e ∷ edges) apart h c = absurd h
edges_back resources (item d items) (e ∷ edges) apart h c =
    bind_goes (edge_of resources d) (λ f. option_map (λ es. f ∷ es) (edges_of resources items)) e (edge_back resources d e apart h.0 c.0)
    ∙ ap (option_map (λ es. e ∷ es)) (edges_back resources items edges apart h.1 c.1)

-- each edge that is read is one between resources
pub edges_within : (resources : List CompiledResource) (items : Items) (edges : List Containment) → edges_of resources items ≡ Some edges → AllByRecursion (IsContainment resources) edges
edges_within resources items edges h = (edges_are resources items edges h).1

-- ---- the version

-- what is told to be 2 is
two_is : (o : Option ℕ) → is_two o ≡ true → o ≡ Some 2
two_is None h = absurd (true≢false (sym h))
two_is (Some n) h = ap (λ m. Some m) (eqb-true n 2 h)

-- what is read as a whole number is that one
whole_is : (n : Num) (k : ℕ) → as_u64 n ≡ Some k → n ≡ unsigned k
whole_is (unsigned m) k h = ap unsigned (same_Some m k h)
whole_is (negative z) k h = absurd (none-some k h)
whole_is (float x) k h = absurd (none-some k h)

-- what is read as the format of version 2 is it
format_is : (d : Data) → has_format d ≡ true → get (codes "catalog_format") d ≡ Some (number (unsigned 2))
format_is d h =
    let two = two_is (get (codes "catalog_format") d >>= as_number >>= as_u64) h in
    let n = bind_some (get (codes "catalog_format") d >>= as_number) as_u64 2 two in
    let e = bind_some (get (codes "catalog_format") d) as_number n.0 n.1 in
    e.1 ∙ ap (λ f. Some f) (number_found e.0 n.0 e.2 ∙ ap number (whole_is n.0 2 n.2))

-- and that format is read
format_back : (d : Data) → get (codes "catalog_format") d ≡ Some (number (unsigned 2)) → has_format d ≡ true
format_back d h = ap (λ o. is_two (o >>= as_number >>= as_u64)) h

-- ---- the whole

-- the compiled catalog, unless something but a class is contained twice
abbrev if_free : List CompiledResource → List Containment → Option Compiled
if_free resources edges = cond (are_free resources [] edges) (Some (compiled_with resources edges)) None

-- the compiled catalog, once the references of its resources differ
abbrev behind_refs : Data → List CompiledResource → Option Compiled
behind_refs d resources = items_at (codes "edges") d >>= edges_of resources >>= if_free resources

-- what the resources and edges of a compiled catalog are
pub record HasParts (d : Data) (resources : List CompiledResource) (c : Compiled) : Type 0 where
  pub edges : Items
  pub has_edges : get (codes "edges") d ≡ Some (array edges)
  pub are_edges : AreEdges c.resources c.edges edges
  pub resources_are : c.resources ≡ resources
  pub sound : IsSound c

-- what is read behind the resources is a sound compiled catalog of them
pub behind_is : (d : Data) (resources : List CompiledResource) (c : Compiled) → compiled_behind d resources ≡ Some c → HasParts d resources c
behind_is d resources c h =
    let differ = if_some (are_new [] (ids_of resources) && are_new [] (map counts_as resources)) (behind_refs d resources) c h in
    let both = and_parts (are_new [] (ids_of resources)) (are_new [] (map counts_as resources)) differ.0 in
    let edges = bind_some (items_at (codes "edges") d >>= edges_of resources) (if_free resources) c differ.1 in
    let items = bind_some (items_at (codes "edges") d) (edges_of resources) edges.0 edges.1 in
    let free = if_some (are_free resources [] edges.0) (Some (compiled_with resources edges.0)) c edges.2 in
    let are = edges_are resources items.0 edges.0 items.2 in
    subst (HasParts d resources) (same_Some (compiled_with resources edges.0) c free.1) (record {
      edges = items.0;
      has_edges = items_member (get (codes "edges") d) items.0 items.1;
      are_edges = are.0;
      resources_are = refl;
      sound = record {
        references = (new_where (ids_of resources)).0 both.0;
        apart = (new_where (map counts_as resources)).0 both.1;
        edges = are.1;
        once = (once_where resources edges.0).0 free.0;
      };
    })

-- what is read as a compiled catalog has its form
pub compiled_is : (d : Data) (c : Compiled) → compiled_of d ≡ Some c → IsCompiled c d
compiled_is d c h =
    let format = if_some (has_format d) (items_at (codes "resources") d >>= resources_of >>= compiled_behind d) c h in
    let resources = bind_some (items_at (codes "resources") d >>= resources_of) (compiled_behind d) c format.1 in
    let items = bind_some (items_at (codes "resources") d) resources_of resources.0 resources.1 in
    let parts = behind_is d resources.0 c resources.2 in record {
      format = format_is d format.0;
      resources = items.0;
      has_resources = items_member (get (codes "resources") d) items.0 items.1;
      are_resources = subst (λ rs. AreResources rs items.0) (sym parts.resources_are) (resources_are items.0 resources.0 items.2);
      edges = parts.edges;
      has_edges = parts.has_edges;
      are_edges = parts.are_edges;
      sound = parts.sound;
    }

-- and what has the form is read
pub compiled_back : (d : Data) (c : Compiled) → IsCompiled c d → compiled_of d ≡ Some c
compiled_back d c h =
    let s = h.sound in
    let tests : (are_new [] (ids_of c.resources) && are_new [] (map counts_as c.resources)) ≡ true =
    ap₂ (λ a b. a && b) ((new_where (ids_of c.resources)).1 s.references) ((new_where (map counts_as c.resources)).1 s.apart) in
    ap (λ t. cond t (items_at (codes "resources") d >>= resources_of >>= compiled_behind d) None) (format_back d h.format)
    ∙ (ap (λ o. o >>= as_array >>= resources_of >>= compiled_behind d) h.has_resources
    ∙ (ap (λ o. o >>= compiled_behind d) (resources_back h.resources c.resources h.are_resources)
    ∙ (ap (λ t. cond t (behind_refs d c.resources) None) tests
    ∙ (ap (λ o. o >>= as_array >>= edges_of c.resources >>= if_free c.resources) h.has_edges
    ∙ (ap (λ o. o >>= if_free c.resources) (edges_back c.resources h.edges c.edges s.references h.are_edges s.edges)
    ∙ ap (λ t. cond t (Some c) None) ((once_where c.resources c.edges).1 s.once))))))
