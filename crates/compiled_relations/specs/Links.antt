-- What comes before a symbolic link: the file to which it leads.
use Rattle.std.specs.Prelude.{ℕ, ◌==◌, ◌+◌, Bool, true, ◌&&◌, ◌||◌, not, if◌then◌else◌, List, [], ◌∷◌, ◌++◌, map, codes, Option, Some, None, slice_get, option_map}
use Rattle.std.specs.List.{list_any, flat_map}
use Rattle.std.specs.Option.{option_to_list}
use Rattle.std.specs.Str.{bytes_eq}
use Rattle.rh_base.specs.Reading.{◌>>=◌}
use Rattle.fs_semantics.specs.FileTree.{Path}
use Rattle.fs_lang.specs.PathText.{path_text}
use Rattle.fs_lang.specs.Fronts.{is_front}
use Rattle.fs_lang.specs.Reading.{path_in}
use Rattle.pp_value.specs.declared.value.Ref.{Ref}
use Rattle.pp_value.specs.Values.{value_at}
use Rattle.pp_eval.specs.Evaluation.{text_of}
use Rattle.catalog_semantics.specs.declared.catalog.Resource.{Resource}
use Rattle.catalog_semantics.specs.declared.catalog.Relation.{Relation}
use Rattle.catalog_semantics.specs.Catalogs.{Catalog, is_plain_sort}
use Rattle.graph_semantics.specs.Relations.{target_of, metaparameter_relations}
use Rattle.graph_semantics.specs.Automatic.{path_text_of}
use Rattle.compiled_relations.specs.declared.links.LinkedFile.{LinkedFile}

-- ---- files

-- a real file of Puppet's own type
abbrev pub is_file : Resource → Bool
is_file r = bytes_eq r.id.kind (codes "file") && is_plain_sort r.sort && not r.is_virtual

-- the path that a file manages: its attribute `path`, or else its title, if that spells one
abbrev pub managed_path : Resource → Option Path
managed_path r = if is_file r then path_text_of r >>= path_in else None

-- the text of what a link leads to
abbrev pub link_target : Resource → Option (List ℕ)
link_target r = if is_file r then value_at (codes "target") r.attrs >>= text_of else None

-- the file at a place with this path
abbrev pub file_at : ℕ → Option Path → List LinkedFile
file_at n None = []
file_at n (Some path) = record { place = n; path = path; text = path_text path } ∷ []

-- the files among resources that are counted from n on, each with its path
abbrev pub files_from : ℕ → List Resource → List LinkedFile
files_from n [] = []
files_from n (r ∷ resources) = file_at n (managed_path r) ++ files_from (n + 1) resources

-- ---- what a link leads to

-- the path isn't at or under the link's own, if that is known
abbrev pub leads_out : Option Path → Path → Bool
leads_out None path = true
leads_out (Some own) path = not (is_front own path)

-- A link with this target, and perhaps a path of its own, leads to a file: the target is the file's path, in the form in which paths are
-- written, and that isn't at or under the link's own path.
abbrev pub leads_to : Option Path → List ℕ → LinkedFile → Bool
leads_to own target f = bytes_eq target f.text && leads_out own f.path

-- the places of the files to which such a link leads
abbrev pub targets_among : Option Path → List ℕ → List LinkedFile → List ℕ
targets_among own target [] = []
targets_among own target
    (f ∷ files) = if leads_to own target f then f.place ∷ targets_among own target files else targets_among own target files

-- pairs of places: each of those that come first, with the one that comes second
abbrev pub before_one : List ℕ → ℕ → List (ℕ × ℕ)
before_one [] second = []
before_one (first ∷ more) second = (first, second) ∷ before_one more second

-- what comes before a resource at a place because that leads to it as a link
abbrev pub ahead_of : List LinkedFile → ℕ → Resource → Option (List ℕ) → List (ℕ × ℕ)
ahead_of files n r None = []
ahead_of files n r (Some target) = before_one (targets_among (managed_path r) target files) n

-- what comes before which link, link by link; the resources are counted from n on
abbrev pub pairs_from : List LinkedFile → ℕ → List Resource → List (ℕ × ℕ)
pairs_from files n [] = []
pairs_from files n (r ∷ resources) = ahead_of files n r (link_target r) ++ pairs_from files (n + 1) resources

abbrev pub link_pairs : Catalog → List (ℕ × ℕ)
link_pairs c = pairs_from (files_from 0 c.resources) 0 c.resources

-- ---- what metaparameters relate

-- the places of what these references name
abbrev pub places_of : Catalog → List Ref → List ℕ
places_of c refs = flat_map (λ ref. option_to_list (target_of c ref)) refs

-- each of these, with each of those
abbrev pub each_with : List ℕ → List ℕ → List (ℕ × ℕ)
each_with firsts [] = []
each_with firsts (second ∷ seconds) = before_one firsts second ++ each_with firsts seconds

-- what a relation puts before what, by places
abbrev pub related_by : Catalog → Relation → List (ℕ × ℕ)
related_by c q = each_with (places_of c q.from) (places_of c q.to)

-- what all metaparameters put before what
abbrev pub related_pairs : Catalog → List (ℕ × ℕ)
related_pairs c = flat_map (related_by c) (metaparameter_relations c)

-- ---- the relations of links

abbrev pub same_pair : ℕ × ℕ → ℕ × ℕ → Bool
same_pair p q = (p.0 == q.0) && (p.1 == q.1)

-- the pair is one of these
abbrev pub has_pair : List (ℕ × ℕ) → ℕ × ℕ → Bool
has_pair pairs p = list_any (same_pair p) pairs

-- a relation stands directly between the two, in either direction
abbrev pub stands_between : List (ℕ × ℕ) → ℕ × ℕ → Bool
stands_between pairs p = has_pair pairs p || has_pair pairs (p.1, p.0)

-- those of the second pairs between which no relation stands, neither by the first nor by one that was kept before
abbrev pub kept_behind : List (ℕ × ℕ) → List (ℕ × ℕ) → List (ℕ × ℕ)
kept_behind before [] = []
kept_behind before (p ∷ pairs) = if stands_between before p then kept_behind before pairs else p ∷ kept_behind (before ++ p ∷ []) pairs

-- the reference of the resource at a place
abbrev pub reference_at : Catalog → ℕ → List Ref
reference_at c n = option_to_list (option_map (λ r. r.id) (slice_get c.resources n))

-- the resource at the one place comes before that at the other
abbrev pub relation_of : Catalog → ℕ × ℕ → Relation
relation_of c p = record { from = reference_at c p.0; to = reference_at c p.1; at = 0 }

-- the catalog with relations of these pairs of places
abbrev pub with_relations : Catalog → List (ℕ × ℕ) → Catalog
with_relations c pairs = record c { relations = c.relations ++ map (relation_of c) pairs }

-- The catalog with what comes before each link, link by link: the files to which it leads, unless a relation stands directly between the
-- two, in either direction, by a metaparameter or for an earlier link.
abbrev pub with_links : Catalog → Catalog
with_links c = with_relations c (kept_behind (related_pairs c) (link_pairs c))
