-- What comes before what by itself: a folder before what is in it, a user before what is the user's.
use Rattle.std.specs.Prelude.{◌≡◌, ◌≤◌, ℕ, Bool, true, not, ◌&&◌, nat_le, if◌then◌else◌, List, [], ◌∷◌, ◌++◌, map, filter, length, codes}
use Rattle.std.specs.Prelude.{Option, Some, None}
use Rattle.std.specs.List.{Contains, list_all}
use Rattle.std.specs.Option.{option_to_list}
use Rattle.std.specs.Str.{bytes_eq}
use Rattle.fs_semantics.specs.FileTree.{Path}
use Rattle.fs_semantics.specs.Disjoint.{IsAncestor}
use Rattle.fs_lang.specs.PathText.{IsPathText}
use Rattle.fs_lang.specs.Names.{IsName}
use Rattle.fs_lang.specs.Managed.{IsReserved}
use Rattle.pp_value.specs.declared.value.Value.{Value}
use Rattle.pp_value.specs.declared.value.Value.TheVariants as v
use Rattle.pp_value.specs.Values.{value_at}
use Rattle.pp_eval.specs.Evaluation.{text_of, titles_of}
use Rattle.catalog_semantics.specs.declared.catalog.Resource.{Resource}
use Rattle.catalog_semantics.specs.Catalogs.{Catalog, is_plain_sort}
use Rattle.graph_semantics.specs.Relations.{real_at, IsRelated}

-- a real resource of a built-in type stands at the place
pub record IsPlainAt (c : Catalog) (place : ℕ) (r : Resource) : Type 0 where
  pub real : real_at c place ≡ Some r
  pub plain : is_plain_sort r.sort ≡ true

-- ---- modelled names

-- a text, or this one where nothing is given; another value is none
abbrev pub text_or : List ℕ → Option Value → Option (List ℕ)
text_or other None = Some other
text_or other (Some v.Undef) = None
text_or other (Some (v.Bool b)) = None
text_or other (Some (v.Int n)) = None
text_or other (Some (v.Str text)) = Some text
text_or other (Some (v.List' shape row)) = None
text_or other (Some (v.Map' shape row)) = None
text_or other (Some (v.Refer r)) = None
text_or other (Some v.Opaque) = None

-- the name of what a resource manages: its attribute `name`, or else its title
abbrev pub name_of : Resource → Option (List ℕ)
name_of r = text_or r.id.title (value_at (codes "name") r.attrs)

-- the text of a file's path: its attribute `path`, or else its title
abbrev pub path_text_of : Resource → Option (List ℕ)
path_text_of r = text_or r.id.title (value_at (codes "path") r.attrs)

-- a real file stands at the place and manages what is at the path, which isn't one that is refused
pub record IsFileAt (c : Catalog) (place : ℕ) (p : Path) : Type 0 where
  pub resource : Resource
  pub plain : IsPlainAt c place resource
  pub kind : resource.id.kind ≡ codes "file"
  pub text : List ℕ
  pub given : path_text_of resource ≡ Some text
  pub spelled : IsPathText text p
  pub free : IsReserved p → ⊥

-- a real resource of the type stands at the place, and manages what has the name, which isn't one that is refused
pub record Manages (c : Catalog) (place : ℕ) (kind name : List ℕ) : Type 0 where
  pub resource : Resource
  pub plain : IsPlainAt c place resource
  pub kind_is : resource.id.kind ≡ kind
  pub name_is : name_of resource ≡ Some name
  pub proper : IsName name

-- ---- whom a resource names

-- these texts, or none
abbrev pub list_or_none : Option (List (List ℕ)) → List (List ℕ)
list_or_none None = []
list_or_none (Some texts) = texts

-- a decimal digit, as a byte
abbrev pub is_digit : ℕ → Bool
is_digit c = nat_le 48 c && nat_le c 57

-- a text of digits only names nobody
abbrev pub is_somebody : List ℕ → Bool
is_somebody name = not (list_all is_digit name)

-- the text that a value is, or the texts of a list of texts; another value names nobody
abbrev pub texts_in : Option Value → List (List ℕ)
texts_in None = []
texts_in (Some x) = list_or_none (titles_of x)

-- a text; another value names nobody
abbrev pub text_in : Option Value → List (List ℕ)
text_in None = []
text_in (Some x) = option_to_list (text_of x)

-- Where no user is given, it is root.
abbrev pub user_or_root : Option Value → List (List ℕ)
user_or_root None = codes "root" ∷ []
user_or_root (Some x) = option_to_list (text_of x)

-- these names, each with the type of what has it
abbrev pub somebodies : List ℕ → List (List ℕ) → List (List ℕ × List ℕ)
somebodies kind names = map (λ name. (kind, name)) (filter is_somebody names)

-- the resource is of this type
abbrev pub is_of : List ℕ → Resource → Bool
is_of kind r = bytes_eq r.id.kind kind

-- the value of the attribute with this name
abbrev pub attribute : Resource → List ℕ → Option Value
attribute r name = value_at name r.attrs

-- Whom a resource comes after by name, one line for each type: a file after its user and its group, a user after the
-- groups, a cron job and a key after their user.
abbrev pub named_by : Resource → List (List ℕ × List ℕ)
named_by r =
    if is_of (codes "file") r then somebodies (codes "user") (text_in (attribute r (codes "owner"))) ++ somebodies (codes "group") (text_in (attribute r (codes "group")))
    else (if is_of (codes "user") r then somebodies (codes "group") (text_in (attribute r (codes "gid")) ++ texts_in (attribute r (codes "groups")))
    else (if is_of (codes "cron") r then somebodies (codes "user") (user_or_root (attribute r (codes "user")))
    else (if is_of (codes "ssh_authorized_key") r then somebodies (codes "user") (text_in (attribute r (codes "user")))
    else [])))

-- ---- automatic edges

-- By the table the resource at one place comes after that at another: a file after the file at the nearest ancestor of
-- its path, and a resource after whom it names.
pub data ComesAfter (c : Catalog) (place target : ℕ) : Type 0 where
  ancestor : (p q : Path) → IsFileAt c place p → IsFileAt c target q → IsAncestor q p
      → ((other : ℕ) (o : Path) → IsFileAt c other o → IsAncestor o p → length o ≤ length q) → ComesAfter c place target
  named : (r : Resource) (kind name : List ℕ) → IsPlainAt c place r → Contains (named_by r) (kind, name) → Manages c target kind name
      → ComesAfter c place target

-- It is dropped where a relation stands directly from the resource to that target.
pub record IsAutomatic (c : Catalog) (target place : ℕ) : Type 0 where
  pub after : ComesAfter c place target
  pub free : IsRelated c place target → ⊥
