-- The text of a catalog: the real resources of built-in types, each on a line, and its attributes below it. No name leaves its line.
use Rattle.std.specs.Prelude.{ℕ, Bool, ◌&&◌, not, if◌then◌else◌, List, [], ◌++◌, codes}
use Rattle.std.specs.List.{flat_map}
use Rattle.printed_names.specs.Printed.{printed}
use Rattle.pp_value.specs.Values.{Pair}
use Rattle.pp_value.specs.Shown.{shown_ref}
use Rattle.catalog_semantics.specs.declared.catalog.Resource.{Resource}
use Rattle.catalog_semantics.specs.Catalogs.{Catalog, is_plain_sort, real_plain}
use Rattle.catalog_text.specs.Json.{json}

-- an attribute, indented
abbrev pub attribute_line : Pair → List ℕ
attribute_line p = codes "  " ++ (printed p.0 ++ (codes " => " ++ (json p.1 ++ codes "\n")))

-- the reference, and the attributes below it
abbrev pub resource_lines : Resource → List ℕ
resource_lines r = printed (shown_ref r.id) ++ (codes "\n" ++ flat_map attribute_line r.attrs)

abbrev pub is_printed : Resource → Bool
is_printed r = is_plain_sort r.sort && not r.is_virtual

abbrev pub if_printed : Resource → List ℕ
if_printed r = if is_printed r then resource_lines r else []

-- the text of a catalog
abbrev pub catalog_text : Catalog → List ℕ
catalog_text c = flat_map resource_lines (real_plain c.resources)
