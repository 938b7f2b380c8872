-- On what terms the programs of resources are asked about, and what stands behind their number.
use Rattle.std.specs.Prelude.{ℕ, List, [], ◌++◌, length, Option, Some, None, codes}
use Rattle.std.specs.Fmt.{decimal}
use Rattle.fs_semantics.specs.FileTree.{Path}
use Rattle.command_line.specs.declared.table.Role.TheVariants as role
use Rattle.given_links.specs.Reading.{read_as}
use Rattle.question_terms.specs.declared.terms.Terms.{Terms}
use Rattle.wanted_entry.specs.declared.wanted.Wanted.{Wanted}
use Rattle.known_inputs.specs.declared.inputs.Inputs.{Inputs}
use Rattle.known_inputs.specs.declared.inputs.Known.{Known}
use Rattle.known_inputs.specs.Inputs.{Bytes, bytes_of, wanted_of}
use Rattle.compiled_text.specs.Compiled.{Compiled}
use Rattle.compiled_models.specs.Assumed.{count_assumed}
use Rattle.reports.specs.declared.terms.Asked.{Asked}

-- from the trees in which the given folders stand, within the limits and the conflicts that are given
abbrev pub terms_of : Inputs → Known → Option ℕ → Terms
terms_of i k conflicts = record { given = k.given.folders; limits = i.limits; conflicts = conflicts }

-- how many folders are given, where a text of what every host has is named
abbrev pub given_line : Bytes → List Path → List ℕ
given_line None folders = []
given_line (Some bytes) folders = codes "given " ++ (decimal (length folders) ++ codes "\n")

-- how many of the resources at these places are assumed; of a manifest's none is
abbrev pub assumed_count : Known → Option Compiled → List ℕ → ℕ
assumed_count k None plain = 0
assumed_count k (Some m) plain = count_assumed m.resources k.assumed plain

-- how many resources are assumed, where a text of assumptions is named
abbrev pub assumed_line : Bytes → ℕ → List ℕ
assumed_line None count = []
assumed_line (Some bytes) count = codes "assumed " ++ (decimal count ++ codes "\n")

-- the lines behind the number of resources
abbrev pub notes_of : Inputs → Known → Option Compiled → List ℕ → List ℕ
notes_of i k m plain = assumed_line (bytes_of role.Assume i) (assumed_count k m plain) ++ given_line (bytes_of role.Given i) k.given.folders

-- both
abbrev pub asked_on : Inputs → Known → Option ℕ → Option Compiled → List ℕ → Asked
asked_on i k conflicts m plain = record { terms = terms_of i k conflicts; notes = notes_of i k m plain }

-- the entry that is wanted, its path read through the given links
abbrev pub wanted_in : Inputs → Known → Wanted
wanted_in i k = record { path = read_as k.given.links (wanted_of i).path; content = (wanted_of i).content }
