-- From the bytes of the files to what is said of the request.
use Rattle.std.proofs.Common.{◌≡◌, inl, inr, ℕ, ◌<◌, ◌^◌, ◌==◌, Bool, true, false, List, [], ◌∷◌, length, Option, Some, None, Result, Ok, Err, refl, sym, subst, ◌∙◌, arith, cond}
use Rattle.std.specs.Prelude.{IfOk, IfErr}
use Rattle.rh_base.specs.declared.fault.Fault.{Fault}
use Rattle.rh_base.specs.declared.fault.Fault.TheVariants.{Refused, Memory}
use Rattle.rh_base.specs.Refused.{IfRefused}
use Rattle.command_line.specs.declared.table.Ask.{Ask}
use Rattle.command_line.specs.declared.table.InputKind.{InputKind}
use Rattle.reports.specs.declared.sides.Untold.{Untold}
use Rattle.reports.specs.declared.sides.Untold.TheVariants as untold
use Rattle.reports.specs.declared.sides.Side.TheVariants as sides
use Rattle.reports.specs.Sides.{refused_in, IfUntold}
use Rattle.reports.specs.Comparisons.{place_of_source, other_inputs}
use Rattle.rh_base.specs.declared.fault.Refusal.{Refusal}
use Rattle.rh_base.specs.Shelf.{Held}
use Rattle.command_line.specs.declared.request.Request.{Request}
use Rattle.command_line.specs.declared.request.Source.TheVariants as source
use Rattle.command_line.specs.declared.table.Role.{Role}
use Rattle.command_line.specs.declared.table.Role.TheVariants as role
use Rattle.command_line.specs.Table.{ByRole, input_kind, load_of, role_index}
use Rattle.request_files.specs.Files.{AreRead, AreShort, NoneMissing, FirstTooLong}
use Rattle.known_inputs.specs.Inputs.{Bytes, bytes_of, bytes_or_none, input_of}
use Rattle.known_inputs.specs.declared.inputs.Inputs.{Inputs}
use Rattle.verdict_report.specs.declared.report.Report.{Report}
use Rattle.rehearsal_core.specs.declared.inputs.Names.{Names}
use Rattle.rehearsal_core.specs.declared.inputs.Loaded.{Loaded}
use Rattle.rehearsal_core.specs.declared.run.Ending.{Ending}
use Rattle.rehearsal_core.specs.declared.run.Ending.TheVariants as ending
use Rattle.rehearsal_core.specs.Inputs.{IsLoaded, AreInputs, workload_inputs, IsAnswer, IsAnswerTo, Breaks, BreaksFor}
use Rattle.rehearsal_core.specs.Steps.{request_about, concluded, SaysOf}

-- the request with the bytes of its files
abbrev pub loaded_from : Names → ByRole (List ℕ) → Loaded
loaded_from r files = record { ask = r.ask; conflicts = r.conflicts; inputs = record { node = r.node; limits = r.limits; wanted = r.wanted; files = files } }

-- the request with the bytes that were read of its files is loaded
loaded : (held : Held) (r : Names) (files : ByRole (List ℕ)) → AreRead held (input_kind r.ask r.files) r.files files → IsLoaded held (request_about r) (loaded_from r files)
loaded held r files read = record { asked = refl; conflicts = refl; inputs = (refl, refl, refl, read) }

-- what there is to say of an answer, from what was read beside an input of its kind and what the answer is
pub says : (held : Held) (r : Names) (kind : InputKind) (files : ByRole (List ℕ)) (before now : ℕ) (said : Result Report Untold) → kind ≡ input_kind r.ask r.files → now ≡ before
    → AreRead held kind r.files files → IfOk said (IsAnswer (loaded_from r files)) → IfErr said (λ e. IfUntold e (Breaks (loaded_from r files)))
    → SaysOf (request_about r) held before now (concluded said)
says held r kind files before now (Ok report) is same read answers refuses =
    let stands = loaded held r files (subst (λ k. AreRead held k r.files files) is read) in
    (same, record { loaded = loaded_from r files; stands = stands; says = answers })
says held r kind files before now (Err (untold.Refused side x)) is same read answers refuses =
    let stands = loaded held r files (subst (λ k. AreRead held k r.files files) is read) in
    (same, inr (record { loaded = loaded_from r files; stands = stands; breaks = refuses }))
says held r kind files before now (Err (untold.Memory m)) is same read answers refuses = same

-- a refusal of one manifest, or of a text that is none, is one of the input
pub of_input : (a : Ask) (conflicts : Option ℕ) (i : Inputs) (e : Fault) → IfRefused e (BreaksFor a conflicts i sides.Input) → IfUntold (refused_in sides.Input e) (BreaksFor a conflicts i)
of_input a conflicts i (Refused r) h = h
of_input a conflicts i (Memory m) h = tt

-- nothing is both true and false
pub not_both : (b : Bool) → b ≡ true → b ≡ false → ⊥
not_both b is not = let bad : true ≡ false = sym is ∙ not in cc

-- a file is too long
pub says_long : (held : Held) (r : Names) (kind : InputKind) (before now : ℕ) (x : Refusal) → kind ≡ input_kind r.ask r.files → now ≡ before → NoneMissing held r.files
    → FirstTooLong held kind r.files x → SaysOf (request_about r) held before now (ending.Refused sides.Input x)
says_long held r kind before now x is same none long = (same, inl (none, subst (λ k. FirstTooLong held k r.files x) is long))

-- the same of a workload, of which nothing is read
workload_loaded : (held : Held) (r : Request) (n : ℕ) → r.source ≡ source.Workload n
    → IsLoaded held r (record { ask = r.ask; conflicts = r.conflicts; inputs = workload_inputs n })
workload_loaded held r n is = record { asked = refl; conflicts = refl; inputs = subst (λ s. AreInputs held r s (workload_inputs n)) (sym is) refl }

-- what there is to say of a workload is said of the request
pub says_of_workload : (held : Held) (r : Request) (n before now : ℕ) (said : Result Report Untold) → r.source ≡ source.Workload n → now ≡ before
    → IfOk said (IsAnswerTo r.ask r.conflicts (workload_inputs n)) → IfErr said (λ e. IfUntold e (BreaksFor r.ask r.conflicts (workload_inputs n)))
    → SaysOf r held before now (concluded said)
says_of_workload held r n before now (Ok report) is same answers refuses =
    (same, record { loaded = record { ask = r.ask; conflicts = r.conflicts; inputs = workload_inputs n }; stands = workload_loaded held r n is; says = answers })
says_of_workload held r n before now (Err (untold.Refused side x)) is same answers refuses =
    (same, inr (record { loaded = record { ask = r.ask; conflicts = r.conflicts; inputs = workload_inputs n }; stands = workload_loaded held r n is; breaks = refuses }))
says_of_workload held r n before now (Err (untold.Memory m)) is same answers refuses = same

-- a request about files of these names is the one with those names
pub says_of_named : (held : Held) (r : Request) (names : ByRole (List ℕ)) (before now : ℕ) (e : Ending) → r.source ≡ source.Files names
    → SaysOf (record r { source = source.Files names }) held before now e → SaysOf r held before now e
says_of_named held r names before now e is says = subst (λ s. SaysOf (record r { source = s }) held before now e) (sym is) says

-- the input is short, and so is the manifest that it is compared with, as each file is
abbrev short_at : Role → Type 0
short_at role = (files : ByRole (List ℕ)) → AreShort files → length (bytes_or_none (load_of role files)) < 2 ^ 32

-- of short files the one of each role is short
each_is_short : (r : Role) → short_at r
each_is_short r [] short = omega arith
each_is_short r (f ∷ files) short = either (role_index f.0 == role_index r) f.1 files short.0 (each_is_short r files short.1)
  where
    either : (here : Bool) (bytes : List ℕ) (files : ByRole (List ℕ)) → length bytes < 2 ^ 32 → length (bytes_or_none (load_of r files)) < 2 ^ 32
        → length (bytes_or_none (cond here (Some bytes) (load_of r files))) < 2 ^ 32
    either true bytes files here more = here
    either false bytes files here more = more

-- the input is short where each file is
pub input_is_short : (files : ByRole (List ℕ)) → AreShort files → length (bytes_or_none (load_of role.Input files)) < 2 ^ 32
input_is_short = each_is_short role.Input

-- what stands ahead in the place of what is asked about is short
ahead_is_short : (bytes : Bytes) (other : List ℕ) (files : ByRole (List ℕ)) → length other < 2 ^ 32 → AreShort files
    → length (bytes_or_none (load_of role.Input ((place_of_source bytes, other) ∷ files))) < 2 ^ 32
ahead_is_short None other files short more = short
ahead_is_short (Some bytes) other files short more = each_is_short role.Input files more

-- and so is the input of the other side
pub other_is_short : (i : Inputs) → AreShort i.files → length (input_of (other_inputs i)) < 2 ^ 32
other_is_short i short = ahead_is_short (bytes_of role.Compiled i) (bytes_or_none (bytes_of role.Other i)) i.files (each_is_short role.Other i.files short) short
