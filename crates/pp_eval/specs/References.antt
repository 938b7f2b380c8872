-- References to resources and classes.
use Rattle.std.specs.Prelude.{ℕ, Bool, false, if◌then◌else◌, List, [], ◌∷◌, codes}
use Rattle.std.specs.Str.{bytes_eq}
use Rattle.pp_value.specs.declared.value.Ref.{Ref}
use Rattle.pp_value.specs.Texts.{lowered}
use Rattle.pp_eval.specs.Names.{is_colon, unrooted}

abbrev pub begins_with_colon : List ℕ → Bool
begins_with_colon [] = false
begins_with_colon (c ∷ text) = is_colon c

-- a name without a leading `::`, lowered in ASCII
abbrev pub plain_name : List ℕ → List ℕ
plain_name name = lowered (unrooted name)

-- a plain kind, and of a class a plain title
abbrev pub ref_of : List ℕ → List ℕ → Ref
ref_of kind title = record { kind = plain_name kind; title = if bytes_eq (plain_name kind) (codes "class") then plain_name title else title }
