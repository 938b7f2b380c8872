-- Assumptions that are read, one after the other, and objects as they are stored.
use Rattle.std.proofs.Common.{◌≡◌, ℕ, List, [], ◌∷◌, ◌++◌, length, append_assoc, Option, Some, None, option_map, refl, sym, ap, subst, ◌∙◌, String, Global, string_bytes}
use Rattle.std.specs.List.{AllByRecursion}
use Rattle.serde_json.specs.Data.{Data}
use Rattle.serde_json.specs.Find.{as_object}
use Rattle.serde_json.specs.Events.{members_len}
use Rattle.serde_json.specs.declared.value.Value.{Value}
use Rattle.serde_json.specs.View.{view, members_view}
use Rattle.serde_json.proofs.Views.{Entry, members_len-members_view}
use Rattle.rh_base.specs.Reading.{◌>>=◌}
use Rattle.assumed_text.specs.declared.assumed.Assumption.{Assumption}
use Rattle.assumed_text.specs.Reading.{assumption_of, rows_of, rows_with, all_rows, IsProperAssumption}
use Rattle.rh_base.proofs.Lists.{all_last}

-- these assumptions were read, and these members are left of what says the whole
abbrev pub AreRead : List Assumption → List Entry → Option (List Assumption) → Type 0
AreRead rows es whole = (option_map (λ more. rows ++ more) (rows_of (members_view es)) ≡ whole) × AllByRecursion IsProperAssumption rows

-- one assumption ahead of the rest is one behind those that were read
by_more : (o : Option (List Assumption)) (rows : List Assumption) (a : Assumption) → option_map (λ more. (rows ++ a ∷ []) ++ more) o ≡ option_map (λ more. rows ++ more) (option_map (λ more. a ∷ more) o)
by_more None rows a = refl
by_more (Some more) rows a = ap (λ (l : List Assumption). Some l) (append_assoc rows (a ∷ []) more)

-- with one more assumption read, what was read and what is left are the same whole
one_more : (rows : List Assumption) (e : Entry) (rest : List Entry) (a : Assumption) (whole : Option (List Assumption)) → assumption_of (string_bytes e.0) (view e.1) ≡ Some a → IsProperAssumption a
    → AreRead rows (e ∷ rest) whole → AreRead (rows ++ a ∷ []) rest whole
one_more rows e rest a whole is proper r = (
  by_more (rows_of (members_view rest)) rows a ∙ (ap (λ o. option_map (λ more. rows ++ more) (o >>= (λ b. option_map (λ l. b ∷ l) (rows_of (members_view rest))))) (sym is) ∙ r.0),
  all_last IsProperAssumption rows a r.1 proper,
)

-- and so it is where it is read of the next stored entry
pub next_row : (rows new : List Assumption) (es rest : List Entry) (k : String Global) (v : Value) (name : List ℕ) (a : Assumption) (whole : Option (List Assumption)) → es ≡ (k, v) ∷ rest → name ≡ string_bytes k
    → assumption_of name (view v) ≡ Some a → IsProperAssumption a → new ≡ rows ++ a ∷ [] → AreRead rows es whole → AreRead new rest whole
next_row rows new es rest k v name a whole next name_is is proper pushed r =
    subst (λ l. AreRead l rest whole) (sym pushed)
    (one_more rows (k, v) rest a whole (ap (λ n. assumption_of n (view v)) (sym name_is) ∙ is) proper (subst (λ more. AreRead rows more whole) next r))

-- an object has as many keys as it has entries
pub rows_so : (d : Data) (es : List Entry) (keys : ℕ) → Some (members_view es) ≡ as_object d → keys ≡ length es → rows_with d keys ≡ all_rows d
rows_so d es keys h n = sym (ap (λ o. o >>= (λ members. rows_with d (members_len members))) (sym h) ∙ ap (rows_with d) (members_len-members_view es ∙ sym n))
