-- Links that are read, one after the other, and objects as they are stored.
use Rattle.std.proofs.Common.{◌≡◌, ℕ, List, [], ◌∷◌, ◌++◌, length, append_assoc, Option, Some, None, option_map, refl, sym, ap, subst, ◌∙◌, String, Global, string_bytes}
use Rattle.std.specs.List.{AllByRecursion}
use Rattle.serde_json.specs.Data.{Data}
use Rattle.serde_json.specs.Find.{as_object}
use Rattle.serde_json.specs.Events.{members_len}
use Rattle.serde_json.specs.declared.value.Value.{Value}
use Rattle.serde_json.specs.View.{view, members_view}
use Rattle.serde_json.proofs.Views.{Entry, members_len-members_view}
use Rattle.rh_base.specs.Reading.{◌>>=◌}
use Rattle.given_links.specs.declared.links.GivenLink.{GivenLink}
use Rattle.given_text.specs.Reading.{link_of, links_of, stated_with, stated_of, IsProperLink}
use Rattle.rh_base.proofs.Lists.{all_last}

-- these links were read, and these members are left of what gives the whole
abbrev pub AreRead : List GivenLink → List Entry → Option (List GivenLink) → Type 0
AreRead links es whole = (option_map (λ more. links ++ more) (links_of (members_view es)) ≡ whole) × AllByRecursion IsProperLink links

-- one link ahead of the rest is one behind those that were read
by_more : (o : Option (List GivenLink)) (links : List GivenLink) (l : GivenLink) → option_map (λ more. (links ++ l ∷ []) ++ more) o ≡ option_map (λ more. links ++ more) (option_map (λ more. l ∷ more) o)
by_more None links l = refl
by_more (Some more) links l = ap (λ (ls : List GivenLink). Some ls) (append_assoc links (l ∷ []) more)

-- with one more link read, what was read and what is left are the same whole
one_more : (links : List GivenLink) (e : Entry) (rest : List Entry) (l : GivenLink) (whole : Option (List GivenLink)) → link_of (string_bytes e.0) (view e.1) ≡ Some l → IsProperLink l
    → AreRead links (e ∷ rest) whole → AreRead (links ++ l ∷ []) rest whole
one_more links e rest l whole is proper r = (
  by_more (links_of (members_view rest)) links l ∙ (ap (λ o. option_map (λ more. links ++ more) (o >>= (λ m. option_map (λ ls. m ∷ ls) (links_of (members_view rest))))) (sym is) ∙ r.0),
  all_last IsProperLink links l r.1 proper,
)

-- and so it is where the link is read of the next stored entry
pub next_link : (links new : List GivenLink) (es rest : List Entry) (k : String Global) (v : Value) (name : List ℕ) (l : GivenLink) (whole : Option (List GivenLink)) → es ≡ (k, v) ∷ rest → name ≡ string_bytes k
    → link_of name (view v) ≡ Some l → IsProperLink l → new ≡ links ++ l ∷ [] → AreRead links es whole → AreRead new rest whole
next_link links new es rest k v name l whole next name_is is proper pushed r =
    subst (λ ls. AreRead ls rest whole) (sym pushed)
    (one_more links (k, v) rest l whole (ap (λ n. link_of n (view v)) (sym name_is) ∙ is) proper (subst (λ more. AreRead links more whole) next r))

-- an object has as many keys as it has entries
pub stated_so : (d : Data) (es : List Entry) (keys : ℕ) → Some (members_view es) ≡ as_object d → keys ≡ length es → stated_with d keys ≡ stated_of d
stated_so d es keys h n = sym (ap (λ o. o >>= (λ members. stated_with d (members_len members))) (sym h) ∙ ap (stated_with d) (members_len-members_view es ∙ sym n))
