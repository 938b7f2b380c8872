-- Names without a trailing `.service`.
use Rattle.std.proofs.Common.{◌≡◌, ◌≢◌, ℕ, ◌+◌, ◌-◌, Bool, true, false, cond, List, ◌++◌, length, take, drop, bytes_eq, codes, refl, sym, ap, ◌∙◌}
use Rattle.std.proofs.lemmas.Slice.Eq.{bytes_eq-Decides}
use Rattle.std.proofs.lemmas.List.{take-append-drop}
use Rattle.model_semantics.specs.Names.{unit_name}

-- the ending of the names of services
abbrev suffix : List ℕ
suffix = codes ".service"

-- a name without the ending is its unit's name
pub unstripped : (name : List ℕ) → ((front : List ℕ) → name ≢ front ++ suffix) → name ≡ unit_name name
unstripped name none = at (bytes_eq (drop (length name - 8) name) suffix) refl
  where
    at : (t : Bool) → bytes_eq (drop (length name - 8) name) suffix ≡ t → name ≡ cond t (take (length name - 8) name) name
    at true e = absurd (none (take (length name - 8) name) (sym (take-append-drop (length name - 8) name) ∙ ap (λ l. take (length name - 8) name ++ l) ((bytes_eq-Decides (drop (length name - 8) name) suffix).0 e)))
    at false e = refl
