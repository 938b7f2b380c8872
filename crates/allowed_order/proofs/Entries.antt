-- The entries of a map by hash are the names.
use Rattle.std.proofs.Common.{◌≡◌, ℕ, Bool, true, false, cond, List, [], ◌∷◌, ◌++◌, Some, None, refl, ap}
use Rattle.std.specs.Map.{lookup}
use Rattle.std.specs.Str.{bytes_eq}
use Rattle.indexmap.specs.IndexMap.{insert_entry}
use Rattle.allowed_order.specs.Names.{position_of}

-- what the map of names finds is the position of the text
pub found : (text : List ℕ) (entries : List (List ℕ × ℕ)) → lookup (bytes_eq text) entries ≡ position_of text entries
found text [] = refl
found text (e ∷ entries) = ap (cond (bytes_eq text e.0) (Some e.1)) (found text entries)

-- a new name goes last in the map, where it does so among the others
added_head : (text : List ℕ) (i : ℕ) (e : List ℕ × ℕ) (entries : List (List ℕ × ℕ)) → (position_of text entries ≡ None → insert_entry bytes_eq entries text i ≡ entries ++ (text, i) ∷ [])
    → (t : Bool) → cond t (Some e.1) (position_of text entries) ≡ None
    → cond t ((e.0, i) ∷ entries) (e ∷ insert_entry bytes_eq entries text i) ≡ e ∷ (entries ++ (text, i) ∷ [])
added_head text i e entries rest true h = cc
added_head text i e entries rest false h = ap (λ more. e ∷ more) (rest h)

-- a new name goes last in the map
pub added : (entries : List (List ℕ × ℕ)) (text : List ℕ) (i : ℕ) → position_of text entries ≡ None → insert_entry bytes_eq entries text i ≡ entries ++ (text, i) ∷ []
added [] text i h = refl
added (e ∷ entries) text i h = added_head text i e entries (added entries text i) (bytes_eq text e.0) h
