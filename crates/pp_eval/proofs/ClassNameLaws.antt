-- Look-ups of classes.
use Rattle.std.proofs.Common.{◌≡◌, ℕ, Bool, true, false, cond, List, [], ◌∷◌, ◌++◌, map, Some, None, refl, ap, ◌∙◌, Vec, Global, bytes_eq}
use Rattle.std.specs.Map.{lookup}
use Rattle.std.specs.Cmp.Lexicographic.{pointwise}
use Rattle.std.specs.Prelude.{nat_eq}
use Rattle.indexmap.specs.IndexMap.{insert_entry}
use Rattle.pp_value.specs.Texts.{lowered}
use Rattle.pp_eval.specs.ClassNames.{place_among}
use Rattle.pp_value.proofs.PlaceLaws.{bytes_turned}

-- a class's name and its scope's place, as the code keeps them
abbrev Entry : Type 0
Entry = Vec ℕ Global × ℕ

-- the same as the definitions speak of it
abbrev pub named : Entry → List ℕ × ℕ
named e = (e.0.items, e.1)

-- what the map of classes finds is the place of the name, ASCII case aside
pub found : (name : List ℕ) (entries : List Entry) → lookup (λ k. bytes_eq (lowered name) k.items) entries ≡ place_among name (map (λ e. (e.0.items, e.1)) entries)
found name [] = refl
found name (e ∷ entries) = λ i. cond (bytes_turned (lowered name) e.0.items i) (Some e.1) (found name entries i)

-- two names are byte by byte the same
abbrev pub same_key : Vec ℕ Global → Vec ℕ Global → Bool
same_key x y = pointwise nat_eq x.items y.items

-- a new name goes last in the map of classes, where it does so among the others
added_head : (name : List ℕ) (key : Vec ℕ Global) (place : ℕ) (x : Entry) (entries : List Entry)
    → (place_among name (map named entries) ≡ None → map named (insert_entry same_key entries key place) ≡ map named entries ++ (lowered name, place) ∷ [])
    → (t : Bool) → cond t (Some x.1) (place_among name (map named entries)) ≡ None
    → map named (cond t ((x.0, place) ∷ entries) (x ∷ insert_entry same_key entries key place)) ≡ named x ∷ (map named entries ++ (lowered name, place) ∷ [])
added_head name key place x entries rest true h = cc
added_head name key place x entries rest false h = ap (λ more. named x ∷ more) (rest h)

-- a new name goes last in the map of classes, in lower case
pub added : (entries : List Entry) (name : List ℕ) (key : Vec ℕ Global) (place : ℕ) → key.items ≡ lowered name → place_among name (map named entries) ≡ None
    → map named (insert_entry same_key entries key place) ≡ map named entries ++ (lowered name, place) ∷ []
added [] name key place e h = ap (λ (k : List ℕ). (k, place) ∷ []) e
added (x ∷ entries) name key place e h =
    let same : same_key key x.0 ≡ bytes_eq x.0.items (lowered name) = ap (λ (k : List ℕ). bytes_eq k x.0.items) e ∙ bytes_turned (lowered name) x.0.items in
    ap (λ t. map named (cond t ((x.0, place) ∷ entries) (x ∷ insert_entry same_key entries key place))) same
    ∙ added_head name key place x entries (added entries name key place e) (bytes_eq x.0.items (lowered name)) h
