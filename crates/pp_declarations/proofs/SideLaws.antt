-- Sides, bodies of classes and included classes, one after the other.
use Rattle.std.proofs.Common.{◌≡◌, List, [], ◌∷◌, ◌++◌, Result, Ok, Err, refl, sym, ap, ◌∙◌, append_assoc}
use Rattle.rh_base.specs.declared.fault.Refusal.{Refusal}
use Rattle.pp_syntax.specs.declared.tree.Operand.{Operand}
use Rattle.pp_eval.specs.Evaluating.{◌>>=◌}
use Rattle.catalog_semantics.specs.declared.state.State.{State}
use Rattle.catalog_semantics.specs.declared.state.Side.{Side}
use Rattle.catalog_semantics.specs.Sites.{Site}
use Rattle.catalog_semantics.specs.Declaring.{Bodies}
use Rattle.catalog_semantics.specs.Effects.{side_of, sides_of}
use Rattle.pp_declarations.specs.Classes.{sides_behind}

-- behind no sides all are as they are found
pub no_sides : (r : Result (List Side × State) Refusal) → sides_behind [] r ≡ r
no_sides (Ok x) = refl
no_sides (Err e) = refl

module _ (site : Site) (bodies : Bodies) (x : Operand) (more : List Operand) (before : List Side) (s : State) where
  -- sides behind one more are behind those before it
  behind_one : (y : Side) (r : Result (List Side × State) Refusal) → sides_behind before (r >>= λ rest. Ok (y ∷ rest.0, rest.1)) ≡ sides_behind (before ++ y ∷ []) r
  behind_one y (Ok rest) = ap (λ (all : List Side). Ok (all, rest.1)) (sym (append_assoc before (y ∷ []) rest.0))
  behind_one y (Err e) = refl

  -- where one side is found, the others are left
  pub next_side : (y : Side) (t : State) → side_of site bodies x s ≡ Ok (y, t)
      → sides_behind before (sides_of site bodies (x ∷ more) s) ≡ sides_behind (before ++ y ∷ []) (sides_of site bodies more t)
  next_side y t h =
      ap (λ (r : Result (Side × State) Refusal). sides_behind before (r >>= λ first. sides_of site bodies more first.1 >>= λ rest. Ok (first.0 ∷ rest.0, rest.1))) h
      ∙ behind_one y (sides_of site bodies more t)

  -- where one is refused, all are
  pub side_refused : (e : Refusal) → side_of site bodies x s ≡ Err e → sides_behind before (sides_of site bodies (x ∷ more) s) ≡ Err e
  side_refused e h =
      ap (λ (r : Result (Side × State) Refusal). sides_behind before (r >>= λ first. sides_of site bodies more first.1 >>= λ rest. Ok (first.0 ∷ rest.0, rest.1))) h
