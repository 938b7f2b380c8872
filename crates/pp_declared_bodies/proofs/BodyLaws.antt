-- One more body that is declared.
use Rattle.std.proofs.Common.{◌≡◌, ℕ, ◌+◌, ◌<◌, List, [], ◌∷◌, ◌++◌, refl, sym, ap, ◌∙◌, append_assoc}
use Rattle.std.specs.Prelude.{Result, Ok, Err}
use Rattle.rh_base.specs.declared.fault.Refusal.{Refusal}
use Rattle.pp_syntax.specs.declared.tree.Body.{Body}
use Rattle.pp_value.specs.declared.value.Ref.{Ref}
use Rattle.pp_value.specs.Values.{Pair}
use Rattle.pp_eval.specs.Evaluating.{◌>>=◌}
use Rattle.catalog_semantics.specs.declared.state.State.{State}
use Rattle.catalog_semantics.specs.States.{Effect}
use Rattle.catalog_semantics.specs.Declaring.{body_declared, bodies_declared}
use Rattle.pp_declared_bodies.specs.Bodies.{declared_behind}

-- references and a state, or a refusal
abbrev Declared : Type 0
Declared = Result (List Ref × State) Refusal

-- behind no references all are as they are declared
pub nothing_declared : (r : Result (List Ref × State) Refusal) → declared_behind [] r ≡ r
nothing_declared (Ok x) = refl
nothing_declared (Err e) = refl

-- equal results have equal parts
same_parts : (x y : List Ref × State) → ◌≡◌ {A = Result (List Ref × State) Refusal} (Ok x) (Ok y) → x ≡ y
same_parts x y h = cc

module _ (declare : ℕ → List Pair → List ℕ → Effect) (refer : List ℕ → Ref) (b : Body) (bodies : List Body) (before : List Ref) where
  -- references behind the first body's are behind those before it
  behind_more : (first : List Ref × State) (r : Declared) → declared_behind before (r >>= λ more. Ok (first.0 ++ more.0, more.1)) ≡ declared_behind (before ++ first.0) r
  behind_more first (Ok more) = ap (λ (refs : List Ref). Ok (refs, more.1)) (sym (append_assoc before first.0 more.0))
  behind_more first (Err e) = refl

  -- where the first body is declared, the others are left
  by_first : (new : List Ref) (t : State) (r : Declared) → declared_behind before r ≡ Ok (new, t)
      → declared_behind before (r >>= λ first. bodies_declared declare refer bodies first.1 >>= λ more. Ok (first.0 ++ more.0, more.1)) ≡ declared_behind new (bodies_declared declare refer bodies t)
  by_first new t (Err e) h = cc
  by_first new t (Ok first) h =
      let same = same_parts (before ++ first.0, first.1) (new, t) h in
      behind_more first (bodies_declared declare refer bodies first.1) ∙ ap (λ (x : List Ref × State). declared_behind x.0 (bodies_declared declare refer bodies x.1)) same

  -- so it is of one body more
  pub next_body : (s : State) (new : List Ref) (t : State) → declared_behind before (body_declared declare refer b s) ≡ Ok (new, t)
      → declared_behind before (bodies_declared declare refer (b ∷ bodies) s) ≡ declared_behind new (bodies_declared declare refer bodies t)
  next_body s new t h = by_first new t (body_declared declare refer b s) h

  -- a refusal of the first body is one of all
  refused_first : (e : Refusal) (r : Declared) → declared_behind before r ≡ Err e
      → declared_behind before (r >>= λ first. bodies_declared declare refer bodies first.1 >>= λ more. Ok (first.0 ++ more.0, more.1)) ≡ Err e
  refused_first e (Ok first) h = cc
  refused_first e (Err d) h = h

  -- so it is of one body more
  pub body_refused : (s : State) (e : Refusal) → declared_behind before (body_declared declare refer b s) ≡ Err e → declared_behind before (bodies_declared declare refer (b ∷ bodies) s) ≡ Err e
  body_refused s e h = refused_first e (body_declared declare refer b s) h
