-- The places of classes by their names, ASCII case aside.
use Rattle.std.specs.Prelude.{◌≡◌, ℕ, if◌then◌else◌, List, [], ◌∷◌, Option, Some, None}
use Rattle.std.specs.Str.{bytes_eq}
use Rattle.pp_value.specs.Texts.{lowered}
use Rattle.pp_eval.specs.declared.scope.Scope.{Scope}
use Rattle.pp_eval.specs.Scoping.{class_place}

-- a class's name in lower case, and the place of its scope
abbrev pub Named : Type 0
Named = List ℕ × ℕ

-- the place of the first of these that has this name
abbrev pub place_among : List ℕ → List Named → Option ℕ
place_among name [] = None
place_among name (c ∷ classes) = if bytes_eq c.0 (lowered name) then Some c.1 else place_among name classes

-- Of each name the place of the first class's scope is kept.
abbrev pub AreKept : List Named → List Scope → Type 0
AreKept classes scopes = (name : List ℕ) → place_among name classes ≡ class_place 0 scopes name
