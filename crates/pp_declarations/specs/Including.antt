-- What a function does with a class behind including it.
use Rattle.std.specs.Prelude.{ℕ, List}
use Rattle.pp_syntax.specs.declared.tree.Func.{Func}
use Rattle.pp_syntax.specs.declared.tree.Func.TheVariants as func
use Rattle.catalog_semantics.specs.declared.state.State.{State}
use Rattle.catalog_semantics.specs.Functions.{contained, required}

-- `contain` and `require` do something; the others do nothing
abbrev pub after_include : Func → ℕ → List ℕ → State → State
after_include func.Include at name s = s
after_include func.Contain at name s = contained name s
after_include func.Require at name s = required at name s
after_include func.Realize at name s = s
after_include func.Fail at name s = s
after_include func.Notice at name s = s
after_include func.Warning at name s = s
