-- That a value fits a type as the definition says.
use Rattle.std.proofs.Common.{◌≡◌, Bool, Option, Some, ◌∙◌, sym}
use Rattle.std.specs.List.{list_all}
use Rattle.pp_syntax.specs.declared.tree.TypeName.{TypeName}
use Rattle.pp_syntax.specs.declared.tree.TypeName.TheVariants as t
use Rattle.pp_value.specs.declared.value.Value.{Value}
use Rattle.pp_value.specs.Values.{on_list}
use Rattle.pp_value.specs.Types.{is_fit}
use Rattle.pp_value.specs.Levels.{is_fit_array}
use Rattle.pp_value.proofs.types.+fits.Goals as goal

-- what is told of the members of a list is what the array's type asks for
array_made : (r : Bool) (read other : TypeName) (member : Option TypeName) (kind : TypeName) (x : Value) → r ≡ on_list (list_all (is_fit read)) x → read ≡ other → member ≡ Some other → kind ≡ t.Array member → r ≡ is_fit kind x
array_made r read other member kind x h is_read is_member is_kind =
    h ∙ ((λ i. on_list (list_all (is_fit (is_read i))) x) ∙ (sym (is_fit_array other x) ∙ ((λ i. is_fit (t.Array (sym is_member i)) x) ∙ (λ i. is_fit (sym is_kind i) x))))

pub is_fit-returns-in-Some : goal.is_fit-returns-in-Some
is_fit-returns-in-Some t c =
    array_made _ c.get.result.now c.in-Some.member c.in-Array.member c.args.kind.now c.args.v.now c.is_list_of.ensures c.get.ensures c.in-Some.is c.in-Array.is
