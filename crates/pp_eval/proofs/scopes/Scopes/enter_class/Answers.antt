use Rattle.std.proofs.Common.{◌≡◌, false, ap, ◌∙◌, is_none}
use Rattle.pp_eval.specs.declared.scope.Sort.TheVariants as sort
use Rattle.pp_eval.specs.ClassNames.{place_among}
use Rattle.pp_eval.proofs.ClassPlaces.{class_inside, again_inside, stands_by, parent_below}
use Rattle.pp_eval.proofs.scopes.Scopes.enter_class.Goals as goal

-- a class of a name that stands already
pub invariant_of-self : goal.invariant_of-self
invariant_of-self c =
    let stands : is_none (place_among c.args.name.now c.self.inside.classes) ≡ false =
    stands_by (place_among c.args.name.now c.self.inside.classes) c.find.result c.is_some.result (c.find.ensures ∙ ap (λ n. place_among n c.self.inside.classes) c.as_bytes.ensures.value) c.is_some.ensures c.if-is_some.true in
    again_inside c.self.inside.scopes.items c.enter.new.scopes.items _ c.args.name.now c.self.inside.open.items c.enter.new.opened.items c.self.inside.classes c.enter.result
    (ap sort.Class c.in_ok-class.ensures) stands (parent_below c.self.inside.scopes.items _ c.self.inside.classes _ c.self.invariant.1 c.place_of_parent-parent.ensures) c.self.invariant
    c.enter.ensures.scopes_ok c.enter.ensures.open_ok c.enter.ensures.scopes_err c.enter.ensures.open_err

pub invariant_of-self-2 : goal.invariant_of-self-2
invariant_of-self-2 c =
    class_inside c.self.inside.scopes.items c.enter_named.new.scopes.items _ c.args.name.now c.self.inside.open.items c.enter_named.new.opened.items c.self.inside.classes c.enter_named.new.classes c.enter_named.result
    (ap sort.Class c.in_ok-class.ensures) (parent_below c.self.inside.scopes.items _ c.self.inside.classes _ c.self.invariant.1 c.place_of_parent-parent.ensures) c.self.invariant
    c.enter_named.ensures.scopes_ok c.enter_named.ensures.open_ok c.enter_named.ensures.classes_ok c.enter_named.ensures.scopes_err c.enter_named.ensures.open_err c.enter_named.ensures.classes_err
