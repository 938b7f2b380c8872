use Rattle.std.proofs.Common.{◌++◌, cond, ap, sym, ◌∙◌}
use Rattle.std.specs.Prelude.{filter}
use Rattle.catalog_semantics.specs.States.{defaults_of, lacks}
use Rattle.pp_declaration_state.proofs.DefaultLaws.{kept}
use Rattle.pp_declaration_state.proofs.adding.filled.Goals as goal

pub returns : goal.returns
returns c =
    ap (λ attrs. record c.args.r { attrs = attrs })
    (c.in_ok-attrs.ensures ∙ ap (λ pairs. c.args.r.attrs ++ filter (lacks c.args.r.attrs) pairs) (c.in_ok-pairs.ensures ∙ (kept c.as_str.result.now c.args.defaults.now c.requires ∙ ap (λ kind. defaults_of kind c.args.defaults.now) c.as_str.ensures)))
    ∙ sym (ap (λ t. cond t c.args.r (record c.args.r { attrs = c.args.r.attrs ++ filter (lacks c.args.r.attrs) (defaults_of c.args.r.id.kind c.args.defaults.now) })) (sym c.is_class.ensures ∙ c.if-is_class.false))
