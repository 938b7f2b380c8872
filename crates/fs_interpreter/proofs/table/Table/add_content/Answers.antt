use Rattle.std.proofs.Common.{◌≡◌, ℕ, Option, None, Some, sym, ap, subst, refl, arith, ◌∙◌}
use Rattle.fs_interpreter.specs.Places.{Listed, IsTable, content_place}
use Rattle.fs_interpreter.specs.Kept.{paths_of}
use Rattle.fs_interpreter.proofs.KeptNodes.{same_kept, content_kept, numbers_more, last_number}
use Rattle.fs_interpreter.proofs.table.Table.add_content.Goals as goal

pub invariant_of-self-in_err-push : goal.invariant_of-self-in_err-push
invariant_of-self-in_err-push c =
    let t = c.self.inside in
    let none : content_place t.contents.items c.args.c ≡ None = ap (λ (x : Listed). content_place x.contents c.args.c) c.self.view_is ∙ sym c.number.ensures ∙ c.in_default.is in
    let more = numbers_more t.numbers c.insert.new.self c.in_ok-key.key c.args.c c.len-n.result c.in_ok-key.ensures c.in_ok-insert.ensures.updates.0 in
    same_kept t (record { nodes = t.nodes; top = t.top; places = t.places; contents = c.push.new.self; numbers = c.insert.new.self }) c.self.invariant refl refl c.in_err-push.ensures.items
    c.self.invariant.places
    (λ d i h. more.1 d (λ same. let clash : ◌≡◌ {A = Option ℕ} None (Some i) = sym none ∙ ap (content_place t.contents.items) (sym same) ∙ h in cc) ∙ c.self.invariant.numbers d i h)

pub invariant_of-self-2 : goal.invariant_of-self-2
invariant_of-self-2 c =
    let t = c.self.inside in
    let none : content_place t.contents.items c.args.c ≡ None = ap (λ (x : Listed). content_place x.contents c.args.c) c.self.view_is ∙ sym c.number.ensures ∙ c.in_default.is in
    let more = numbers_more t.numbers c.insert.new.self c.in_ok-key.key c.args.c c.len-n.result c.in_ok-key.ensures c.in_ok-insert.ensures.updates.0 in
    content_kept t (record { nodes = t.nodes; top = t.top; places = t.places; contents = c.push.new.self; numbers = c.insert.new.self }) c.args.c c.self.invariant none refl refl refl c.in_ok-push.ensures.items
    (more.0 ∙ ap Some (omega (arith, c.len-n.ensures)), more.1)

pub returns-clause-number : goal.returns-clause-number
returns-clause-number c =
    let t = c.self.inside in
    let paths = paths_of t.nodes.items in
    let is = subst (λ cs. IsTable (record { paths = paths; contents = cs })) c.in_ok-push.ensures.items (invariant_of-self-2 c).table in
    ap (λ cs. content_place cs c.args.c) c.in_ok-push.ensures.items ∙ last_number paths t.contents.items c.args.c is ∙ ap Some (sym (omega (arith, c.len-n.ensures)))
