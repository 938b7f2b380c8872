use Rattle.std.proofs.Common.{List, ℕ, [], ◌∷◌, ◌++◌, sym, ap, ◌∙◌}
use Rattle.std.specs.Prelude.{codes, decimal}
use Rattle.std.specs.List.{flat_map}
use Rattle.cnf.specs.declared.lit.Lit.{Lit}
use Rattle.cnf.specs.declared.log.Link.{Link}
use Rattle.cnf.proofs.TextLaws.{lit_piece, link_piece, step_line, six_pieces}
use Rattle.cnf.proofs.text.push_step.Goals as goal

pub returns : goal.returns
returns c =
    let s = c.args.step.now in
    let lits = c.in_ok-push_lits.ensures ∙ ap (λ (x : List Lit). c.args.out.now.items ++ flat_map lit_piece x) c.lits.ensures.lits in
    let zero = c.in_ok-extend_from_slice.ensures.items ∙ ap (λ (x : List ℕ). x ++ codes "0 ") lits in
    let start = c.in_ok-push_number.ensures ∙ ap (λ (x : List ℕ). x ++ decimal s.start) zero in
    let space = c.in_ok-push.ensures.items ∙ ap (λ (x : List ℕ). x ++ 32 ∷ []) start in
    let links = c.in_ok-push_links.ensures ∙ ap (λ (x : List Link). c.push.new.self.items ++ flat_map link_piece x) c.as_slice.ensures ∙ ap (λ (x : List ℕ). x ++ flat_map link_piece s.chain) space in
    c.in_ok-extend_from_slice-2.ensures.items
    ∙ ap (λ (x : List ℕ). x ++ codes "0\n") links
    ∙ six_pieces c.args.out.now.items (flat_map lit_piece s.clause) (codes "0 ") (decimal s.start) (flat_map link_piece s.chain) (codes "0\n")
    ∙ ap (λ (x : List ℕ). c.args.out.now.items ++ x) (sym (step_line s))
