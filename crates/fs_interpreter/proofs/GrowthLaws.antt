-- A node more, in what is seen of the nodes.
use Rattle.std.proofs.Common.{◌≡◌, ℕ, zero, suc, List, [], ◌∷◌, ◌++◌, slice_get, slice_set, Result, Ok, Err, OnErr, Some, sym, ap, ◌∙◌}
use Rattle.fs_interpreter.specs.declared.table.Node.{Node}
use Rattle.fs_interpreter.specs.Growth.{seen, seen_all, with_child}

-- a node in the place of one that is seen as it
pub set_same : (nodes : List Node) (j : ℕ) (n m : Node) → slice_get nodes j ≡ Some n → seen m ≡ seen n → seen_all (slice_set nodes j m) ≡ seen_all nodes
set_same [] j n m h e = cc
set_same (k ∷ nodes) zero n m h e = let same : k ≡ n = cc in ap (λ s. s ∷ seen_all nodes) (e ∙ sym (ap seen same))
set_same (k ∷ nodes) (suc j) n m h e = ap (λ ss. seen k ∷ ss) (set_same nodes j n m h e)

-- a node with a child more in the place of one
pub set_more : (nodes : List Node) (j i : ℕ) (n m : Node) → slice_get nodes j ≡ Some n → seen m ≡ record { path = n.path; parent = n.parent; children = n.children.items ++ i ∷ [] }
    → seen_all (slice_set nodes j m) ≡ with_child j i (seen_all nodes)
set_more [] j i n m h e = cc
set_more (k ∷ nodes) zero i n m h e = let same : k ≡ n = cc in
    ap (λ s. s ∷ seen_all nodes) (e ∙ sym (ap (λ (x : Node). record { path = x.path; parent = x.parent; children = x.children.items ++ i ∷ [] }) same))
set_more (k ∷ nodes) (suc j) i n m h e = ap (λ ss. seen k ∷ ss) (set_more nodes j i n m h e)

-- what holds anyway holds after an Err
pub on_err : {X E : Type 0} (r : Result X E) {P : Type 0} → P → OnErr r P
on_err (Ok x) p = tt
on_err (Err e) p = p
