use Rattle.std.proofs.Common.{◌≡◌, ℕ, suc, ◌+◌, ◌-◌, ◌<◌, [], ◌∷◌, ◌++◌, ap, sym, ◌∙◌, append_assoc, arith}
use Rattle.fs_semantics.specs.Orders.{up_from}
use Rattle.commute_prune.proofs.settling.up_to.Goals as goal

-- the numbers from one on up to a count are that one and those behind it
next : (k n : ℕ) → k < n → up_from k (n - k) ≡ k ∷ up_from (k + 1) (n - (k + 1))
next k n h = ap (up_from k) (let e : n - k ≡ suc (n - (k + 1)) = omega arith in e) ∙ ap (λ j. k ∷ up_from j (n - (k + 1))) (let e : suc k ≡ k + 1 = omega arith in e)

pub loop-k-preserved : goal.loop-k-preserved
loop-k-preserved c =
    let k = c.loop-k.k in
    let n = c.args.n in
    ap (λ ks. ks ++ up_from (k + 1) (n - (k + 1))) c.in_ok-push.ensures.ok ∙ append_assoc c.loop-k.ks (k ∷ []) (up_from (k + 1) (n - (k + 1)))
    ∙ ap (λ ks. c.loop-k.ks ++ ks) (sym (next k n c.loop-k-test.true)) ∙ c.loop-k.invariant
